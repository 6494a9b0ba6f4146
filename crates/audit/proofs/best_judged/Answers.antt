-- The theorem is proved in proofs/Verdicts.antt.
use Rattle.audit.proofs.Verdicts.{best_judged}
use Rattle.audit.proofs.best_judged.Goals as goal

pub returns : goal.returns
returns c = best_judged
