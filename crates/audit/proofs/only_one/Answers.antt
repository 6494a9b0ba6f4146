-- The theorem is proved in proofs/Verdicts.antt.
use Rattle.audit.proofs.Verdicts.{only_one}
use Rattle.audit.proofs.only_one.Goals as goal

pub returns : goal.returns
returns c = only_one
