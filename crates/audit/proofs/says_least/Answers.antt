-- The theorem is proved in proofs/Verdicts.antt.
use Rattle.audit.proofs.Verdicts.{says_least_right}
use Rattle.audit.proofs.says_least.Goals as goal

pub returns : goal.returns
returns c = says_least_right
