-- The theorem is proved in proofs/Verdicts.antt.
use Rattle.audit.proofs.Verdicts.{says_fewest_right}
use Rattle.audit.proofs.says_fewest.Goals as goal

pub returns : goal.returns
returns c = says_fewest_right
