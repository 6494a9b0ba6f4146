-- The theorem is proved in proofs/Numbered.antt.
use Rattle.settlement.proofs.Numbered.{groups_settle}
use Rattle.settlement.proofs.groups_settle.Goals as goal

pub returns : goal.returns
returns c = groups_settle
