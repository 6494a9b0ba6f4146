-- The theorem is proved in proofs/Settled.antt.
use Rattle.settlement.proofs.Settled.{sets_settle}
use Rattle.settlement.proofs.sets_settle.Goals as goal

pub returns : goal.returns
returns c = sets_settle
