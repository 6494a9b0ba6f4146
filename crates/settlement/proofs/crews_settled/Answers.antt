-- The theorem is proved in proofs/Examples.antt.
use Rattle.settlement.proofs.Examples.{crews_settled}
use Rattle.settlement.proofs.crews_settled.Goals as goal

pub returns : goal.returns
returns c = crews_settled
