-- The theorem is proved in proofs/Carried.antt.
use Rattle.settlement.proofs.Carried.{carried_out}
use Rattle.settlement.proofs.carried_out.Goals as goal

pub returns : goal.returns
returns c = carried_out
