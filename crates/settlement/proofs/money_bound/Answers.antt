-- The theorem is proved in proofs/Moved.antt.
use Rattle.settlement.proofs.Moved.{money_bound}
use Rattle.settlement.proofs.money_bound.Goals as goal

pub returns : goal.returns
returns c = money_bound
