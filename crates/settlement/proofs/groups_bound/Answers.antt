-- The theorem is proved in proofs/Fewest.antt.
use Rattle.settlement.proofs.Fewest.{groups_bound}
use Rattle.settlement.proofs.groups_bound.Goals as goal

pub returns : goal.returns
returns c = groups_bound
