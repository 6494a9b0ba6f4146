-- The theorem is proved in proofs/Greatest.antt.
use Rattle.groups.proofs.Greatest.{greatest_count}
use Rattle.groups.proofs.greatest_count.Goals as goal

pub returns : goal.returns
returns c = greatest_count
