-- The theorem is proved in proofs/GreatestGroups.antt.
use Rattle.groups.proofs.GreatestGroups.{greatest_groups}
use Rattle.groups.proofs.greatest_groups.Goals as goal

pub returns : goal.returns
returns c = greatest_groups
