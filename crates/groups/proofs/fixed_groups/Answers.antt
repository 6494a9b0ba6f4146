-- The theorem is proved in proofs/FixedGroups.antt.
use Rattle.groups.proofs.FixedGroups.{fixed_groups_right}
use Rattle.groups.proofs.fixed_groups.Goals as goal

pub returns : goal.returns
returns c = fixed_groups_right
