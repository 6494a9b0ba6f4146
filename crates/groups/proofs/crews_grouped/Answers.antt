-- The theorem is proved in proofs/CrewsGrouped.antt.
use Rattle.groups.proofs.CrewsGrouped.{crews_grouped}
use Rattle.groups.proofs.crews_grouped.Goals as goal

pub returns : goal.returns
returns c = crews_grouped
