-- The theorem is proved in proofs/PartedSets.antt.
use Rattle.groups.proofs.PartedSets.{fixed_part}
use Rattle.groups.proofs.fixed_part.Goals as goal

pub returns : goal.returns
returns c = fixed_part
