-- The theorem is proved in proofs/GreatestGroups.antt.
use Rattle.groups.proofs.GreatestGroups.{greatest_signed}
use Rattle.groups.proofs.greatest_signed.Goals as goal

pub returns : goal.returns
returns c = greatest_signed
