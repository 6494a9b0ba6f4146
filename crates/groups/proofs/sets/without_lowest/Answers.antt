-- The mask leaves the digits above the lowest.
use Rattle.groups.proofs.SetLaws.{mask_lowest}
use Rattle.groups.proofs.sets.without_lowest.Goals as goal

pub returns : goal.returns
returns c n small = mask_lowest n c.args.set c.requires small
