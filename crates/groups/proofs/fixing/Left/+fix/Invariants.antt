-- The number of people left falls.
use Rattle.std.proofs.Common.{length}
use Rattle.groups.proofs.fixing.Left.+fix.Given as goal
use Rattle.groups.specs.Sets.{size}

abbrev pub decreases-fix : goal.decreases-fix
decreases-fix l = size (length l.self.now.crew.balances.now) l.self.now.people
