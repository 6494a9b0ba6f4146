-- The rests are subsets of the others, and those that are not tried are to be tried.
use Rattle.std.proofs.Common.{◌≡◌, length}
use Rattle.groups.proofs.Passed.{ToTry}
use Rattle.groups.proofs.fixing.Left.choose.Given as goal
use Rattle.balances.specs.Signed.{at_person}
use Rattle.groups.specs.Sets.{smallest, without}

abbrev pub invariant-loop-rest : goal.invariant-loop-rest
invariant-loop-rest l =
    (l.rest-iterator.set ≡ without l.self.people (smallest (length l.self.crew.balances.now) l.self.people))
    × ToTry (at_person l.self.crew.balances.now) (length l.self.crew.balances.now) l.self.counts.now l.self.people l.rest-iterator.below
