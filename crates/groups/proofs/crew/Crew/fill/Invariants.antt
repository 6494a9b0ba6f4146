-- Both tables are filled up to the set, and from there on as they were.
use Rattle.std.proofs.Common.{length}
use Rattle.groups.proofs.crew.Crew.fill.Given as goal
use Rattle.groups.specs.Counts.{count}
use Rattle.groups.specs.Filled.{Filled}
use Rattle.balances.specs.Signed.{at_person}
use Rattle.groups.specs.Signs.{sum_of}

abbrev pub invariant-loop-set : goal.invariant-loop-set
invariant-loop-set l =
    Filled (sum_of (at_person l.self.balances.now) (length l.self.balances.now)) l.set l.initial.sums l.sums
    × Filled (count (at_person l.self.balances.now) (length l.self.balances.now)) l.set l.initial.counts l.counts
