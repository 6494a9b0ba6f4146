-- What is added up and the sum over the people left are the sum over the set.
use Rattle.std.proofs.Common.{◌≡◌, ◌^◌, ◌<◌, length, ◌+ℤ◌}
use Rattle.groups.proofs.crew.Crew.sum_of.Given as goal
use Rattle.groups.specs.Tables.{set_sum}

abbrev pub invariant-loop-person : goal.invariant-loop-person
invariant-loop-person l =
    (l.person-iterator.0 < 2 ^ length l.self.balances.now)
    × (l.sum +ℤ set_sum l.self.balances.now l.person-iterator.0 ≡ set_sum l.self.balances.now l.set)
