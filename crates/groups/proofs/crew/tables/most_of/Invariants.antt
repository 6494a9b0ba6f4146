-- The people left are in the set, and the best so far and that over the people left are the greatest over the set.
use Rattle.std.proofs.Common.{◌≡◌, ℕ, ◌^◌, ◌<◌, max, true}
use Rattle.groups.proofs.CountLaws.{most_left}
use Rattle.groups.proofs.crew.tables.most_of.Given as goal
use Rattle.groups.specs.Counts.{most}
use Rattle.groups.specs.Sets.{is_in}

abbrev pub invariant-loop-person : goal.invariant-loop-person
invariant-loop-person l =
    ((i : ℕ) → is_in l.person-iterator.0 i ≡ true → is_in l.set i ≡ true)
    × ((n : ℕ) → l.set < 2 ^ n → max l.best (most_left l.counts l.set l.person-iterator.0 n) ≡ most l.counts l.set n)
