-- The set has those who are open so far.
use Rattle.std.proofs.Common.{◌≡◌, not}
use Rattle.groups.proofs.crew.Crew.open_people.Given as goal
use Rattle.groups.specs.Sets.{set_of}
use Rattle.balances.specs.Signed.{at_person}
use Rattle.groups.specs.Signs.{is_zero}

abbrev pub invariant-loop-person : goal.invariant-loop-person
invariant-loop-person l = l.set ≡ set_of (λ i. not (is_zero (at_person l.self.balances.now i))) l.person
