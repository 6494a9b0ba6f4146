-- Numbers of people as they are written over, one at a time.
use Rattle.std.proofs.Common.{◌≡◌, ℕ, ◌+◌, ◌^◌, ◌<◌, ◌≤◌, eqb, List, length, set, ℤ, pos, ◌+ℤ◌, ◌-ℤ◌, nat_abs, arith, w64, to_z, of_z}
use Rattle.std.proofs.lemmas.Int.{ints}
use Rattle.std.proofs.lemmas.Bool.Decides.{nat_tests}
use Rattle.std.proofs.lemmas.Grind.{common_steps}
use Rattle.shares.specs.Bill.{pick}
use Rattle.balances.specs.Signed.{at_person}

-- sums and differences as the machine has them
abbrev pub plus64 : ℤ → ℤ → ℤ
plus64 x y = to_z w64 (of_z w64 (to_z w64 (of_z w64 x) +ℤ to_z w64 (of_z w64 y)))

abbrev pub minus64 : ℤ → ℤ → ℤ
minus64 x y = to_z w64 (of_z w64 (to_z w64 (of_z w64 x) -ℤ to_z w64 (of_z w64 y)))

-- where they do not wrap
pub sum_fits : (x y : ℤ) (a : ℕ) → nat_abs x ≤ 2 ^ 50 → y ≡ pos a → a < 2 ^ 32 → plus64 x y ≡ x +ℤ pos a
sum_fits x y a small is few = omega (arith, ints)

pub difference_fits : (x y : ℤ) (a : ℕ) → nat_abs x ≤ 2 ^ 50 → y ≡ pos a → a < 2 ^ 32 → minus64 x y ≡ x -ℤ pos a
difference_fits x y a small is few = omega (arith, ints)

-- the numbers after person p's is written over
pub at_written : (xs : List ℤ) (p i : ℕ) (v : ℤ) → p < length xs → at_person (set xs p v) i ≡ pick (eqb p i) v (at_person xs i)
at_written xs p i v there = grind (arith, common_steps)

-- person p's number with z more
pub at_moved : (xs : List ℤ) (p i : ℕ) (z v : ℤ) → p < length xs → v ≡ at_person xs p +ℤ z → at_person (set xs p v) i ≡ at_person xs i +ℤ pick (eqb p i) z (pos 0)
at_moved xs p i z v there is = let at = at_written xs p i v there in grind (arith, ints, nat_tests)

pub moved_bounded :
    (xs : List ℤ) (p i m : ℕ) (z v : ℤ) → p < length xs → v ≡ at_person xs p +ℤ z → nat_abs (at_person xs i) ≤ m →
    nat_abs (at_person (set xs p v) i) ≤ m + nat_abs z
moved_bounded xs p i m z v there is small = let at = at_moved xs p i z v there is in grind (arith, ints, nat_tests)
