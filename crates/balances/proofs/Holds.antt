-- What holds of every value `Balances`, person by person.
use Rattle.std.proofs.Common.{◌≡◌, ℕ, zero, suc, ◌-◌, ◌≤◌, true, not, List, [], ◌∷◌, ℤ, pos, nat_abs, sym, ap, ◌∙◌, arith}
use Rattle.std.proofs.lemmas.Bool.{and_parts}
use Rattle.std.proofs.lemmas.Bool.Decides.{nat_tests}
use Rattle.std.proofs.lemmas.Grind.{common_steps}
use Rattle.balances.specs.Even.{Even}
use Rattle.balances.specs.Range.{most, far, all_near}
use Rattle.balances.specs.Signed.{at_person, span_z}
use Rattle.balances.specs.View.{people_of, cents_of, sides_of}
use Rattle.balances.specs.declared.sheet.Balances.{Balances}
use Rattle.balances.proofs.Signs.{signed_even}
use Rattle.balances.proofs.SpansZ.{span_z_pad}

pub near_each : (xs : List ℤ) (i : ℕ) → all_near xs ≡ true → nat_abs (at_person xs i) ≤ most
unfolding all_near
near_each [] i h = omega arith
near_each (x ∷ xs) zero h = grind (arith, nat_tests)
near_each (x ∷ xs) (suc i) h = near_each xs i (and_parts (not (far x)) (all_near xs) h).1

module _ (b : Balances) where
  -- each person's number is in range
  pub near_at : (i : ℕ) → nat_abs (cents_of b i) ≤ most
  near_at i = near_each b.cents i b.near

  -- somebody who is not there has 0
  pub absent_at : (i : ℕ) → people_of b ≤ i → cents_of b i ≡ pos 0
  absent_at i l =
      let zeros = ap (λ xs. at_person xs (i - b.people)) b.absent in
      grind (arith, common_steps)

  -- the numbers of the people who are there sum to 0
  pub even_there : span_z (cents_of b) (people_of b) ≡ pos 0
  even_there = sym (span_z_pad (cents_of b) (people_of b) 16 b.crew absent_at) ∙ b.even

  -- and so balances come out even
  pub sides_even : Even (sides_of b)
  sides_even = signed_even (cents_of b) (people_of b) even_there
