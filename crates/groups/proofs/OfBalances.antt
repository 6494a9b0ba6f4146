-- The numbers of balances, lent as a slice, are what the functions over slices want, and what these say of the slice holds of the balances.
use Rattle.std.proofs.Common.{◌≡◌, ℕ, ◌≤◌, List, length, ℤ, pos, sym, ap, ◌∙◌, subst, ap₂, arith}
use Rattle.balances.proofs.Holds.{even_there}
use Rattle.balances.proofs.Numbers.{numbers_near, numbers_same}
use Rattle.balances.specs.Signed.{at_person, span_z}
use Rattle.balances.specs.View.{cents_of, numbers_of, people_of}
use Rattle.balances.specs.declared.sheet.Balances.{Balances}
use Rattle.groups.proofs.OpenLaws.{everyone_sum}
use Rattle.groups.specs.Sets.{everyone}
use Rattle.groups.specs.Signs.{Moderate}
use Rattle.groups.specs.Tables.{set_sum}

module _ (b : Balances) (xs : List ℤ) (is : xs ≡ numbers_of b) (each : length xs ≡ people_of b) where
  pub crew_few : length xs ≤ 16
  crew_few = omega (arith, b.crew)

  pub crew_moderate : Moderate xs
  crew_moderate = subst Moderate (sym is) (numbers_near b)

  crew_same : at_person xs ≡ cents_of b
  crew_same = ap at_person is ∙ numbers_same b

  pub crew_even : set_sum xs (everyone (length xs)) ≡ pos 0
  crew_even = everyone_sum (at_person xs) (length xs) ∙ ap₂ span_z crew_same each ∙ even_there b

  -- what holds of the numbers holds of the balances
  pub of_crew : (P : (ℕ → ℤ) → ℕ → Type 0) → P (at_person xs) (length xs) → P (cents_of b) (people_of b)
  of_crew P h = subst (P (cents_of b)) each (subst (λ f. P f (length xs)) crew_same h)
