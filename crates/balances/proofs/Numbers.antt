-- The numbers of the people who are there are those of all, in range, and sum to 0.
use Rattle.std.proofs.Common.{◌≡◌, ℕ, ◌≤◌, length, pos, nat_abs, ap, ◌∙◌, arith, length-take}
use Rattle.std.proofs.lemmas.Grind.{common_steps}
use Rattle.balances.specs.Range.{most}
use Rattle.balances.specs.Signed.{at_person, span_z}
use Rattle.balances.specs.View.{people_of, cents_of, numbers_of}
use Rattle.balances.specs.declared.sheet.Balances.{Balances}
use Rattle.balances.proofs.Holds.{absent_at, even_there, near_at}

module _ (b : Balances) where
  -- each person's number, 0 past the people
  pub numbers_at : (i : ℕ) → at_person (numbers_of b) i ≡ cents_of b i
  numbers_at i = let past = absent_at b i in grind (arith, common_steps)

  -- the same as one equation
  pub numbers_same : at_person (numbers_of b) ≡ cents_of b
  numbers_same = λ t i. numbers_at i t

  pub numbers_near : (i : ℕ) → nat_abs (at_person (numbers_of b) i) ≤ most
  numbers_near i = rw (numbers_at i) (near_at b i)

  pub numbers_few : length (numbers_of b) ≤ 16
  numbers_few = omega (arith, b.crew, length-take (people_of b) b.cents)

  pub numbers_even : span_z (at_person (numbers_of b)) (people_of b) ≡ pos 0
  numbers_even = ap (λ f. span_z f (people_of b)) numbers_same ∙ even_there b
