-- Numbers with zeros after them, for people who are not there.
use Rattle.std.proofs.Common.{◌≡◌, ℕ, ◌≤◌, List, ◌++◌, ◌-◌, drop, length, replicate, nat_lt, cond, position, ℤ, pos, Ok, Err, Result, refl, sym, ap, ◌∙◌, arith}
use Rattle.std.proofs.lemmas.List.{drop_at, get_or_past}
use Rattle.std.proofs.lemmas.Bool.Decides.{nat_tests}
use Rattle.std.proofs.lemmas.Grind.{common_steps}
use Rattle.balances.specs.Faults.{padded}
use Rattle.balances.specs.Range.{far}
use Rattle.balances.specs.Signed.{at_person, span_z}
use Rattle.balances.specs.declared.unbalanced.Unbalanced.{Unbalanced}
use Rattle.balances.specs.declared.unbalanced.Unbalanced.TheVariants.{TooMany}
use Rattle.balances.proofs.FirstFar.{first_far_padded, first_far_position, near_all}
use Rattle.balances.proofs.SpansZ.{span_z_pad, span_z_same}

pub zero_at : (m i : ℕ) → at_person (replicate m (pos 0)) i ≡ pos 0
zero_at m i = grind (arith, common_steps)

-- zeros after the numbers change nobody's
pub at_zeros : (xs : List ℤ) (m i : ℕ) → at_person (xs ++ replicate m (pos 0)) i ≡ at_person xs i
at_zeros xs m i = grind (arith, common_steps)

-- nor the sum
pub span_padded : (xs : List ℤ) → length xs ≤ 16 → span_z (at_person (padded xs)) 16 ≡ span_z (at_person xs) (length xs)
span_padded xs few =
    span_z_same (at_person (padded xs)) (at_person xs) 16 (λ i l. at_zeros xs _ i)
    ∙ span_z_pad (at_person xs) (length xs) 16 few (λ i l. get_or_past xs i (pos 0) l)

-- sixteen numbers that come from these, which are no more
module _ (xs all : List ℤ) (from : ◌≡◌ {A = Result (List ℤ) Unbalanced} (Ok all) (cond (nat_lt 16 (length xs)) (Err TooMany) (Ok (padded xs)))) where
  pub few : length xs ≤ 16
  few = grind (arith, nat_tests)

  same : all ≡ padded xs
  same = grind (arith, nat_tests)

  -- which have the first number out of range and the sum that these have
  pub same_first : position far all ≡ position far xs
  same_first = ap (position far) same ∙ sym (first_far_position (padded xs)) ∙ first_far_padded xs ∙ first_far_position xs

  pub same_sum : span_z (at_person all) 16 ≡ span_z (at_person xs) (length xs)
  same_sum = rw same (span_padded xs few)

  -- what each person has, and that the others have 0
  pub same_at : (i : ℕ) → at_person all i ≡ at_person xs i
  same_at i = rw same (at_zeros xs _ i)

  pub same_absent : drop (length xs) all ≡ replicate (16 - length xs) (pos 0)
  same_absent = rw same (drop_at xs _ (length xs) refl)

-- what `from_cents` needs of the numbers that it tests
pub ruleset tested = (few, first_far_position, same_first, same_sum, same_at, same_absent, near_all)
