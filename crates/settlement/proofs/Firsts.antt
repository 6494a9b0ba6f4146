-- The smallest number that passes a test.
use Rattle.std.proofs.Common.{◌≡◌, ℕ, ◌<◌, ◌≤◌, Bool, true, false, Option, Some, None, MatchOption, inl, inr, arith}
use Rattle.std.proofs.lemmas.Bool.{cases_lt}
use Rattle.std.proofs.lemmas.Bool.Decides.{nat_tests as tells}
use Rattle.groups.proofs.First as groups
use Rattle.settlement.specs.Amounts.{first_of}
use Rattle.settlement.specs.Paying.{first}

pub first_le : (t : ℕ → Bool) (n : ℕ) → first t n ≤ n
first_le = groups.first_le

pub first_passes : (t : ℕ → Bool) (n : ℕ) → first t n < n → t (first t n) ≡ true
first_passes = groups.first_passes

pub first_least : (t : ℕ → Bool) (n i : ℕ) → i < n → t i ≡ true → first t n ≤ i
first_least = groups.first_there

-- what is found where nothing before it passes, or where nothing passes
pub first_of_search : (t : ℕ → Bool) (n : ℕ) (r : Option ℕ) →
    MatchOption r ((k : ℕ) → 0 ≤ k → k < n → t k ≡ false)
    (λ i. (0 ≤ i) × (i < n) × (t i ≡ true) × ((k : ℕ) → 0 ≤ k → k < i → t k ≡ false)) →
    r ≡ first_of n t
first_of_search t n None none =
    elim (cases_lt (first t n) n) [
      | inl l ↦ let z = none (first t n) (omega arith) l in let p = first_passes t n l in cc
      | inr l ↦ grind (arith, tells)
    ]
first_of_search t n (Some i) (_, l, here, before) =
    let below : first t n ≤ i = first_least t n i l here in
    elim (cases_lt (first t n) i) [
      | inl k ↦ let z = before (first t n) (omega arith) k in let p = first_passes t n (omega arith) in cc
      | inr k ↦ let e : first t n ≡ i = omega arith in grind (arith, tells)
    ]

-- what a search that found somebody tells, and one that found nobody
pub who_is_first : (t : ℕ → Bool) (n p : ℕ) → Some p ≡ first_of n t → (first t n ≡ p) × (p < n)
who_is_first t n p h =
    elim (cases_lt (first t n) n) [
      | inl l ↦ let e : first t n ≡ p = grind (arith, tells) in (e, omega arith)
      | inr l ↦ grind (arith, tells)
    ]

pub nobody_is : (t : ℕ → Bool) (n : ℕ) → None ≡ first_of n t → n ≤ first t n
nobody_is t n h = elim (cases_lt (first t n) n) [ inl l ↦ grind (arith, tells) | inr l ↦ l ]
