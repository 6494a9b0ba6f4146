-- One step of a group's payments, as a loop takes it.
use Rattle.std.proofs.Common.{◌≡◌, ℕ, suc, ◌-◌, ◌<◌, ◌≤◌, min, Bool, ltb, ◌⊎◌, List, [], ◌∷◌, length, get_or, set, refl, inl, inr, arith}
use mathlib.Core.Path.{fun_ext}
use Rattle.std.proofs.Math.Bool.{and-false}
use Rattle.std.proofs.lemmas.Bool.{cases_eq, cases_lt, lt-ltb, le-ltb}
use Rattle.std.proofs.lemmas.Bool.Decides.{nat_tests as tells}
use Rattle.std.proofs.lemmas.Grind.{get_or-set_at}
use Rattle.std.proofs.lemmas.List.{get_or-set_other, get_or_past, set_past}
use Rattle.book.specs.Ledger.{Payment}
use Rattle.settlement.specs.Paying.{first, has, less_at, group_payments}

-- p pays q the lesser of what it owes and what q is owed, and then come at most k payments
abbrev pub pays : ℕ → ℕ → (ℕ → Bool) → (ℕ → ℕ) → (ℕ → ℕ) → ℕ → ℕ → List Payment
pays k n m owes owed p q =
    record { from = p; to = q; amount = min (owes p) (owed q) } ∷
    group_payments k n m (less_at owes p (min (owes p) (owed q))) (less_at owed q (min (owes p) (owed q)))

module _ (k n : ℕ) (m : ℕ → Bool) (owes owed : ℕ → ℕ) where
  -- where somebody owes and somebody is owed, the first pays the first
  pub payments_more : (p q : ℕ) → first (has m owes) n ≡ p → first (has m owed) n ≡ q → p < n → q < n →
      group_payments (suc k) n m owes owed ≡ pays k n m owes owed p q
  unfolding group_payments
  payments_more p q pe qe pl ql =
      let some-owes = lt-ltb (first (has m owes) n) n (rw pe pl) in
      let some-owed = lt-ltb (first (has m owed) n) n (rw qe ql) in
      rw (← pe, ← qe, some-owes, some-owed, group_payments) refl

  -- where nobody owes or nobody is owed there is no payment
  pub payments_end : (n ≤ first (has m owes) n) ⊎ (n ≤ first (has m owed) n) → group_payments (suc k) n m owes owed ≡ []
  unfolding group_payments
  payments_end (inl l) = rw (le-ltb (first (has m owes) n) n l, group_payments) refl
  payments_end (inr l) = rw (le-ltb (first (has m owed) n) n l, and-false (ltb (first (has m owes) n) n), group_payments) refl

-- what is owed in a list of numbers, after a is taken off at p
pub less_set : (xs : List ℕ) (p a : ℕ) → (λ i. get_or (set xs p (get_or xs p 0 - a)) i 0) ≡ less_at (λ i. get_or xs i 0) p a
less_set xs p a =
    let y : ℕ = get_or xs p 0 - a in
    fun_ext (λ i. elim (cases_eq i p) [
      | inl e ↦
          elim (cases_lt p (length xs)) [
            | inl l ↦ let same = get_or-set_at xs p i y 0 e l in grind (arith, tells)
            | inr l ↦ let gone = get_or_past xs p 0 l in rw (set_past xs p y l) (grind (arith, tells))
          ]
      | inr d ↦ let other = get_or-set_other xs p i y 0 d in grind (arith, tells)
    ])
