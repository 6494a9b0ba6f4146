-- A test over the numbers below n passes somewhere or nowhere.
use Rattle.std.proofs.Common.{◌≡◌, ℕ, zero, suc, ◌<◌, Bool, true, false, ◌⊎◌, inl, inr, arith}
use Rattle.std.proofs.lemmas.Bool.{cases_Bool, cases_order}

pub found : (p : ℕ → Bool) (n : ℕ) → ((i : ℕ) × (i < n) × (p i ≡ true)) ⊎ ((i : ℕ) → i < n → p i ≡ false)
found p zero = inr (λ i h. absurd (omega arith))
found p (suc n) =
    elim (found p n) [
      | inl h ↦ inl (h.0, omega arith, h.2)
      | inr none ↦ elim (cases_Bool (p n)) [
        | inl e ↦ inl (n, omega arith, e)
        | inr e ↦ inr (λ i h. elim (cases_order i n) [
          | inl q ↦ rw q e
          | inr r ↦ none i (omega arith)
        ])
      ]
    ]
