-- Numbering what passes a test: the rank of j is how many before it pass.
use Rattle.std.proofs.Common.{◌≡◌, ℕ, zero, suc, ◌<◌, ltb, inl, inr, arith}
use Rattle.std.proofs.lemmas.Bool.{cases_lt, cases_order}
use Rattle.shares.specs.Bill.{pick}
use Rattle.shares.specs.Span.{span}

-- how many below m have something
abbrev pub rank : (ℕ → ℕ) → ℕ → ℕ
rank f m = span (λ j. pick (ltb 0 (f j)) 1 0) m

pub rank_less : (f : ℕ → ℕ) (j m : ℕ) → j < m → 0 < f j → rank f j < rank f m
unfolding span
rank_less f j zero l h = absurd (omega arith)
rank_less f j (suc m) l h =
    elim (cases_lt j m) [
      | inl k ↦ omega (arith, rank_less f j m k h)
      | inr k ↦ let e : j ≡ m = omega arith in grind arith
    ]

pub rank_same : (f : ℕ → ℕ) (i j : ℕ) → 0 < f i → 0 < f j → rank f i ≡ rank f j → i ≡ j
rank_same f i j p q e =
    elim (cases_order i j) [
      | inl s ↦ s
      | inr u ↦ elim u [
        | inl l ↦ absurd (omega (arith, rank_less f i j l p))
        | inr l ↦ absurd (omega (arith, rank_less f j i l q))
      ]
    ]

-- each number below the count is a rank
pub ranked : (f : ℕ → ℕ) (m k : ℕ) → k < rank f m → (j : ℕ) × (j < m) × (0 < f j) × (rank f j ≡ k)
unfolding span
ranked f zero k h = absurd (omega arith)
ranked f (suc m) k h =
    elim (cases_lt k (rank f m)) [
      | inl l ↦ let r = ranked f m k l in (r.0, omega arith, r.2, r.3)
      | inr l ↦ (m, omega arith, grind arith, grind arith)
    ]
