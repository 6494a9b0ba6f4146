-- A signed sum is 0 where what people owe together is what they are owed.
use Rattle.std.proofs.Common.{◌≡◌, ℕ, ◌<◌, Bool, true, ◌&&◌, ltb, ℤ, pos, inl, inr, arith}
use Rattle.std.proofs.lemmas.Int.{ints}
use Rattle.std.proofs.lemmas.Bool.Decides.{nat_tests}
use Rattle.groups.proofs.Found.{found}
use Rattle.shares.proofs.Spans.{at_most_span, span_same, span_zero}
use Rattle.balances.proofs.Signs.{signed_span}
use Rattle.shares.specs.Bill.{pick}
use Rattle.balances.specs.Signed.{credit, debt, span_z}
use Rattle.shares.specs.Span.{span}
use Rattle.groups.specs.Signs.{only}

-- who pass a test have a sum, below and above 0
debt_sum : (p : ℕ → Bool) (f : ℕ → ℤ) (n : ℕ) → span (λ i. debt (pick (p i) (f i) (pos 0))) n ≡ span (λ i. pick (p i) (debt (f i)) 0) n
debt_sum p f n = span_same (λ i. debt (pick (p i) (f i) (pos 0))) (λ i. pick (p i) (debt (f i)) 0) n (λ i l. grind arith)

credit_sum : (p : ℕ → Bool) (f : ℕ → ℤ) (n : ℕ) → span (λ i. credit (pick (p i) (f i) (pos 0))) n ≡ span (λ i. pick (p i) (credit (f i)) 0) n
credit_sum p f n = span_same (λ i. credit (pick (p i) (f i) (pos 0))) (λ i. pick (p i) (credit (f i)) 0) n (λ i l. grind arith)

-- they sum to 0 exactly where they owe together what they are owed
pub sides_even : (p : ℕ → Bool) (f : ℕ → ℤ) (n : ℕ) → span_z (only p f) n ≡ pos 0 →
    span (λ i. pick (p i) (debt (f i)) 0) n ≡ span (λ i. pick (p i) (credit (f i)) 0) n
sides_even p f n e = omega (arith, ints, signed_span (only p f) n, debt_sum p f n, credit_sum p f n)

pub sides_zero : (p : ℕ → Bool) (f : ℕ → ℤ) (n : ℕ) → span (λ i. pick (p i) (debt (f i)) 0) n ≡ span (λ i. pick (p i) (credit (f i)) 0) n →
    span_z (only p f) n ≡ pos 0
sides_zero p f n e = omega (arith, ints, signed_span (only p f) n, debt_sum p f n, credit_sum p f n)

-- who owe together what they are owed, with somebody open among them, have somebody who owes
pub somebody_owes : (p : ℕ → Bool) (f : ℕ → ℤ) (n k : ℕ) → span (λ i. pick (p i) (debt (f i)) 0) n ≡ span (λ i. pick (p i) (credit (f i)) 0) n →
    k < n → p k ≡ true → (f k ≡ pos 0 → ⊥) → (i : ℕ) × (i < n) × (p i ≡ true) × (0 < debt (f i))
somebody_owes p f n k even l e is_open =
    elim (found (λ i. p i && ltb 0 (debt (f i))) n) [
      | inl h ↦ (h.0, h.1, grind (arith, nat_tests), grind (arith, nat_tests))
      | inr nobody ↦
          let none_owes = span_zero (λ i. pick (p i) (debt (f i)) 0) n (λ i m. let q = nobody i m in grind (arith, nat_tests)) in
          let owed = at_most_span (λ i. pick (p i) (credit (f i)) 0) n k l in
          let owes = at_most_span (λ i. pick (p i) (debt (f i)) 0) n k l in
          absurd (is_open (let d : debt (f k) ≡ 0 = grind arith in let u : credit (f k) ≡ 0 = grind arith in omega (arith, ints)))
    ]
