-- Laws of sums over people.
use Rattle.std.proofs.Common.{◌≡◌, ℕ, zero, suc, ◌+◌, ◌-◌, ◌<◌, ◌≤◌, eqb, ltb, refl, inl, inr, arith}
use Rattle.std.proofs.lemmas.Bool.{cases_lt, lt-ltb}
use Rattle.shares.specs.Bill.{pick}
use Rattle.shares.specs.Span.{span}

-- what agrees below n has the same sum
pub span_same : (f g : ℕ → ℕ) (n : ℕ) → ((i : ℕ) → i < n → f i ≡ g i) → span f n ≡ span g n
unfolding span
span_same f g zero h = refl
span_same f g (suc n) h = omega (arith, h n (omega arith), span_same f g n (λ i l. h i (omega arith)))

-- what is nowhere larger below n has no larger sum
pub span_mono : (f g : ℕ → ℕ) (n : ℕ) → ((i : ℕ) → i < n → f i ≤ g i) → span f n ≤ span g n
unfolding span
span_mono f g zero h = omega arith
span_mono f g (suc n) h = omega (arith, h n (omega arith), span_mono f g n (λ i l. h i (omega arith)))

-- the sum of two functions
pub span_add : (f g : ℕ → ℕ) (n : ℕ) → span (λ i. f i + g i) n ≡ span f n + span g n
unfolding span
span_add f g zero = refl
span_add f g (suc n) = omega (arith, span_add f g n)

-- what is 0 below n has the sum 0
pub span_zero : (f : ℕ → ℕ) (n : ℕ) → ((i : ℕ) → i < n → f i ≡ 0) → span f n ≡ 0
unfolding span
span_zero f zero h = refl
span_zero f (suc n) h = omega (arith, h n (omega arith), span_zero f n (λ i l. h i (omega arith)))

-- one person more
pub span_more : (f : ℕ → ℕ) (n : ℕ) → span f (suc n) ≡ f n + span f n
unfolding span
span_more f n = refl

-- one person's part is no larger than the sum
pub at_most_span : (f : ℕ → ℕ) (n i : ℕ) → i < n → f i ≤ span f n
unfolding span
at_most_span f zero i l = omega arith
at_most_span f (suc n) i l = elim (cases_lt i n) [ inl below ↦ omega (arith, at_most_span f n i below) | inr above ↦ let last : i ≡ n = omega arith in rw last (omega arith) ]

-- a sum of which one term counts
pub span_one : (p a n : ℕ) → span (λ i. pick (eqb p i) a 0) n ≡ pick (ltb p n) a 0
unfolding span
span_one p a zero = grind arith
span_one p a (suc n) = grind (arith, span_one p a n)

-- an amount at one person alone is the sum
pub span_at : (p a n : ℕ) → p < n → span (λ i. pick (eqb p i) a 0) n ≡ a
span_at p a n l = let one = span_one p a n in let there = lt-ltb p n l in grind arith

-- a sum above 0 has a term above 0
pub span_some : (f : ℕ → ℕ) (n : ℕ) → 0 < span f n → (i : ℕ) × (i < n) × (0 < f i)
unfolding span
span_some f zero h = absurd (omega arith)
span_some f (suc n) h =
    elim (cases_lt 0 (f n)) [
      | inl l ↦ (n, omega arith, l)
      | inr l ↦ let r = span_some f n (omega arith) in (r.0, omega arith, r.2)
    ]

-- a count of n is at most n
pub span_count : (f : ℕ → ℕ) (n : ℕ) → ((i : ℕ) → i < n → f i ≤ 1) → span f n ≤ n
unfolding span
span_count f zero h = omega arith
span_count f (suc n) h = omega (arith, h n (omega arith), span_count f n (λ i l. h i (omega arith)))

excess : (f g : ℕ → ℕ) (n : ℕ) → span (λ i. f i - g i) n + span g n ≡ span (λ i. g i - f i) n + span f n
unfolding span
excess f g zero = refl
excess f g (suc n) = omega (arith, excess f g n)

-- the excess of f over g and that of g over f have one sum where f and g have
pub span_excess : (f g : ℕ → ℕ) (n : ℕ) → span f n ≡ span g n → span (λ i. f i - g i) n ≡ span (λ i. g i - f i) n
span_excess f g n e = omega (arith, excess f g n)
