-- Signed numbers as what is owed and what one is owed, and how payments move them.
use Rattle.std.proofs.Common.{◌≡◌, ℕ, zero, suc, ◌-◌, ◌⊎◌, ℤ, pos, negsuc, ◌+ℤ◌, ◌-ℤ◌, refl, inl, inr, arith}
use Rattle.std.proofs.lemmas.Int.{ints}
use Rattle.shares.specs.Span.{span}
use Rattle.balances.specs.Even.{Even}
use Rattle.balances.specs.Signed.{debt, credit, span_z, signed}

-- a number is what it is owed less what it owes
pub debt_credit : (z : ℤ) → z +ℤ pos (debt z) ≡ pos (credit z)
debt_credit (pos n) = omega (arith, ints)
debt_credit (negsuc n) = omega (arith, ints)

-- nobody both owes and is owed
pub one_of : (z : ℤ) → (debt z ≡ 0) ⊎ (credit z ≡ 0)
one_of (pos n) = inl refl
one_of (negsuc n) = inr refl

-- the sum of the numbers and what is owed is what is owing
pub signed_span : (f : ℕ → ℤ) (n : ℕ) → span_z f n +ℤ pos (span (λ i. debt (f i)) n) ≡ pos (span (λ i. credit (f i)) n)
unfolding span span_z
signed_span f zero = refl
signed_span f (suc n) = omega (arith, ints, signed_span f n, debt_credit (f n))

-- numbers that sum to 0 come out even
pub signed_even : (f : ℕ → ℤ) (n : ℕ) → span_z f n ≡ pos 0 → Even (signed n f)
signed_even f n e =
    record { one_side = λ i l h. omega (arith, one_of (f i)); sum = omega (arith, ints, signed_span f n) }

-- what is given less what is had, as the side that is left
pub difference_sides : (g h : ℕ) → (debt (pos g -ℤ pos h) ≡ h - g) × (credit (pos g -ℤ pos h) ≡ g - h)
difference_sides g h = omega (arith, ints, debt_credit (pos g -ℤ pos h), one_of (pos g -ℤ pos h))
