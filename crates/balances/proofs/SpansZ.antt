-- Laws of signed sums over people.
use Rattle.std.proofs.Common.{◌≡◌, ℕ, zero, suc, ◌<◌, ◌≤◌, ℤ, pos, ◌+ℤ◌, ◌-ℤ◌, refl, inl, inr, arith}
use Rattle.std.proofs.lemmas.Int.{ints}
use Rattle.std.proofs.lemmas.Bool.{cases_lt}
use Rattle.shares.specs.Span.{span}
use Rattle.balances.specs.Signed.{span_z}

-- one person more
pub span_z_more : (f : ℕ → ℤ) (n : ℕ) → span_z f (suc n) ≡ f n +ℤ span_z f n
unfolding span_z
span_z_more f n = refl

-- what agrees below n has the same sum
pub span_z_same : (f g : ℕ → ℤ) (n : ℕ) → ((i : ℕ) → i < n → f i ≡ g i) → span_z f n ≡ span_z g n
unfolding span_z
span_z_same f g zero h = refl
span_z_same f g (suc n) h = omega (arith, ints, h n (omega arith), span_z_same f g n (λ i l. h i (omega arith)))

-- what is 0 below n has the sum 0
pub span_z_zero : (f : ℕ → ℤ) (n : ℕ) → ((i : ℕ) → i < n → f i ≡ pos 0) → span_z f n ≡ pos 0
unfolding span_z
span_z_zero f zero h = refl
span_z_zero f (suc n) h = omega (arith, ints, h n (omega arith), span_z_zero f n (λ i l. h i (omega arith)))

-- people who have 0 change no sum
pub span_z_pad : (f : ℕ → ℤ) (n m : ℕ) → n ≤ m → ((i : ℕ) → n ≤ i → f i ≡ pos 0) → span_z f m ≡ span_z f n
unfolding span_z
span_z_pad f n zero l h = let none : n ≡ 0 = omega arith in rw none refl
span_z_pad f n (suc m) l h =
    elim (cases_lt m n) [
      | inl last ↦ let same : n ≡ suc m = omega arith in rw same refl
      | inr more ↦ omega (arith, ints, h m more, span_z_pad f n m more h)
    ]

-- the sum of differences is the difference of the sums
pub span_z_less : (f g : ℕ → ℕ) (n : ℕ) → span_z (λ i. pos (f i) -ℤ pos (g i)) n ≡ pos (span f n) -ℤ pos (span g n)
unfolding span span_z
span_z_less f g zero = refl
span_z_less f g (suc n) = omega (arith, ints, span_z_less f g n)
