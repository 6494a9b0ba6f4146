-- Whether a balance is even: the test and what it says.
use Rattle.std.proofs.Common.{◌≡◌, ℕ, true, false, eqb, ◌⊎◌, ℤ, pos, negsuc, nat_abs, sym, refl, ◌∙◌, inl, inr, arith, w64, SFits, of_z}
use Rattle.std.proofs.lemmas.Int.{ints}
use Rattle.std.proofs.lemmas.Bool.{cases_Bool, eq-eqb, eqb-true, ne_eqb}
use Rattle.groups.specs.Signs.{is_zero}

pub zero_yes : (z : ℤ) → z ≡ pos 0 → is_zero z ≡ true
unfolding is_zero
zero_yes z e = rw e

pub zero_no : (z : ℤ) → (z ≡ pos 0 → ⊥) → is_zero z ≡ false
unfolding is_zero
zero_no z ne = ne_eqb (nat_abs z) 0 (omega (arith, ints))

pub zero_is : (z : ℤ) → is_zero z ≡ true → z ≡ pos 0
unfolding is_zero
zero_is z e = let h = eqb-true (nat_abs z) 0 e in omega (arith, ints)

pub not_zero : (z : ℤ) → is_zero z ≡ false → z ≡ pos 0 → ⊥
not_zero z e h = let y = zero_yes z h in let q : ◌≡◌ {A = ℕ} 0 1 = cc in omega arith

pub cases_zero : (z : ℤ) → (z ≡ pos 0) ⊎ (z ≡ pos 0 → ⊥)
cases_zero z = elim (cases_Bool (is_zero z)) [ inl e ↦ inl (zero_is z e) | inr e ↦ inr (not_zero z e) ]

-- 64 bits of a number are 0 exactly where it is
pub bits_zero : (z : ℤ) → SFits w64 z → eqb (of_z w64 z) 0 ≡ is_zero z
unfolding is_zero
bits_zero (pos n) fits = refl
bits_zero (negsuc n) fits =
    let small = fits.sfits in
    ne_eqb (of_z w64 (negsuc n)) 0 (omega arith) ∙ sym (ne_eqb (nat_abs (negsuc n)) 0 (omega arith))

-- so a test of the bits says whether it is
pub even_bits : (z : ℤ) → SFits w64 z → of_z w64 z ≡ 0 → is_zero z ≡ true
even_bits z fits e = sym (bits_zero z fits) ∙ eq-eqb (of_z w64 z) 0 e

pub open_bits : (z : ℤ) → SFits w64 z → (of_z w64 z ≡ 0 → ⊥) → is_zero z ≡ false
open_bits z fits ne = sym (bits_zero z fits) ∙ ne_eqb (of_z w64 z) 0 ne
