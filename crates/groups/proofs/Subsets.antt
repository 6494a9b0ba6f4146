-- The parts of a set in falling order: the part before r is `(r - 1) & m`.
use Rattle.std.proofs.Common.{◌≡◌, ℕ, zero, suc, ◌-◌, ◌/◌, ◌%◌, ◌^◌, ◌<◌, ◌≤◌, true, false, not, sym, ap, ◌∙◌, inl, inr, arith}
use lib.Bits.{and_step, bit_and}
use Rattle.std.proofs.lemmas.Nat.{and_le_r}
use Rattle.std.proofs.lemmas.Bool.{and_parts, both_ways, cases_lt}
use Rattle.groups.proofs.SetLaws.{and_in, in_part, minus_in, out_other, out_sub, part_digit, part_half, part_in, part_is, part_le}
use Rattle.groups.specs.Sets.{is_in, is_part, without}

-- of the parts of m below a part r, that is the greatest
pub prev_part : (n r m u : ℕ) → m < 2 ^ n → 0 < r → is_part r m ≡ true → is_part u m ≡ true → u < r → u ≤ bit_and (r - 1) m
prev_part zero r m u small some pr pu less = absurd (omega (arith, part_le r m pr))
prev_part (suc n) r m u small some pr pu less =
    elim (cases_lt (r % 2) 1) [
      | inl e ↦
          let h : (r - 1) / 2 ≡ r / 2 - 1 = omega arith in
          let step = rw h at (and_step (r - 1) m) in
          let ih = prev_part n (r / 2) (m / 2) (u / 2) (omega arith) (omega arith) (part_half r m pr) (part_half u m pu) (omega arith) in
          omega (arith, part_digit u m pu)
      | inr o ↦
          let h : (r - 1) / 2 ≡ r / 2 = omega arith in
          let half : bit_and (r / 2) (m / 2) ≡ r / 2 = part_is (r / 2) (m / 2) (part_half r m pr) in
          let step = rw (h, half) at (and_step (r - 1) m) in
          omega arith
    ]

-- what is common is a part
pub and_part : (n x m : ℕ) → m < 2 ^ n → is_part (bit_and x m) m ≡ true
and_part n x m small =
    in_part n (bit_and x m) m (omega (arith, and_le_r x m)) (λ i l e. (and_parts (is_in x i) (is_in m i) (sym (and_in x m i) ∙ e)).1)

-- the rest of a part is a part, and with somebody taken out of the whole it is a part of that if the part has it
pub rest_part : (n t s : ℕ) → s < 2 ^ n → is_part t s ≡ true → is_part (s - t) s ≡ true
rest_part n t s small p =
    in_part n (s - t) s (omega arith) (λ i l e. (and_parts (is_in s i) (not (is_in t i)) (sym (minus_in t s i p) ∙ e)).0)

pub out_part : (n u s k : ℕ) → s < 2 ^ n → is_in s k ≡ true → is_part u (without s k) ≡ true → is_part u s ≡ true
out_part n u s k small e p =
    in_part n u s (omega (arith, part_le u (without s k) p)) (λ i l h. out_sub s k i e (part_in u (without s k) i p h))

pub part_out : (n u s k : ℕ) → s < 2 ^ n → is_in s k ≡ true → is_part u s ≡ true → is_in u k ≡ false → is_part u (without s k) ≡ true
part_out n u s k small e p out =
    in_part n u (without s k) (omega (arith, part_le u s p))
    (λ i l h. out_other s k i e (λ q. both_ways (is_in u k) out (ap (is_in u) (sym q) ∙ h)) ∙ part_in u s i p h)
