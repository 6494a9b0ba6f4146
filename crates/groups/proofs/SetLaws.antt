-- Laws of sets of people as bits.
use Rattle.std.proofs.Common.{◌≡◌, ℕ, zero, suc, ◌+◌, ◌-◌, ◌/◌, ◌%◌, ◌^◌, ◌<◌, ◌≤◌, min, Bool, true, false, not, ◌&&◌, eqb, sym, refl, ap, ◌∙◌, inl, inr, div-one, arith, lit<, pow_mono}
use native.Mathlib.Nat.{div-div-eq-div-mul, pow-succ'}
use lib.Bits.{and_self, and_step, bit_and}
use lib.Count.{count_trailing_zeros}
use Rattle.std.proofs.lemmas.Nat.{and_le_l, and_le_r, pow_pos}
use Rattle.std.proofs.lemmas.Bool.{cases_Bool, cases_eq, cases_lt, eq-eqb, eqb-true, ne_eqb}
use Rattle.std.proofs.lemmas.Bool.Decides.{nat_tests}
use Rattle.groups.specs.Sets.{everyone, is_in, is_part, set_of, smallest, without}
use Rattle.shares.specs.Span.{span}

-- person 0 is the lowest digit, and the others are the people of the half
pub in_zero : (s : ℕ) → is_in s 0 ≡ eqb (s % 2) 1
unfolding is_in
in_zero s = ap (λ x. eqb (x % 2) 1) (div-one s)

pub in_suc : (s i : ℕ) → is_in s (suc i) ≡ is_in (s / 2) i
unfolding is_in
in_suc s i = rw (pow-succ' 2 i, ← div-div-eq-div-mul s 2 (2 ^ i))

pub in_le : (s i : ℕ) → is_in s i ≡ true → 2 ^ i ≤ s
in_le s zero h = let e = rw in_zero at h in grind (arith, nat_tests)
in_le s (suc i) h = let e = in_le (s / 2) i (rw in_suc at h) in omega (arith)

-- who is in a set of n people is one of them
pub in_below : (n s i : ℕ) → s < 2 ^ n → is_in s i ≡ true → i < n
in_below n s i small h =
    elim (cases_lt i n) [
      | inl l ↦ l
      | inr g ↦ let p : 2 ^ n ≤ 2 ^ i = pow_mono g in absurd (omega (arith, in_le s i h))
    ]

pub not_in : (n s i : ℕ) → s < 2 ^ n → n ≤ i → is_in s i ≡ false
not_in n s i small h = elim (cases_Bool (is_in s i)) [ inl e ↦ absurd (omega (arith, in_below n s i small e)) | inr e ↦ e ]

pub in_empty : (i : ℕ) → is_in 0 i ≡ false
in_empty zero = in_zero 0
in_empty (suc i) = in_suc 0 i ∙ in_empty i

-- who was taken out is not in it, and everybody else as before
pub out_gone : (s i : ℕ) → is_in s i ≡ true → is_in (without s i) i ≡ false
out_gone s zero h = let e = rw in_zero at h in rw in_zero (grind (arith, nat_tests))
out_gone s (suc i) h =
    let k : is_in (s / 2) i ≡ true = rw in_suc at h in
    let l = in_le (s / 2) i k in
    let e : (s - 2 ^ suc i) / 2 ≡ s / 2 - 2 ^ i = omega arith in
    rw (in_suc, e) (out_gone (s / 2) i k)

pub out_other : (s i k : ℕ) → is_in s i ≡ true → (k ≡ i → ⊥) → is_in (without s i) k ≡ is_in s k
out_other s zero zero h ne = absurd (ne refl)
out_other s zero (suc k) h ne =
    let e = rw in_zero at h in
    let q = eqb-true (s % 2) 1 e in
    let e : (s - 2 ^ 0) / 2 ≡ s / 2 = omega arith in
    rw (in_suc (without s 0) k, in_suc s k, e)
out_other s (suc i) zero h ne =
    let l = in_le s (suc i) h in
    let e : (s - 2 ^ suc i) % 2 ≡ s % 2 = omega arith in
    rw (in_zero (without s (suc i)), in_zero s, e)
out_other s (suc i) (suc k) h ne =
    let m : is_in (s / 2) i ≡ true = rw in_suc at h in
    let l = in_le (s / 2) i m in
    let e : (s - 2 ^ suc i) / 2 ≡ s / 2 - 2 ^ i = omega arith in
    rw (in_suc (without s (suc i)) k, in_suc s k, e) (out_other (s / 2) i k m (λ q. ne (ap suc q)))

pub out_sub : (s i k : ℕ) → is_in s i ≡ true → is_in (without s i) k ≡ true → is_in s k ≡ true
out_sub s i k e h = elim (cases_eq k i) [ inl q ↦ rw q e | inr ne ↦ sym (out_other s i k e ne) ∙ h ]

pub out_less : (s i : ℕ) → is_in s i ≡ true → without s i < s
out_less s i h = omega (arith, in_le s i h, pow_pos i)

-- the smallest person of a set that is not empty is in it, and nobody smaller is
smallest_even : (n s : ℕ) → s % 2 ≡ 0 → smallest (suc n) s ≡ suc (smallest n (s / 2))
unfolding smallest count_trailing_zeros
smallest_even n s e = rw e

smallest_odd : (n s : ℕ) → s % 2 ≡ 1 → smallest (suc n) s ≡ 0
unfolding smallest count_trailing_zeros
smallest_odd n s e = rw e

pub smallest_in : (n s : ℕ) → 0 < s → s < 2 ^ n → is_in s (smallest n s) ≡ true
smallest_in zero s some small = absurd (omega arith)
smallest_in (suc n) s some small =
    elim (cases_lt (s % 2) 1) [
      | inl e ↦ rw (smallest_even n s (omega arith), in_suc) (smallest_in n (s / 2) (omega arith) (omega arith))
      | inr o ↦ rw (smallest_odd n s (omega arith), in_zero) (eq-eqb (s % 2) 1 (omega arith))
    ]

pub smallest_below : (n s : ℕ) → 0 < s → s < 2 ^ n → smallest n s < n
smallest_below n s some small = in_below n s (smallest n s) small (smallest_in n s some small)

pub smallest_least : (n s k : ℕ) → k < smallest n s → is_in s k ≡ false
smallest_least zero s k less = let e : smallest 0 s ≡ 0 = unfold smallest count_trailing_zeros in refl in absurd (omega arith)
smallest_least (suc n) s zero less =
    elim (cases_lt (s % 2) 1) [
      | inl e ↦ rw in_zero (ne_eqb (s % 2) 1 (omega arith))
      | inr o ↦ absurd (omega (arith, smallest_odd n s (omega arith)))
    ]
smallest_least (suc n) s (suc k) less =
    elim (cases_lt (s % 2) 1) [
      | inl e ↦ rw in_suc (smallest_least n (s / 2) k (omega (arith, smallest_even n s (omega arith))))
      | inr o ↦ absurd (omega (arith, smallest_odd n s (omega arith)))
    ]

-- the set of a person and of smaller ones
pub top_in : (k r : ℕ) → r < 2 ^ k → is_in (2 ^ k + r) k ≡ true
top_in zero r small = in_zero (2 ^ 0 + r) ∙ eq-eqb ((2 ^ 0 + r) % 2) 1 (omega arith)
top_in (suc k) r small =
    let e : (2 ^ suc k + r) / 2 ≡ 2 ^ k + r / 2 = omega arith in
    rw (in_suc, e) (top_in k (r / 2) (omega arith))

pub top_other : (k r i : ℕ) → r < 2 ^ k → (i ≡ k → ⊥) → is_in (2 ^ k + r) i ≡ is_in r i
top_other k r i small ne =
    let e : without (2 ^ k + r) k ≡ r = omega arith in
    sym (out_other (2 ^ k + r) k i (top_in k r small) ne) ∙ ap (λ x. is_in x i) e

-- everybody is in the set of all
pub everyone_in : (n i : ℕ) → i < n → is_in (everyone n) i ≡ true
everyone_in zero i h = absurd (omega arith)
everyone_in (suc n) zero h = in_zero (everyone (suc n)) ∙ eq-eqb (everyone (suc n) % 2) 1 (omega (arith, pow_pos n))
everyone_in (suc n) (suc i) h =
    let e : everyone (suc n) / 2 ≡ everyone n = omega (arith, pow_pos n) in
    rw (in_suc, e) (everyone_in n i (omega arith))

pub everyone_below : (n : ℕ) → everyone n < 2 ^ n
everyone_below n = omega (arith, pow_pos n)

-- the set of those who pass a test
pub set_below : (p : ℕ → Bool) (n : ℕ) → set_of p n < 2 ^ n
unfolding set_of span
set_below p zero = lit< tt
set_below p (suc n) = grind (arith, set_below p n)

pub set_yes : (p : ℕ → Bool) (n : ℕ) → p n ≡ true → set_of p (suc n) ≡ 2 ^ n + set_of p n
unfolding set_of span
set_yes p n e = rw e

pub set_no : (p : ℕ → Bool) (n : ℕ) → p n ≡ false → set_of p (suc n) ≡ set_of p n
unfolding set_of span
set_no p n e = rw e (omega arith)

pub set_in : (p : ℕ → Bool) (n i : ℕ) → i < n → is_in (set_of p n) i ≡ p i
set_in p zero i h = absurd (omega arith)
set_in p (suc n) i h =
    elim (cases_Bool (p n)) [
      | inl e ↦ elim (cases_eq i n) [
        | inl q ↦ rw (set_yes p n e, q) (top_in n (set_of p n) (set_below p n) ∙ sym e)
        | inr ne ↦ rw (set_yes p n e) (top_other n (set_of p n) i (set_below p n) ne ∙ set_in p n i (omega arith))
      ]
      | inr e ↦ elim (cases_eq i n) [
        | inl q ↦ rw (set_no p n e, q) (not_in n (set_of p n) n (set_below p n) (omega arith) ∙ sym e)
        | inr ne ↦ rw (set_no p n e) (set_in p n i (omega arith))
      ]
    ]

-- sets of n people with the same people are the same
pub same_set : (n s t : ℕ) → s < 2 ^ n → t < 2 ^ n → ((i : ℕ) → i < n → is_in s i ≡ is_in t i) → s ≡ t
same_set zero s t a b same = omega arith
same_set (suc n) s t a b same =
    let e : s / 2 ≡ t / 2 = same_set n (s / 2) (t / 2) (omega arith) (omega arith) (λ i h. sym (in_suc s i) ∙ same (suc i) (omega arith) ∙ in_suc t i) in
    let z : eqb (s % 2) 1 ≡ eqb (t % 2) 1 = sym (in_zero s) ∙ same 0 (omega arith) ∙ in_zero t in
    grind arith

-- who is in a part is in the whole, and a part taken away leaves the others
pub part_le : (t s : ℕ) → is_part t s ≡ true → t ≤ s
unfolding is_part
part_le t s h = omega (arith, eqb-true (bit_and t s) t h, and_le_r t s)

pub part_is : (t s : ℕ) → is_part t s ≡ true → bit_and t s ≡ t
unfolding is_part
part_is t s h = eqb-true (bit_and t s) t h

pub part_half : (t s : ℕ) → is_part t s ≡ true → is_part (t / 2) (s / 2) ≡ true
unfolding is_part
part_half t s h = eq-eqb (bit_and (t / 2) (s / 2)) (t / 2) (omega (arith, eqb-true (bit_and t s) t h, and_step t s))

pub part_digit : (t s : ℕ) → is_part t s ≡ true → t % 2 ≤ s % 2
unfolding is_part
part_digit t s h = omega (arith, eqb-true (bit_and t s) t h, and_step t s)

pub minus_in : (t s i : ℕ) → is_part t s ≡ true → is_in (s - t) i ≡ (is_in s i && not (is_in t i))
minus_in t s zero h =
    let d = part_digit t s h in
    let l = part_le t s h in
    rw (in_zero (s - t), in_zero s, in_zero t) (grind (arith, nat_tests))
minus_in t s (suc i) h =
    let e : (s - t) / 2 ≡ s / 2 - t / 2 = omega (arith, part_digit t s h, part_le t s h) in
    rw (in_suc (s - t) i, in_suc s i, in_suc t i, e) (minus_in (t / 2) (s / 2) i (part_half t s h))

pub and_in : (s t i : ℕ) → is_in (bit_and s t) i ≡ (is_in s i && is_in t i)
and_in s t zero =
    let q : bit_and s t % 2 ≡ min (s % 2) (t % 2) = omega (arith, and_step s t) in
    rw (in_zero (bit_and s t), in_zero s, in_zero t) (grind (arith, nat_tests))
and_in s t (suc i) =
    let e : bit_and s t / 2 ≡ bit_and (s / 2) (t / 2) = omega (arith, and_step s t) in
    rw (in_suc (bit_and s t) i, in_suc s i, in_suc t i, e) (and_in (s / 2) (t / 2) i)

pub part_in : (t s i : ℕ) → is_part t s ≡ true → is_in t i ≡ true → is_in s i ≡ true
unfolding is_part
part_in t s i h e = let q = and_in t s i in let b : is_in (bit_and t s) i ≡ true = rw (eqb-true (bit_and t s) t h) e in grind arith

kept : (a b : Bool) → (a ≡ true → b ≡ true) → (a && b) ≡ a
kept true b h = h refl
kept false b h = refl

pub in_part : (n t s : ℕ) → t < 2 ^ n → ((i : ℕ) → i < n → is_in t i ≡ true → is_in s i ≡ true) → is_part t s ≡ true
unfolding is_part
in_part n t s small ins =
    eq-eqb (bit_and t s) t (same_set n (bit_and t s) t (omega (arith, and_le_l t s)) small (λ i l. and_in t s i ∙ kept (is_in t i) (is_in s i) (ins i l)))

-- the smallest person is the same among more people
pub smallest_any : (n m s : ℕ) → 0 < s → s < 2 ^ n → n ≤ m → smallest m s ≡ smallest n s
smallest_any zero m s some small le = absurd (omega arith)
smallest_any (suc n) zero s some small le = absurd (omega arith)
smallest_any (suc n) (suc m) s some small le =
    elim (cases_lt (s % 2) 1) [
      | inl e ↦
          let z : s % 2 ≡ 0 = omega arith in
          smallest_even m s z ∙ ap suc (smallest_any n m (s / 2) (omega arith) (omega arith) (omega arith)) ∙ sym (smallest_even n s z)
      | inr o ↦ let z : s % 2 ≡ 1 = omega arith in smallest_odd m s z ∙ sym (smallest_odd n s z)
    ]

-- a number and the one before it have the same digits above the lowest that is set, and none together up to it
pub mask_lowest : (n s : ℕ) → 0 < s → s < 2 ^ n → bit_and s (s - 1) ≡ without s (smallest n s)
mask_lowest zero s some small = absurd (omega arith)
mask_lowest (suc n) s some small =
    elim (cases_lt (s % 2) 1) [
      | inl e ↦
          let z : s % 2 ≡ 0 = omega arith in
          let h : (s - 1) / 2 ≡ s / 2 - 1 = omega arith in
          let step = rw h at (and_step s (s - 1)) in
          let ih = mask_lowest n (s / 2) (omega arith) (omega arith) in
          let l = in_le (s / 2) (smallest n (s / 2)) (smallest_in n (s / 2) (omega arith) (omega arith)) in
          rw (smallest_even n s z) (omega arith)
      | inr o ↦
          let z : s % 2 ≡ 1 = omega arith in
          let h : (s - 1) / 2 ≡ s / 2 = omega arith in
          let step = rw (h, and_self (s / 2)) at (and_step s (s - 1)) in
          rw (smallest_odd n s z) (omega arith)
    ]
