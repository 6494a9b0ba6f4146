-- The search for the chosen set, over the rests that it leaves in falling order.
use Rattle.std.proofs.Common.{◌≡◌, ℕ, zero, suc, Some, None, ◌+◌, ◌-◌, ◌^◌, ◌<◌, ◌≤◌, true, false, not, List, ℤ, sym, refl, ◌∙◌, inl, inr, add-one, sub-one, arith}
use lib.Bits.{and_self, bit_and}
use Rattle.std.proofs.lemmas.Bool.{and_from, and_right, both_ways, cases_Bool, cases_eq, cases_lt, not_from_false, not_from_true}
use Rattle.groups.proofs.ChosenLaws.{no_low, no_part}
use Rattle.groups.proofs.First.{first_is, first_none}
use Rattle.groups.proofs.SetLaws.{minus_in, out_gone, part_in, part_le, smallest_in}
use Rattle.groups.proofs.Subsets.{and_part, out_part, part_out, prev_part, rest_part}
use Rattle.groups.specs.Fixed.{chosen, reaches}
use Rattle.groups.specs.Sets.{is_in, is_part, smallest, subset_below, without}

-- what a rest leaves is a part with the smallest person
pub tried_part : (n s r : ℕ) → 0 < s → s < 2 ^ n → is_part r (without s (smallest n s)) ≡ true → is_part (s - r) s ≡ true
tried_part n s r some small p = rest_part n r s small (out_part n r s (smallest n s) small (smallest_in n s some small) p)

pub tried_low : (n s r : ℕ) → 0 < s → s < 2 ^ n → is_part r (without s (smallest n s)) ≡ true → is_in (s - r) (smallest n s) ≡ true
tried_low n s r some small p =
    let k : ℕ = smallest n s in
    let kin : is_in s k ≡ true = smallest_in n s some small in
    let out : is_in r k ≡ false =
    elim (cases_Bool (is_in r k)) [ inl e ↦ absurd (both_ways (is_in (without s k) k) (out_gone s k kin) (part_in r (without s k) k p e)) | inr e ↦ e ] in
    minus_in r s k (out_part n r s k small kin p) ∙ and_from (is_in s k) (not (is_in r k)) kin (not_from_false (is_in r k) out)

-- a set fails where it is no part with the smallest person, and else if its rest does
by_rest : (f : ℕ → ℤ) (n : ℕ) (cs : List ℕ) (s t : ℕ) → 0 < s → s < 2 ^ n →
    (is_part (s - t) (without s (smallest n s)) ≡ true → reaches f n cs s (s - (s - t)) ≡ false) → reaches f n cs s t ≡ false
by_rest f n cs s t some small rest =
    elim (cases_Bool (is_part t s)) [
      | inr e ↦ no_part f n cs s t e
      | inl p ↦ elim (cases_Bool (is_in t (smallest n s))) [
        | inr e ↦ no_low f n cs s t p e
        | inl e ↦
            let k : ℕ = smallest n s in
            let out : is_in (s - t) k ≡ false = minus_in t s k p ∙ and_right (is_in s k) (not (is_in t k)) (not_from_true (is_in t k) e) in
            let q : s - (s - t) ≡ t = omega (arith, part_le t s p) in
            rw q at (rest (part_out n (s - t) s k small (smallest_in n s some small) (rest_part n t s small p) out))
      ]
    ]

-- the search comes to b: the subsets of the others from b on fail, and the greatest below b is the one that comes next
pub record ToTry (f : ℕ → ℤ) (n : ℕ) (cs : List ℕ) (s b : ℕ) : Type 0 where
  pub failed : (u : ℕ) → is_part u (without s (smallest n s)) ≡ true → b ≤ u → reaches f n cs s (s - u) ≡ false
  pub next : (u : ℕ) → is_part u (without s (smallest n s)) ≡ true → u < b → u ≤ bit_and (b - 1) (without s (smallest n s))

-- what comes next of the subsets of m
next_is : (m b r : ℕ) → subset_below m b ≡ Some r → (0 < b) × (r ≡ bit_and (b - 1) m)
next_is m zero r e = absurd (cc)
next_is m (suc b) r e = (omega arith, rw sub-one (cc))

none_is : (m b : ℕ) → subset_below m b ≡ None → b ≡ 0
none_is m zero e = refl
none_is m (suc b) e = absurd (cc)

module _ (f : ℕ → ℤ) (n : ℕ) (cs : List ℕ) (s : ℕ) (some : 0 < s) (small : s < 2 ^ n) where
  -- it begins with all others
  pub try_first : ToTry f n cs s (without s (smallest n s) + 1)
  try_first =
      let m : ℕ = without s (smallest n s) in
      let e : m + 1 - 1 ≡ m = omega arith in
      record { failed = λ u p l. absurd (omega (arith, part_le u m p)); next = λ u p l. rw (e, and_self m) (part_le u m p) }

  module _ (b r : ℕ) (is : subset_below (without s (smallest n s)) b ≡ Some r) where
    -- a rest is a subset of the others
    pub try_part : is_part r (without s (smallest n s)) ≡ true
    try_part = rw (next_is (without s (smallest n s)) b r is).1 (and_part n (b - 1) (without s (smallest n s)) (omega arith))

    larger_fail : ToTry f n cs s b → (u : ℕ) → is_part u (without s (smallest n s)) ≡ true → r < u → reaches f n cs s (s - u) ≡ false
    larger_fail t u p l =
        let e = next_is (without s (smallest n s)) b r is in
        elim (cases_lt u b) [ inl less ↦ absurd (omega (arith, t.next u p less)) | inr more ↦ t.failed u p more ]

    -- the set at which the search stops is the chosen one
    pub try_here : ToTry f n cs s b → reaches f n cs s (s - r) ≡ true → s - r ≡ chosen f n cs s
    unfolding chosen
    try_here t here =
        first_is (reaches f n cs s) (suc s) (s - r) (omega arith) here
        (λ u l. by_rest f n cs s u some small (λ p. larger_fail t (s - u) p (omega arith)))

    -- and else it goes on below the rest
    pub try_next : ToTry f n cs s b → reaches f n cs s (s - r) ≡ false → ToTry f n cs s r
    try_next t here =
        record {
          failed = λ u p l. elim (cases_eq u r) [ inl q ↦ rw q here | inr ne ↦ larger_fail t u p (omega arith) ];
          next = λ u p l. prev_part n r (without s (smallest n s)) u (omega arith) (omega arith) try_part p l;
        }

  -- and where none is left there is none
  pub try_none : (b : ℕ) → ToTry f n cs s b → subset_below (without s (smallest n s)) b ≡ None → s + 1 ≡ chosen f n cs s
  unfolding chosen
  try_none b t over =
      let z = none_is (without s (smallest n s)) b over in
      rw add-one (sym (first_none (reaches f n cs s) (suc s) (λ u l. by_rest f n cs s u some small (λ p. t.failed (s - u) p (omega arith)))))
