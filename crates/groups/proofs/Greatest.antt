-- The count is the greatest number of groups.
use Rattle.std.proofs.Common.{◌≡◌, ℕ, zero, suc, ◌+◌, ◌^◌, ◌<◌, ◌≤◌, true, ℤ, refl, inl, inr, add-one, arith}
use Rattle.std.proofs.lemmas.Bool.{both_ways, cases_lt}
use Rattle.groups.proofs.CountLaws.{count_bound, count_empty, count_even, count_reached, count_sum}
use Rattle.groups.proofs.Partings.{freed, gained, left_over, moved, no_groups, smaller}
use Rattle.groups.proofs.SetLaws.{in_empty, out_gone, out_less, out_sub, smallest_in}
use Rattle.groups.proofs.Smaller.{by_smaller}
use Rattle.groups.proofs.ZeroLaws.{cases_zero}
use Rattle.groups.specs.Counts.{count}
use Rattle.groups.specs.Parting.{Parted}
use Rattle.groups.specs.Sets.{is_in, smallest, without}
use Rattle.groups.specs.Signs.{sum_of}
use Rattle.groups.specs.Theorems.{GreatestCount}

-- inside the empty set there is no group
empty_none : (f : ℕ → ℤ) (n h : ℕ) → Parted f n 0 h → h ≡ 0
empty_none f n zero p = refl
empty_none f n (suc h) p =
    let o = p.some 0 (omega arith) in
    absurd (both_ways (is_in 0 o.0) (in_empty o.0) (p.inside o.0 (omega arith)))

-- with the smallest person taken out, at most one group is lost
one_lost : (f : ℕ → ℤ) (n s k h : ℕ) → is_in s k ≡ true → ((g : ℕ) → Parted f n (without s k) g → g ≤ count f n (without s k)) →
    Parted f n s h → h ≤ count f n (without s k) + 1
one_lost f n s k zero e ih p = omega arith
one_lost f n s k (suc h) e ih p =
    let q = freed f n s h k p in
    omega (arith, ih h (smaller f n s h k e q.0 q.1))

-- no family of groups inside s has more than its count
upper_step : (f : ℕ → ℤ) (n s : ℕ) → ((t : ℕ) → t < s → t < 2 ^ n → (h : ℕ) → Parted f n t h → h ≤ count f n t) →
    s < 2 ^ n → (h : ℕ) → Parted f n s h → h ≤ count f n s
upper_step f n s ih small h p =
    elim (cases_lt 0 s) [
      | inr z ↦ let e : s ≡ 0 = omega arith in omega (arith, empty_none f n h (rw e at p))
      | inl some ↦
          let k : ℕ = smallest n s in
          let kin : is_in s k ≡ true = smallest_in n s some small in
          let bound : (i : ℕ) → is_in s i ≡ true → (g : ℕ) → Parted f n (without s i) g → g ≤ count f n (without s i) =
          λ i e. ih (without s i) (out_less s i e) (omega (arith, out_less s i e)) in
          elim (cases_zero (f k)) [
            | inl e ↦ elim (cases_lt (p.group k) h) [
              | inl l ↦ absurd (p.open k l e)
              | inr o ↦ omega (arith, count_even f n s some small e, bound k kin h (smaller f n s h k kin p o))
            ]
            | inr ne ↦ elim (cases_zero (sum_of f n s)) [
              | inl total ↦ omega (arith, count_sum f n s some small ne total, one_lost f n s k h kin (bound k kin) p)
              | inr no-sum ↦ elim (left_over f n s h p) [
                | inl total ↦ absurd (no-sum total)
                | inr o ↦
                    omega (arith, count_bound f n s some ne no-sum o.0 o.1 o.2, bound o.0 o.2 h (smaller f n s h o.0 o.2 p o.3))
              ]
            ]
          ]
    ]

pub at_most : (f : ℕ → ℤ) (n s : ℕ) → s < 2 ^ n → (h : ℕ) → Parted f n s h → h ≤ count f n s
at_most f n = by_smaller (λ s. s < 2 ^ n → (h : ℕ) → Parted f n s h → h ≤ count f n s) (upper_step f n)

-- and there is one that has so many
lower_step : (f : ℕ → ℤ) (n s : ℕ) → ((t : ℕ) → t < s → t < 2 ^ n → Parted f n t (count f n t)) → s < 2 ^ n → Parted f n s (count f n s)
lower_step f n s ih small =
    elim (cases_lt 0 s) [
      | inr z ↦ let e : s ≡ 0 = omega arith in rw (e, count_empty f n) (no_groups f n 0)
      | inl some ↦
          let k : ℕ = smallest n s in
          let kin : is_in s k ≡ true = smallest_in n s some small in
          let wider : (i g : ℕ) → is_in s i ≡ true → Parted f n (without s i) g → Parted f n s g =
          λ i g e p. moved f n (without s i) s g p (λ j l. out_sub s i j e (p.inside j l)) in
          let best : (i : ℕ) → is_in s i ≡ true → Parted f n (without s i) (count f n (without s i)) =
          λ i e. ih (without s i) (out_less s i e) (omega (arith, out_less s i e)) in
          elim (cases_zero (f k)) [
            | inl e ↦ rw (count_even f n s some small e) (wider k _ kin (best k kin))
            | inr ne ↦ elim (cases_zero (sum_of f n s)) [
              | inl total ↦ rw (count_sum f n s some small ne total, add-one)
                  (gained f n s (without s k) k _ small total kin ne (λ i. out_sub s k i kin) (out_gone s k kin) (best k kin))
              | inr no-sum ↦ elim (count_reached f n s some ne no-sum) [
                | inl z ↦ rw z (no_groups f n s)
                | inr o ↦ rw o.2 (wider o.0 _ o.1 (best o.0 o.1))
              ]
            ]
          ]
    ]

pub reached : (f : ℕ → ℤ) (n s : ℕ) → s < 2 ^ n → Parted f n s (count f n s)
reached f n = by_smaller (λ s. s < 2 ^ n → Parted f n s (count f n s)) (lower_step f n)

pub greatest_count : GreatestCount
greatest_count f n s small = (at_most f n s small, reached f n s small)
