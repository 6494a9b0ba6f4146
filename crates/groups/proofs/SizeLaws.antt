-- How many people a set has, and that there are no more groups than people.
use Rattle.std.proofs.Common.{◌≡◌, ℕ, zero, suc, ◌+◌, ◌-◌, ◌^◌, ◌<◌, ◌≤◌, Bool, true, not, ◌&&◌, eqb, ℤ, sym, refl, inl, inr, arith}
use Rattle.std.proofs.lemmas.Bool.{cases_eq, cases_lt, eq-eqb, ne_eqb}
use Rattle.groups.proofs.CountLaws.{count_empty, count_even, count_reached, count_sum}
use Rattle.groups.proofs.SetLaws.{in_below, minus_in, out_gone, out_less, out_other, part_in, smallest_below, smallest_in}
use Rattle.groups.proofs.Smaller.{by_smaller}
use Rattle.groups.proofs.SumLaws.{span_two}
use Rattle.shares.proofs.Spans.{at_most_span, span_at}
use Rattle.groups.proofs.ZeroLaws.{cases_zero}
use Rattle.groups.specs.Counts.{count}
use Rattle.shares.specs.Bill.{pick}
use Rattle.groups.specs.Sets.{is_in, is_part, size, smallest, without}
use Rattle.groups.specs.Signs.{sum_of}
use Rattle.shares.specs.Span.{span}

moved_out : (s i k : ℕ) → is_in s i ≡ true → pick {A = ℕ} (is_in s k) 1 0 ≡ pick (is_in (without s i) k) 1 0 + pick (eqb i k) 1 0
moved_out s i k e =
    elim (cases_eq k i) [
      | inl q ↦ rw (q, e, out_gone s i e, eq-eqb i i refl)
      | inr ne ↦ rw (out_other s i k e ne, ne_eqb i k (λ q. ne (sym q))) (omega arith)
    ]

pub size_out : (n s i : ℕ) → i < n → is_in s i ≡ true → size n (without s i) + 1 ≡ size n s
unfolding size
size_out n s i l e =
    let two = span_two (λ k. pick {A = ℕ} (is_in s k) 1 0) (λ k. pick (is_in (without s i) k) 1 0) (λ k. pick (eqb i k) 1 0) n
    (λ k m. moved_out s i k e) in
    omega (arith, span_at i 1 n l)

pub size_le : (n s : ℕ) → size n s ≤ n
unfolding size span
size_le zero s = omega arith
size_le (suc n) s = let ih = size_le n s in grind arith

size_step : (f : ℕ → ℤ) (n s : ℕ) → ((t : ℕ) → t < s → t < 2 ^ n → count f n t ≤ size n t) → s < 2 ^ n → count f n s ≤ size n s
size_step f n s ih small =
    elim (cases_lt 0 s) [
      | inr z ↦ let e : s ≡ 0 = omega arith in rw e (omega (arith, count_empty f n))
      | inl some ↦
          let k : ℕ = smallest n s in
          let kin : is_in s k ≡ true = smallest_in n s some small in
          let less : (i : ℕ) → is_in s i ≡ true → count f n (without s i) + 1 ≤ size n s =
          λ i e. omega (arith, ih (without s i) (out_less s i e) (omega (arith, out_less s i e)), size_out n s i (in_below n s i small e) e) in
          elim (cases_zero (f k)) [
            | inl e ↦ omega (arith, count_even f n s some small e, less k kin)
            | inr ne ↦ elim (cases_zero (sum_of f n s)) [
              | inl total ↦ omega (arith, count_sum f n s some small ne total, less k kin)
              | inr no-sum ↦ elim (count_reached f n s some ne no-sum) [
                | inl z ↦ omega arith
                | inr o ↦ omega (arith, less o.0 o.1, o.2)
              ]
            ]
          ]
    ]

pub count_size : (f : ℕ → ℤ) (n s : ℕ) → s < 2 ^ n → count f n s ≤ size n s
count_size f n = by_smaller (λ s. s < 2 ^ n → count f n s ≤ size n s) (size_step f n)

-- and so than people there are
pub count_le : (f : ℕ → ℤ) (n s : ℕ) → s < 2 ^ n → count f n s ≤ n
count_le f n s small = omega (arith, count_size f n s small, size_le n s)

-- a set has as many people as a part and the rest
pub size_minus : (n t s : ℕ) → is_part t s ≡ true → size n s ≡ size n t + size n (s - t)
unfolding size
size_minus n t s p =
    span_two (λ i. pick {A = ℕ} (is_in s i) 1 0) (λ i. pick (is_in t i) 1 0) (λ i. pick (is_in (s - t) i) 1 0) n
    (λ i l. rw (minus_in t s i p) (two (is_in t i) (is_in s i) (part_in t s i p)))
  where
    two : (a b : Bool) → (a ≡ true → b ≡ true) → pick {A = ℕ} b 1 0 ≡ pick a 1 0 + pick (b && not a) 1 0
    two a b ins = grind arith

pub size_some : (n s i : ℕ) → i < n → is_in s i ≡ true → 0 < size n s
unfolding size
size_some n s i l e = let one : pick {A = ℕ} (is_in s i) 1 0 ≡ 1 = rw e in omega (arith, at_most_span (λ i. pick {A = ℕ} (is_in s i) 1 0) n i l)

-- a set with somebody has a size
pub size_of_some : (n s : ℕ) → 0 < s → s < 2 ^ n → 0 < size n s
size_of_some n s some small = size_some n s (smallest n s) (smallest_below n s some small) (smallest_in n s some small)
