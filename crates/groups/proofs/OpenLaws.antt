-- The set of those who are open has the sum and the count of all.
use Rattle.std.proofs.Common.{◌≡◌, ℕ, ◌^◌, ◌<◌, true, not, ◌&&◌, ◌⊎◌, ℤ, pos, sym, ◌∙◌, inl, inr, arith}
use Rattle.std.proofs.lemmas.Bool.{and_from, and_parts, cases_lt, not_from_false, not-true}
use Rattle.groups.proofs.Greatest.{at_most, reached}
use Rattle.groups.proofs.Partings.{moved}
use Rattle.groups.proofs.SetLaws.{everyone_below, everyone_in, not_in, set_below, set_in}
use Rattle.groups.proofs.SumLaws.{pick_none}
use Rattle.balances.proofs.SpansZ.{span_z_same}
use Rattle.groups.proofs.ZeroLaws.{cases_zero, not_zero, zero_no}
use Rattle.groups.specs.Counts.{count}
use Rattle.shares.specs.Bill.{pick}
use Rattle.groups.specs.Sets.{everyone, is_in, set_of}
use Rattle.groups.specs.Signs.{AllOpen, is_zero, open_of, sum_of, only}
use Rattle.balances.specs.Signed.{span_z}

-- the set of those who are open
pub open_in : (f : ℕ → ℤ) (n i : ℕ) → is_in (open_of f n) i ≡ (is_in (everyone n) i && not (is_zero (f i)))
unfolding open_of
open_in f n i =
    elim (cases_lt i n) [
      | inl l ↦ rw (everyone_in n i l) (set_in (λ i. not (is_zero (f i))) n i l)
      | inr o ↦ rw (not_in n (everyone n) i (everyone_below n) o) (not_in n (set_of (λ i. not (is_zero (f i))) n) i (set_below (λ i. not (is_zero (f i))) n) o)
    ]

pub open_below : (f : ℕ → ℤ) (n : ℕ) → open_of f n < 2 ^ n
unfolding open_of
open_below f n = set_below (λ i. not (is_zero (f i))) n

pub open_all : (f : ℕ → ℤ) (n : ℕ) → AllOpen f (open_of f n)
open_all f n i h =
    not_zero (f i) (not-true (is_zero (f i)) (and_parts (is_in (everyone n) i) (not (is_zero (f i))) (sym (open_in f n i) ∙ h)).1)

pub open_sum : (f : ℕ → ℤ) (n : ℕ) → sum_of f n (open_of f n) ≡ sum_of f n (everyone n)
unfolding sum_of
open_sum f n =
    span_z_same (only (is_in (open_of f n)) f) (only (is_in (everyone n)) f) n
    (λ i l. rw (open_in f n i, everyone_in n i l) (at (f i) (cases_zero (f i))))
  where
    at : (z : ℤ) → (z ≡ pos 0) ⊎ (z ≡ pos 0 → ⊥) → pick (true && not (is_zero z)) z (pos 0) ≡ z
    at z c = elim c [ inl e ↦ rw e (sym (pick_none (not (is_zero (pos 0))))) | inr ne ↦ rw (zero_no z ne) ]

pub open_count : (f : ℕ → ℤ) (n : ℕ) → count f n (open_of f n) ≡ count f n (everyone n)
open_count f n =
    let p = reached f n (open_of f n) (open_below f n) in
    let q = reached f n (everyone n) (everyone_below n) in
    let a = at_most f n (everyone n) (everyone_below n) _ (moved f n (open_of f n) (everyone n) _ p (λ i l. everyone_in n i (p.among i l))) in
    let b = at_most f n (open_of f n) (open_below f n) _ (moved f n (everyone n) (open_of f n) _ q
    (λ i l. open_in f n i ∙ and_from _ _ (everyone_in n i (q.among i l)) (not_from_false (is_zero (f i)) (zero_no (f i) (q.open i l))))) in
    omega arith

-- the sum over everyone is the sum over the first n
pub everyone_sum : (f : ℕ → ℤ) (n : ℕ) → sum_of f n (everyone n) ≡ span_z f n
unfolding sum_of
everyone_sum f n = span_z_same (only (is_in (everyone n)) f) f n (λ i l. rw (everyone_in n i l))
