-- The chosen set is the least group with which the greatest number is reached.
use Rattle.std.proofs.Common.{◌≡◌, ℕ, suc, ◌+◌, ◌-◌, ◌^◌, ◌<◌, Bool, true, false, ◌&&◌, eqb, List, get_or, ℤ, pos, arith}
use Rattle.std.proofs.lemmas.Bool.{and_from, and_parts, eq-eqb, eqb-true}
use Rattle.groups.proofs.CountLaws.{count_sum}
use Rattle.groups.proofs.First.{first_passes, first_there}
use Rattle.groups.proofs.LeftOver.{there_is}
use Rattle.groups.proofs.SetLaws.{part_le, smallest_in}
use Rattle.groups.proofs.ZeroLaws.{zero_is, zero_yes}
use Rattle.groups.specs.Counts.{count}
use Rattle.groups.specs.Fixed.{chosen, first_of, reaches}
use Rattle.groups.specs.Sets.{is_in, is_part, smallest}
use Rattle.groups.specs.Signs.{AllOpen, is_zero, sum_of}

-- the chosen set is such a group
pub record Chosen (f : ℕ → ℤ) (n s t : ℕ) : Type 0 where
  pub part : is_part t s ≡ true
  pub low : is_in t (smallest n s) ≡ true
  pub even : sum_of f n t ≡ pos 0
  pub left : count f n (s - t) + 1 ≡ count f n s

-- a list that has the counts of all sets of n people
abbrev pub CountsIn : (ℕ → ℤ) → ℕ → List ℕ → Type 0
CountsIn f n cs = (k : ℕ) → k < 2 ^ n → get_or cs k 0 ≡ count f n k

reaches_from : (f : ℕ → ℤ) (n : ℕ) (cs : List ℕ) (s t : ℕ) → CountsIn f n cs → s < 2 ^ n → Chosen f n s t → reaches f n cs s t ≡ true
unfolding reaches
reaches_from f n cs s t have small c =
    and_from _ _ c.part (and_from _ _ c.low (and_from _ _ (zero_yes (sum_of f n t) c.even)
    (eq-eqb _ _ (omega (arith, have (s - t) (omega arith), have s small, c.left)))))

reaches_to : (f : ℕ → ℤ) (n : ℕ) (cs : List ℕ) (s t : ℕ) → CountsIn f n cs → s < 2 ^ n → reaches f n cs s t ≡ true → Chosen f n s t
unfolding reaches
reaches_to f n cs s t have small e =
    let a = and_parts (is_part t s) _ e in
    let b = and_parts (is_in t (smallest n s)) _ a.1 in
    let d = and_parts (is_zero (sum_of f n t)) _ b.1 in
    let q = eqb-true (get_or cs (s - t) 0 + 1) (get_or cs s 0) d.1 in
    record { part = a.0; low = b.0; even = zero_is (sum_of f n t) d.0; left = omega (arith, have (s - t) (omega arith), have s small) }

pub chosen_is : (f : ℕ → ℤ) (n : ℕ) (cs : List ℕ) (s : ℕ) → CountsIn f n cs →
    0 < s → s < 2 ^ n → sum_of f n s ≡ pos 0 → AllOpen f s → Chosen f n s (chosen f n cs s)
unfolding chosen
chosen_is f n cs s have some small total all =
    let kin = smallest_in n s some small in
    let ne = all (smallest n s) kin in
    let w = there_is f n s (smallest n s) small total kin ne (count_sum f n s some small ne total) in
    let p : ℕ → Bool = reaches f n cs s in
    let at-w : p w.0 ≡ true = reaches_from f n cs s w.0 have small (record { part = w.1; low = w.2; even = w.3; left = w.4 }) in
    let l = part_le w.0 s w.1 in
    reaches_to f n cs s (first_of p (suc s)) have small (first_passes p (suc s) (omega (arith, first_there p (suc s) w.0 (omega arith) at-w)))

-- the tests one by one, over any list of counts
module _ (f : ℕ → ℤ) (n : ℕ) (cs : List ℕ) (s t : ℕ) where
  pub no_part : is_part t s ≡ false → reaches f n cs s t ≡ false
  unfolding reaches
  no_part e = rw e

  pub no_low : is_part t s ≡ true → is_in t (smallest n s) ≡ false → reaches f n cs s t ≡ false
  unfolding reaches
  no_low p e = rw (p, e)

  pub if_both : is_part t s ≡ true → is_in t (smallest n s) ≡ true → reaches f n cs s t ≡ (is_zero (sum_of f n t) && eqb (get_or cs (s - t) 0 + 1) (get_or cs s 0))
  unfolding reaches
  if_both p e = rw (p, e)
