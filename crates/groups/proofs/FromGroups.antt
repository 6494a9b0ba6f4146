-- From groups of balances in two whole numbers, a parting of the signed ones.
use Rattle.std.proofs.Common.{◌≡◌, ℕ, ◌<◌, false, not, ◌&&◌, eqb, ltb, ℤ, pos, sym, ◌∙◌, inl, inr, arith}
use Rattle.std.proofs.lemmas.Int.{ints}
use Rattle.std.proofs.lemmas.Bool.Decides.{nat_tests}
use Rattle.groups.proofs.SetLaws.{everyone_in}
use Rattle.groups.proofs.Sides.{sides_zero}
use Rattle.groups.proofs.SumLaws.{pick_none}
use Rattle.balances.proofs.SpansZ.{span_z_same}
use Rattle.groups.proofs.ZeroLaws.{cases_zero, not_zero, zero_no}
use Rattle.groups.specs.Groups.{Groups}
use Rattle.groups.specs.Parting.{Parted}
use Rattle.shares.specs.Bill.{pick}
use Rattle.groups.specs.Sets.{everyone}
use Rattle.balances.specs.Signed.{debt, signed}
use Rattle.groups.specs.Signs.{is_zero, only}

-- of groups of balances, those who are even left out, a parting
unfoldable strict : ℕ → ℕ → ℕ → ℕ → ℤ → ℕ
strict x h n i z = pick (ltb i n && not (is_zero z)) x h

strict_below : (x h n i : ℕ) (z : ℤ) → strict x h n i z < h → (i < n) × (is_zero z ≡ false)
unfolding strict
strict_below x h n i z l = (grind (arith, nat_tests), grind (arith, nat_tests))

strict_same : (x h n i j : ℕ) (z : ℤ) → i < n → j < h → pick (eqb (strict x h n i z) j) z (pos 0) ≡ pick (eqb x j) z (pos 0)
unfolding strict
strict_same x h n i j z l m =
    elim (cases_zero z) [
      | inl e ↦ rw e (sym (pick_none (eqb (strict x h n i (pos 0)) j)) ∙ pick_none (eqb x j))
      | inr ne ↦ let no_zero = zero_no z ne in grind (arith, nat_tests)
    ]

strict_some : (x h n i j : ℕ) (z : ℤ) → i < n → x ≡ j → 0 < debt z → strict x h n i z ≡ j
unfolding strict
strict_some x h n i j z l e owes = let no_zero = zero_no z (omega (arith, ints)) in grind (arith, nat_tests)

pub from_groups : (f : ℕ → ℤ) (n h : ℕ) → Groups (signed n f) h → Parted f n (everyone n) h
from_groups f n h g =
    let label : ℕ → ℕ = λ i. strict (g.group i) h n i (f i) in
    let known : (i : ℕ) → label i < h → (i < n) × (is_zero (f i) ≡ false) = λ i l. strict_below (g.group i) h n i (f i) l in
    record {
      group = label;
      among = λ i l. (known i l).0;
      inside = λ i l. everyone_in n i (known i l).0;
      «open» = λ i l. not_zero (f i) (known i l).1;
      some = λ j l. let o = g.some j l in (o.0, strict_some _ h n o.0 j (f o.0) o.1 o.2 o.3);
      even = λ j l.
          span_z_same (only (λ i. eqb (label i) j) f) (only (λ i. eqb (g.group i) j) f) n
          (λ i m. strict_same (g.group i) h n i j (f i) m l)
          ∙ sides_zero (λ i. eqb (g.group i) j) f n (g.even j l);
    }
