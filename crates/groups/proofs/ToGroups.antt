-- From a parting of signed balances that come out even, groups of balances in two whole numbers.
use Rattle.std.proofs.Common.{◌≡◌, ℕ, zero, suc, ◌<◌, Bool, true, eqb, ltb, leb, ℤ, pos, ◌+ℤ◌, ap, ◌∙◌, inl, inr, arith}
use Rattle.std.proofs.lemmas.Int.{ints}
use Rattle.std.proofs.lemmas.Bool.{cases_lt, eq-eqb, eqb-true}
use Rattle.std.proofs.lemmas.Bool.Decides.{nat_tests}
use Rattle.groups.proofs.Greatest.{at_most, reached}
use Rattle.groups.proofs.Partings.{no_groups, one_more}
use Rattle.groups.proofs.SetLaws.{everyone_below, everyone_in}
use Rattle.groups.proofs.Sides.{sides_even, somebody_owes}
use Rattle.groups.proofs.SumLaws.{groups_zero, sum_add}
use Rattle.balances.proofs.SpansZ.{span_z_same}
use Rattle.groups.proofs.ZeroLaws.{cases_zero}
use Rattle.groups.specs.Counts.{count}
use Rattle.groups.specs.Groups.{Groups}
use Rattle.groups.specs.Parting.{Parted}
use Rattle.shares.specs.Bill.{pick}
use Rattle.groups.specs.Sets.{everyone, is_in}
use Rattle.balances.specs.Signed.{signed, credit, debt, span_z}
use Rattle.groups.specs.Signs.{sum_of, only}
use Rattle.shares.specs.Span.{span}

-- a label with those who are in no group put into the first
unfoldable joined : ℕ → ℕ → ℕ
joined g x = pick (ltb x g) x 0

joined_below : (g x : ℕ) → 0 < g → joined g x < g
unfolding joined
joined_below g x some = grind (arith, nat_tests)

joined_kept : (g x j : ℕ) → j < g → x ≡ j → joined g x ≡ j
unfolding joined
joined_kept g x j l e = grind (arith, nat_tests)

joined_same : (g x j : ℕ) → 0 < j → j < g → eqb (joined g x) j ≡ eqb x j
unfolding joined
joined_same g x j some l = grind (arith, nat_tests)

joined_first : (g x : ℕ) (z : ℤ) → 0 < g → pick (eqb (joined g x) 0) z (pos 0) ≡ pick (eqb x 0) z (pos 0) +ℤ pick (leb g x) z (pos 0)
unfolding joined
joined_first g x z some = grind (arith, nat_tests, ints)

parts : (b : Bool) (g x : ℕ) (z : ℤ) → b ≡ true → pick b z (pos 0) ≡ pick (ltb x g) z (pos 0) +ℤ pick (leb g x) z (pos 0)
parts b g x z e = grind (arith, nat_tests, ints)

-- each group comes out even with them, where all sum to 0
joined_even : (f : ℕ → ℤ) (n g : ℕ) → sum_of f n (everyone n) ≡ pos 0 → (p : Parted f n (everyone n) g) →
    (j : ℕ) → j < g → span_z (only (λ i. eqb (joined g (p.group i)) j) f) n ≡ pos 0
unfolding sum_of
joined_even f n g total p zero l =
    let all = sum_add (only (is_in (everyone n)) f) (only (λ i. ltb (p.group i) g) f) (only (λ i. leb g (p.group i)) f) n
    (λ i m. parts (is_in (everyone n) i) g (p.group i) (f i) (everyone_in n i m)) in
    let first = sum_add (only (λ i. eqb (joined g (p.group i)) 0) f) (only (λ i. eqb (p.group i) 0) f) (only (λ i. leb g (p.group i)) f) n
    (λ i m. joined_first g (p.group i) (f i) l) in
    omega (arith, ints, all, first, total, p.even 0 l, groups_zero f n g p.group p.even g (omega arith))
joined_even f n g total p (suc j) l =
    span_z_same (only (λ i. eqb (joined g (p.group i)) (suc j)) f) (only (λ i. eqb (p.group i) (suc j)) f) n
    (λ i m. rw (joined_same g (p.group i) (suc j) (omega arith) l))
    ∙ p.even (suc j) l

pub to_groups : (f : ℕ → ℤ) (n g : ℕ) → 0 < g → sum_of f n (everyone n) ≡ pos 0 → Parted f n (everyone n) g → Groups (signed n f) g
to_groups f n g some total p =
    let label : ℕ → ℕ = λ i. joined g (p.group i) in
    let even : (j : ℕ) → j < g → span (λ i. pick (eqb (label i) j) (debt (f i)) 0) n ≡ span (λ i. pick (eqb (label i) j) (credit (f i)) 0) n =
    λ j l. sides_even (λ i. eqb (label i) j) f n (joined_even f n g total p j l) in
    record {
      group = label;
      below = λ i m o. joined_below g (p.group i) some;
      even = even;
      some = λ j l.
          let o = p.some j l in
          let lo : p.group o.0 < g = omega arith in
          let is : eqb (label o.0) j ≡ true = eq-eqb (label o.0) j (joined_kept g (p.group o.0) j l o.1) in
          let w = somebody_owes (λ i. eqb (label i) j) f n o.0 (even j l) (p.among o.0 lo) is (p.open o.0 lo) in
          (w.0, w.1, eqb-true (label w.0) j w.2, w.3);
    }

-- with no group inside the set of all, nobody is open
nobody_open : (f : ℕ → ℤ) (n : ℕ) → sum_of f n (everyone n) ≡ pos 0 → count f n (everyone n) ≡ 0 → (i : ℕ) → i < n → f i ≡ pos 0
nobody_open f n total c i l =
    elim (cases_zero (f i)) [
      | inl e ↦ e
      | inr ne ↦
          let one = one_more f n (everyone n) 0 i (everyone_below n) total (no_groups f n (everyone n)) (everyone_in n i l) ne (omega arith) in
          absurd (omega (arith, at_most f n (everyone n) (everyone_below n) 1 one))
    ]

empty_groups : (f : ℕ → ℤ) (n : ℕ) → ((i : ℕ) → i < n → f i ≡ pos 0) → Groups (signed n f) 0
empty_groups f n all =
    record {
      group = λ i. 0;
      below = λ i l o. omega (arith, ap credit (all i l), ap debt (all i l));
      even = λ j l. absurd (omega arith);
      some = λ j l. absurd (omega arith);
    }

pub groups_there : (f : ℕ → ℤ) (n : ℕ) → sum_of f n (everyone n) ≡ pos 0 → Groups (signed n f) (count f n (everyone n))
groups_there f n total =
    elim (cases_lt 0 (count f n (everyone n))) [
      | inl some ↦ to_groups f n (count f n (everyone n)) some total (reached f n (everyone n) (everyone_below n))
      | inr no-group ↦
          let c : count f n (everyone n) ≡ 0 = omega arith in
          rw c (empty_groups f n (nobody_open f n total c))
    ]
