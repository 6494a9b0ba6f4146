-- How partings of a set and of smaller sets go with each other.
use Rattle.std.proofs.Common.{◌≡◌, ℕ, suc, ◌^◌, ◌<◌, ◌≤◌, Bool, true, false, not, ◌&&◌, eqb, ltb, leb, ◌⊎◌, ℤ, pos, ◌+ℤ◌, sym, refl, ap, ◌∙◌, inl, inr, arith}
use Rattle.std.proofs.lemmas.Int.{ints}
use Rattle.std.proofs.lemmas.Bool.{both_ways, cases_lt}
use Rattle.std.proofs.lemmas.Bool.Decides.{nat_tests}
use Rattle.groups.proofs.Found.{found}
use Rattle.groups.proofs.SetLaws.{in_below, out_other}
use Rattle.groups.proofs.SumLaws.{groups_zero, pick_none, sum_add}
use Rattle.balances.proofs.SpansZ.{span_z_same}
use Rattle.groups.proofs.ZeroLaws.{cases_zero, not_zero, zero_no}
use Rattle.groups.specs.Parting.{Parted}
use Rattle.shares.specs.Bill.{pick}
use Rattle.groups.specs.Sets.{is_in, without}
use Rattle.groups.specs.Signs.{is_zero, sum_of, only}

-- no groups at all
pub no_groups : (f : ℕ → ℤ) (n s : ℕ) → Parted f n s 0
no_groups f n s =
    record {
      group = λ i. 0;
      among = λ i h. absurd (omega arith);
      inside = λ i h. absurd (omega arith);
      «open» = λ i h e. omega arith;
      some = λ j h. absurd (omega arith);
      even = λ j h. absurd (omega arith);
    }

-- groups whose people are in another set too
unfoldable pub moved : (f : ℕ → ℤ) (n s t g : ℕ) → (p : Parted f n s g) → ((i : ℕ) → p.group i < g → is_in t i ≡ true) → Parted f n t g
moved f n s t g p ins = record { group = p.group; among = p.among; inside = ins; «open» = p.open; some = p.some; even = p.even }

-- somebody who is not in the set is in no group
pub outside : (f : ℕ → ℤ) (n s g i : ℕ) → (p : Parted f n s g) → is_in s i ≡ false → g ≤ p.group i
outside f n s g i p e = elim (cases_lt (p.group i) g) [ inl l ↦ absurd (both_ways (is_in s i) e (p.inside i l)) | inr o ↦ o ]

-- somebody in no group can be taken out
pub smaller : (f : ℕ → ℤ) (n s g i : ℕ) → is_in s i ≡ true → (p : Parted f n s g) → g ≤ p.group i → Parted f n (without s i) g
smaller f n s g i e p out = moved f n s (without s i) g p (λ k h. out_other s i k e (λ q. omega (arith, ap p.group q)) ∙ p.inside k h)

-- a label with group a given up: the last of the groups takes its number
unfoldable relabel : ℕ → ℕ → ℕ → ℕ
relabel a g x = pick (eqb x a) (suc g) (pick (eqb x g) a x)

relabel_kept : (a g x : ℕ) → a ≤ g → relabel a g x < g → x < suc g
unfolding relabel
relabel_kept a g x le h = grind (arith, nat_tests)

relabel_free : (a g x : ℕ) → a ≡ pick (ltb x (suc g)) x g → g ≤ relabel a g x
unfolding relabel
relabel_free a g x e = grind (arith, nat_tests)

relabel_some : (a g x j : ℕ) → j < g → x ≡ pick (eqb j a) g j → relabel a g x ≡ j
unfolding relabel
relabel_some a g x j l e = grind (arith, nat_tests)

relabel_same : (a g x j : ℕ) → a ≤ g → j < g → eqb (relabel a g x) j ≡ eqb x (pick (eqb j a) g j)
unfolding relabel
relabel_same a g x j le l = grind (arith, nat_tests)

-- with one group less, anybody is in none
pub freed : (f : ℕ → ℤ) (n s g k : ℕ) → Parted f n s (suc g) → (p : Parted f n s g) × (g ≤ p.group k)
freed f n s g k p =
    let a : ℕ = pick (ltb (p.group k) (suc g)) (p.group k) g in
    let le : a ≤ g = grind (arith, nat_tests) in
    let old : ℕ → ℕ = λ j. pick (eqb j a) g j in
    let old_below : (j : ℕ) → j < g → old j < suc g = λ j l. grind (arith, nat_tests) in (
      record {
        group = λ i. relabel a g (p.group i);
        among = λ i h. p.among i (relabel_kept a g (p.group i) le h);
        inside = λ i h. p.inside i (relabel_kept a g (p.group i) le h);
        «open» = λ i h. p.open i (relabel_kept a g (p.group i) le h);
        some = λ j l. let o = p.some (old j) (old_below j l) in (o.0, relabel_some a g (p.group o.0) j l o.1);
        even = λ j l.
            span_z_same (only (λ i. eqb (relabel a g (p.group i)) j) f) (only (λ i. eqb (p.group i) (old j)) f) n
            (λ i m. rw (relabel_same a g (p.group i) j le l))
            ∙ p.even (old j) (old_below j l);
      },
      relabel_free a g (p.group k) refl,
    )

covered : (b : Bool) (x g : ℕ) (z : ℤ) → (x < g → b ≡ true) → (b && (not (is_zero z) && leb g x)) ≡ false → pick b z (pos 0) ≡ pick (ltb x g) z (pos 0)
covered b x g z ins out =
    elim (cases_zero z) [
      | inl e ↦ rw e (sym (pick_none b) ∙ pick_none (ltb x g))
      | inr ne ↦ let no_zero = zero_no z ne in grind (arith, nat_tests)
    ]

-- somebody open is in no group, or the people in the groups are all who are open, so that the set sums to 0
pub left_over : (f : ℕ → ℤ) (n s g : ℕ) → (p : Parted f n s g) → (sum_of f n s ≡ pos 0) ⊎ ((i : ℕ) × (i < n) × (is_in s i ≡ true) × (g ≤ p.group i))
unfolding sum_of
left_over f n s g p =
    elim (found (λ i. is_in s i && (not (is_zero (f i)) && leb g (p.group i))) n) [
      | inl h ↦ inr (h.0, h.1, grind (arith, nat_tests), grind (arith, nat_tests))
      | inr all ↦ inl (span_z_same (only (is_in s) f) (only (λ i. ltb (p.group i) g) f) n
          (λ i l. covered (is_in s i) (p.group i) g (f i) (p.inside i) (all i l))
          ∙ groups_zero f n g p.group p.even g (omega arith))
    ]

-- the label with those who are left over, if they are open, in one group more
unfoldable others : ℕ → ℕ → Bool → Bool → ℕ
others x g b e = pick (ltb x g) x (pick (b && not e) g (suc g))

others_in : (x g : ℕ) (b e : Bool) → others x g b e < suc g → (x < g) ⊎ ((b ≡ true) × (e ≡ false))
unfolding others
others_in x g b e h = elim (cases_lt x g) [ inl l ↦ inl l | inr o ↦ inr (grind (arith, nat_tests), grind (arith, nat_tests)) ]

others_same : (x g j : ℕ) (b e : Bool) → j < g → eqb (others x g b e) j ≡ eqb x j
unfolding others
others_same x g j b e l = grind (arith, nat_tests)

others_last : (x g : ℕ) (b e : Bool) → g ≤ x → b ≡ true → e ≡ false → others x g b e ≡ g
unfolding others
others_last x g b e le t u = grind (arith, nat_tests)

others_first : (x g j : ℕ) (b e : Bool) → j < g → x ≡ j → others x g b e ≡ j
unfolding others
others_first x g j b e l q = grind (arith, nat_tests)

others_rest : (x g : ℕ) (b : Bool) (z : ℤ) → (x < g → b ≡ true) →
    pick b z (pos 0) ≡ pick (ltb x g) z (pos 0) +ℤ pick (eqb (others x g b (is_zero z)) g) z (pos 0)
unfolding others
others_rest x g b z ins =
    elim (cases_zero z) [
      | inl e ↦ rw e (sym (pick_none b) ∙ twice (ltb x g) (eqb (others x g b (is_zero (pos 0))) g))
      | inr ne ↦ let no_zero = zero_no z ne in grind (arith, nat_tests, ints)
    ]
  where
    twice : (t u : Bool) → ◌≡◌ {A = ℤ} (pos 0) (pick t (pos 0) (pos 0) +ℤ pick u (pos 0) (pos 0))
    twice true true = refl
    twice true false = refl
    twice false true = refl
    twice false false = refl

-- a set that sums to 0, with somebody open in no group, has one group more: those who are left over
pub one_more : (f : ℕ → ℤ) (n s g k : ℕ) → s < 2 ^ n → sum_of f n s ≡ pos 0 → (p : Parted f n s g) →
    is_in s k ≡ true → (f k ≡ pos 0 → ⊥) → g ≤ p.group k → Parted f n s (suc g)
unfolding sum_of
one_more f n s g k small total p in-it is_open out =
    let label : ℕ → ℕ = λ i. others (p.group i) g (is_in s i) (is_zero (f i)) in
    let inside : (i : ℕ) → label i < suc g → is_in s i ≡ true =
    λ i h. elim (others_in (p.group i) g (is_in s i) (is_zero (f i)) h) [ inl l ↦ p.inside i l | inr o ↦ o.0 ] in
    record {
      group = label;
      among = λ i h. in_below n s i small (inside i h);
      inside = inside;
      «open» = λ i h. elim (others_in (p.group i) g (is_in s i) (is_zero (f i)) h) [ inl l ↦ p.open i l | inr o ↦ not_zero (f i) o.1 ];
      some = λ j h. elim (cases_lt j g) [
        | inl l ↦ ((p.some j l).0, others_first _ g j _ _ l (p.some j l).1)
        | inr m ↦ (k, others_last _ g _ _ out in-it (zero_no (f k) is_open) ∙ omega arith)
      ];
      even = λ j h. elim (cases_lt j g) [
        | inl l ↦ span_z_same (only (λ i. eqb (label i) j) f) (only (λ i. eqb (p.group i) j) f) n
            (λ i m. rw (others_same (p.group i) g j (is_in s i) (is_zero (f i)) l)) ∙ p.even j l
        | inr m ↦
            let e : j ≡ g = omega arith in
            let two = sum_add (only (is_in s) f) (only (λ i. ltb (p.group i) g) f) (only (λ i. eqb (label i) g) f) n
            (λ i m. others_rest (p.group i) g (is_in s i) (f i) (p.inside i)) in
            rw e (omega (arith, ints, two, total, groups_zero f n g p.group p.even g (omega arith)))
      ];
    }

-- groups inside a part of a set that sums to 0, with somebody open who is in the set and not in the part, leave one group more
pub gained : (f : ℕ → ℤ) (n s t k g : ℕ) → s < 2 ^ n → sum_of f n s ≡ pos 0 → is_in s k ≡ true → (f k ≡ pos 0 → ⊥) →
    ((i : ℕ) → is_in t i ≡ true → is_in s i ≡ true) → is_in t k ≡ false → Parted f n t g → Parted f n s (suc g)
unfolding moved
gained f n s t k g small total e ne sub out p =
    one_more f n s g k small total (moved f n t s g p (λ i l. sub i (p.inside i l))) e ne (outside f n t g k p out)
