-- The payments of one group settle it.
use Rattle.std.proofs.Common.{◌≡◌, ℕ, zero, suc, ◌+◌, ◌-◌, ◌<◌, ◌≤◌, min, Bool, true, false, ◌&&◌, eqb, ltb, List, [], ◌∷◌, length, sym, refl, ap, subst, inl, inr, arith}
use Rattle.std.proofs.lemmas.Bool.{cases_eq, cases_order, cases_Bool, eq-eqb, ne_eqb, and_parts, and_cases, ltb-true, ltb-false}
use Rattle.shares.specs.Bill.{pick}
use Rattle.shares.specs.Span.{span}
use Rattle.groups.specs.SetsPart.{in_group}
use Rattle.book.specs.Ledger.{Payment}
use Rattle.settlement.specs.Settle.{out, into, money}
use Rattle.settlement.specs.Paying.{first, has, less_at, group_payments}
use Rattle.shares.proofs.Spans.{span_add, span_same, span_zero, at_most_span, span_one}
use Rattle.settlement.proofs.Classes.{Among}
use Rattle.settlement.proofs.Firsts.{first_passes, first_least}

-- 1 for who owes or is owed anything
abbrev pub one_open : (ℕ → ℕ) → (ℕ → ℕ) → ℕ → ℕ
one_open owes owed i = pick (ltb 0 (owes i + owed i)) 1 0

-- nobody owes and is owed
abbrev pub OneSide : ℕ → (ℕ → ℕ) → (ℕ → ℕ) → Type 0
OneSide n owes owed = (i : ℕ) → i < n → 0 < owes i → owed i ≡ 0

-- payments that settle a group, at least one fewer than it has open people
pub record Paid (n : ℕ) (m : ℕ → Bool) (owes owed : ℕ → ℕ) (ps : List Payment) : Type 0 where
  pub there : Among n ps
  pub quits : (i : ℕ) → i < n → pick (m i) (owes i) 0 + into ps i ≡ pick (m i) (owed i) 0 + out ps i
  pub moves : money ps ≡ in_group n m owes
  pub few : length ps + pick (ltb 0 (in_group n m (one_open owes owed))) 1 0 ≤ in_group n m (one_open owes owed)

-- 1 where x is paid off by y
abbrev paid_off : ℕ → ℕ → ℕ
paid_off x y = pick (ltb y x) 0 1

-- who owes x and pays the lesser of x and y owes nothing more unless y is below x
shut : (x y a : ℕ) → a ≡ min x y → 0 < x → 0 < y → ◌≡◌ {A = ℕ} (pick (ltb 0 (x + 0)) 1 0) (paid_off x y + (0 + pick (ltb 0 (x - a + 0)) 1 0))
shut x y a e h k = grind arith

-- k payments for c' open people, and one more for the c before it
count_less : (x y c c' k : ℕ) → c ≡ paid_off x y + (paid_off y x + c') → ((x ≡ y → ⊥) → 0 < c') → k + pick (ltb 0 c') 1 0 ≤ c' →
    suc k + pick (ltb 0 c) 1 0 ≤ c
count_less x y c c' k e h l = grind arith

module _ (n : ℕ) (m : ℕ → Bool) where
  -- where nobody of a group has anything open, no payment settles it
  closed : (owes owed : ℕ → ℕ) → ((i : ℕ) → i < n → pick (m i) (owes i) 0 + pick (m i) (owed i) 0 ≡ 0) → Paid n m owes owed []
  unfolding out into money
  closed owes owed h = record {
    there = tt;
    quits = λ i l. omega (arith, h i l);
    moves = omega (arith, span_zero (λ i. pick (m i) (owes i) 0) n (λ i l. omega (arith, h i l)));
    few = grind (arith, span_zero (λ i. pick (m i) (one_open owes owed i) 0) n (λ i l. grind (arith, h i l)));
  }

  -- a taken off at p
  apart : (f : ℕ → ℕ) (p a i : ℕ) → m p ≡ true → a ≤ f p → pick (m i) (f i) 0 ≡ pick (eqb p i) a 0 + pick (m i) (less_at f p a i) 0
  apart f p a i t le = grind arith

  -- a sum with a taken off at p
  taken : (f : ℕ → ℕ) (p a : ℕ) → p < n → m p ≡ true → a ≤ f p → in_group n m f ≡ a + in_group n m (less_at f p a)
  taken f p a l t le =
      let e = span_same (λ i. pick (m i) (f i) 0) (λ i. pick (eqb p i) a 0 + pick (m i) (less_at f p a i) 0) n (λ i l. apart f p a i t le) in
      let o : span (λ i. pick (eqb p i) a 0) n ≡ a = grind (arith, span_one p a n) in
      omega (arith, span_add (λ i. pick (eqb p i) a 0) (λ i. pick (m i) (less_at f p a i) 0) n)

  -- a group with an open person is open
  pub still : (f g : ℕ → ℕ) (i : ℕ) → i < n → m i ≡ true → 0 < f i + g i → 0 < in_group n m (one_open f g)
  still f g i l t h = grind (arith, at_most_span (λ i. pick (m i) (one_open f g i) 0) n i l)

  module _ (owes owed : ℕ → ℕ) (one : OneSide n owes owed) (p q a : ℕ) (a-is : a ≡ min (owes p) (owed q))
      (p-in : p < n) (p-of : m p ≡ true) (p-has : 0 < owes p) (q-in : q < n) (q-of : m q ≡ true) (q-has : 0 < owed q) where
    abbrev owes' : ℕ → ℕ
    owes' = less_at owes p a

    abbrev owed' : ℕ → ℕ
    owed' = less_at owed q a

    one_side' : OneSide n owes' owed'
    one_side' i l h = grind (arith, one i l)

    -- person i counts as before, less the one or two who are paid off
    abbrev Closes : ℕ → Type 0
    Closes i =
        pick (m i) (one_open owes owed i) 0 ≡ pick (eqb p i) (paid_off (owes p) (owed q)) 0 +
        (pick (eqb q i) (paid_off (owed q) (owes p)) 0 + pick (m i) (one_open owes' owed' i) 0)

    at_p : Closes p
    at_p =
        let z : owed p ≡ 0 = one p p-in p-has in
        let s : eqb p p ≡ true = eq-eqb p p refl in
        let d : eqb q p ≡ false = ne_eqb q p (λ e. let y : owed q ≡ owed p = ap owed e in omega arith) in
        rw (s, d, p-of, z) (shut (owes p) (owed q) a a-is p-has q-has)

    at_q : Closes q
    at_q =
        let z : owed p ≡ 0 = one p p-in p-has in
        let o : owes q ≡ 0 = grind (arith, one q q-in) in
        let s : eqb q q ≡ true = eq-eqb q q refl in
        let d : eqb p q ≡ false = ne_eqb p q (λ e. let y : owed p ≡ owed q = ap owed e in omega arith) in
        rw (s, d, q-of, o) (grind arith)

    -- who is paid off is open no more
    fewer : in_group n m (one_open owes owed) ≡ paid_off (owes p) (owed q) + (paid_off (owed q) (owes p) + in_group n m (one_open owes' owed'))
    fewer =
        let x : ℕ = paid_off (owes p) (owed q) in
        let y : ℕ = paid_off (owed q) (owes p) in
        let e = span_same (λ i. pick (m i) (one_open owes owed i) 0)
        (λ i. pick (eqb p i) x 0 + (pick (eqb q i) y 0 + pick (m i) (one_open owes' owed' i) 0)) n
        (λ i l. elim (cases_eq p i) [
          | inl e ↦ subst Closes e at_p
          | inr d ↦ elim (cases_eq q i) [ inl e ↦ subst Closes e at_q | inr f ↦ grind arith ]
        ]) in
        let ox : span (λ i. pick (eqb p i) x 0) n ≡ x = grind (arith, span_one p x n) in
        let oy : span (λ i. pick (eqb q i) y 0) n ≡ y = grind (arith, span_one q y n) in
        omega (
          arith,
          span_add (λ i. pick (eqb p i) x 0) (λ i. pick (eqb q i) y 0 + pick (m i) (one_open owes' owed' i) 0) n,
          span_add (λ i. pick (eqb q i) y 0) (λ i. pick (m i) (one_open owes' owed' i) 0) n,
        )

    -- one payment, and then what settles the rest
    step : (ps : List Payment) → Paid n m owes' owed' ps → Paid n m owes owed (record { from = p; to = q; amount = a } ∷ ps)
    unfolding out into money
    step ps d = record {
      there = ((p-in, q-in), d.there);
      quits = λ i l. omega (arith, d.quits i l, apart owes p a i p-of (omega arith), apart owed q a i q-of (omega arith));
      moves = omega (arith, d.moves, taken owes p a p-in p-of (omega arith));
      few = count_less (owes p) (owed q) (in_group n m (one_open owes owed)) (in_group n m (one_open owes' owed')) (length ps) fewer left d.few;
    }
      where
        -- who is not paid off is open still
        left : (owes p ≡ owed q → ⊥) → 0 < in_group n m (one_open owes' owed')
        left ne =
            let s : eqb p p ≡ true = eq-eqb p p refl in
            let r : eqb q q ≡ true = eq-eqb q q refl in
            elim (cases_order (owes p) (owed q)) [
              | inl e ↦ absurd (ne e)
              | inr u ↦ elim u [
                | inl l ↦ let h : 0 < owed' q = rw r (omega arith) in still owes' owed' q q-in q-of (omega arith)
                | inr l ↦ let h : 0 < owes' p = rw s (omega arith) in still owes' owed' p p-in p-of (omega arith)
              ]
            ]

  -- an even group in which nobody has anything of f has nothing of g
  empty : (f g : ℕ → ℕ) → in_group n m f ≡ in_group n m g → n ≤ first (has m f) n → (i : ℕ) → i < n → pick (m i) (f i) 0 + pick (m i) (g i) 0 ≡ 0
  empty f g e h i l =
      let none : (i : ℕ) → i < n → pick (m i) (f i) 0 ≡ 0 = λ i l. grind (arith, first_least (has m f) n i l) in
      omega (arith, none i l, span_zero (λ i. pick (m i) (f i) 0) n none, at_most_span (λ i. pick (m i) (g i) 0) n i l)

  -- payments of a group that comes out even settle it
  pub paid : (k : ℕ) (owes owed : ℕ → ℕ) → OneSide n owes owed → in_group n m owes ≡ in_group n m owed → in_group n m (one_open owes owed) ≤ k →
      Paid n m owes owed (group_payments k n m owes owed)
  unfolding group_payments
  paid zero owes owed one even short =
      closed owes owed (λ i l. grind (arith, at_most_span (λ i. pick (m i) (one_open owes owed i) 0) n i l))
  paid (suc k) owes owed one even short =
      let p : ℕ = first (has m owes) n in
      let q : ℕ = first (has m owed) n in
      let a : ℕ = min (owes p) (owed q) in
      elim (cases_Bool (ltb p n && ltb q n)) [
        | inl e ↦
            let both = and_parts (ltb p n) (ltb q n) e in
            let pl = ltb-true p n both.0 in
            let ql = ltb-true q n both.1 in
            let ph = and_parts (m p) (ltb 0 (owes p)) (first_passes (has m owes) n pl) in
            let qh = and_parts (m q) (ltb 0 (owed q)) (first_passes (has m owed) n ql) in
            let po = ltb-true 0 (owes p) ph.1 in
            let qo = ltb-true 0 (owed q) qh.1 in
            let fw = fewer owes owed one p q a refl pl ph.0 po ql qh.0 qo in
            let s = taken owes p a pl ph.0 (omega arith) in
            let t = taken owed q a ql qh.0 (omega arith) in
            rw (e, group_payments) (step owes owed one p q a refl pl ph.0 po ql qh.0 qo _
            (paid k (less_at owes p a) (less_at owed q a) (one_side' owes owed one p q a refl pl ph.0 po ql qh.0 qo) (omega arith) (grind arith)))
        | inr e ↦ rw (e, group_payments) (closed owes owed (λ i l. elim (and_cases (ltb p n) (ltb q n) e) [
          | inl x ↦ empty owes owed even (ltb-false p n x) i l
          | inr x ↦ omega (arith, empty owed owes (sym even) (ltb-false q n x) i l)
        ]))
      ]
