-- Classes of people that payments join, and sums over a class.
use Rattle.std.proofs.Common.{◌≡◌, ℕ, suc, ◌+◌, ◌<◌, ◌≤◌, eqb, ltb, List, [], ◌∷◌, length, refl, ap, inl, inr, arith}
use Rattle.std.specs.List.{AllByRecursion}
use Rattle.std.proofs.ByRecursion.{All-weaker}
use Rattle.std.proofs.lemmas.Bool.{cases_eq}
use Rattle.shares.specs.Bill.{pick}
use Rattle.shares.specs.Span.{span}
use Rattle.book.specs.Ledger.{Payment}
use Rattle.settlement.specs.Settle.{out, into}
use Rattle.shares.proofs.Spans.{span_add, span_mono, span_same, span_one}

-- the sum of w over class j, of the first n people
abbrev pub within : (ℕ → ℕ) → (ℕ → ℕ) → ℕ → ℕ → ℕ
within c w n j = span (λ i. pick (eqb (c i) j) (w i) 0) n

-- how many of the first m classes have a sum above 0
abbrev pub opened : (ℕ → ℕ) → (ℕ → ℕ) → ℕ → ℕ → ℕ
opened c w n m = span (λ j. pick (ltb 0 (within c w n j)) 1 0) m

-- class x becomes class y
abbrev pub merged : ℕ → ℕ → ℕ → ℕ
merged x y k = pick (eqb k x) y k

-- each payment joins the classes of payee and payer
unfoldable pub classes : List Payment → ℕ → ℕ
classes [] i = i
classes (p ∷ ps) i = merged (classes ps p.to) (classes ps p.from) (classes ps i)

-- each payment is among n people and stays in a class
abbrev pub Inside : ℕ → (ℕ → ℕ) → List Payment → Type 0
Inside n c ps = AllByRecursion (λ p. (p.from < n) × (p.to < n) × (c p.from ≡ c p.to)) ps

-- each payment is among n people
abbrev pub Among : ℕ → List Payment → Type 0
Among n ps = AllByRecursion (λ p. (p.from < n) × (p.to < n)) ps

-- what stays in a class stays in one where classes are joined
inside_map : (n : ℕ) (c f : ℕ → ℕ) (ps : List Payment) → Inside n c ps → Inside n (λ i. f (c i)) ps
inside_map n c f =
    All-weaker (λ p. (p.from < n) × (p.to < n) × (c p.from ≡ c p.to)) (λ p. (p.from < n) × (p.to < n) × (f (c p.from) ≡ f (c p.to)))
    (λ p h. (h.0, h.1, ap f h.2))

pub inside : (n : ℕ) (ps : List Payment) → Among n ps → Inside n (classes ps) ps
unfolding classes
inside n [] h = tt
inside n (p ∷ ps) h =
    ((h.0.0, h.0.1, grind arith), inside_map n (classes ps) (merged (classes ps p.to) (classes ps p.from)) ps (inside n ps h.1))

-- a class goes by the number of one of the people
pub classes_below : (n : ℕ) (ps : List Payment) → Among n ps → (i : ℕ) → i < n → classes ps i < n
unfolding classes
classes_below n [] h i l = l
classes_below n (p ∷ ps) h i l = grind (arith, classes_below n ps h.1 i l, classes_below n ps h.1 p.from h.0.0)

pub within_add : (c v w : ℕ → ℕ) (n j : ℕ) → within c (λ i. v i + w i) n j ≡ within c v n j + within c w n j
within_add c v w n j =
    let e = span_same (λ i. pick (eqb (c i) j) (v i + w i) 0) (λ i. pick (eqb (c i) j) (v i) 0 + pick (eqb (c i) j) (w i) 0) n (λ i l. grind arith) in
    omega (arith, span_add (λ i. pick (eqb (c i) j) (v i) 0) (λ i. pick (eqb (c i) j) (w i) 0) n)

-- one person's amount counts in its class
within_one : (c : ℕ → ℕ) (p a n j : ℕ) → p < n → within c (λ i. pick (eqb p i) a 0) n j ≡ pick (eqb (c p) j) a 0
within_one c p a n j l =
    let e = span_same (λ i. pick (eqb (c i) j) (pick (eqb p i) a 0) 0) (λ i. pick (eqb p i) (pick (eqb (c p) j) a 0) 0) n (λ i l. grind arith) in
    grind (arith, span_one p (pick (eqb (c p) j) a 0) n)

-- payments inside classes bring as much into a class as go out of it
pub class_even : (n : ℕ) (c : ℕ → ℕ) (ps : List Payment) (j : ℕ) → Inside n c ps → within c (out ps) n j ≡ within c (into ps) n j
unfolding out into
class_even n c [] j h = refl
class_even n c (p ∷ ps) j h =
    let o = within_add c (λ i. pick (eqb p.from i) p.amount 0) (out ps) n j in
    let t = within_add c (λ i. pick (eqb p.to i) p.amount 0) (into ps) n j in
    let f = within_one c p.from p.amount n j h.0.0 in
    let g = within_one c p.to p.amount n j h.0.1 in
    let same : pick (eqb (c p.from) j) p.amount 0 ≡ pick (eqb (c p.to) j) p.amount 0 = rw h.0.2 in
    omega (arith, class_even n c ps j h.1)

-- joining two classes closes at most one
merge_opened : (c w : ℕ → ℕ) (x y n m : ℕ) → opened c w n m ≤ suc (opened (λ i. merged x y (c i)) w n m)
merge_opened c w x y n m =
    let d : ℕ → ℕ = λ i. merged x y (c i) in
    let le = span_mono (λ j. pick (ltb 0 (within c w n j)) 1 0) (λ j. pick (eqb x j) 1 0 + pick (ltb 0 (within d w n j)) 1 0) m
    (λ j l. elim (cases_eq x j) [
      | inl e ↦ grind arith
      | inr e ↦ grind (arith, span_mono (λ i. pick (eqb (c i) j) (w i) 0) (λ i. pick (eqb (d i) j) (w i) 0) n (λ i l. grind arith))
    ]) in
    let one : span (λ j. pick (eqb x j) 1 0) m ≤ 1 = grind (arith, span_one x 1 m) in
    omega (arith, span_add (λ j. pick (eqb x j) 1 0) (λ j. pick (ltb 0 (within d w n j)) 1 0) m)

-- people with something open, each a class of its own
alone : (w : ℕ → ℕ) (n : ℕ) → span (λ i. pick (ltb 0 (w i)) 1 0) n ≤ opened (λ i. i) w n n
alone w n =
    span_mono (λ i. pick (ltb 0 (w i)) 1 0) (λ j. pick (ltb 0 (within (λ i. i) w n j)) 1 0) n
    (λ j l. grind (arith, own j l))
  where
    own : (j : ℕ) → j < n → within (λ i. i) w n j ≡ w j
    own j l =
        let e = span_same (λ i. pick (eqb i j) (w i) 0) (λ i. pick (eqb j i) (w j) 0) n (λ i l. grind arith) in
        grind (arith, span_one j (w j) n)

-- k payments leave at least so many open classes as open people less k
pub classes_opened : (w : ℕ → ℕ) (n : ℕ) (ps : List Payment) → span (λ i. pick (ltb 0 (w i)) 1 0) n ≤ length ps + opened (classes ps) w n n
unfolding classes
classes_opened w n [] = omega (arith, alone w n)
classes_opened w n (p ∷ ps) =
    omega (arith, classes_opened w n ps, merge_opened (classes ps) w (classes ps p.to) (classes ps p.from) n n)
