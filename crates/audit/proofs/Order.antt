-- The first payment that is not in order, by its place in the list.
use Rattle.std.proofs.Common.{◌≡◌, ℕ, zero, suc, ◌+◌, ◌<◌, ◌≤◌, true, false, List, [], ◌∷◌, length, get_or, Option, Some, None, sym, refl, ap, ◌∙◌, subst, inl, inr, arith}
use Rattle.std.proofs.lemmas.Bool.{cases_Bool, cases_lt}
use Rattle.audit.specs.Bytes.{faulty, first_faulty}
use Rattle.audit.specs.Promise.{FirstOutOfOrder, StopsAt}

module _ (n : ℕ) where
  -- payment k of a list that begins with payment m is not in order, and each before it is
  record StopsFrom (m : ℕ) (bss : List (List ℕ)) (k : ℕ) : Type 0 where
    there : k < length bss
    here : faulty n (k + m) (get_or bss k []) ≡ true
    before : (j : ℕ) → j < k → faulty n (j + m) (get_or bss j []) ≡ false

  -- what the search for it tells
  abbrev Tells : ℕ → List (List ℕ) → Option ℕ → Type 0
  Tells m bss None = (k : ℕ) → k < length bss → faulty n (k + m) (get_or bss k []) ≡ false
  Tells m bss (Some i) = (k : ℕ) × (i ≡ k + m) × StopsFrom m bss k

  -- one more payment at the front, which is in order
  more : (m : ℕ) (bs : List ℕ) (bss : List (List ℕ)) (k : ℕ) → faulty n m bs ≡ false →
      ((j : ℕ) → j < k → faulty n (j + suc m) (get_or bss j []) ≡ false) → (j : ℕ) → j < suc k → faulty n (j + m) (get_or (bs ∷ bss) j []) ≡ false
  more m bs bss k f each zero l = let e : 0 + m ≡ m = omega arith in rw e f
  more m bs bss k f each (suc j) l = let e : suc j + m ≡ j + suc m = omega arith in rw e (each j (omega arith))

  passed : (m : ℕ) (bs : List ℕ) (bss : List (List ℕ)) (o : Option ℕ) → faulty n m bs ≡ false → Tells (suc m) bss o → Tells m (bs ∷ bss) o
  passed m bs bss None f each = λ k l. more m bs bss (length bss) f each k l
  passed m bs bss (Some i) f t =
      let s = t.2 in
      let e : suc t.0 + m ≡ t.0 + suc m = omega arith in
      (suc t.0, omega (arith, t.1), record { there = omega (arith, s.there); here = rw e s.here; before = more m bs bss t.0 f s.before })

  tells : (m : ℕ) (bss : List (List ℕ)) → Tells m bss (first_faulty n m bss)
  tells m [] = λ k l. absurd (omega arith)
  tells m (bs ∷ bss) =
      elim (cases_Bool (faulty n m bs)) [
        | inl f ↦
            let e : 0 + m ≡ m = omega arith in
            rw f (0, omega arith, record { there = omega arith; here = rw e f; before = λ j l. absurd (omega arith) })
        | inr f ↦ rw f (passed m bs bss (first_faulty n (suc m) bss) f (tells (suc m) bss))
      ]

  -- a list that begins with payment 0
  from_first : (k : ℕ) (bs : List ℕ) → faulty n (k + 0) bs ≡ faulty n k bs
  from_first k bs = let e : k + 0 ≡ k = omega arith in rw e refl

  module _ (bss : List (List ℕ)) where
    abbrev EachPasses : Type 0
    EachPasses = (k : ℕ) → k < length bss → faulty n k (get_or bss k []) ≡ false

    abbrev Stops : Option ℕ → Type 0
    Stops None = EachPasses
    Stops (Some k) = StopsAt n bss k

    stops : (o : Option ℕ) → Tells 0 bss o → Stops o
    stops None each = λ k l. sym (from_first k _) ∙ each k l
    stops (Some i) t =
        let s = t.2 in
        let e : i ≡ t.0 = omega (arith, t.1) in
        rw e (record { there = s.there; here = sym (from_first t.0 _) ∙ s.here; before = λ j l. sym (from_first j _) ∙ s.before j l })

    not_after : (i k : ℕ) → StopsAt n bss i → StopsAt n bss k → i ≤ k
    not_after i k s t =
        elim (cases_lt k i) [
          | inl l ↦ absurd (let e : true ≡ false = sym t.here ∙ s.before k l in cc)
          | inr l ↦ l
        ]

    only : (o : Option ℕ) (k : ℕ) → Stops o → StopsAt n bss k → o ≡ Some k
    only None k each s = let e : true ≡ false = sym s.here ∙ each k s.there in cc
    only (Some i) k t s = let e : i ≡ k = omega (arith, not_after i k t s, not_after k i s t) in ap Some e

    nobody : (o : Option ℕ) → Stops o → EachPasses → o ≡ None
    nobody None s each = refl
    nobody (Some i) s each = let e : true ≡ false = sym s.here ∙ each i s.there in cc

pub first_out_of_order : FirstOutOfOrder
first_out_of_order n bss =
    let o : Option ℕ = first_faulty n 0 bss in
    let s : Stops n bss o = stops n bss o (tells n 0 bss) in
    (λ k is. subst (Stops n bss) is s, λ k. only n bss o k s, λ none. subst (Stops n bss) none s, nobody n bss o s)
