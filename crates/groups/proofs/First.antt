-- The first number that passes a test.
use Rattle.std.proofs.Common.{◌≡◌, ℕ, zero, suc, ◌<◌, ◌≤◌, Bool, true, false, refl, inl, inr, arith}
use Rattle.std.proofs.lemmas.Bool.{both_ways, cases_Bool, cases_eq, cases_lt, le-ltb, lt-ltb}
use Rattle.groups.specs.Fixed.{first_of}

-- the first number that passes: it passes, no smaller one does, and there is one where any passes
first_kept : (p : ℕ → Bool) (k : ℕ) → first_of p k < k → first_of p (suc k) ≡ first_of p k
unfolding first_of
first_kept p k h = rw (lt-ltb (first_of p k) k h)

first_here : (p : ℕ → Bool) (k : ℕ) → k ≤ first_of p k → p k ≡ true → first_of p (suc k) ≡ k
unfolding first_of
first_here p k h e = rw (le-ltb (first_of p k) k h, e)

first_past : (p : ℕ → Bool) (k : ℕ) → k ≤ first_of p k → p k ≡ false → first_of p (suc k) ≡ suc k
unfolding first_of
first_past p k h e = rw (le-ltb (first_of p k) k h, e)

pub first_passes : (p : ℕ → Bool) (k : ℕ) → first_of p k < k → p (first_of p k) ≡ true
first_passes p zero h = absurd (omega arith)
first_passes p (suc k) h =
    elim (cases_lt (first_of p k) k) [
      | inl l ↦ rw (first_kept p k l) (first_passes p k l)
      | inr g ↦ elim (cases_Bool (p k)) [ inl e ↦ rw (first_here p k g e) e | inr e ↦ absurd (omega (arith, first_past p k g e)) ]
    ]

pub first_least : (p : ℕ → Bool) (k t : ℕ) → t < first_of p k → p t ≡ false
first_least p zero t h = absurd (let z : first_of p 0 ≡ 0 = unfold first_of in refl in omega arith)
first_least p (suc k) t h =
    elim (cases_lt (first_of p k) k) [
      | inl l ↦ first_least p k t (omega (arith, first_kept p k l))
      | inr g ↦ elim (cases_Bool (p k)) [
        | inl e ↦ first_least p k t (omega (arith, first_here p k g e))
        | inr e ↦ elim (cases_eq t k) [ inl q ↦ rw q e | inr ne ↦ first_least p k t (omega (arith, first_past p k g e)) ]
      ]
    ]

pub first_there : (p : ℕ → Bool) (k t : ℕ) → t < k → p t ≡ true → first_of p k ≤ t
first_there p k t l e = elim (cases_lt t (first_of p k)) [ inl h ↦ absurd (both_ways (p t) (first_least p k t h) e) | inr h ↦ h ]

pub first_le : (p : ℕ → Bool) (k : ℕ) → first_of p k ≤ k
first_le p zero = let z : first_of p 0 ≡ 0 = unfold first_of in refl in omega arith
first_le p (suc k) =
    elim (cases_lt (first_of p k) k) [
      | inl l ↦ omega (arith, first_kept p k l)
      | inr g ↦ elim (cases_Bool (p k)) [ inl e ↦ omega (arith, first_here p k g e) | inr e ↦ omega (arith, first_past p k g e) ]
    ]

pub first_is : (p : ℕ → Bool) (k t : ℕ) → t < k → p t ≡ true → ((u : ℕ) → u < t → p u ≡ false) → t ≡ first_of p k
first_is p k t l e before =
    let le = first_there p k t l e in
    elim (cases_lt (first_of p k) t) [
      | inl less ↦ absurd (both_ways (p (first_of p k)) (before (first_of p k) less) (first_passes p k (omega arith)))
      | inr o ↦ omega arith
    ]

pub first_none : (p : ℕ → Bool) (k : ℕ) → ((u : ℕ) → u < k → p u ≡ false) → first_of p k ≡ k
first_none p k all =
    let le = first_le p k in
    elim (cases_lt (first_of p k) k) [
      | inl less ↦ absurd (both_ways (p (first_of p k)) (all (first_of p k) less) (first_passes p k less))
      | inr o ↦ omega arith
    ]

pub first_like : (p q : ℕ → Bool) (k : ℕ) → ((t : ℕ) → t < k → p t ≡ q t) → first_of p k ≡ first_of q k
unfolding first_of
first_like p q zero same = refl
first_like p q (suc k) same = rw (first_like p q k (λ t l. same t (omega arith)), same k (omega arith))
