-- A table that a closure makes place by place, where no call changes the closure.
use Rattle.std.proofs.Common.{◌≡◌, ℕ, zero, suc, ◌+◌, ◌<◌, ◌≤◌, List, slice_index_or, sym, subst, inl, inr, arith}
use Rattle.std.proofs.lemmas.Bool.{cases_eq}
use Rattle.std.specs.Array.{IsFromFnResult, IsFromFnResultFrom}
use Rattle.std.specs.Fn.{Called}
use denote.Param.Members.{Mut}

module _ {F B : Type 0} {g : Mut F (ℕ × Unit {0}) B} {f : F} (P : ℕ → B → Type 0)
    (call : (i : ℕ) (y : B) (q : F) → Called g f (i, tt) y q → P i y × (q ≡ f)) where
  made_from : (ys : List B) (n i : ℕ) → IsFromFnResultFrom g f ys i n → (j : ℕ) (d : B) → i ≤ j → j < i + n → P j (slice_index_or ys j d)
  made_from ys zero i made j d l m = absurd (omega arith)
  made_from ys (suc n) i (q, y, place, called, rest) j d l m =
      let c = call i y q called in
      elim (cases_eq i j) [
        | inl e ↦ subst (λ k. P k (slice_index_or ys k d)) e (subst (P i) (sym (place.1 d)) c.0)
        | inr e ↦ made_from ys n (i + 1) (subst (λ p. IsFromFnResultFrom g p ys (i + 1) n) c.1 rest) j d (omega arith) (omega arith)
      ]

  -- each place has what a call at it can answer
  pub made_each : {ys : List B} {n : ℕ} → IsFromFnResult g f ys n → (i : ℕ) (d : B) → i < n → P i (slice_index_or ys i d)
  made_each {ys} {n} made i d l = made_from ys n 0 made.each i d (omega arith) (omega arith)
