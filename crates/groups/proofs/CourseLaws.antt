-- The list of a recurrence's values holds each value at its place.
use Rattle.std.proofs.Common.{◌≡◌, ℕ, zero, suc, ◌<◌, List, [], ◌∷◌, length, get_or, refl, ◌∙◌, inl, inr, arith, length-append}
use Rattle.std.proofs.lemmas.List.{get_or_append_left, get_or_push}
use Rattle.std.proofs.lemmas.Bool.{cases_eq}
use Rattle.groups.specs.Courses.{at, up_to}

pub up_to_length : {A : Type 0} (f : List A → ℕ → A) (n : ℕ) → length (up_to f n) ≡ n
unfolding up_to
up_to_length f zero = refl
up_to_length f (suc n) = simp length-append (omega (arith, up_to_length f n))

pub up_to_at : {A : Type 0} (f : List A → ℕ → A) (n k : ℕ) (d : A) → k < n → get_or (up_to f n) k d ≡ at f k
unfolding up_to at
up_to_at f zero k d h = absurd (omega arith)
up_to_at f (suc n) k d h =
    elim (cases_eq k n) [
      | inl e ↦ rw e (get_or_push (up_to f n) (f (up_to f n) n) d n (up_to_length f n))
      | inr ne ↦ get_or_append_left (up_to f n) (f (up_to f n) n ∷ []) d k (omega (arith, up_to_length f n)) ∙ up_to_at f n k d (omega arith)
    ]
