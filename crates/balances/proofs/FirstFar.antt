-- The search for the first number out of range.
use Rattle.std.proofs.Common.{◌≡◌, ℕ, zero, suc, ◌-◌, true, cond, List, [], ◌∷◌, ◌++◌, length, replicate, position, ℤ, pos, None, Some, sym, refl, ap, ◌∙◌, add-one, arith}
use Rattle.std.specs.List.{position_from}
use Rattle.std.proofs.lemmas.Iterator.Adapters.{position_from-zero}
use Rattle.balances.specs.Faults.{first_far, padded}
use Rattle.balances.specs.Range.{far, all_near}

-- it goes by place
pub first_far_position : (xs : List ℤ) → first_far 0 xs ≡ position far xs
first_far_position xs = far_from 0 xs ∙ sym (position_from-zero far xs)
  where
    far_from : (k : ℕ) (xs : List ℤ) → first_far k xs ≡ position_from far k xs
    far_from k [] = refl
    far_from k (x ∷ xs) = rw add-one (ap (cond (far x) (Some k)) (far_from (suc k) xs))

-- zeros after the numbers are in range
pub first_far_padded : (xs : List ℤ) → first_far 0 (padded xs) ≡ first_far 0 xs
first_far_padded xs = with_zeros 0 xs
  where
    zeros : (k m : ℕ) → first_far k (replicate m (pos 0)) ≡ None
    zeros k zero = refl
    zeros k (suc m) = zeros (suc k) m

    with_zeros : (k : ℕ) (ys : List ℤ) → first_far k (ys ++ replicate (16 - length xs) (pos 0)) ≡ first_far k ys
    with_zeros k [] = zeros k (16 - length xs)
    with_zeros k (y ∷ ys) = ap (cond (far y) (Some k)) (with_zeros (suc k) ys)

-- where none is out of range all are in range
pub none_far : (k : ℕ) (xs : List ℤ) → first_far k xs ≡ None → all_near xs ≡ true
unfolding all_near
none_far k [] h = refl
none_far k (x ∷ xs) h = let rest = none_far (suc k) xs in grind arith

pub near_all : (xs : List ℤ) → position far xs ≡ None → all_near xs ≡ true
near_all xs h = none_far 0 xs (first_far_position xs ∙ h)
