-- Laws of the total of a list and of its fronts.
use Rattle.std.proofs.Common.{◌≡◌, ℕ, zero, suc, ◌+◌, ◌≤◌, List, [], ◌∷◌, get_or, take, drop, sum, refl, ap, add-one, arith}
use Rattle.std.proofs.lemmas.List.Recursion.{is_sum_by}
use Rattle.std.proofs.lemmas.List.Sums.{sum_by-take-drop, sum_by-take-le}
use Rattle.shares.specs.Bill.{total}

-- the total is the library's sum
pub total_sum : (xs : List ℕ) → total xs ≡ sum xs
unfolding total
total_sum xs = is_sum_by total (λ x. x) refl (λ x xs. refl) xs

-- the front and the rest are the whole
pub total_take_drop : (n : ℕ) (xs : List ℕ) → total (take n xs) + total (drop n xs) ≡ total xs
total_take_drop n xs = simp total_sum (sum_by-take-drop (λ x. x) xs n)

-- a front has no more than the whole
pub total_take_le : (n : ℕ) (xs : List ℕ) → total (take n xs) ≤ total xs
total_take_le n xs = simp total_sum (sum_by-take-le (λ x. x) xs n)

front_more : (xs : List ℕ) (i : ℕ) → total (take (suc i) xs) ≡ total (take i xs) + get_or xs i 0
unfolding total
front_more [] zero = refl
front_more [] (suc i) = refl
front_more (x ∷ xs) zero = omega arith
front_more (x ∷ xs) (suc i) = omega (arith, front_more xs i)

-- one more, at any place: past the end it is 0
pub total_take_more : (xs : List ℕ) (i : ℕ) → total (take (i + 1) xs) ≡ total (take i xs) + get_or xs i 0
total_take_more xs i = rw add-one (front_more xs i)

-- a front and the next have no more than the whole
pub total_next_le : (xs : List ℕ) (i : ℕ) → total (take i xs) + get_or xs i 0 ≤ total xs
total_next_le xs i = rw (← total_take_more) (total_take_le (i + 1) xs)

-- where the rest is all 0, fronts of the front are fronts of the whole
pub total_take_take : (n j : ℕ) (xs : List ℕ) → total (drop n xs) ≡ 0 → total (take j (take n xs)) ≡ total (take j xs)
unfolding total
total_take_take n zero xs h = refl
total_take_take zero (suc j) xs h = omega (arith, total_take_le (suc j) xs)
total_take_take (suc n) (suc j) [] h = refl
total_take_take (suc n) (suc j) (x ∷ xs) h = ap (λ t. x + t) (total_take_take n j xs h)
