-- What is counted and summed over a crew's numbers, as sums over people.
use Rattle.std.proofs.Common.{◌≡◌, ℕ, zero, suc, ◌+◌, ◌*◌, ◌^◌, ◌<◌, ◌≤◌, Bool, not, eqb, ltb, List, [], ◌∷◌, length, take, ℤ, pos, negsuc, nat_abs, refl, ap, ◌∙◌, add-one, arith, length-take, w64, of_z}
use Rattle.std.proofs.lemmas.Bool.{ne_eqb}
use Rattle.std.proofs.lemmas.Int.{ints}
use Rattle.std.proofs.lemmas.List.Sums.{sum_by_more}
use Rattle.std.specs.List.{count_by, sum_by}
use Rattle.shares.proofs.Spans.{span_same}
use Rattle.shares.specs.Bill.{pick}
use Rattle.shares.specs.Span.{span}
use Rattle.balances.proofs.Holds.{near_at}
use Rattle.balances.proofs.Signs.{debt_credit, one_of}
use Rattle.balances.specs.Signed.{at_person, credit, debt}
use Rattle.balances.specs.View.{cents_of, numbers_of, people_of, sides_of}
use Rattle.balances.specs.declared.sheet.Balances.{Balances}
use Rattle.groups.specs.Groups.{still_open}

-- a sum over the first n numbers of a table, person by person
sum_span : (f : ℤ → ℕ) (xs : List ℤ) (n : ℕ) → n ≤ length xs → sum_by f (take n xs) ≡ span (λ i. f (at_person xs i)) n
unfolding span
sum_span f xs zero l = refl
sum_span f xs (suc n) l =
    let here = sum_by_more f xs n (pos 0) (omega arith) in rw (← add-one) (omega (arith, here, sum_span f xs n (omega arith)))

span_most : (f : ℕ → ℕ) (m n : ℕ) → ((i : ℕ) → f i ≤ m) → span f n ≤ n * m
unfolding span
span_most f m zero h = omega arith
span_most f m (suc n) h = omega (arith, h n, span_most f m n h)

count_sum : (p : ℤ → Bool) (xs : List ℤ) → count_by p xs ≡ sum_by (λ z. pick (p z) 1 0) xs
count_sum p [] = refl
count_sum p (x ∷ xs) = grind (arith, count_sum p xs)

-- are a number's 64 bits other than 0
abbrev pub some_bits : ℤ → Bool
some_bits z = not (eqb (of_z w64 z) 0)

-- they are where a person with this number owes or is owed
some_open : (z : ℤ) → nat_abs z ≤ 2 ^ 48 → some_bits z ≡ ltb 0 (debt z + credit z)
some_open (pos zero) l = refl
some_open (pos (suc n)) l = grind arith
some_open (negsuc n) l = let bits = ne_eqb (of_z w64 (negsuc n)) 0 (omega arith) in rw bits (grind arith)

-- nobody owes more than its number's size
pub debt_near : (b : Balances) (i : ℕ) → (sides_of b).owes i ≤ 2 ^ 48
debt_near b i = omega (arith, ints, near_at b i, debt_credit (cents_of b i), one_of (cents_of b i))

-- the numbers of the people who are there, as the code reads them
module _ (b : Balances) (xs : List ℤ) (all : xs ≡ numbers_of b) (each : length xs ≡ people_of b) where
  sum_numbers : (f : ℤ → ℕ) → sum_by f xs ≡ span (λ i. f (cents_of b i)) (people_of b)
  sum_numbers f = rw all (sum_span f b.cents (people_of b) (omega (arith, ap length all, length-take (people_of b) b.cents)))

  pub sum_debts : sum_by debt xs ≡ span (sides_of b).owes (people_of b)
  sum_debts = sum_numbers debt

  pub debts_fit : sum_by debt xs < 2 ^ 64
  debts_fit = omega (arith, sum_debts, span_most (sides_of b).owes (2 ^ 48) (people_of b) (debt_near b), b.crew)

  pub count_open : count_by some_bits xs ≡ still_open (sides_of b)
  unfolding still_open
  count_open =
      count_sum some_bits xs ∙ sum_numbers (λ z. pick (some_bits z) 1 0)
      ∙ span_same _ _ (people_of b) (λ i l. ap (λ t. pick t 1 0) (some_open (cents_of b i) (near_at b i)))
