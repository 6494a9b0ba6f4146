-- Why numbers from elsewhere are no balances: the first fault that applies.
use Rattle.std.specs.Prelude.{◌≡◌, ℕ, suc, ◌-◌, cond, List, [], ◌∷◌, ◌++◌, length, replicate, ℤ, pos, Some, None, Ok, Err, Option, Result, ◌==◌, nat_lt, unsigned_abs}
use Rattle.std.specs.Option.{option_map}
use Rattle.balances.specs.Range.{far}
use Rattle.balances.specs.Signed.{at_person, span_z}
use Rattle.balances.specs.View.{people_of, cents_of}
use Rattle.balances.specs.declared.sheet.Balances.{Balances}
use Rattle.balances.specs.declared.unbalanced.Unbalanced.{Unbalanced}
use Rattle.balances.specs.declared.unbalanced.Unbalanced.TheVariants.{TooMany, OutOfRange, NotEven}

-- the first person whose number is out of range; the list begins with person k
abbrev pub first_far : ℕ → List ℤ → Option ℕ
first_far k [] = None
first_far k (x ∷ xs) = cond (far x) (Some k) (first_far (suc k) xs)

abbrev pub too_many : List ℤ → Option Unbalanced
too_many xs = cond (nat_lt 16 (length xs)) (Some TooMany) None

abbrev pub out_of_range : List ℤ → Option Unbalanced
out_of_range xs = option_map OutOfRange (first_far 0 xs)

abbrev pub not_even : List ℤ → Option Unbalanced
not_even xs = cond (unsigned_abs (span_z (at_person xs) (length xs)) == 0) None (Some NotEven)

-- the first of these that applies
abbrev pub first_fault : List (Option Unbalanced) → Option Unbalanced
first_fault [] = None
first_fault (None ∷ fs) = first_fault fs
first_fault (Some e ∷ fs) = Some e

abbrev pub fault : List ℤ → Option Unbalanced
fault xs = first_fault (too_many xs ∷ out_of_range xs ∷ not_even xs ∷ [])

-- sixteen numbers, 0 for people who are not there
abbrev pub padded : List ℤ → List ℤ
padded xs = xs ++ replicate (16 - length xs) (pos 0)

-- the balances of these numbers, which have no fault
pub record Accepted (xs : List ℤ) (b : Balances) : Type 0 where
  pub no_fault : fault xs ≡ None
  pub people : people_of b ≡ length xs
  pub each : (i : ℕ) → cents_of b i ≡ at_person xs i

-- balances, or the first fault
abbrev pub Taken : List ℤ → Result Balances Unbalanced → Type 0
Taken xs (Ok b) = Accepted xs b
Taken xs (Err e) = fault xs ≡ Some e
