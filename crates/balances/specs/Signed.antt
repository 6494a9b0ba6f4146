-- Signed numbers of cents: who is below 0 owes, who is above 0 is owed, who is at 0 neither.
use Rattle.std.specs.Prelude.{ℕ, zero, suc, List, ℤ, pos, negsuc, ◌+ℤ◌, slice_index_or}
use Rattle.balances.specs.Even.{Balances}

-- what a person with this number owes: how far it is below 0
abbrev pub debt : ℤ → ℕ
debt (pos n) = 0
debt (negsuc n) = suc n

-- what a person with this number is owed: how far it is above 0
abbrev pub credit : ℤ → ℕ
credit (pos n) = n
credit (negsuc n) = 0

-- f of each person below n, all together
unfoldable pub span_z : (ℕ → ℤ) → ℕ → ℤ
span_z f zero = pos 0
span_z f (suc n) = f n +ℤ span_z f n

-- the balances of n people with these numbers
abbrev pub signed : ℕ → (ℕ → ℤ) → Balances
signed n f = record { people = n; owes = λ i. debt (f i); owed = λ i. credit (f i) }

-- the number of person i; somebody who is not there has 0
abbrev pub at_person : List ℤ → ℕ → ℤ
at_person xs i = slice_index_or xs i (pos 0)
