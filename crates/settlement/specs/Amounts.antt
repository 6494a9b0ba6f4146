-- Amounts in a table, one for each person, and what the program reads off it.
use Rattle.std.specs.Prelude.{ℕ, Bool, cond, List, Some, None, Option, nat_lt, slice_index}
use Rattle.balances.specs.Signed.{debt, credit}
use Rattle.balances.specs.View.{people_of, cents_of}
use Rattle.balances.specs.declared.sheet.Balances.{Balances}
use Rattle.book.specs.Ledger.{Payment}
use Rattle.groups.specs.Sets.{is_in}
use Rattle.settlement.specs.Paying.{first, group_payments, settlement}

-- the amount of person i; somebody past the end has 0
abbrev pub amount_at : List ℕ → ℕ → ℕ
amount_at xs i = slice_index xs i

-- the smallest of n people who passes, if any does
abbrev pub first_of : ℕ → (ℕ → Bool) → Option ℕ
first_of n t = cond (nat_lt (first t n) n) (Some (first t n)) None

-- the payments of a set of n people, who owe and are owed what the tables say
abbrev pub set_payments : ℕ → ℕ → List ℕ → List ℕ → List Payment
set_payments n set owes owed = group_payments n n (is_in set) (amount_at owes) (amount_at owed)

-- the payments of a set of people by their balances
abbrev pub paid_in : Balances → ℕ → List Payment
paid_in b set = group_payments (people_of b) (people_of b) (is_in set) (λ i. debt (cents_of b i)) (λ i. credit (cents_of b i))

-- the settlement of balances by sets of people
abbrev pub settled_by : Balances → List ℕ → List Payment
settled_by b sets = settlement (people_of b) sets (cents_of b)
