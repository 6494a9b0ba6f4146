-- What is said of each person's balance.
use Rattle.std.specs.Prelude.{ℕ, zero, suc, cond, List, [], ◌++◌, Some, None, codes, decimal, Option, nat_lt}
use Rattle.balances.specs.Even.{Balances}
use Rattle.text.specs.Texts.{as_line}
use Rattle.text.specs.declared.side.Side.{Side}
use Rattle.text.specs.declared.side.Side.TheVariants.{Owes, IsOwed}

-- the side of a person by what it owes and what it is owed; who is even has none
abbrev pub side : ℕ → ℕ → ℕ → Option Side
side i owes owed = cond (nat_lt 0 owes) (Some (Owes i owes)) (cond (nat_lt 0 owed) (Some (IsOwed i owed)) None)

-- in words
abbrev pub side_said : Side → List ℕ
side_said (Owes i cents) = decimal i ++ (codes " owes " ++ decimal cents)
side_said (IsOwed i cents) = decimal i ++ (codes " is owed " ++ decimal cents)

-- a line for a side, and nothing for who is even
abbrev pub side_line : Option Side → List ℕ
side_line None = []
side_line (Some s) = as_line (side_said s)

-- the line of person i
abbrev pub balance_said : Balances → ℕ → List ℕ
balance_said b i = side_line (side i (b.owes i) (b.owed i))

-- the lines of the people below n, in their order
unfoldable pub sides_said : Balances → ℕ → List ℕ
sides_said b zero = []
sides_said b (suc n) = sides_said b n ++ balance_said b n

-- the lines of all people
abbrev pub balances_said : Balances → List ℕ
balances_said b = sides_said b b.people
