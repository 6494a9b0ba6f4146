-- What a value `Balances` stands for.
use Rattle.std.specs.Prelude.{ℕ, List, take, ℤ}
use Rattle.balances.specs.Even as any
use Rattle.balances.specs.Signed.{at_person, signed}
use Rattle.balances.specs.declared.sheet.Balances.{Balances}

abbrev pub people_of : Balances → ℕ
people_of b = b.people

-- each person's number
abbrev pub cents_of : Balances → ℕ → ℤ
cents_of b i = at_person b.cents i

-- the numbers of the people who are there
abbrev pub numbers_of : Balances → List ℤ
numbers_of b = take (people_of b) b.cents

-- what each person owes and is owed
abbrev pub sides_of : Balances → any.Balances
sides_of b = signed (people_of b) (cents_of b)
