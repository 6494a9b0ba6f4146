-- No person gave or had more by a line than its amount.
use Rattle.std.proofs.Common.{ℕ, ◌≤◌, arith}
use Rattle.std.proofs.lemmas.Bool.Decides.{nat_tests}
use Rattle.shares.proofs.Persons.{share_le}
use Rattle.book.specs.Ledger.{Line, bill, paid, takes_back}
use Rattle.balances.specs.Given.{gave, had}

-- the amount of a line, 0 for one that takes back another
abbrev pub amount_of : Line → ℕ
amount_of (bill b) = b.amount
amount_of (paid p) = p.amount
amount_of (takes_back k) = 0

pub gave_le : (i : ℕ) (l : Line) → gave i l ≤ amount_of l
unfolding gave
gave_le i (bill b) = grind (arith, nat_tests)
gave_le i (paid p) = grind (arith, nat_tests)
gave_le i (takes_back k) = omega arith

pub had_le : (i : ℕ) (l : Line) → had i l ≤ amount_of l
unfolding had
had_le i (bill b) = share_le b i
had_le i (paid p) = grind (arith, nat_tests)
had_le i (takes_back k) = omega arith
