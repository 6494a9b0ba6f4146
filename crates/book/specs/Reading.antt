-- The lines of a book, as the theorems on balances and settlements read them.
use Rattle.std.specs.Prelude.{ℕ, List, map, take}
use Rattle.shares.specs.Bill.{billed}
use Rattle.book.specs.Ledger as ledger
use Rattle.book.specs.declared.line.Entry.{Entry}
use Rattle.book.specs.declared.line.Line.{Line}
use Rattle.book.specs.declared.line.Line.TheVariants.{Bill, Payment, TakeBack}

-- a line in a book for n people: a bill has a weight for each of them
abbrev pub read_line : ℕ → List ℕ → Line → ledger.Line
read_line n ws (Bill payer amount) = ledger.bill (billed payer amount (take n ws))
read_line n ws (Payment from to amount) = ledger.paid (record { from = from; to = to; amount = amount })
read_line n ws (TakeBack k) = ledger.takes_back k

unfoldable pub lines : ℕ → List Entry → List ledger.Line
lines n es = map (λ e. read_line n e.weights e.line) es
