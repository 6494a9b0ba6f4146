-- The payments that settle what people owe by the lines of a book, and what is said of each.
use Rattle.std.specs.Prelude.{◌≡◌, ℕ, List, [], ◌∷◌, ◌++◌, codes, decimal}
use Rattle.balances.specs.Promise.{balances}
use Rattle.balances.specs.Tally.{balance_of}
use Rattle.book.specs.Ledger.{Line, Payment}
use Rattle.groups.specs.Fixed.{fixed_groups}
use Rattle.settlement.specs.Paying.{settlement}
use Rattle.settlement.specs.Settle.{Best}
use Rattle.text.specs.Texts.{as_line}

-- in words
abbrev pub payment_said : Payment → List ℕ
payment_said p = decimal p.from ++ (codes " pays " ++ (decimal p.to ++ (codes " " ++ decimal p.amount)))

-- a line for each
unfoldable pub payments_said : List Payment → List ℕ
payments_said [] = []
payments_said (p ∷ ps) = as_line (payment_said p) ++ payments_said ps

-- the payments that settle the balances of n people by these lines
unfoldable pub payments : ℕ → List Line → List Payment
payments n ls = settlement n (fixed_groups (balance_of ls) n) (balance_of ls)

-- these are the payments for n people and these lines, and they are a best settlement
pub record Settled (n : ℕ) (ls : List Line) (ps : List Payment) : Type 0 where
  pub exact : ps ≡ payments n ls
  pub best : Best (balances n ls) (payments n ls)
