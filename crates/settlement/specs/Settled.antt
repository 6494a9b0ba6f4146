-- What a settlement that is given is: which payments, what both tables hold then, and that none is better.
use Rattle.std.specs.Prelude.{◌≡◌, ℕ, List, ℤ, None}
use Rattle.balances.specs.Even.{Balances}
use Rattle.book.specs.Held.{Held}
use Rattle.book.specs.Ledger.{Line, Payment}
use Rattle.book.specs.Reading.{lines}
use Rattle.groups.specs.Fixed.{fixed_groups}
use Rattle.groups.specs.Shorts.{too_short}
use Rattle.groups.specs.Tables.{Written}
use Rattle.settlement.specs.Paying.{settlement}
use Rattle.settlement.specs.Settle.{Best}

-- the lines of a book
abbrev pub book_lines : Held → List Line
book_lines h = lines h.people h.entries

-- the payments for n people with the numbers f, whose balances are b, and the tables before and after
pub record SettledBy (n : ℕ) (f : ℕ → ℤ) (b : Balances) (old-sums sums : List ℤ) (old-counts counts : List ℕ) (ps : List Payment) : Type 0 where
  pub room : too_short n old-sums old-counts ≡ None
  pub written : Written f n old-sums sums old-counts counts
  pub exact : ps ≡ settlement n (fixed_groups f n) f
  pub best : Best b ps
