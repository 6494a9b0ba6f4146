-- Balances as signed numbers, and how each line moves them.
use Rattle.std.specs.Prelude.{◌≡◌, ℕ, ◌<◌, ◌≤◌, List, map, ℤ, pos, ◌+ℤ◌, ◌-ℤ◌, None, Option, slice_index, unsigned_abs}
use Rattle.std.specs.List.{range_with_len, slice_get}
use Rattle.shares.specs.Bill.{pick}
use Rattle.book.specs.Held.{Held, stands_at}
use Rattle.book.specs.Ledger as ledger
use Rattle.book.specs.Reading.{read_line, lines}
use Rattle.book.specs.declared.line.Entry.{Entry}
use Rattle.book.specs.declared.line.Line.{Line}
use Rattle.book.specs.declared.line.Line.TheVariants.{Bill, Payment, TakeBack}
use Rattle.balances.specs.Given.{gave, had, given, gotten}
use Rattle.balances.specs.Promise.{balances}
use Rattle.balances.specs.Signed.{at_person}
use Rattle.balances.specs.View.{people_of, cents_of, sides_of}
use Rattle.balances.specs.declared.sheet.Balances.{Balances}

-- what person i has given less what it has had, over the lines that stand
abbrev pub balance_of : List ledger.Line → ℕ → ℤ
balance_of ls i = pos (given i 0 ls) -ℤ pos (gotten i 0 ls)

-- how a line moves the number of person i
abbrev pub moves : ledger.Line → ℕ → ℤ
moves l i = pos (gave i l) -ℤ pos (had i l)

-- an entry as a line that has weights for sixteen people
abbrev pub whole_line : Entry → ledger.Line
whole_line e = read_line 16 e.weights e.line

-- sixteen numbers after a line
unfoldable pub after_line : ledger.Line → List ℤ → List ℤ
after_line l cents = map (λ i. at_person cents i +ℤ moves l i) (range_with_len 0 16)

-- sixteen numbers less each person's share
unfoldable pub less_shares : List ℕ → List ℤ → List ℤ
less_shares shares cents = map (λ i. at_person cents i -ℤ pos (slice_index shares i)) (range_with_len 0 16)

-- no number is above m, either way
abbrev pub Bounded : ℕ → List ℤ → Type 0
Bounded m cents = (i : ℕ) → unsigned_abs (at_person cents i) ≤ m

-- whoever a line names is one of sixteen
abbrev pub Named : Line → Type 0
Named (Bill payer amount) = payer < 16
Named (Payment from to amount) = (from < 16) × (to < 16)
Named (TakeBack k) = Unit {0}

-- line k if it stands
abbrev pub standing_entry : List Entry → ℕ → Option Entry
standing_entry es k = pick (stands_at es k) (slice_get es k) None

-- these are the balances of the lines that stand in a book: each person's number, and so what each owes and is owed
pub record Counted (h : Held) (b : Balances) : Type 0 where
  pub people : people_of b ≡ h.people
  pub each : (i : ℕ) → cents_of b i ≡ balance_of (lines h.people h.entries) i
  pub sides : sides_of b ≡ balances h.people (lines h.people h.entries)
