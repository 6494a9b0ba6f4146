-- The theorems on settlements, each a statement.
use Rattle.std.specs.Prelude.{◌≡◌, ℕ, ◌+◌, ◌≤◌, List, ◌++◌, map, length, ℤ}
use Rattle.shares.specs.Span.{span}
use Rattle.balances.specs.Even.{Balances, Even}
use Rattle.groups.specs.Groups.{Groups, still_open}
use Rattle.book.specs.Ledger.{Payment, Line, Sound}
use Rattle.settlement.specs.Settle.{Settles, money, Best}
use Rattle.groups.specs.SetsPart.{SetsPart}
use Rattle.balances.specs.Signed.{signed}
use Rattle.groups.specs.Sets.{is_in}
use Rattle.settlement.specs.Paying.{settlement}
use Rattle.balances.specs.Promise.{balances}
use Rattle.settlement.specs.Written.{written}

-- no settlement moves less than what is owed
abbrev pub MoneyBound : Type 0
MoneyBound = (b : Balances) (ps : List Payment) → Settles b ps → Even b → span b.owes b.people ≤ money ps

-- where there are at most g groups, no settlement has fewer payments than open people less g
abbrev pub GroupsBound : Type 0
GroupsBound =
    (b : Balances) (g : ℕ) → Even b → ((h : ℕ) → Groups b h → h ≤ g) → (ps : List Payment) → Settles b ps → still_open b ≤ length ps + g

-- each parting into g groups gives a settlement with so few payments, in which who owes pays and who is owed gets
abbrev pub GroupsSettle : Type 0
GroupsSettle =
    (b : Balances) (g : ℕ) → Even b → Groups b g →
    (ps : List Payment) × Settles b ps × (length ps + g ≤ still_open b) × (money ps ≡ span b.owes b.people)

-- sets that part the open people of a crew whose balances sum to 0: the first who owes paying the first who is owed settles them so
abbrev pub SetsSettle : Type 0
SetsSettle =
    (n : ℕ) (f : ℕ → ℤ) (sets : List ℕ) → Even (signed n f) → SetsPart (signed n f) (map is_in sets) →
    Settles (signed n f) (settlement n sets f) × (length (settlement n sets f) + length sets ≤ still_open (signed n f)) ×
    (money (settlement n sets f) ≡ span (signed n f).owes n)

-- and where no parting has more groups it is best
abbrev pub SetsBest : Type 0
SetsBest =
    (n : ℕ) (f : ℕ → ℤ) (sets : List ℕ) → Even (signed n f) → SetsPart (signed n f) (map is_in sets) →
    ((h : ℕ) → Groups (signed n f) h → h ≤ length sets) → Best (signed n f) (settlement n sets f)

-- every book in order has a settlement than which none has fewer payments and none moves less money
abbrev pub Settled : Type 0
Settled = (n : ℕ) (book : List Line) → Sound n book → (ps : List Payment) × Best (balances n book) ps

-- a settlement carried out and written into the book leaves nothing open
abbrev pub CarriedOut : Type 0
CarriedOut = (n : ℕ) (book : List Line) (ps : List Payment) → Sound n book → Settles (balances n book) ps → still_open (balances n (book ++ written ps)) ≡ 0
