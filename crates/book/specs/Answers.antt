-- What a book answers: when it is made, and to each line.
use Rattle.std.specs.Prelude.{◌≡◌, ℕ, Bool, true, false, cond, not, ◌&&◌, ◌||◌, List, [], length, Some, None, Ok, Err, Option, Result, ◌==◌, nat_le, nat_lt}
use Rattle.std.specs.Option.{option_map}
use Rattle.book.specs.Codes.{code}
use Rattle.book.specs.Held.{Held, stands_at, takes}
use Rattle.book.specs.Layout.{kind_of, entry_of}
use Rattle.book.specs.Rows.{rows, first_row}
use Rattle.book.specs.View.{held, with_entry}
use Rattle.book.specs.declared.ledger.Book.{Book}
use Rattle.book.specs.declared.line.Entry.{Entry}
use Rattle.book.specs.declared.refusal.Refusal.{Refusal}
use Rattle.book.specs.declared.refusal.Refusal.TheVariants.{CrewSize, NoRoom}

-- may a book be for n people
abbrev pub crew_size : ℕ → Bool
crew_size n = nat_lt 0 n && nat_le n 16

-- an empty book; or a refusal, which speaks of memory only where the number of people is right
abbrev pub Begins : ℕ → ℕ → Result Book Refusal → Type 0
Begins n room (Ok b) = (crew_size n ≡ true) × (held b ≡ record { people = n; room = room; entries = [] })
Begins n room (Err e) = e ≡ cond (crew_size n) NoRoom CrewSize

-- the entry that a line's bytes say, in a book for n people
abbrev pub entry_said : ℕ → List ℕ → Option Entry
entry_said n bs = option_map (entry_of n bs) (kind_of bs)

-- the book with this line, if the line says anything
abbrev pub with_said : Held → Option Entry → Held
with_said h None = h
with_said h (Some e) = with_entry h e

-- does this line, if it says anything, take back line k
abbrev pub takes_said : Option Entry → ℕ → Bool
takes_said None k = false
takes_said (Some e) k = takes e.line k

-- a line that no row applies to is taken: its number is that of the lines before it, the book has it as its last,
-- and those stand that stood before and that it does not take back, and it itself
pub record Taken (before after : Held) (bs : List ℕ) (number : ℕ) : Type 0 where
  pub numbered : number ≡ length before.entries
  pub no_row : first_row rows before bs ≡ None
  pub grown : after ≡ with_said before (entry_said before.people bs)
  pub standing : (k : ℕ) → stands_at after.entries k ≡ (k == number || (stands_at before.entries k && not (takes_said (entry_said before.people bs) k)))

-- a line that a row applies to is refused by the first such row, and the book is what it was
pub record Refused (before after : Book) (bs : List ℕ) (e : Refusal) : Type 0 where
  pub by_row : first_row rows (held before) bs ≡ Some (code e)
  pub same : after ≡ before

abbrev pub Added : Book → List ℕ → Result ℕ Refusal → Book → Type 0
Added before bs (Ok number) after = Taken (held before) (held after) bs number
Added before bs (Err e) after = Refused before after bs e
