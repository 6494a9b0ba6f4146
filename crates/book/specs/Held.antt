-- What the rules read of a book, and which lines can still be taken back.
use Rattle.std.specs.Prelude.{ℕ, ◌<◌, Bool, true, false, not, ◌&&◌, ◌||◌, List, [], ◌∷◌, map, length, Some, None, Option, ◌==◌, nat_lt, slice_set}
use Rattle.std.specs.List.{slice_get, range_with_len}
use Rattle.book.specs.declared.line.Entry.{Entry}
use Rattle.book.specs.declared.line.Kept.{Kept}
use Rattle.book.specs.declared.line.Line.{Line}
use Rattle.book.specs.declared.line.Line.TheVariants.{Bill, Payment, TakeBack}

-- a book's people, the lines for which it has room, and its lines
pub record Held : Type 0 where
  pub people : ℕ
  pub room : ℕ
  pub entries : List Entry

-- the lines that were taken, and the marks of which of them stand
abbrev pub entries_of : List Kept → List Entry
entries_of ks = map (λ k. k.entry) ks

abbrev pub marks_of : List Kept → List Bool
marks_of ks = map (λ k. k.stands) ks

-- does this line take back line k
abbrev pub takes : Line → ℕ → Bool
takes (Bill payer amount) k = false
takes (Payment from to amount) k = false
takes (TakeBack j) k = j == k

-- is line k taken back by one of these
abbrev pub taken : List Entry → ℕ → Bool
taken [] k = false
taken (e ∷ es) k = takes e.line k || taken es k

-- which of these lines stand: those that no line takes back
unfoldable pub standing : List Entry → List Bool
standing es = map (λ k. not (taken es k)) (range_with_len 0 (length es))

abbrev pub is_return : Line → Bool
is_return (Bill payer amount) = false
is_return (Payment from to amount) = false
is_return (TakeBack j) = true

-- a line that is there and takes nothing back
abbrev pub is_plain : Option Entry → Bool
is_plain None = false
is_plain (Some e) = not (is_return e.line)

-- does line k stand
abbrev pub stands_at : List Entry → ℕ → Bool
stands_at es k = nat_lt k (length es) && not (taken es k)

-- can line k be taken back: it is there, takes nothing back and was not taken back
abbrev pub returnable : List Entry → ℕ → Bool
returnable es k = is_plain (slice_get es k) && not (taken es k)

-- whatever this line takes back can be taken back
abbrev pub may_return : List Entry → Line → Bool
may_return es (Bill payer amount) = true
may_return es (Payment from to amount) = true
may_return es (TakeBack k) = returnable es k

-- the line that this line takes back, if any, is among the first n
abbrev pub Within : Line → ℕ → Type 0
Within (Bill payer amount) n = Unit {0}
Within (Payment from to amount) n = Unit {0}
Within (TakeBack k) n = k < n

-- the marks of which lines stand, with that of the line that this line takes back struck
abbrev pub struck : Line → List Bool → List Bool
struck (Bill payer amount) marks = marks
struck (Payment from to amount) marks = marks
struck (TakeBack k) marks = slice_set marks k false
