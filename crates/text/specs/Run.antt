-- The lines of an input, one after another: what each is answered, and the book after them.
use Rattle.std.specs.Prelude.{◌≡◌, ℕ, List, [], ◌∷◌, ◌++◌, length, Some, None, Option}
use Rattle.book.specs.Answers.{entry_said, with_said}
use Rattle.book.specs.Held.{Held}
use Rattle.book.specs.Ledger.{Line}
use Rattle.book.specs.Reading.{lines}
use Rattle.book.specs.Rows.{first_row, rows, rows_of_cut}
use Rattle.book.specs.declared.line.Entry.{Entry}
use Rattle.text.specs.Answers.{Reply, answer_said, refused, taken}
use Rattle.text.specs.Pieces.{Piece, cut, pieces, whole}
use Rattle.text.specs.Texts.{as_line}

-- the number and place of the first row that applies to a line
abbrev pub row_of : Held → Piece → Option (ℕ × ℕ)
row_of h (whole bs) = first_row rows h bs
row_of h (cut bs) = first_row rows_of_cut h bs

-- a line that no row applies to is answered with that number
abbrev pub by_row : ℕ → Option (ℕ × ℕ) → Reply
by_row number None = taken number
by_row number (Some code) = refused code

-- a line's number is that of the lines in the book
abbrev pub reply : Held → Piece → Reply
reply h p = by_row (length h.entries) (row_of h p)

-- a line that no row applies to is then the book's last; any other leaves the book as it was
abbrev pub with_line : Held → List ℕ → Option (ℕ × ℕ) → Held
with_line h bs None = with_said h (entry_said h.people bs)
with_line h bs (Some code) = h

-- the book after a line; one that is cut is never taken
abbrev pub after : Held → Piece → Held
after h (whole bs) = with_line h bs (first_row rows h bs)
after h (cut bs) = h

-- the answers to lines, each by the book after those before it
unfoldable pub replies : Held → List Piece → List Reply
replies h [] = []
replies h (p ∷ ps) = reply h p ∷ replies (after h p) ps

-- the book after all of them
unfoldable pub book_after : Held → List Piece → Held
book_after h [] = h
book_after h (p ∷ ps) = book_after (after h p) ps

-- the line that bytes say, in a book for n people
abbrev pub line_said : ℕ → Option Entry → List Line
line_said n None = []
line_said n (Some e) = lines n (e ∷ [])

-- the line of a piece that was answered with a number
abbrev pub answered_by : ℕ → Piece → Reply → List Line
answered_by n (whole bs) (taken number) = line_said n (entry_said n bs)
answered_by n (cut bs) (taken number) = line_said n (entry_said n bs)
answered_by n p (refused code) = []

-- the lines that were answered with a number, in their order
unfoldable pub answered : ℕ → List Piece → List Reply → List Line
answered n [] rs = []
answered n (p ∷ ps) [] = []
answered n (p ∷ ps) (r ∷ rs) = answered_by n p r ++ answered n ps rs

-- each answer is a line of text
unfoldable pub said : List Reply → List ℕ
said [] = []
said (r ∷ rs) = as_line (answer_said r) ++ said rs

-- the text of the answers to lines
abbrev pub answers : Held → List Piece → List ℕ
answers h ps = said (replies h ps)

-- what reading lines makes of a book and a text: the book after them, and the text followed by their answers
pub record Read (lines : List ℕ) (book book' : Held) (text text' : List ℕ) : Type 0 where
  pub kept : book' ≡ book_after book (pieces lines)
  pub written : text' ≡ text ++ answers book (pieces lines)
