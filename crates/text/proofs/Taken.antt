-- The lines that a book holds after a run are those that were answered with a number.
use Rattle.std.proofs.Common.{◌≡◌, ℕ, leb, List, [], ◌∷◌, ◌++◌, length, Some, None, Option, sym, refl, ◌∙◌, append_assoc}
use Rattle.book.specs.Answers.{entry_said, with_said}
use Rattle.book.specs.Held.{Held}
use Rattle.book.specs.Reading.{lines}
use Rattle.book.specs.Layout.{kind_of}
use Rattle.book.specs.Rows.{at_place, first_row, no_kind, rows, rows_of_cut, told}
use Rattle.book.specs.declared.line.Entry.{Entry}
use Rattle.settlement.specs.Settled.{book_lines}
use Rattle.std.proofs.lemmas.List.{append-nil, map-append}
use Rattle.text.specs.Pieces.{Piece, cut, whole}
use Rattle.text.specs.Report.{empty}
use Rattle.text.specs.Run.{after, answered, answered_by, book_after, by_row, line_said, replies, reply, with_line}

-- a whole line by whether a row applies, and by the entry that it says
with_said_lines : (h : Held) (e : Option Entry) → book_lines (with_said h e) ≡ book_lines h ++ line_said h.people e
unfolding lines
with_said_lines h None = sym (append-nil (book_lines h))
with_said_lines h (Some e) = map-append _ h.entries (e ∷ [])

with_said_people : (h : Held) (e : Option Entry) → (with_said h e).people ≡ h.people
with_said_people h None = refl
with_said_people h (Some e) = refl

whole_lines : (h : Held) (bs : List ℕ) (number : ℕ) (row : Option (ℕ × ℕ)) →
    book_lines (with_line h bs row) ≡ book_lines h ++ answered_by h.people (whole bs) (by_row number row)
whole_lines h bs number None = with_said_lines h (entry_said h.people bs)
whole_lines h bs number (Some code) = sym (append-nil (book_lines h))

whole_people : (h : Held) (bs : List ℕ) (row : Option (ℕ × ℕ)) → (with_line h bs row).people ≡ h.people
whole_people h bs None = with_said_people h (entry_said h.people bs)
whole_people h bs (Some code) = refl

-- a row that comes before one that applies changes nothing in that some row does
some_row : (number : ℕ) (place : Option ℕ) (code : ℕ × ℕ) → (found : ℕ × ℕ) × (told number place (Some code) ≡ Some found)
some_row number None code = (code, refl)
some_row number (Some place) code = ((number, place), refl)

-- a line that is cut is always refused
cut_refused : (h : Held) (bs : List ℕ) → (code : ℕ × ℕ) × (first_row rows_of_cut h bs ≡ Some code)
unfolding rows_of_cut
cut_refused h bs =
    let kindless = some_row 2 (no_kind (kind_of bs)) (3, length bs) in
    let used_up = some_row 11 (at_place (leb h.room (length h.entries)) 0) kindless.0 in
    (used_up.0, rw kindless.1 used_up.1)

-- one line
after_lines : (h : Held) (p : Piece) → book_lines (after h p) ≡ book_lines h ++ answered_by h.people p (reply h p)
after_lines h (whole bs) = whole_lines h bs (length h.entries) (first_row rows h bs)
after_lines h (cut bs) = let refused = cut_refused h bs in rw refused.1 (sym (append-nil (book_lines h)))

after_people : (h : Held) (p : Piece) → (after h p).people ≡ h.people
after_people h (whole bs) = whole_people h bs (first_row rows h bs)
after_people h (cut bs) = refl

-- all lines
pub book_people : (h : Held) (ps : List Piece) → (book_after h ps).people ≡ h.people
unfolding book_after
book_people h [] = refl
book_people h (p ∷ ps) = book_people (after h p) ps ∙ after_people h p

pub answered_lines : (h : Held) (ps : List Piece) → book_lines (book_after h ps) ≡ book_lines h ++ answered h.people ps (replies h ps)
unfolding book_after answered replies
answered_lines h [] = sym (append-nil (book_lines h))
answered_lines h (p ∷ ps) = rw (answered_lines (after h p) ps, after_lines, after_people) (append_assoc (book_lines h) _ _)

-- the lines of a book that began with none
pub ended_lines : (n : ℕ) (ps : List Piece) → book_lines (book_after (empty n) ps) ≡ answered n ps (replies (empty n) ps)
unfolding lines
ended_lines n ps = answered_lines (empty n) ps
