-- Laws of the whole text: closing a book, the lines before it, and the input.
use Rattle.std.proofs.Common.{◌≡◌, ℕ, true, false, List, [], ◌++◌, drop, ap, append_assoc}
use Rattle.balances.specs.Tally.{Counted}
use Rattle.balances.specs.View.{sides_of}
use Rattle.balances.specs.declared.sheet.Balances.{Balances}
use Rattle.book.specs.Answers.{crew_size}
use Rattle.book.specs.Codes.{code}
use Rattle.book.specs.Held.{Held}
use Rattle.book.specs.Ledger.{Payment}
use Rattle.book.specs.Words.{refused_at}
use Rattle.book.specs.declared.refusal.Refusal.TheVariants.{CrewSize}
use Rattle.settlement.specs.Settled.{book_lines}
use Rattle.text.proofs.Taken.{book_people, ended_lines}
use Rattle.text.specs.Payments.{Settled, payments_said}
use Rattle.text.specs.Pieces.{pieces}
use Rattle.text.specs.Report.{Closed, Reported, Told, closing, empty, people_in, reported}
use Rattle.text.specs.Run.{Read}
use Rattle.text.specs.Sides.{balances_said}
use Rattle.text.specs.Texts.{as_line}

-- the balances of a book, and then its payments
pub closed : (h : Held) (b : Balances) (ps qs : List Payment) (text text' text'' : List ℕ) → Counted h b → Settled h.people (book_lines h) ps → qs ≡ ps →
    text' ≡ text ++ balances_said (sides_of b) → text'' ≡ text' ++ payments_said qs → Closed h.people (book_lines h) text text''
unfolding closing
closed h b ps qs text text' text'' counted settled same owing paying =
    let owed = ap balances_said counted.sides in
    record { written = rw (paying, owing, owed, same, settled.exact) (append_assoc text _ _); best = settled.best }

-- reading lines, and then closing the book that they end with
pub read_told : (ls : List ℕ) (h h' : Held) (text text' text'' : List ℕ) →
    Read ls h h' text text' → Closed h'.people (book_lines h') text' text'' → Told h (pieces ls) text text''
read_told ls h h' text text' text'' r c = rw (r.kept, r.written) at c

-- the report on lines that are read into a book of no lines
pub told_reported : (bs ls : List ℕ) (n : ℕ) (h : Held) (text text' : List ℕ) → n ≡ people_in bs → ls ≡ drop 1 bs → crew_size n ≡ true → h ≡ empty n →
    text ≡ [] → Told h (pieces ls) text text' → Reported bs text'
unfolding reported
told_reported bs ls n h text text' people rest crew begins none t =
    let there = rw people at crew in
    let whole = rw (begins, people, rest, none, ended_lines, book_people) at t in
    record { exact = rw there whole.written; best = λ _. whole.best }

-- the refusal of the number of people
pub refused_reported : (bs text : List ℕ) → crew_size (people_in bs) ≡ false → text ≡ as_line (refused_at (code CrewSize)) → Reported bs text
unfolding reported
refused_reported bs text wrong e = record { exact = rw wrong e; best = λ crew. absurd cc }
