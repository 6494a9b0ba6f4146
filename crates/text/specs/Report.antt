-- The whole text for an input.
use Rattle.std.specs.Prelude.{◌≡◌, ℕ, true, cond, List, [], ◌++◌, drop, slice_index}
use Rattle.balances.specs.Promise.{balances}
use Rattle.book.specs.Answers.{crew_size}
use Rattle.book.specs.Codes.{code}
use Rattle.book.specs.Held.{Held}
use Rattle.book.specs.Ledger.{Line}
use Rattle.book.specs.Words.{refused_at}
use Rattle.book.specs.declared.refusal.Refusal.TheVariants.{CrewSize}
use Rattle.settlement.specs.Settle.{Best}
use Rattle.settlement.specs.Settled.{book_lines}
use Rattle.text.specs.Answers.{Reply}
use Rattle.text.specs.Payments.{payments, payments_said}
use Rattle.text.specs.Pieces.{Piece, pieces}
use Rattle.text.specs.Run.{answered, answers, book_after, replies, said}
use Rattle.text.specs.Sides.{balances_said}
use Rattle.text.specs.Texts.{as_line}

-- the first byte is the number of people, and no byte at all is none
abbrev pub people_in : List ℕ → ℕ
people_in bs = slice_index bs 0

-- the lines come after it
abbrev pub pieces_in : List ℕ → List Piece
pieces_in bs = pieces (drop 1 bs)

-- a book with no lines, and room for 512
abbrev pub empty : ℕ → Held
empty n = record { people = n; room = 512; entries = [] }

-- the answers to all lines
abbrev pub replies_in : List ℕ → List Reply
replies_in bs = replies (empty (people_in bs)) (pieces_in bs)

-- the lines that were answered with a number
abbrev pub answered_in : List ℕ → List Line
answered_in bs = answered (people_in bs) (pieces_in bs) (replies_in bs)

-- what is said of n people by the lines that were taken: who owes and who is owed, and the payments that settle it
unfoldable pub closing : ℕ → List Line → List ℕ
closing n ls = balances_said (balances n ls) ++ payments_said (payments n ls)

-- the refusal of the number of people; or the answers to all lines, and what is said by those that were answered with a number
unfoldable pub reported : List ℕ → List ℕ
reported bs = cond (crew_size (people_in bs)) (said (replies_in bs) ++ closing (people_in bs) (answered_in bs)) (as_line (refused_at (code CrewSize)))

-- the payments whose lines are printed are a best settlement of the lines that were answered with a number
abbrev pub BestPrinted : List ℕ → Type 0
BestPrinted bs = crew_size (people_in bs) ≡ true → Best (balances (people_in bs) (answered_in bs)) (payments (people_in bs) (answered_in bs))

-- every byte of the text, and that its payments are best
pub record Reported (bs text : List ℕ) : Type 0 where
  pub exact : text ≡ reported bs
  pub best : BestPrinted bs

-- what closing a book for n people with these lines adds to a text, and that its payments are best
pub record Closed (n : ℕ) (ls : List Line) (text text' : List ℕ) : Type 0 where
  pub written : text' ≡ text ++ closing n ls
  pub best : Best (balances n ls) (payments n ls)

-- what reading lines into a book and closing it adds to a text
abbrev pub Told : Held → List Piece → List ℕ → List ℕ → Type 0
Told h ps text text' = Closed (book_after h ps).people (book_lines (book_after h ps)) (text ++ answers h ps) text'
