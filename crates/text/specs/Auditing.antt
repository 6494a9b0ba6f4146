-- What is printed of payments from elsewhere for a book.
use Rattle.std.specs.Prelude.{◌≡◌, ℕ, Bool, true, false, List, [], ◌++◌, map, Some, None, codes}
use Rattle.audit.specs.Bytes.{first_faulty, payments_of}
use Rattle.audit.specs.Refused.{unaudited_code}
use Rattle.audit.specs.Verdict.{Fits}
use Rattle.audit.specs.Words.{verdict_said}
use Rattle.audit.specs.declared.unaudited.Unaudited as unaudited
use Rattle.balances.specs.Promise.{balances}
use Rattle.book.specs.Answers.{crew_size}
use Rattle.book.specs.Codes.{code}
use Rattle.book.specs.Ledger.{Line}
use Rattle.book.specs.Words.{refused_at}
use Rattle.book.specs.declared.refusal.Refusal.TheVariants.{CrewSize}
use Rattle.text.specs.Pieces.{Piece, cut, pieces, whole}
use Rattle.text.specs.Report.{answered_in, people_in}
use Rattle.text.specs.Texts.{as_line}
use Rattle.text.specs.declared.outcome.Outcome.{Outcome}
use Rattle.text.specs.declared.outcome.Outcome.TheVariants.{NoCrew, Unsound, Judged}

-- the bytes of a payment; one that is cut counts as a payment of no bytes, which is never in order
abbrev pub payment_bytes : Piece → List ℕ
payment_bytes (whole bs) = bs
payment_bytes (cut bs) = []

-- all payments, each after a byte of its length
abbrev pub payments_in : List ℕ → List (List ℕ)
payments_in bs = map payment_bytes (pieces bs)

-- in words
abbrev pub outcome_said : Outcome → List ℕ
outcome_said NoCrew = refused_at (code CrewSize)
outcome_said (Unsound at) = codes "payment " ++ refused_at (unaudited_code (unaudited.TheVariants.Payment at))
outcome_said (Judged v) = verdict_said v

-- what payments come to for n people by these lines: the first that is not in order, or the verdict that fits them
abbrev pub JudgedAs : ℕ → List Line → List (List ℕ) → Outcome → Type 0
JudgedAs n ls bss NoCrew = ⊥
JudgedAs n ls bss (Unsound at) = first_faulty n 0 bss ≡ Some at
JudgedAs n ls bss (Judged v) = (first_faulty n 0 bss ≡ None) × Fits (balances n ls) (payments_of bss) v

-- the same where so many people can have a book, and else their refusal
abbrev pub FoundBy : Bool → ℕ → List Line → List (List ℕ) → Outcome → Type 0
FoundBy true n ls bss o = JudgedAs n ls bss o
FoundBy false n ls bss o = o ≡ NoCrew

-- what is found of the payments for the lines of an input that were answered with a number
abbrev pub Found : List ℕ → List ℕ → Outcome → Type 0
Found bs ps o = FoundBy (crew_size (people_in bs)) (people_in bs) (answered_in bs) (payments_in ps) o

-- the text is what is found, on one line
pub record JudgedText (bs ps text : List ℕ) : Type 0 where
  pub outcome : Outcome
  pub found : Found bs ps outcome
  pub exact : text ≡ as_line (outcome_said outcome)

-- no second text fits
abbrev pub OneText : Type 0
OneText = (bs ps text text' : List ℕ) → JudgedText bs ps text → JudgedText bs ps text' → text ≡ text'
