-- The theorems on verdicts, each a statement.
use Rattle.std.specs.Prelude.{◌≡◌, ℕ, ◌<◌, ◌≤◌, true, false, List, [], length, ℤ, Some, None, Ok, Decides, Result, slice_index_or}
use Rattle.balances.specs.Even.{Balances, Even}
use Rattle.balances.specs.Promise.{balances}
use Rattle.balances.specs.Tally.{Counted, balance_of}
use Rattle.balances.specs.declared.sheet.Balances as sheet
use Rattle.book.specs.Held.{Held}
use Rattle.book.specs.Ledger.{Payment}
use Rattle.groups.specs.Groups.{Groups}
use Rattle.groups.specs.Shorts.{too_short}
use Rattle.settlement.specs.Settle.{Best}
use Rattle.settlement.specs.Settled.{SettledBy, book_lines}
use Rattle.audit.specs.Audited.{Answers}
use Rattle.audit.specs.Bytes.{faulty, first_faulty}
use Rattle.audit.specs.Encoded.{all_encoded}
use Rattle.audit.specs.Judged.{judged}
use Rattle.audit.specs.Verdict.{Among, Fewest, Least, Fits, says_fewest, says_least}
use Rattle.audit.specs.declared.unaudited.Unaudited.{Unaudited}
use Rattle.audit.specs.declared.verdict.Verdict.{Verdict}
use Rattle.audit.specs.declared.verdict.Verdict.TheVariants.{FewestAndLeast}

-- payment k is not in order, and each before it is
pub record StopsAt (n : ℕ) (bss : List (List ℕ)) (k : ℕ) : Type 0 where
  pub there : k < length bss
  pub here : faulty n k (slice_index_or bss k []) ≡ true
  pub before : (j : ℕ) → j < k → faulty n j (slice_index_or bss j []) ≡ false

-- payments are turned away at one exactly where it is not in order and each before it is, and at none exactly where each is
abbrev pub FirstOutOfOrder : Type 0
FirstOutOfOrder =
    (n : ℕ) (bss : List (List ℕ)) →
    ((k : ℕ) → first_faulty n 0 bss ≡ Some k → StopsAt n bss k) × ((k : ℕ) → StopsAt n bss k → first_faulty n 0 bss ≡ Some k) ×
    (first_faulty n 0 bss ≡ None → (k : ℕ) → k < length bss → faulty n k (slice_index_or bss k []) ≡ false) ×
    (((k : ℕ) → k < length bss → faulty n k (slice_index_or bss k []) ≡ false) → first_faulty n 0 bss ≡ None)

-- the verdict that is given fits
abbrev pub JudgedFits : Type 0
JudgedFits =
    (b : Balances) (g : ℕ) (ps : List Payment) → Even b → Groups b g → ((h : ℕ) → Groups b h → h ≤ g) → Among b ps → Fits b ps (judged b g ps)

-- and no other does
abbrev pub OnlyOne : Type 0
OnlyOne = (b : Balances) (ps : List Payment) (v w : Verdict) → Fits b ps v → Fits b ps w → v ≡ w

-- a verdict that fits has fewest in its name exactly where no settlement has fewer payments
abbrev pub SaysFewest : Type 0
SaysFewest = (b : Balances) (ps : List Payment) (v : Verdict) → Fits b ps v → Decides (says_fewest v) (Fewest b ps)

-- and least exactly where none moves less money
abbrev pub SaysLeast : Type 0
SaysLeast = (b : Balances) (ps : List Payment) (v : Verdict) → Fits b ps v → Decides (says_least v) (Least b ps)

-- the verdict that fits a best settlement is both
abbrev pub BestJudged : Type 0
BestJudged = (b : Balances) (ps : List Payment) (v : Verdict) → Best b ps → Fits b ps v → v ≡ FewestAndLeast

-- whatever settling a book gives, written as bytes, is no payment that is turned away, and the auditor answers that it is both
abbrev pub SettledAudited : Type 0
SettledAudited =
    (h : Held) (b : sheet.Balances) → Counted h b → (ps : List Payment) (old-sums sums : List ℤ) (old-counts counts : List ℕ) →
    SettledBy h.people (balance_of (book_lines h)) (balances h.people (book_lines h)) old-sums sums old-counts counts ps →
    (r : Result Verdict Unaudited) (before-sums after-sums : List ℤ) (before-counts after-counts : List ℕ) →
    too_short h.people before-sums before-counts ≡ None →
    Answers h.people (balance_of (book_lines h)) (balances h.people (book_lines h)) before-sums after-sums before-counts after-counts (all_encoded ps) r →
    r ≡ Ok FewestAndLeast
