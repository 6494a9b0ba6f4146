-- Laws of auditing: a refusal where both tables are long enough, what is found of an input, and that one text fits.
use Rattle.std.proofs.Common.{◌≡◌, ℕ, Bool, true, false, List, drop, Some, None, Option, sym, ap, ◌∙◌}
use Rattle.audit.proofs.Verdicts.{only_one}
use Rattle.audit.specs.Bytes.{payments_of}
use Rattle.audit.specs.Refused.{either_first}
use Rattle.audit.specs.declared.unaudited.Unaudited.TheVariants.{Payment, Short}
use Rattle.balances.specs.Promise.{balances}
use Rattle.book.specs.Answers.{crew_size}
use Rattle.book.specs.Held.{Held}
use Rattle.book.specs.Ledger.{Line}
use Rattle.groups.specs.declared.short.Short as table
use Rattle.settlement.specs.Settled.{book_lines}
use Rattle.std.specs.Option.{option_map}
use Rattle.text.proofs.Taken.{book_people, ended_lines}
use Rattle.text.specs.Auditing.{Found, FoundBy, JudgedAs, OneText, payments_in}
use Rattle.text.specs.Pieces.{pieces}
use Rattle.text.specs.Report.{empty, people_in}
use Rattle.text.specs.Run.{book_after}
use Rattle.text.specs.declared.outcome.Outcome.{Outcome}
use Rattle.text.specs.declared.outcome.Outcome.TheVariants.{NoCrew, Unsound, Judged}

-- where no table is too short, a refusal names a payment
pub none_short : (p : Option ℕ) (s : table.Short) → either_first (option_map Short None) (option_map Payment p) ≡ Some (Short s) → ⊥
none_short None s e = cc
none_short (Some at) s e = cc

-- the book of an input, and the payments for it
pub judged_found : (bs ls ps : List ℕ) (n : ℕ) (h h' : Held) (bss : List (List ℕ)) (o : Outcome) → n ≡ people_in bs → ls ≡ drop 1 bs → crew_size n ≡ true →
    h ≡ empty n → h' ≡ book_after h (pieces ls) → bss ≡ payments_in ps → JudgedAs h'.people (book_lines h') bss o → Found bs ps o
judged_found bs ls ps n h h' bss o people rest crew begins ends cut j =
    let there = rw people at crew in
    rw there (rw (ends, begins, people, rest, cut, ended_lines, book_people) at j)

-- no two outcomes
one_judged : (n : ℕ) (ls : List Line) (bss : List (List ℕ)) (o p : Outcome) → JudgedAs n ls bss o → JudgedAs n ls bss p → o ≡ p
one_judged n ls bss NoCrew p j k = absurd j
one_judged n ls bss (Unsound at) NoCrew j k = absurd k
one_judged n ls bss (Unsound at) (Unsound at') j k = cc
one_judged n ls bss (Unsound at) (Judged w) j k = cc
one_judged n ls bss (Judged v) NoCrew j k = absurd k
one_judged n ls bss (Judged v) (Unsound at) j k = cc
one_judged n ls bss (Judged v) (Judged w) j k = ap Judged (only_one (balances n ls) (payments_of bss) v w j.1 k.1)

one_found : (t : Bool) (n : ℕ) (ls : List Line) (bss : List (List ℕ)) (o p : Outcome) → FoundBy t n ls bss o → FoundBy t n ls bss p → o ≡ p
one_found true n ls bss o p j k = one_judged n ls bss o p j k
one_found false n ls bss o p j k = j ∙ sym k

pub one_text : OneText
one_text bs ps text text' j k =
    let same : j.outcome ≡ k.outcome = one_found _ _ _ _ _ _ j.found k.found in
    cc
