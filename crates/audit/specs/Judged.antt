-- The verdict that is given, by what can be counted.
use Rattle.std.specs.Prelude.{ℕ, ◌+◌, Bool, not, List, length, Some, None, Option, ◌==◌, nat_le}
use Rattle.shares.specs.Bill.{pick}
use Rattle.shares.specs.Span.{span}
use Rattle.balances.specs.Even.{Balances}
use Rattle.groups.specs.Groups.{still_open}
use Rattle.book.specs.Ledger.{Payment}
use Rattle.settlement.specs.Amounts.{first_of}
use Rattle.settlement.specs.Settle.{out, into, money}
use Rattle.audit.specs.declared.verdict.Verdict.{Verdict}
use Rattle.audit.specs.declared.verdict.Verdict.TheVariants.{FewestAndLeast, FewestOnly, LeastOnly, SettlesOnly, NotQuit}

-- is person i quit
abbrev pub quit : Balances → List Payment → ℕ → Bool
quit b ps i = b.owes i + into ps i == b.owed i + out ps i

-- the first person who is not
unfoldable pub first_unquit : Balances → List Payment → Option ℕ
first_unquit b ps = first_of b.people (λ i. not (quit b ps i))

-- where the most groups are g: no more payments than open people less g
abbrev pub is_few : Balances → ℕ → List Payment → Bool
is_few b g ps = nat_le (length ps + g) (still_open b)

-- no more money than what is owed
abbrev pub is_little : Balances → List Payment → Bool
is_little b ps = nat_le (money ps) (span b.owes b.people)

-- the verdict on payments that settle, by whether they are few and whether they move little
abbrev pub graded : Bool → Bool → Verdict
graded few little = pick few (pick little FewestAndLeast FewestOnly) (pick little LeastOnly SettlesOnly)

-- the verdict by the first person who is not quit, if there is one
abbrev pub verdict_of : Option ℕ → Bool → Bool → Verdict
verdict_of (Some i) few little = NotQuit i
verdict_of None few little = graded few little

-- the verdict that is given, where the most groups are g
abbrev pub judged : Balances → ℕ → List Payment → Verdict
judged b g ps = verdict_of (first_unquit b ps) (is_few b g ps) (is_little b ps)
