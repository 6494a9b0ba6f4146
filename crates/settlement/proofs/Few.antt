-- How many payments there are at most.
use Rattle.std.proofs.Common.{ℕ, ◌≤◌, List, map, length, ℤ, arith}
use Rattle.shares.proofs.Spans.{span_count}
use Rattle.balances.specs.Even as any
use Rattle.balances.specs.Signed.{signed}
use Rattle.balances.specs.View.{sides_of}
use Rattle.balances.specs.declared.sheet.Balances.{Balances}
use Rattle.balances.proofs.Holds.{sides_even}
use Rattle.groups.specs.Groups.{still_open}
use Rattle.groups.specs.Sets.{is_in}
use Rattle.settlement.specs.Amounts.{settled_by}
use Rattle.groups.specs.SetsPart.{SetsPart}
use Rattle.settlement.specs.Paying.{settlement}
use Rattle.settlement.proofs.Settled.{sets_settle}

-- no more people are open than there are
pub still_open_le : (b : any.Balances) → still_open b ≤ b.people
unfolding still_open
still_open_le b = span_count _ b.people (λ i l. grind arith)

-- sets that part the open people give no more payments than there are people
pub payments_le : (n : ℕ) (f : ℕ → ℤ) (sets : List ℕ) → any.Even (signed n f) → SetsPart (signed n f) (map is_in sets) → length (settlement n sets f) ≤ n
payments_le n f sets e h = omega (arith, (sets_settle n f sets e h).1, still_open_le (signed n f))

-- and so at most sixteen
pub at_most_sixteen : (b : Balances) (sets : List ℕ) → SetsPart (sides_of b) (map is_in sets) → length (settled_by b sets) ≤ 16
at_most_sixteen b sets h = omega (arith, payments_le b.people _ sets (sides_even b) h, b.crew)
