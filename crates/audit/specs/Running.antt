-- What payments come to for each person and in all, while they are read.
use Rattle.std.specs.Prelude.{◌≡◌, ℕ, ◌^◌, ◌<◌, ◌≤◌, Bool, not, List, length, ℤ, pos, ◌+ℤ◌, ◌-ℤ◌, slice_set}
use Rattle.std.specs.List.{AllByRecursion}
use Rattle.balances.specs.Signed.{at_person}
use Rattle.book.specs.Ledger.{Payment}
use Rattle.groups.specs.Signs.{is_zero}
use Rattle.settlement.specs.Settle.{out, into, money}
use Rattle.audit.specs.declared.tally.Tally.{Tally}

-- what person i pays less what it gets
abbrev pub net_of : List Payment → ℕ → ℤ
net_of ps i = pos (out ps i) -ℤ pos (into ps i)

-- a table after a payment: its amount is added for who pays and taken off for who gets it
abbrev pub raised : List ℤ → ℕ → ℕ → List ℤ
raised t i a = slice_set t i (at_person t i +ℤ pos a)

abbrev pub lowered : List ℤ → ℕ → ℕ → List ℤ
lowered t i a = slice_set t i (at_person t i -ℤ pos a)

abbrev pub paid_in : List ℤ → Payment → List ℤ
paid_in t p = lowered (raised t p.from p.amount) p.to p.amount

-- a payment that is in order among n people
pub record InOrder (n : ℕ) (p : Payment) : Type 0 where
  pub from_there : p.from < n
  pub to_there : p.to < n
  pub another : p.from ≡ p.to → ⊥
  pub some : 0 < p.amount
  pub small : p.amount ≤ 2 ^ 48

-- a table and a sum of at most 1,024 payments in order among n people
pub record Running (n : ℕ) (ps : List Payment) (net : List ℤ) (moved : ℕ) : Type 0 where
  pub few : length ps ≤ 1024
  pub each : AllByRecursion (InOrder n) ps
  pub long : length net ≡ 16
  pub netted : (i : ℕ) → i < 16 → at_person net i ≡ net_of ps i
  pub summed : moved ≡ money ps

abbrev pub Tallied : ℕ → List Payment → Tally → Type 0
Tallied n ps t = Running n ps t.net t.moved

-- is somebody with this balance, who pays so much more than it gets, left with something
abbrev pub is_left : (ℕ → ℤ) → List ℤ → ℕ → Bool
is_left f net i = not (is_zero (f i +ℤ at_person net i))
