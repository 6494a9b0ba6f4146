-- What each verdict says of a list of payments.
use Rattle.std.specs.Prelude.{◌≡◌, ℕ, ◌+◌, ◌<◌, ◌≤◌, Bool, true, false, List, length}
use Rattle.std.specs.List.{AllByRecursion}
use Rattle.balances.specs.Even.{Balances}
use Rattle.book.specs.Ledger.{Payment}
use Rattle.settlement.specs.Settle.{out, into, money, Settles}
use Rattle.audit.specs.declared.verdict.Verdict.{Verdict}
use Rattle.audit.specs.declared.verdict.Verdict.TheVariants.{FewestAndLeast, FewestOnly, LeastOnly, SettlesOnly, NotQuit}

-- each payment is among the people
abbrev pub Among : Balances → List Payment → Type 0
Among b ps = AllByRecursion (λ p. (p.from < b.people) × (p.to < b.people)) ps

-- what person i owes and gets is what it is owed and pays
abbrev pub Quit : Balances → List Payment → ℕ → Type 0
Quit b ps i = b.owes i + into ps i ≡ b.owed i + out ps i

-- settles, and nothing that settles has fewer payments
pub record Fewest (b : Balances) (ps : List Payment) : Type 0 where
  pub settles : Settles b ps
  pub fewest : (qs : List Payment) → Settles b qs → length ps ≤ length qs

-- settles, and nothing that settles moves less money
pub record Least (b : Balances) (ps : List Payment) : Type 0 where
  pub settles : Settles b ps
  pub least : (qs : List Payment) → Settles b qs → money ps ≤ money qs

-- person i is not quit, and everybody before it is
pub record Unquit (b : Balances) (ps : List Payment) (i : ℕ) : Type 0 where
  pub there : i < b.people
  pub unquit : Quit b ps i → ⊥
  pub before : (j : ℕ) → j < i → Quit b ps j

-- what a verdict says of the payments
abbrev pub Fits : Balances → List Payment → Verdict → Type 0
Fits b ps FewestAndLeast = Fewest b ps × Least b ps
Fits b ps FewestOnly = Fewest b ps × (Least b ps → ⊥)
Fits b ps LeastOnly = Least b ps × (Fewest b ps → ⊥)
Fits b ps SettlesOnly = Settles b ps × (Fewest b ps → ⊥) × (Least b ps → ⊥)
Fits b ps (NotQuit i) = Unquit b ps i

-- does a verdict have fewest in its name
abbrev pub says_fewest : Verdict → Bool
says_fewest FewestAndLeast = true
says_fewest FewestOnly = true
says_fewest LeastOnly = false
says_fewest SettlesOnly = false
says_fewest (NotQuit i) = false

-- does it have least in its name
abbrev pub says_least : Verdict → Bool
says_least FewestAndLeast = true
says_least FewestOnly = false
says_least LeastOnly = true
says_least SettlesOnly = false
says_least (NotQuit i) = false
