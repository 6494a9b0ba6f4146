-- Groups that come out even, of balances.
use Rattle.std.specs.Prelude.{◌≡◌, ℕ, ◌+◌, ◌<◌, ◌==◌, nat_lt}
use Rattle.balances.specs.Even.{Balances}
use Rattle.shares.specs.Bill.{pick}
use Rattle.shares.specs.Span.{span}

-- people with something open parted into groups by a number below g, each of which comes out even and has somebody who owes
pub record Groups (b : Balances) (g : ℕ) : Type 0 where
  pub group : ℕ → ℕ
  pub below : (i : ℕ) → i < b.people → 0 < b.owes i + b.owed i → group i < g
  pub even : (j : ℕ) → j < g → span (λ i. pick (group i == j) (b.owes i) 0) b.people ≡ span (λ i. pick (group i == j) (b.owed i) 0) b.people
  pub some : (j : ℕ) → j < g → (i : ℕ) × (i < b.people) × (group i ≡ j) × (0 < b.owes i)

-- how many people owe or are owed anything
unfoldable pub still_open : Balances → ℕ
still_open b = span (λ i. pick (nat_lt 0 (b.owes i + b.owed i)) 1 0) b.people
