-- Balances of any number of people, and when they come out even.
use Rattle.std.specs.Prelude.{◌≡◌, ℕ, ◌<◌}
use Rattle.shares.specs.Span.{span}

-- what each of the people owes, and what each is owed
pub record Balances : Type 0 where
  pub people : ℕ
  pub owes : ℕ → ℕ
  pub owed : ℕ → ℕ

-- nobody both owes and is owed, and what is owed is what is owing
pub record Even (b : Balances) : Type 0 where
  pub one_side : (i : ℕ) → i < b.people → 0 < b.owes i → b.owed i ≡ 0
  pub sum : span b.owes b.people ≡ span b.owed b.people
