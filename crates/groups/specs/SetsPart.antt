-- Lists of groups, each a test on people, that part the people with something open.
use Rattle.std.specs.Prelude.{◌≡◌, ℕ, ◌+◌, ◌<◌, Bool, true, List, [], ◌∷◌}
use Rattle.std.specs.List.{AllByRecursion}
use Rattle.shares.specs.Bill.{pick}
use Rattle.shares.specs.Span.{span}
use Rattle.balances.specs.Even.{Balances}

-- x for each group that has person i
unfoldable pub times : List (ℕ → Bool) → ℕ → ℕ → ℕ
times [] x i = 0
times (m ∷ ms) x i = pick (m i) x 0 + times ms x i

-- the sum of f over the group m of n people
abbrev pub in_group : ℕ → (ℕ → Bool) → (ℕ → ℕ) → ℕ
in_group n m f = span (λ i. pick (m i) (f i) 0) n

-- a group that comes out even and has somebody with something open
pub record EvenGroup (b : Balances) (m : ℕ → Bool) : Type 0 where
  pub even : in_group b.people m b.owes ≡ in_group b.people m b.owed
  pub some : (i : ℕ) × (i < b.people) × (m i ≡ true) × (0 < b.owes i + b.owed i)

-- each open person is in one group, and each group comes out even
pub record SetsPart (b : Balances) (ms : List (ℕ → Bool)) : Type 0 where
  pub once : (i : ℕ) → i < b.people → 0 < b.owes i + b.owed i → times ms 1 i ≡ 1
  pub each : AllByRecursion (EvenGroup b) ms
