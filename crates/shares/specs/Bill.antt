-- A bill, and each person's share of it by weight, in whole cents.
use Rattle.std.specs.Prelude.{ℕ, ◌+◌, ◌-◌, ◌*◌, ◌/◌, Bool, true, false, List, [], ◌∷◌, map, take}
use Rattle.std.specs.List.{range_with_len}

-- the first where the test holds, else the second
abbrev pub pick : {A : Type 0} → Bool → A → A → A
pick true a b = a
pick false a b = b

-- all numbers of a list together
unfoldable pub total : List ℕ → ℕ
total [] = 0
total (x ∷ xs) = x + total xs

-- who paid a bill, how much it is, and each person's weight in it, person 0 first
pub record Bill : Type 0 where
  pub payer : ℕ
  pub amount : ℕ
  pub weights : List ℕ

-- a bill from its payer, its amount and its weights
abbrev pub billed : ℕ → ℕ → List ℕ → Bill
billed payer amount weights = record { payer = payer; amount = amount; weights = weights }

-- the cents of an amount that fall to the first w of all weights v
abbrev pub up_to : ℕ → ℕ → ℕ → ℕ
up_to amount w v = (amount * w) / v

-- a person's share: what falls to the weights up to and with its own, less what falls to those before it
unfoldable pub share : Bill → ℕ → ℕ
share b i =
    up_to b.amount (total (take (i + 1) b.weights)) (total b.weights) - up_to b.amount (total (take i b.weights)) (total b.weights)

-- the shares of persons 0 to 15, in order
unfoldable pub all_shares : Bill → List ℕ
all_shares b = map (share b) (range_with_len 0 16)
