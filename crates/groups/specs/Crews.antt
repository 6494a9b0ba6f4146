-- Crews by a list of their balances, and some with their groups.
use Rattle.std.specs.Prelude.{◌≡◌, ℕ, List, [], ◌∷◌, length, ℤ, pos, neg_ℤ}
use Rattle.groups.specs.Fixed.{fixed_groups}
use Rattle.balances.specs.Signed.{at_person}

-- a crew and its groups, in the order in which they are fixed
abbrev pub Grouped : List ℤ → List ℕ → Type 0
Grouped zs ts = fixed_groups (at_person zs) (length zs) ≡ ts

-- who owes n
abbrev pub minus : ℕ → ℤ
minus n = neg_ℤ (pos n)

-- example crews and their groups
abbrev pub CrewsGrouped : Type 0
CrewsGrouped =
    Grouped (minus 30 ∷ minus 20 ∷ minus 10 ∷ pos 25 ∷ pos 25 ∷ pos 10 ∷ []) (27 ∷ 36 ∷ [])
    × Grouped (minus 5 ∷ minus 5 ∷ pos 10 ∷ minus 7 ∷ pos 3 ∷ pos 4 ∷ []) (7 ∷ 56 ∷ [])
    × Grouped (minus 8 ∷ pos 8 ∷ minus 6 ∷ pos 6 ∷ []) (3 ∷ 12 ∷ [])
    × Grouped (minus 3 ∷ minus 4 ∷ minus 5 ∷ pos 12 ∷ []) (15 ∷ [])
    × Grouped (pos 0 ∷ pos 0 ∷ []) []
    × Grouped (minus 1 ∷ pos 1 ∷ []) (3 ∷ [])
