-- Example crews and the payments that settle them.
use Rattle.std.specs.Prelude.{◌≡◌, ℕ, List, [], ◌∷◌, length, ℤ, pos, neg_ℤ}
use Rattle.balances.specs.Signed.{at_person}
use Rattle.book.specs.Ledger.{Payment}
use Rattle.groups.specs.Fixed.{fixed_groups}
use Rattle.settlement.specs.Paying.{settlement}

-- somebody who owes so many cents, and somebody who is owed them
abbrev pub owing : ℕ → ℤ
owing n = neg_ℤ (pos n)

abbrev pub due : ℕ → ℤ
due n = pos n

-- p pays a to q
abbrev pub pay : ℕ → ℕ → ℕ → Payment
pay p q a = record { from = p; to = q; amount = a }

-- a crew has so many groups, and these payments settle it
abbrev pub Crew : List ℤ → ℕ → List Payment → Type 0
Crew crew groups payments =
    (length (fixed_groups (at_person crew) (length crew)) ≡ groups) ×
    (settlement (length crew) (fixed_groups (at_person crew) (length crew)) (at_person crew) ≡ payments)

-- two groups of three, two pairs, one group of four, nobody open, one pair
abbrev pub CrewsSettled : Type 0
CrewsSettled =
    Crew (owing 5 ∷ owing 5 ∷ due 10 ∷ owing 7 ∷ due 3 ∷ due 4 ∷ []) 2 (pay 0 2 5 ∷ pay 1 2 5 ∷ pay 3 4 3 ∷ pay 3 5 4 ∷ []) ×
    Crew (owing 8 ∷ due 8 ∷ owing 6 ∷ due 6 ∷ []) 2 (pay 0 1 8 ∷ pay 2 3 6 ∷ []) ×
    Crew (owing 3 ∷ owing 4 ∷ owing 5 ∷ due 12 ∷ []) 1 (pay 0 3 3 ∷ pay 1 3 4 ∷ pay 2 3 5 ∷ []) ×
    Crew (due 0 ∷ due 0 ∷ []) 0 [] ×
    Crew (owing 1 ∷ due 1 ∷ []) 1 (pay 0 1 1 ∷ [])
