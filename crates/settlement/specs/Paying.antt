-- The settlement from groups: in each group the first who owes pays the first who is owed, until the group is even.
use Rattle.std.specs.Prelude.{ℕ, zero, suc, ◌-◌, min, Bool, true, false, ◌&&◌, List, [], ◌∷◌, ◌++◌, map, ℤ, ◌==◌, nat_lt}
use Rattle.balances.specs.Signed.{debt, credit}
use Rattle.groups.specs.Fixed.{first_of}
use Rattle.groups.specs.Sets.{is_in}
use Rattle.shares.specs.Bill.{pick}
use Rattle.book.specs.Ledger.{Payment}

-- the smallest number below n that passes, n where none does
abbrev pub first : (ℕ → Bool) → ℕ → ℕ
first = first_of

-- who of the group still has something of f
abbrev pub has : (ℕ → Bool) → (ℕ → ℕ) → ℕ → Bool
has m f i = m i && nat_lt 0 (f i)

-- f with a taken off at p
abbrev pub less_at : (ℕ → ℕ) → ℕ → ℕ → ℕ → ℕ
less_at f p a i = pick (p == i) (f i - a) (f i)

-- at most k payments in the group m of n people: the smallest who owes pays the smallest who is owed the lesser amount
unfoldable pub group_payments : ℕ → ℕ → (ℕ → Bool) → (ℕ → ℕ) → (ℕ → ℕ) → List Payment
group_payments zero n m owes owed = []
group_payments (suc k) n m owes owed =
    let p : ℕ = first (has m owes) n in
    let q : ℕ = first (has m owed) n in
    let a : ℕ = min (owes p) (owed q) in
    elim (nat_lt p n && nat_lt q n) [
      | true ↦ record { from = p; to = q; amount = a } ∷ group_payments k n m (less_at owes p a) (less_at owed q a)
      | false ↦ []
    ]

-- group after group; as many payments as people are enough in each
unfoldable pub all_payments : ℕ → List (ℕ → Bool) → (ℕ → ℕ) → (ℕ → ℕ) → List Payment
all_payments n [] owes owed = []
all_payments n (m ∷ ms) owes owed = group_payments n n m owes owed ++ all_payments n ms owes owed

-- the settlement of n signed balances by sets of people
unfoldable pub settlement : ℕ → List ℕ → (ℕ → ℤ) → List Payment
settlement n sets f = all_payments n (map is_in sets) (λ i. debt (f i)) (λ i. credit (f i))
