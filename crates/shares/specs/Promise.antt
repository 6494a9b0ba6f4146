-- What holds of the shares of every bill in order.
use Rattle.std.specs.Prelude.{◌≡◌, ℕ, ◌+◌, ◌*◌, ◌<◌, length, slice_index}
use Rattle.shares.specs.Bill.{Bill, total, share}
use Rattle.shares.specs.Span.{span}

-- a bill in order for n people: the payer is one of them, each has a weight, and not all weights are 0
pub record SoundBill (n : ℕ) (b : Bill) : Type 0 where
  pub payer : b.payer < n
  pub weights : length b.weights ≡ n
  pub some : 0 < total b.weights

-- the shares of a bill are the bill
abbrev pub SharesAdd : Type 0
SharesAdd = (n : ℕ) (b : Bill) → SoundBill n b → span (λ i. share b i) n ≡ b.amount

-- each share lies less than a cent from the exact one
abbrev pub ShareNear : Type 0
ShareNear =
    (n : ℕ) (b : Bill) (i : ℕ) → SoundBill n b → i < n →
    (share b i * total b.weights < slice_index b.weights i * b.amount + total b.weights) ×
    (slice_index b.weights i * b.amount < share b i * total b.weights + total b.weights)
