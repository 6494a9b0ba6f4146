-- Lists of payments that settle balances, and the best of them.
use Rattle.std.specs.Prelude.{◌≡◌, ℕ, ◌+◌, ◌<◌, ◌≤◌, List, [], ◌∷◌, length, ◌==◌, slice_index_or}
use Rattle.shares.specs.Bill.{pick}
use Rattle.balances.specs.Even.{Balances}
use Rattle.book.specs.Ledger.{Payment}

-- what person i pays
unfoldable pub out : List Payment → ℕ → ℕ
out [] i = 0
out (p ∷ ps) i = pick (p.from == i) p.amount 0 + out ps i

-- what person i gets
unfoldable pub into : List Payment → ℕ → ℕ
into [] i = 0
into (p ∷ ps) i = pick (p.to == i) p.amount 0 + into ps i

-- the payments are among the people, and after them nobody owes anything
pub record Settles (b : Balances) (ps : List Payment) : Type 0 where
  pub among_them : (k : ℕ) (d : Payment) → k < length ps → ((slice_index_or ps k d).from < b.people) × ((slice_index_or ps k d).to < b.people)
  pub quits : (i : ℕ) → i < b.people → b.owes i + into ps i ≡ b.owed i + out ps i

-- all the money that is moved
unfoldable pub money : List Payment → ℕ
money [] = 0
money (p ∷ ps) = p.amount + money ps

-- settles, and nothing that settles has fewer payments or moves less
pub record Best (b : Balances) (ps : List Payment) : Type 0 where
  pub settles : Settles b ps
  pub fewest : (qs : List Payment) → Settles b qs → length ps ≤ length qs
  pub least : (qs : List Payment) → Settles b qs → money ps ≤ money qs
