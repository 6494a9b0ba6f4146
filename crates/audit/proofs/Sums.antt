-- Sums over payments: their bounds, and one payment more.
use Rattle.std.proofs.Common.{◌≡◌, ℕ, ◌+◌, ◌*◌, ◌≤◌, eqb, List, [], ◌∷◌, ◌++◌, length, arith}
use Rattle.std.specs.List.{AllByRecursion}
use Rattle.shares.specs.Bill.{pick}
use Rattle.book.specs.Ledger.{Payment}
use Rattle.settlement.specs.Settle.{out, into, money}
use Rattle.settlement.proofs.Joined.{out_append, into_append, money_append}

-- payments of at most m each
pub money_le : (m : ℕ) (ps : List Payment) → AllByRecursion (λ p. p.amount ≤ m) ps → money ps ≤ length ps * m
unfolding money
money_le m [] h = omega arith
money_le m (p ∷ ps) h = omega (arith, h.0, money_le m ps h.1)

-- one payment more at the end
pub out_push : (ps : List Payment) (p : Payment) (i : ℕ) → out (ps ++ (p ∷ [])) i ≡ out ps i + pick (eqb p.from i) p.amount 0
unfolding out
out_push ps p i = omega (arith, out_append ps (p ∷ []) i)

pub into_push : (ps : List Payment) (p : Payment) (i : ℕ) → into (ps ++ (p ∷ [])) i ≡ into ps i + pick (eqb p.to i) p.amount 0
unfolding into
into_push ps p i = omega (arith, into_append ps (p ∷ []) i)

pub money_push : (ps : List Payment) (p : Payment) → money (ps ++ (p ∷ [])) ≡ money ps + p.amount
unfolding money
money_push ps p = omega (arith, money_append ps (p ∷ []))
