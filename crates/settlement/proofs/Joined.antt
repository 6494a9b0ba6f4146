-- What two lists of payments bring one after the other.
use Rattle.std.proofs.Common.{◌≡◌, ℕ, ◌+◌, List, [], ◌∷◌, ◌++◌, arith}
use Rattle.book.specs.Ledger.{Payment}
use Rattle.settlement.specs.Settle.{out, into, money}

pub out_append : (ps qs : List Payment) (i : ℕ) → out (ps ++ qs) i ≡ out ps i + out qs i
unfolding out
out_append [] qs i = omega arith
out_append (p ∷ ps) qs i = omega (arith, out_append ps qs i)

pub into_append : (ps qs : List Payment) (i : ℕ) → into (ps ++ qs) i ≡ into ps i + into qs i
unfolding into
into_append [] qs i = omega arith
into_append (p ∷ ps) qs i = omega (arith, into_append ps qs i)

pub money_append : (ps qs : List Payment) → money (ps ++ qs) ≡ money ps + money qs
unfolding money
money_append [] qs = omega arith
money_append (p ∷ ps) qs = omega (arith, money_append ps qs)
