-- No settlement moves less than what is owed.
use Rattle.std.proofs.Common.{ℕ, ◌≤◌, eqb, List, [], ◌∷◌, refl, arith}
use Rattle.shares.specs.Bill.{pick}
use Rattle.shares.specs.Span.{span}
use Rattle.book.specs.Ledger.{Payment}
use Rattle.settlement.specs.Settle.{out, money}
use Rattle.settlement.specs.Promise.{MoneyBound}
use Rattle.shares.proofs.Spans.{span_add, span_mono, span_zero, span_one}

-- what some people pay is no more than what is moved
out_money : (ps : List Payment) (n : ℕ) → span (out ps) n ≤ money ps
unfolding out money
out_money [] n = omega (arith, span_zero (λ i. 0) n (λ i l. refl))
out_money (p ∷ ps) n =
    let one : span (λ i. pick (eqb p.from i) p.amount 0) n ≤ p.amount = grind (arith, span_one p.from p.amount n) in
    omega (arith, out_money ps n, span_add (λ i. pick (eqb p.from i) p.amount 0) (out ps) n)

pub money_bound : MoneyBound
money_bound b ps s e =
    omega (arith, out_money ps b.people, span_mono b.owes (out ps) b.people (λ i l. grind (arith, s.quits i l, e.one_side i l)))
