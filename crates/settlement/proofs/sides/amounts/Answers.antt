use Rattle.std.proofs.Common.{rules}
use Rattle.balances.specs.View.{cents_of}
use Rattle.book.proofs.Made.{made_each}
use Rattle.settlement.proofs.sides.amounts.Goals as goal

pub returns : goal.returns
returns g c = λ i l. made_each (λ i y. g.F.Fn.post c.args.amount (cents_of c.args.balances.now i, tt) y) (λ i y q k. search rules) c.from_fn.ensures.items i 0 l
