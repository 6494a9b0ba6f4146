-- The numbers of the people who are there give what everybody has.
use Rattle.std.proofs.Common.{rules}
use Rattle.balances.proofs.Numbers.{numbers_at}
use Rattle.balances.proofs.sheet.Balances.balance.Goals as goal

pub returns : goal.returns
returns c = rw (← numbers_at c.args.self.now c.args.person) (search rules)
