-- A balance and what is paid on it are small, so that their sum fits.
use Rattle.std.proofs.Common.{rules}
use Rattle.balances.proofs.Holds.{near_at}
use Rattle.groups.specs.Signs.{is_zero}
use Rattle.audit.proofs.owing.is_left.Goals as goal

pub overflow_add-result : goal.overflow_add-result
overflow_add-result c = let b = near_at c.args.balances.now c.args.person in let n = c.args.tally.now.near c.args.person in search rules

pub returns : goal.returns
unfolding is_zero
returns c = let b = near_at c.args.balances.now c.args.person in let n = c.args.tally.now.near c.args.person in search rules
