-- Sixteen weights fit, and their sum is their total.
use Rattle.std.proofs.Common.{rules}
use Rattle.std.proofs.iter.runs.Sources.{sums}
use Rattle.shares.proofs.Totals.{total_sum}
use Rattle.shares.proofs.total_weight.Goals as goal

pub sum-requires-clause-fits : goal.sum-requires-clause-fits
sum-requires-clause-fits c = search (rules, sums)

pub returns : goal.returns
returns c = rw total_sum (search rules)
