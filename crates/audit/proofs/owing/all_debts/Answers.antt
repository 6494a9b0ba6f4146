-- Nobody owes more than 2^48, so that sixteen debts fit.
use Rattle.std.proofs.Common.{◌≡◌, ◌∙◌, rules}
use Rattle.std.proofs.iter.runs.Made.{chains}
use Rattle.std.specs.List.{sum_by}
use Rattle.balances.specs.Signed.{debt}
use Rattle.audit.proofs.Owings.{sum_debts, debts_fit}
use Rattle.audit.proofs.owing.all_debts.Goals as goal

pub sum-requires-clause-fits : goal.sum-requires-clause-fits
sum-requires-clause-fits c =
    let fits = debts_fit c.args.balances.now _ c.numbers.ensures.all c.numbers.ensures.each in search (rules, chains)

pub returns : goal.returns
returns c =
    let n : c.sum.result ≡ sum_by debt c.numbers.result.now = search (rules, chains) in
    n ∙ sum_debts c.args.balances.now _ c.numbers.ensures.all c.numbers.ensures.each
