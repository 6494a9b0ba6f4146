use Rattle.std.proofs.Common.{◌≡◌, ◌∙◌, rules}
use Rattle.std.proofs.iter.runs.Made.{chains}
use Rattle.std.specs.List.{count_by}
use Rattle.audit.proofs.Owings.{count_open, some_bits}
use Rattle.audit.proofs.owing.open_people.Goals as goal

pub returns : goal.returns
returns c =
    let n : c.count.result ≡ count_by some_bits c.numbers.result.now = search (rules, chains) in
    n ∙ count_open c.args.balances.now _ c.numbers.ensures.all c.numbers.ensures.each
