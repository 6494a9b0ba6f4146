-- What holds of the numbers of balances.
use Rattle.groups.proofs.OfBalances.{crew_even, crew_few, crew_moderate}
use Rattle.groups.proofs.crew.CrewFromRefBalances.from.Goals as goal

pub invariant_of-result : goal.invariant_of-result
invariant_of-result c =
    let b = c.args.balances.now in
    let xs = c.numbers.result.now in
    let is = c.numbers.ensures in
    record { few = crew_few b xs is.all is.each; moderate = crew_moderate b xs is.all is.each; even = crew_even b xs is.all is.each }
