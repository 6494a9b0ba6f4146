-- What holds of the numbers holds of the balances.
use Rattle.groups.proofs.OfBalances.{of_crew}
use Rattle.groups.proofs.filling.fill_tables.Goals as goal
use Rattle.groups.specs.Tables.{Written}

pub returns : goal.returns
returns c =
    let is = c.from.ensures in (
      c.in_ok-room.ensures,
      of_crew c.args.balances.now c.from.result.balances.now is.0 is.1
          (λ f n. Written f n c.args.sums.now c.fill.new.sums c.args.counts.now c.fill.new.counts) c.fill.ensures,
    )
