-- The people who are open sum to 0 as all do, and there are at most as many groups as people.
use Rattle.std.proofs.Common.{length, vec_items, ◌∙◌, arith}
use Rattle.groups.proofs.FixedGroups.{fixed_all}
use Rattle.groups.proofs.OfBalances.{of_crew}
use Rattle.groups.proofs.OpenLaws.{open_all, open_below, open_sum}
use Rattle.groups.proofs.SizeLaws.{size_le}
use Rattle.groups.proofs.grouping.group_people.Goals as goal
use Rattle.balances.specs.Signed.{at_person}
use Rattle.groups.specs.Made.{Made}

pub invariant_of-left-clause-small : goal.invariant_of-left-clause-small
invariant_of-left-clause-small c =
    let bs = c.from-crew.result.balances.now in
    omega (arith, c.open_people.ensures, open_below (at_person bs) (length bs))

pub invariant_of-left-clause-even : goal.invariant_of-left-clause-even
invariant_of-left-clause-even c =
    let bs = c.from-crew.result.balances.now in
    rw c.open_people.ensures (open_sum (at_person bs) (length bs) ∙ c.from-crew.result.even)

pub invariant_of-left-clause-unsettled : goal.invariant_of-left-clause-unsettled
invariant_of-left-clause-unsettled c =
    let bs = c.from-crew.result.balances.now in
    rw c.open_people.ensures (open_all (at_person bs) (length bs))

pub fix-requires : goal.fix-requires
fix-requires c = omega (arith, size_le (length c.from-crew.result.balances.now) c.open_people.result, c.in_ok-groups.ensures)

pub returns : goal.returns
returns c =
    let is = c.from-crew.ensures in
    let bs = c.from-crew.result.balances.now in
    let filled = c.fill.new in (
      c.in_ok-room.ensures,
      of_crew c.args.balances.now bs is.0 is.1
          (λ f n. Made f n c.args.sums.now filled.sums c.args.counts.now filled.counts (vec_items c.fix.new.groups))
          (record {
            written = c.fill.ensures;
            groups = fixed_all (at_person bs) (length bs) filled.counts c.open_people.result (vec_items c.in_ok-groups.groups) (vec_items c.fix.new.groups)
                (λ k l. c.fill.ensures.counted.below k 0 l) c.in_ok-groups.ensures.items c.open_people.ensures c.fix.ensures;
          }),
    )
