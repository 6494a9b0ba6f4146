-- The rests fall from all others on, each of them the greatest subset below the last.
use Rattle.std.proofs.Common.{◌≡◌, ◌+◌, Some, None, length, sym, arith}
use Rattle.groups.proofs.ChosenLaws.{chosen_is}
use Rattle.groups.proofs.Passed.{tried_low, tried_part, try_first, try_here, try_next, try_none, try_part}
use Rattle.groups.proofs.SetLaws.{part_le}
use Rattle.groups.proofs.fixing.Left.choose.Goals as goal
use Rattle.groups.specs.Sets.{smallest, subset_below, without}
use Rattle.balances.specs.Signed.{at_person}

pub loop-rest-init : goal.loop-rest-init
loop-rest-init c =
    let t = c.args.self.now in
    let n = length t.crew.balances.now in
    let others = c.without_lowest.ensures n t.small in
    let set : c.into_iter-rest-iterator.result.set ≡ without t.people (smallest n t.people) = cc in
    let below : c.into_iter-rest-iterator.result.below ≡ without t.people (smallest n t.people) + 1 = cc in
    rw below (set, try_first (at_person t.crew.balances.now) n t.counts.now t.people c.requires t.small)

pub reaches-requires : goal.reaches-requires
reaches-requires c =
    let t = c.args.self.now in
    let n = length t.crew.balances.now in
    let is : subset_below (without t.people (smallest n t.people)) c.loop-rest.rest-iterator.below ≡ Some c.in-Some.rest = cc in
    let part = try_part (at_person t.crew.balances.now) n t.counts.now t.people c.requires t.small c.loop-rest.rest-iterator.below c.in-Some.rest is in
    record {
      within = tried_part n t.people c.in-Some.rest c.requires t.small part;
      low = tried_low n t.people c.in-Some.rest c.requires t.small part;
    }

pub returns-then-reaches : goal.returns-then-reaches
returns-then-reaches c =
    let t = c.args.self.now in
    let n = length t.crew.balances.now in
    let is : subset_below (without t.people (smallest n t.people)) c.loop-rest.rest-iterator.below ≡ Some c.in-Some.rest = cc in
    try_here (at_person t.crew.balances.now) n t.counts.now t.people c.requires t.small _ _ is c.loop-rest.invariant.1 (sym c.if-reaches.ensures)

pub loop-rest-preserved : goal.loop-rest-preserved
loop-rest-preserved c =
    let t = c.args.self.now in
    let n = length t.crew.balances.now in
    let is : subset_below (without t.people (smallest n t.people)) c.loop-rest.rest-iterator.below ≡ Some c.in-Some.rest = cc in
    let after = c.in-Some.ensures.steps.1 in
    rw (after.0, after.1) (
      c.loop-rest.invariant.0,
      try_next (at_person t.crew.balances.now) n t.counts.now t.people c.requires t.small _ _ is c.loop-rest.invariant.1 (sym c.if-reaches.ensures),
    )

pub unreachable-requires : goal.unreachable-requires
unreachable-requires c =
    let t = c.args.self.now in
    let f = at_person t.crew.balances.now in
    let n = length t.crew.balances.now in
    let over : subset_below (without t.people (smallest n t.people)) c.loop-rest.rest-iterator.below ≡ None = cc in
    let group = chosen_is f n t.counts.now t.people (λ k l. t.counted.below k 0 l) c.requires t.small t.even t.unsettled in
    omega (arith, try_none f n t.counts.now t.people c.requires t.small _ c.loop-rest.invariant.1 over, part_le _ t.people group.part)
