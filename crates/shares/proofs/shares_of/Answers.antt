-- One turn: total_take_more gives the next front of the weights, and the difference is that person's share by definition.
use Rattle.std.proofs.Common.{mul-zero, arith, length-set, rules}
use native.Mathlib.Nat.{zero-div}
use Rattle.std.proofs.lemmas.Grind.{common_steps}
use Rattle.shares.specs.Bill.{total, share}
use Rattle.shares.proofs.Totals.{total_take_more, total_next_le}
use Rattle.shares.proofs.Sixteen.{all_shares_from}
use Rattle.shares.proofs.shares_of.Goals as goal

pub loop-person-init : goal.loop-person-init
unfolding total
loop-person-init c = search (rules, mul-zero, zero-div)

pub overflow_add-part : goal.overflow_add-part
overflow_add-part c = search (rules, total_next_le)

pub falls_to-up_to-requires : goal.falls_to-up_to-requires
falls_to-up_to-requires c = search (rules, total_next_le)

pub loop-person-preserved : goal.loop-person-preserved
unfolding share
loop-person-preserved c =
    let t = c.loop-person in
    let more = total_take_more c.args.weights.now t.person in (
      simp length-set t.invariant.0,
      omega arith,
      search rules,
      λ k l. grind (arith, common_steps, t.invariant.3 k),
    )

pub returns : goal.returns
returns c payer = all_shares_from payer _ _ _ c.loop-person.invariant.0 (λ k l. c.loop-person.invariant.3 k (omega arith))
