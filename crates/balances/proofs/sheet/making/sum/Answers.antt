-- Each number is in range, so that the sum stays within that many ranges as there were people.
use Rattle.std.proofs.Common.{refl, ap, add-one, arith}
use Rattle.std.proofs.lemmas.Int.{ints}
use Rattle.balances.proofs.Holds.{near_each}
use Rattle.balances.proofs.SpansZ.{span_z_more}
use Rattle.balances.specs.Signed.{at_person, span_z}
use Rattle.balances.proofs.sheet.making.sum.Goals as goal

pub loop-number-init : goal.loop-number-init
unfolding span_z
loop-number-init c = (refl, omega arith)

pub overflow_add-sum : goal.overflow_add-sum
overflow_add-sum c = let near = near_each c.args.cents.now c.loop-number.number-index c.requires.near in omega (arith, ints)

pub loop-number-preserved : goal.loop-number-preserved
loop-number-preserved c =
    let xs = c.args.cents.now in
    let i = c.loop-number.number-index in
    let near = near_each xs i c.requires.near in
    (omega (arith, ints, span_z_more (at_person xs) i, ap (span_z (at_person xs)) (add-one i)), omega (arith, ints))
