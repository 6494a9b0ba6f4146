-- Each turn writes the next sum and the next count.
use Rattle.std.proofs.Common.{◌^◌, ◌<◌, length, ◌∙◌, arith, rules}
use Rattle.groups.proofs.CountLaws.{count_next}
use Rattle.groups.proofs.FilledLaws.{filled_more}
use Rattle.groups.proofs.SizeLaws.{count_le}
use Rattle.groups.proofs.crew.Crew.fill.Goals as goal
use Rattle.groups.specs.Counts.{count}
use Rattle.balances.specs.Signed.{at_person}
use Rattle.groups.specs.Signs.{sum_of}

pub count_of-requires-clause-low : goal.count_of-requires-clause-low
count_of-requires-clause-low c =
    let bs = c.args.self.now.balances.now in
    λ k l. omega (arith, c.loop-set.invariant.1.below k 0 l, count_le (at_person bs) (length bs) k (omega arith))

pub loop-set-preserved : goal.loop-set-preserved
loop-set-preserved c =
    let bs = c.args.self.now.balances.now in
    let f = at_person bs in
    let s = c.loop-set.set in
    let small : s < 2 ^ length bs = omega arith in (
      filled_more (sum_of f (length bs)) s c.args.sums.now c.loop-set.sums _ (search rules) (omega arith) c.loop-set.invariant.0,
      filled_more (count f (length bs)) s c.args.counts.now c.loop-set.counts _
          (c.count_of.ensures ∙ count_next f (length bs) c.loop-set.counts s small (λ k l. c.loop-set.invariant.1.below k 0 l)) (omega arith) c.loop-set.invariant.1,
    )
