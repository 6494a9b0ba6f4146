-- One person more in the set brings one count more to the greatest.
use Rattle.std.proofs.Common.{◌≡◌, get_or, ap, arith}
use Rattle.groups.proofs.CountLaws.{left_all, left_none, left_out}
use Rattle.groups.proofs.SetLaws.{in_below, out_less, out_sub}
use Rattle.groups.proofs.crew.tables.most_of.Goals as goal

pub loop-person-init : goal.loop-person-init
loop-person-init c =
    let left : c.into_iter-person-iterator.result.0 ≡ c.args.set = cc in
    rw left ((λ i h. h), λ n small. omega (arith, left_all c.args.counts.now c.args.set n))

pub take_out-requires : goal.take_out-requires
take_out-requires c =
    let member = c.loop-person.invariant.0 c.in-Some.person c.in-Some.ensures.steps.0 in
    record { bit = in_below 32 c.args.set c.in-Some.person c.ranges.set.fits member; member = member }

pub bounds-counts-take_out : goal.bounds-counts-take_out
bounds-counts-take_out c = omega (arith, out_less c.args.set c.in-Some.person (c.loop-person.invariant.0 c.in-Some.person c.in-Some.ensures.steps.0))

pub loop-person-preserved : goal.loop-person-preserved
loop-person-preserved c =
    let cs = c.args.counts.now in
    let left = c.loop-person.person-iterator.0 in
    let member = c.in-Some.ensures.steps.0 in
    let at = ap (λ k. get_or cs k 0) c.take_out.ensures in
    rw c.in-Some.ensures.steps.2 (
      (λ i h. c.loop-person.invariant.0 i (out_sub left c.in-Some.person i member h)),
      λ n small. omega (
        arith,
        c.loop-person.invariant.1 n small,
        at,
        left_out cs c.args.set left c.in-Some.person n (in_below n c.args.set c.in-Some.person small (c.loop-person.invariant.0 c.in-Some.person member)) member,
      ),
    )

pub returns : goal.returns
returns c n small =
    let all = rw c.in-None.ensures.steps.0 at (c.loop-person.invariant.1 n small) in
    omega (arith, all, left_none c.args.counts.now c.args.set n)
