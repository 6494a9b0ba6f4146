-- Each person's balance goes over from the people left to the sum, and sixteen balances fit.
use Rattle.std.proofs.Common.{◌^◌, length, arith}
use Rattle.std.proofs.lemmas.Int.{ints}
use Rattle.groups.proofs.SetLaws.{in_below, out_less}
use Rattle.groups.proofs.SumLaws.{sum_empty, sum_of_bound, sum_out}
use Rattle.groups.proofs.crew.Crew.sum_of.Goals as goal
use Rattle.balances.specs.Signed.{at_person}

pub overflow_add-sum : goal.overflow_add-sum
overflow_add-sum c =
    let f = at_person c.args.self.now.balances.now in
    let n = length c.args.self.now.balances.now in
    omega (
      arith,
      ints,
      sum_of_bound f (2 ^ 48) n c.args.set c.args.self.now.moderate,
      sum_of_bound f (2 ^ 48) n c.loop-person.person-iterator.0 c.args.self.now.moderate,
      c.args.self.now.moderate c.in-Some.person,
    )

pub bounds-self-person : goal.bounds-self-person
bounds-self-person c =
    in_below (length c.args.self.now.balances.now) c.loop-person.person-iterator.0 c.in-Some.person c.loop-person.invariant.0 c.in-Some.ensures.steps.0

pub loop-person-preserved : goal.loop-person-preserved
loop-person-preserved c =
    let f = at_person c.args.self.now.balances.now in
    let n = length c.args.self.now.balances.now in
    let left = c.loop-person.person-iterator.0 in
    let member = c.in-Some.ensures.steps.0 in
    let below = in_below n left c.in-Some.person c.loop-person.invariant.0 member in
    let out = sum_out f n left c.in-Some.person below member in
    rw c.in-Some.ensures.steps.2 (
      omega (arith, out_less left c.in-Some.person member),
      omega (
        arith,
        ints,
        out,
        c.loop-person.invariant.1,
        sum_of_bound f (2 ^ 48) n c.args.set c.args.self.now.moderate,
        sum_of_bound f (2 ^ 48) n left c.args.self.now.moderate,
        c.args.self.now.moderate c.in-Some.person,
      ),
    )

pub returns : goal.returns
returns c =
    let all = rw c.in-None.ensures.steps.0 at c.loop-person.invariant.1 in
    omega (arith, ints, all, sum_empty (at_person c.args.self.now.balances.now) (length c.args.self.now.balances.now))
