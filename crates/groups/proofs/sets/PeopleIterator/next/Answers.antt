-- The smallest person is in the set, and without it the set is less.
use Rattle.std.proofs.Common.{◌^◌, ◌<◌, sym, ap, ◌∙◌, arith}
use Rattle.groups.proofs.SetLaws.{out_less, smallest_in}
use Rattle.groups.proofs.sets.PeopleIterator.next.Goals as goal
use Rattle.groups.specs.Sets.{smallest, without}

pub returns-clause-steps : goal.returns-clause-steps
returns-clause-steps c =
    let set = c.args.self.now.0 in
    let small : set < 2 ^ 32 = omega arith in
    let person = c.lowest.ensures 32 small in
    let member = smallest_in 32 set (omega arith) small in
    (rw (← person) at member, person, c.without_lowest-self.ensures 32 small ∙ ap (without set) (sym person))

pub returns-clause-goes : goal.returns-clause-goes
returns-clause-goes c =
    let set = c.args.self.now.0 in
    let small : set < 2 ^ 32 = omega arith in
    let less = out_less set (smallest 32 set) (smallest_in 32 set (omega arith) small) in
    let rest = c.without_lowest-self.ensures 32 small in
    record { on = λ _. (tt, tt, omega arith); keeps = tt; rests = λ _. tt }
