-- Each branch is a case of the recurrence.
use Rattle.std.proofs.Common.{length, get_or, pos, arith, rules}
use Rattle.groups.proofs.CountLaws.{counted_empty, counted_even, counted_most, counted_sum}
use Rattle.groups.proofs.SetLaws.{smallest_below}
use Rattle.groups.proofs.ZeroLaws.{even_bits, open_bits}
use Rattle.groups.proofs.crew.Crew.count_of.Goals as goal
use Rattle.balances.specs.Signed.{at_person}

pub bounds-self-lowest : goal.bounds-self-lowest
bounds-self-lowest c =
    let n = length c.args.self.now.balances.now in
    let low = c.lowest.ensures n c.requires.small in
    omega (arith, smallest_below n c.args.set (omega arith) c.requires.small)

pub returns-then-set-eq0 : goal.returns-then-set-eq0
returns-then-set-eq0 c =
    let e = counted_empty (at_person c.args.self.now.balances.now) (length c.args.self.now.balances.now) c.args.counts.now in cc

pub returns-then-even : goal.returns-then-even
returns-then-even c =
    let bs = c.args.self.now.balances.now in
    let n = length bs in
    let rest = c.without_lowest-rest.ensures n c.requires.small in
    let even = even_bits (get_or bs c.lowest.result (pos 0)) (search rules) c.if-even.true in
    let e = counted_even (at_person bs) n c.args.counts.now c.args.set (omega arith) (rw (c.lowest.ensures n c.requires.small) at even) in cc

pub returns-then-closed : goal.returns-then-closed
returns-then-closed c =
    let bs = c.args.self.now.balances.now in
    let n = length bs in
    let rest = c.without_lowest-rest.ensures n c.requires.small in
    let even = open_bits (get_or bs c.lowest.result (pos 0)) (search rules) c.if-even.false in
    let closed = even_bits c.args.sum c.ranges.sum c.if-closed.true in
    let e = counted_sum (at_person bs) n c.args.counts.now c.args.set (omega arith) (rw (c.lowest.ensures n c.requires.small) at even)
    (rw c.requires.summed at closed) in cc

pub returns-else-closed : goal.returns-else-closed
returns-else-closed c =
    let bs = c.args.self.now.balances.now in
    let n = length bs in
    let even = open_bits (get_or bs c.lowest.result (pos 0)) (search rules) c.if-even.false in
    let closed = open_bits c.args.sum c.ranges.sum c.if-closed.false in
    let most = c.most_of.ensures n c.requires.small in
    let e = counted_most (at_person bs) n c.args.counts.now c.args.set (omega arith) (rw (c.lowest.ensures n c.requires.small) at even)
    (rw c.requires.summed at closed) in cc
