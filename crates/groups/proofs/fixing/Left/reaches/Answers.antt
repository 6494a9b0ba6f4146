-- With the first two tests passed the other two are left.
use Rattle.std.proofs.Common.{◌-◌, length, get_or, pos, sym, ◌∙◌, arith, rules}
use Rattle.std.proofs.lemmas.Bool.{ne_eqb}
use Rattle.groups.proofs.ChosenLaws.{if_both}
use Rattle.groups.proofs.SetLaws.{part_le}
use Rattle.groups.proofs.SizeLaws.{count_le}
use Rattle.groups.proofs.ZeroLaws.{even_bits, open_bits}
use Rattle.groups.proofs.fixing.Left.reaches.Goals as goal
use Rattle.balances.specs.Signed.{at_person}

pub bounds-self-part : goal.bounds-self-part
bounds-self-part c = omega (arith, part_le c.args.part c.args.self.now.people c.requires.within, c.args.self.now.summed.room)

pub overflow_sub-result : goal.overflow_sub-result
overflow_sub-result c = part_le c.args.part c.args.self.now.people c.requires.within

pub overflow_add-result : goal.overflow_add-result
overflow_add-result c =
    let t = c.args.self.now in
    let n = length t.crew.balances.now in
    let k = c.args.self.now.people - c.args.part in
    record { fits = omega (arith, t.counted.below k 0 (omega arith), count_le (at_person t.crew.balances.now) n k (omega arith)) }

pub returns-then-self-part-eq0 : goal.returns-then-self-part-eq0
returns-then-self-part-eq0 c =
    let t = c.args.self.now in
    let le = part_le c.args.part c.args.self.now.people c.requires.within in
    let sum = t.summed.below c.args.part (pos 0) (omega arith) in
    let closed = rw sum at (even_bits (get_or t.sums.now c.args.part (pos 0)) (search rules) c.if-self-part-eq0.true) in
    sym (rw closed at (if_both (at_person t.crew.balances.now) (length t.crew.balances.now) t.counts.now c.args.self.now.people c.args.part c.requires.within c.requires.low))

pub returns-else-self-part-eq0 : goal.returns-else-self-part-eq0
returns-else-self-part-eq0 c =
    let t = c.args.self.now in
    let le = part_le c.args.part c.args.self.now.people c.requires.within in
    let sum = t.summed.below c.args.part (pos 0) (omega arith) in
    let closed = rw sum at (open_bits (get_or t.sums.now c.args.part (pos 0)) (search rules) c.if-self-part-eq0.false) in
    ne_eqb _ 0 c.if-self-part-eq0.false
    ∙ sym (rw closed at (if_both (at_person t.crew.balances.now) (length t.crew.balances.now) t.counts.now c.args.self.now.people c.args.part c.requires.within c.requires.low))
