-- The chosen set is a part with the smallest person, so the rest is smaller, sums to 0 and has open people alone.
use Rattle.std.proofs.Common.{◌≡◌, ℕ, ◌+◌, ◌-◌, ◌^◌, ◌<◌, List, length, ℤ, pos, vec_items, sym, subst, append-nil, arith}
use Rattle.groups.proofs.ChosenLaws.{Chosen, chosen_is}
use Rattle.groups.proofs.FixedLaws.{fixed_empty, fixed_joined, left_even, left_open}
use Rattle.groups.proofs.SetLaws.{part_le, smallest_below}
use Rattle.groups.proofs.SizeLaws.{size_minus, size_of_some, size_some}
use Rattle.groups.proofs.fixing.Left.+fix.Goals as goal
use Rattle.groups.specs.Counts.{count}
use Rattle.groups.specs.Filled.{Holds}
use Rattle.groups.specs.Fixed.{chosen}
use Rattle.groups.specs.Sets.{size, smallest}
use Rattle.balances.specs.Signed.{at_person}
use Rattle.groups.specs.Signs.{AllOpen, sum_of}

-- what was chosen, by its promise
picked : (f : ℕ → ℤ) (n : ℕ) (cs : List ℕ) (s r : ℕ) → Holds (count f n) (2 ^ n) cs → 0 < s → s < 2 ^ n → sum_of f n s ≡ pos 0 → AllOpen f s →
    r ≡ chosen f n cs s → Chosen f n s r
picked f n cs s r have some small total all e = subst (Chosen f n s) (sym e) (chosen_is f n cs s (λ k l. have.below k 0 l) some small total all)

-- with it, fewer are left
fewer : (f : ℕ → ℤ) (n s r : ℕ) → 0 < s → s < 2 ^ n → Chosen f n s r → size n (s - r) + 1 < size n s + 1
fewer f n s r some small c =
    omega (arith, size_minus n r s c.part, size_some n r (smallest n s) (smallest_below n s some small) c.low)

pub returns-then-self-eq0 : goal.returns-then-self-eq0
returns-then-self-eq0 t c =
    let s = c.args.self.now in
    rw (c.if-self-eq0.true, fixed_empty (at_person s.crew.balances.now) (length s.crew.balances.now) s.counts.now, append-nil)

pub push_reserved-requires : goal.push_reserved-requires
push_reserved-requires t c =
    let s = c.args.self.now in omega (arith, size_of_some (length s.crew.balances.now) s.people (omega arith) s.small)

pub overflow_sub-left : goal.overflow_sub-left
overflow_sub-left t c =
    let s = c.args.self.now in
    part_le c.choose-group.result s.people
    (picked (at_person s.crew.balances.now) (length s.crew.balances.now) s.counts.now s.people c.choose-group.result s.counted (omega arith) s.small s.even s.unsettled
    c.choose-group.ensures).part

pub invariant_of-left : goal.invariant_of-left
invariant_of-left t c =
    let s = c.args.self.now in
    let f = at_person s.crew.balances.now in
    let n = length s.crew.balances.now in
    let r = c.choose-group.result in
    let p = picked f n s.counts.now s.people r s.counted (omega arith) s.small s.even s.unsettled c.choose-group.ensures in
    record {
      summed = s.summed;
      counted = s.counted;
      small = omega arith;
      even = left_even f n s.people r s.even p;
      unsettled = left_open f n s.people r s.unsettled p;
    }

pub fix-requires : goal.fix-requires
fix-requires t c =
    let s = c.args.self.now in
    let f = at_person s.crew.balances.now in
    let n = length s.crew.balances.now in
    let r = c.choose-group.result in
    let some : 0 < s.people = omega arith in
    let less = fewer f n s.people r some s.small (picked f n s.counts.now s.people r s.counted some s.small s.even s.unsettled c.choose-group.ensures) in
    (omega arith, omega arith)

pub returns : goal.returns
returns t c =
    let s = c.args.self.now in
    fixed_joined (at_person s.crew.balances.now) (length s.crew.balances.now) s.counts.now s.people c.choose-group.result
    (vec_items c.args.groups.now) (vec_items c.push_reserved.new.self) (vec_items c.fix.new.groups)
    (omega arith) c.choose-group.ensures c.push_reserved.ensures.items c.fix.ensures
