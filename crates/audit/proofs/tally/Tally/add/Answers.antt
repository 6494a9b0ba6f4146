-- Both lines change the table as their definition says, since nothing leaves 64 bits; and nobody's number grows by more than the amount.
use Rattle.std.proofs.Common.{◌≡◌, ℕ, ◌+◌, ◌^◌, ◌<◌, ◌≤◌, List, length, set, w64, FitsSigned, ℤ, pos, nat_abs, ◌+ℤ◌, ◌-ℤ◌, to_z, of_z, arith, rules}
use Rattle.book.specs.Ledger.{Payment}
use Rattle.audit.specs.Running.{paid_in, raised}
use Rattle.settlement.specs.Reading.{read_payment}
use Rattle.balances.specs.Signed.{at_person}
use Rattle.audit.proofs.Runs.{paid_near, raised_near}
use Rattle.audit.proofs.tally.Tally.add.Goals as goal

-- an amount added to a number and taken off one, as it is computed
abbrev plus : ℤ → ℕ → ℤ
plus z a = to_z w64 (of_z w64 (to_z w64 (of_z w64 z) +ℤ to_z w64 a))

abbrev less : ℤ → ℕ → ℤ
less z a = to_z w64 (of_z w64 (to_z w64 (of_z w64 z) -ℤ to_z w64 a))

plus_is : (z : ℤ) (a m : ℕ) → nat_abs z ≤ m → m + a ≤ 2 ^ 58 → plus z a ≡ z +ℤ pos a
plus_is z a m near few = search rules

less_is : (z : ℤ) (a m : ℕ) → nat_abs z ≤ m → m ≤ 2 ^ 58 → a ≤ 2 ^ 58 → less z a ≡ z -ℤ pos a
less_is z a m near few small = search rules

less_fits : (z : ℤ) (a m : ℕ) → nat_abs z ≤ m → m ≤ 2 ^ 58 → a ≤ 2 ^ 58 → FitsSigned w64 (to_z w64 (of_z w64 z) -ℤ to_z w64 a)
less_fits z a m near few small = search rules

module _ (t : List ℤ) (p : Payment) (m : ℕ) (long : length t ≡ 16) (there : (p.from < 16) × (p.to < 16)) (few : m + p.amount ≤ 2 ^ 58)
    (near : (i : ℕ) → nat_abs (at_person t i) ≤ m) where
  -- the table after the first line
  abbrev up : List ℤ
  up = set t p.from (plus (at_person t p.from) p.amount)

  up_is : up ≡ raised t p.from p.amount
  up_is = let e = plus_is (at_person t p.from) p.amount m (near p.from) few in rw e

  up_near : nat_abs (at_person (raised t p.from p.amount) p.to) ≤ m + p.amount
  up_near = raised_near t p.from p.amount m p.to (omega arith) (near p.to)

  second_fits : FitsSigned w64 (to_z w64 (of_z w64 (at_person up p.to)) -ℤ to_z w64 p.amount)
  second_fits = rw up_is (less_fits (at_person (raised t p.from p.amount) p.to) p.amount (m + p.amount) up_near few (omega arith))

  both_are : set up p.to (less (at_person up p.to) p.amount) ≡ paid_in t p
  both_are =
      let down = less_is (at_person (raised t p.from p.amount) p.to) p.amount (m + p.amount) up_near few (omega arith) in rw (up_is, down)

pub overflow_sub-self : goal.overflow_sub-self
overflow_sub-self c =
    let t = c.args.self.now in
    second_fits t.net (read_payment c.args.payment) t.moved (search rules) c.requires.there c.requires.few t.near

pub returns-clause-paid : goal.returns-clause-paid
returns-clause-paid c =
    let t = c.args.self.now in
    both_are t.net (read_payment c.args.payment) t.moved (search rules) c.requires.there c.requires.few t.near

pub invariant_of-self : goal.invariant_of-self
invariant_of-self c =
    let t = c.args.self.now in
    let p = read_payment c.args.payment in
    let there = c.requires.there in
    let long : length t.net ≡ 16 = search rules in
    let e = both_are t.net p t.moved long there c.requires.few t.near in
    record { few = c.requires.few; near = λ i. rw e (paid_near t.net p t.moved i long there.0 there.1 (t.near i)) }
