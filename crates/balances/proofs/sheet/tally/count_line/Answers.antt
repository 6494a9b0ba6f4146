-- What is written is what the line moves, and fits since the numbers were bounded.
use Rattle.std.proofs.Common.{◌^◌, ◌<◌, set, pos, sym, ap, ◌∙◌, subst, arith, rules}
use Rattle.std.proofs.lemmas.Int.{ints}
use Rattle.book.specs.Reading.{read_line}
use Rattle.balances.proofs.Counts.{bill_counted, payment_counted, return_counted}
use Rattle.balances.proofs.Writes.{plus64, minus64, sum_fits, difference_fits, moved_bounded}
use Rattle.balances.specs.Range.{most}
use Rattle.balances.specs.Signed.{at_person}
use Rattle.balances.specs.Tally.{Named, after_line}
use Rattle.balances.proofs.sheet.tally.count_line.Goals as goal

pub overflow_sub-cents : goal.overflow_sub-cents
overflow_sub-cents c =
    let xs = c.args.cents.now in
    let p = c.in-Payment.from in
    let q = c.in-Payment.to in
    let a = c.in-Payment.amount in
    let there = subst Named c.in-Payment.is c.requires.named in
    let few : a < 2 ^ 32 = search rules in
    let more = sum_fits (at_person xs p) c.from-in-Payment.result a (omega (arith, c.requires.bounded p)) c.from-in-Payment.ensures few in
    let small = moved_bounded xs p q most (pos a) (plus64 (at_person xs p) c.from-in-Payment.result) (omega arith) more (c.requires.bounded q) in
    omega (arith, ints)

pub returns-in-Bill : goal.returns-in-Bill
returns-in-Bill c =
    let xs = c.args.cents.now in
    let p = c.in-Bill.payer in
    let a = c.in-Bill.amount in
    let there = subst Named c.in-Bill.is c.requires.named in
    let few : a < 2 ^ 32 = search rules in
    let more = sum_fits (at_person xs p) c.from.result a (omega (arith, c.requires.bounded p)) c.from.ensures few in
    c.take_shares.ensures
    ∙ bill_counted xs (omega arith) p a c.args.entry.weights c.shares_of.result (plus64 (at_person xs p) c.from.result)
    (omega arith) (omega arith) more (c.shares_of.ensures p)
    ∙ ap (λ l. after_line (read_line 16 c.args.entry.weights l) xs) (sym c.in-Bill.is)

pub returns-in-Payment : goal.returns-in-Payment
returns-in-Payment c =
    let xs = c.args.cents.now in
    let p = c.in-Payment.from in
    let q = c.in-Payment.to in
    let a = c.in-Payment.amount in
    let u = plus64 (at_person xs p) c.from-in-Payment.result in
    let y = at_person (set xs p u) q in
    let there = subst Named c.in-Payment.is c.requires.named in
    let few : a < 2 ^ 32 = search rules in
    let more = sum_fits (at_person xs p) c.from-in-Payment.result a (omega (arith, c.requires.bounded p)) c.from-in-Payment.ensures few in
    let small = moved_bounded xs p q most (pos a) u (omega arith) more (c.requires.bounded q) in
    let less = difference_fits y c.from-in-Payment-2.result a (omega (arith, ints)) c.from-in-Payment-2.ensures few in
    payment_counted xs (omega arith) p q a c.args.entry.weights u (minus64 y c.from-in-Payment-2.result) (omega arith) (omega arith) more less
    ∙ ap (λ l. after_line (read_line 16 c.args.entry.weights l) xs) (sym c.in-Payment.is)

pub returns-in-TakeBack : goal.returns-in-TakeBack
returns-in-TakeBack c =
    return_counted c.args.cents.now (omega arith) c.in-TakeBack.number c.args.entry.weights
    ∙ ap (λ l. after_line (read_line 16 c.args.entry.weights l) c.args.cents.now) (sym c.in-TakeBack.is)
