use Rattle.std.proofs.Common.{◌≡◌, ◌++◌, vec_items, vec_capacity}
use Rattle.groups.specs.Sets.{is_in}
use Rattle.settlement.proofs.Turns.{Left}
use Rattle.settlement.proofs.paying.pay_set.Given as goal
use Rattle.settlement.specs.Amounts.{paid_in}
use Rattle.settlement.specs.Reading.{read_payments}

-- what was paid and what the tables still give are all payments
abbrev pub invariant-loop-turn : goal.invariant-loop-turn
invariant-loop-turn l = record {
  left : Left l._turn l.people (is_in l.set) (vec_items l.payments) l.owes l.owed (read_payments (vec_items l.initial.payments) ++ paid_in l.balances l.set);
  room : vec_capacity l.payments ≡ vec_capacity l.initial.payments;
}
