use Rattle.std.proofs.Common.{◌≡◌, vec_items, vec_capacity}
use Rattle.settlement.proofs.Rounds.{ToCome}
use Rattle.settlement.proofs.paying.pay_all.Given as goal
use Rattle.settlement.specs.Reading.{read_payments}

-- what was paid and what the sets that are left pay are all payments
abbrev pub invariant-loop-set : goal.invariant-loop-set
invariant-loop-set l = record {
  to_come : ToCome l.balances l.sets l.set-index (read_payments (vec_items l.payments));
  room : vec_capacity l.payments ≡ vec_capacity l.initial.payments;
}
