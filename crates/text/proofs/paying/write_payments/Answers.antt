use Rattle.std.proofs.Common.{string_bytes, append_assoc, sym, ◌∙◌}
use Rattle.std.proofs.lemmas.List.{append-nil, drop_all, drop_more}
use Rattle.settlement.specs.Reading.{read_payments}
use Rattle.text.proofs.paying.write_payments.Goals as goal
use Rattle.text.specs.Payments.{payments_said}

pub loop-payment-preserved : goal.loop-payment-preserved
unfolding payments_said read_payments
loop-payment-preserved c =
    let next = drop_more c.args.payments.now c.loop-payment.payment-index record { from = 0; to = 0; amount = 0 } c.loop-payment-test.true in
    rw c.in_ok-write_line.ensures (append_assoc (string_bytes c.loop-payment.text) _ _ ∙ (rw next at c.loop-payment.invariant))

pub returns : goal.returns
unfolding payments_said read_payments
returns c =
    let none = drop_all c.loop-payment.payment-index c.args.payments.now c.loop-payment-test.false in
    sym (append-nil _) ∙ (rw none at c.loop-payment.invariant)
