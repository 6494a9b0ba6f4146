use Rattle.std.proofs.Common.{◌≡◌, ◌++◌, drop, string_bytes}
use Rattle.settlement.specs.Reading.{read_payments}
use Rattle.text.proofs.paying.write_payments.Given as goal
use Rattle.text.specs.Payments.{payments_said}

-- what is written so far, followed by the lines of the payments left, is the whole
abbrev pub invariant-loop-payment : goal.invariant-loop-payment
invariant-loop-payment l =
    string_bytes l.text ++ payments_said (read_payments (drop l.payment-index l.payments))
    ≡ string_bytes l.initial.text ++ payments_said (read_payments l.payments)
