-- Payments of the program, as the theorems on settlements read them.
use Rattle.std.specs.Prelude.{List, map}
use Rattle.book.specs.Ledger as ledger
use Rattle.settlement.specs.declared.payment.Payment.{Payment}

abbrev pub read_payment : Payment → ledger.Payment
read_payment p = record { from = p.from; to = p.to; amount = p.amount }

unfoldable pub read_payments : List Payment → List ledger.Payment
read_payments ps = map read_payment ps
