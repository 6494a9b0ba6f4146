use Rattle.std.proofs.Common.{ap}
use Rattle.settlement.specs.Reading.{read_payments}
use Rattle.std.proofs.lemmas.Result.{IfOk-weaker}
use Rattle.text.proofs.Reports.{closed}
use Rattle.text.proofs.close_book.Goals as goal

pub returns : goal.returns
returns c =
    IfOk-weaker c.write_payments.result _ _
    (λ _ paying. closed _ _ _ _ _ _ _ c.of.ensures c.in_ok-payments.ensures (ap read_payments c.deref.ensures.value) c.in_ok-write_balances.ensures paying)
    c.write_payments.ensures
