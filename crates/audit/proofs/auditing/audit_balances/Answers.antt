-- Everything that the verdict is worked out from is what its definition names.
use Rattle.audit.proofs.Answered.{answered}
use Rattle.audit.proofs.auditing.audit_balances.Goals as goal

pub returns : goal.returns
returns c =
    answered c.args.balances.now c.args.payments.now c.in_ok-tally.tally _ _ _ _ _ c.in_ok-room.ensures c.in_ok-tally.ensures c.in_ok-fill_tables.ensures.1
    (cc (c.everyone.ensures, c.grade.ensures, c.first_left.ensures, c.open_people.ensures, c.all_debts.ensures))
