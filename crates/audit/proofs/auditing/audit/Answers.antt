use Rattle.book.specs.View.{held}
use Rattle.audit.proofs.Answered.{answers_book}
use Rattle.audit.proofs.auditing.audit.Goals as goal

pub returns : goal.returns
returns c = answers_book (held c.args.book.now) c.of-balances.result c.of-balances.ensures _ _ _ _ _ _ c.audit_balances.ensures
