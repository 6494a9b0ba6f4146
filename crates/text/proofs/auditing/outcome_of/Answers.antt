use Rattle.std.proofs.Common.{ap, ◌∙◌}
use Rattle.audit.specs.Bytes.{lent}
use Rattle.std.proofs.lemmas.Result.{IfOk-weaker}
use Rattle.text.proofs.Audits.{judged_found}
use Rattle.text.proofs.auditing.outcome_of.Goals as goal

pub returns-clause-outcome : goal.returns-clause-outcome
returns-clause-outcome c =
    let parts = c.people_and_lines-people.ensures in
    let begun = rw c.in-Some.is at c.in_ok-book.ensures.opened in
    let cut = ap lent c.deref.ensures.value ∙ c.in_ok-cut.ensures in
    IfOk-weaker c.judge.result _ _
    (λ o j. judged_found c.args.input.now _ c.args.payments.now _ _ _ _ o parts.people parts.lines begun.0 begun.1 c.add_lines.ensures cut j)
    c.judge.ensures
