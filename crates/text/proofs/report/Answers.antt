use Rattle.std.proofs.Common.{sym, ap, ◌∙◌}
use Rattle.book.specs.Answers.{crew_size}
use Rattle.text.proofs.Reports.{refused_reported, told_reported}
use Rattle.text.proofs.report.Goals as goal

pub returns : goal.returns
returns c =
    let parts = c.people_and_lines-people.ensures in
    let begun = rw c.in-Some.is at c.in_ok-book.ensures.opened in
    told_reported c.args.input.now _ _ _ _ _ parts.people parts.lines begun.0 begun.1 c.new-text.ensures.bytes c.in_ok-report_lines.ensures

pub returns-in_default : goal.returns-in_default
returns-in_default c =
    let wrong = rw c.in_default.is at c.in_ok-book.ensures.opened in
    refused_reported c.args.input.now _ (ap crew_size (sym c.people_and_lines-people.ensures.people) ∙ wrong) (rw c.new-text.ensures.bytes at c.in_ok-write_line.ensures)
