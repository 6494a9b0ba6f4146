use Rattle.std.proofs.lemmas.Result.{IfOk-weaker}
use Rattle.text.proofs.Reports.{read_told}
use Rattle.text.proofs.report_lines.Goals as goal

pub returns : goal.returns
returns c = IfOk-weaker c.close_book.result _ _ (λ _ closed. read_told _ _ _ _ _ _ c.in_ok-read_lines.ensures closed) c.close_book.ensures
