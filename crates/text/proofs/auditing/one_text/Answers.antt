use Rattle.text.proofs.Audits.{one_text}
use Rattle.text.proofs.auditing.one_text.Goals as goal

pub returns : goal.returns
returns c = one_text
