use Rattle.book.proofs.Firsts.{first_row_law}
use Rattle.book.proofs.rules.first_row_applies.Goals as goal

pub returns : goal.returns
returns c = first_row_law
