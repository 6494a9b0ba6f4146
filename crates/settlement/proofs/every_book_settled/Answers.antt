use Rattle.settlement.proofs.Books.{settled}
use Rattle.settlement.proofs.every_book_settled.Goals as goal

pub returns : goal.returns
returns c = settled
