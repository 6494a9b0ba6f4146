-- The theorem is the lemma `shares_add`.
use Rattle.shares.proofs.Persons.{shares_add}
use Rattle.shares.proofs.shares_add.Goals as goal

pub returns : goal.returns
returns c = shares_add
