-- The theorem is the lemma `taken_back_law`.
use Rattle.balances.proofs.Returns.{taken_back_law}
use Rattle.balances.proofs.laws.taken_back.Goals as goal

pub returns : goal.returns
returns c = taken_back_law
