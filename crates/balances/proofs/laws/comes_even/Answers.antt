-- The theorem is the lemma `comes_even`.
use Rattle.balances.proofs.Evens.{comes_even}
use Rattle.balances.proofs.laws.comes_even.Goals as goal

pub returns : goal.returns
returns c = comes_even
