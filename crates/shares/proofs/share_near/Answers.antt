-- The theorem is the lemma `share_near`.
use Rattle.shares.proofs.Persons.{share_near}
use Rattle.shares.proofs.share_near.Goals as goal

pub returns : goal.returns
returns c = share_near
