-- The theorem is proved in proofs/OwnAudited.antt.
use Rattle.audit.proofs.OwnAudited.{settled_audited}
use Rattle.audit.proofs.settled_audited.Goals as goal

pub returns : goal.returns
returns c = settled_audited
