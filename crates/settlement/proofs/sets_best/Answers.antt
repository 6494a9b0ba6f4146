-- The theorem is proved in proofs/Best.antt.
use Rattle.settlement.proofs.Best.{sets_best}
use Rattle.settlement.proofs.sets_best.Goals as goal

pub returns : goal.returns
returns c = sets_best
