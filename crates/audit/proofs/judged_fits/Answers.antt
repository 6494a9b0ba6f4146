-- The theorem is proved in proofs/Verdicts.antt.
use Rattle.audit.proofs.Verdicts.{judged_fits}
use Rattle.audit.proofs.judged_fits.Goals as goal

pub returns : goal.returns
returns c = judged_fits
