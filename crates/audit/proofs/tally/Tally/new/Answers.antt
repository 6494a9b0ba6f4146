use Rattle.audit.proofs.Runs.{running_none}
use Rattle.audit.proofs.tally.Tally.new.Goals as goal

pub returns : goal.returns
returns c = running_none
