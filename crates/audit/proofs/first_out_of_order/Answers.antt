-- The theorem is proved in proofs/Order.antt.
use Rattle.audit.proofs.Order.{first_out_of_order}
use Rattle.audit.proofs.first_out_of_order.Goals as goal

pub returns : goal.returns
returns c = first_out_of_order
