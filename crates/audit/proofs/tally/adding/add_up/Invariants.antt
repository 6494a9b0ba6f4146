-- What was read is in the table and the sum, and what is left has the first fault of all.
use Rattle.std.proofs.Common.{◌≡◌, take, drop}
use Rattle.audit.proofs.tally.adding.add_up.Given as goal
use Rattle.audit.specs.Bytes.{first_faulty, lent, payments_of}
use Rattle.audit.specs.Running.{Tallied}
use Rattle.balances.specs.View.{people_of}

abbrev pub invariant-loop-at : goal.invariant-loop-at
invariant-loop-at l = record {
  read : Tallied (people_of l.balances) (payments_of (lent (take l.at l.payments))) l.tally;
  rest : first_faulty (people_of l.balances) l.at (lent (drop l.at l.payments)) ≡ first_faulty (people_of l.balances) 0 (lent l.payments);
}
