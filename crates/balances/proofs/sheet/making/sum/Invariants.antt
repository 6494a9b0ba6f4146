use Rattle.std.proofs.Common.{◌≡◌, ◌*◌, ◌≤◌, nat_abs}
use Rattle.balances.proofs.sheet.making.sum.Given as goal
use Rattle.balances.specs.Range.{most}
use Rattle.balances.specs.Signed.{at_person, span_z}

-- the sum so far is that of the people so far, and fits
abbrev pub invariant-loop-number : goal.invariant-loop-number
invariant-loop-number l = (l.sum ≡ span_z (at_person l.cents) l.number-index) × (nat_abs l.sum ≤ l.number-index * most)
