-- Zeros below the lowest digit, however many digits there are.
use Rattle.std.proofs.Common.{sym, inl, inr, arith}
use Rattle.std.proofs.lemmas.Bool.{cases_lt}
use Rattle.groups.proofs.SetLaws.{smallest_any}
use Rattle.groups.proofs.sets.lowest.Goals as goal
use Rattle.groups.specs.Sets.{smallest}

pub returns : goal.returns
unfolding smallest
returns c n small =
    elim (cases_lt n 32) [
      | inl fewer ↦ smallest_any n 32 c.args.set c.requires small (omega arith)
      | inr more ↦ sym (smallest_any 32 n c.args.set c.requires c.ranges.set.fits more)
    ]
