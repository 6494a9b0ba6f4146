-- The example crews: their groups are computed, and their payments from these.
use Rattle.std.proofs.Common.{length, refl, ap}
use Rattle.groups.proofs.CrewsGrouped.{crews_grouped}
use Rattle.groups.specs.Fixed.{first_of}
use Rattle.groups.specs.Sets.{is_in}
use Rattle.settlement.specs.Crews.{CrewsSettled}
use Rattle.settlement.specs.Paying.{group_payments, all_payments, settlement}

pub crews_settled : CrewsSettled
unfolding is_in first_of group_payments all_payments settlement
crews_settled =
    let g = crews_grouped in (
      (ap length g.1, rw g.1 refl),
      (ap length g.2, rw g.2 refl),
      (ap length g.3, rw g.3 refl),
      (ap length g.4, rw g.4 refl),
      (ap length g.5, rw g.5 refl),
    )
