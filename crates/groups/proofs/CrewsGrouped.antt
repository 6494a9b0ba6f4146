-- The example crews have their groups, by computing.
use Rattle.std.proofs.Common.{refl}
use lib.Count.{count_trailing_zeros}
use Rattle.groups.specs.Counts.{count, counted, counts, most}
use Rattle.groups.specs.Courses.{at, up_to}
use Rattle.groups.specs.Crews.{CrewsGrouped}
use Rattle.groups.specs.Fixed.{chosen, first_of, fixed_by, fixed_groups, fixing, reaches}
use Rattle.groups.specs.Sets.{is_in, is_part, set_of, smallest}
use Rattle.groups.specs.Signs.{is_zero, open_of, sum_of}
use Rattle.shares.specs.Span.{span}
use Rattle.balances.specs.Signed.{span_z}

pub crews_grouped : CrewsGrouped
unfolding count_trailing_zeros span span_z is_in is_part smallest set_of is_zero sum_of open_of up_to at most counted count counts first_of reaches chosen fixing fixed_by fixed_groups
crews_grouped = (refl, refl, refl, refl, refl, refl)
