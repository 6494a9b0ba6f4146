-- The test is the definition's, and nobody from 32 on is in 32 bits.
use Rattle.std.proofs.Common.{refl, arith}
use Rattle.groups.proofs.SetLaws.{not_in}
use Rattle.groups.proofs.sets.has_person.Goals as goal
use Rattle.groups.specs.Sets.{is_in}
use Rattle.std.proofs.lemmas.Bool.Decides.{nat_tests}

pub returns-then-person-lt32 : goal.returns-then-person-lt32
unfolding is_in
returns-then-person-lt32 c = refl

pub returns-else-person-lt32 : goal.returns-else-person-lt32
returns-else-person-lt32 c = let none = not_in 32 c.args.set c.args.person c.ranges.set.fits c.if-person-lt32.false in grind (arith, nat_tests)
