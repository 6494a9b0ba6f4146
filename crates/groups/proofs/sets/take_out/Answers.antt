-- Who is in a set stands for no more than the set.
use Rattle.std.proofs.Common.{arith}
use Rattle.std.proofs.lemmas.Nat.{one_shl}
use Rattle.groups.proofs.SetLaws.{in_le}
use Rattle.groups.proofs.sets.take_out.Goals as goal

pub overflow_sub-result : goal.overflow_sub-result
overflow_sub-result c = omega (arith, one_shl c.args.i 32 c.requires.bit, in_le c.args.set c.args.i c.requires.member)
