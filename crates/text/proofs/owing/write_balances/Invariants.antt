use Rattle.std.proofs.Common.{string_bytes}
use Rattle.std.specs.Iterator.Adapters.{zip_first, zip_second}
use Rattle.std.specs.Slice.Iter.{iter_rest}
use Rattle.text.proofs.Sides.{SaidSoFar}
use Rattle.text.proofs.owing.write_balances.Given as goal

abbrev pub invariant-loop-person : goal.invariant-loop-person
invariant-loop-person l =
    SaidSoFar l.balances (string_bytes l.initial.text) (zip_first l.person-iterator) (iter_rest (zip_second l.person-iterator)) (string_bytes l.text)
