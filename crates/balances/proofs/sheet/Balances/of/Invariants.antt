use Rattle.std.proofs.Common.{◌≡◌}
use Rattle.book.specs.Held.{entries_of, marks_of, standing}
use Rattle.book.specs.View.{held}
use Rattle.balances.proofs.Turns.{Running}
use Rattle.balances.proofs.sheet.Balances.of.Given as goal

-- the lines gone over are those of the book, all of them
abbrev pub invariant-loop-kept : goal.invariant-loop-kept
invariant-loop-kept l =
    record {
      entries : entries_of l.kept-items ≡ (held l.book).entries;
      marks : marks_of l.kept-items ≡ standing (held l.book).entries;
      run : Running (held l.book).people (held l.book).entries l.kept-index l.cents;
    }
