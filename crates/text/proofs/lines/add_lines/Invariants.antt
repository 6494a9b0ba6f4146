use Rattle.std.proofs.Common.{◌≡◌}
use Rattle.book.specs.View.{held}
use Rattle.text.proofs.lines.add_lines.Given as goal
use Rattle.text.specs.Pieces.{pieces, pieces_left}
use Rattle.text.specs.Run.{book_after}

-- the book after what is left is the book after all
abbrev pub invariant-loop-piece : goal.invariant-loop-piece
invariant-loop-piece l = book_after (held l.book) (pieces_left l.piece-iterator) ≡ book_after (held l.initial.book) (pieces l.lines)
