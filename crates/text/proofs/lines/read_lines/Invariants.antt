use Rattle.std.proofs.Common.{◌≡◌, ◌++◌, string_bytes}
use Rattle.book.specs.View.{held}
use Rattle.text.proofs.lines.read_lines.Given as goal
use Rattle.text.specs.Pieces.{pieces, pieces_left}
use Rattle.text.specs.Run.{answers, book_after}

-- what is written so far, followed by what the rest gives, is the whole; and so with the book
abbrev pub invariant-loop-piece : goal.invariant-loop-piece
invariant-loop-piece l =
    (string_bytes l.text ++ answers (held l.book) (pieces_left l.piece-iterator)
    ≡ string_bytes l.initial.text ++ answers (held l.initial.book) (pieces l.lines))
    × (book_after (held l.book) (pieces_left l.piece-iterator) ≡ book_after (held l.initial.book) (pieces l.lines))
