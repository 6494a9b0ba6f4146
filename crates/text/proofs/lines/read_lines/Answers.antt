use Rattle.std.proofs.Common.{string_bytes, append_assoc, sym, ◌∙◌}
use Rattle.std.proofs.lemmas.List.{append-nil}
use Rattle.text.proofs.lines.read_lines.Goals as goal
use Rattle.text.specs.Run.{book_after, replies, said}

pub loop-piece-preserved : goal.loop-piece-preserved
unfolding book_after replies said
loop-piece-preserved c =
    let inv = rw c.in-Some.ensures.steps at c.loop-piece.invariant in (
      rw (c.in_ok-write_line.ensures, c.answer_line.ensures.answered, c.answer_line.ensures.grown) (append_assoc (string_bytes c.loop-piece.text) _ _ ∙ inv.0),
      rw c.answer_line.ensures.grown inv.1,
    )

pub returns : goal.returns
unfolding book_after replies said
returns c =
    let inv = rw c.in-None.ensures.steps.0 at c.loop-piece.invariant in
    record { kept = inv.1; written = sym (append-nil _) ∙ inv.0 }
