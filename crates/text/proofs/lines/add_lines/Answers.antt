use Rattle.text.proofs.lines.add_lines.Goals as goal
use Rattle.text.specs.Run.{book_after}

pub loop-piece-preserved : goal.loop-piece-preserved
unfolding book_after
loop-piece-preserved c = rw c.answer_line.ensures.grown (rw c.in-Some.ensures.steps at c.loop-piece.invariant)

pub returns : goal.returns
unfolding book_after
returns c = rw c.in-None.ensures.steps.0 at c.loop-piece.invariant
