use Rattle.std.proofs.Common.{ap, length, arith}
use Rattle.std.proofs.lemmas.List.{nil_from_length}
use Rattle.text.proofs.Pieces.{cut_first, pieces_none, whole_first}
use Rattle.text.proofs.cutting.PiecesIterator.next.Goals as goal

pub returns-in_err-length-clause-steps : goal.returns-in_err-length-clause-steps
returns-in_err-length-clause-steps c =
    let none = nil_from_length c.args.self.now.0.now c.in_err-length.ensures.cases in
    rw (c.from_residual.ensures, none) (pieces_none, pieces_none)

-- the lines before the call are the one that it gives and those after it, so one fewer is left
pub returns-in-Some : goal.returns-in-Some
returns-in-Some c =
    let size = c.from.ensures in
    let split = rw size at c.in-Some.ensures.cases in
    let more = whole_first c.in_ok-length.length.now c.in_ok-length.left.now c.in-Some.line.now c.in-Some.rest.now _ c.in_ok-length.ensures.cases.0 split.0 split.1 split.2 in
    let fewer = ap length more in
    record { steps = more; goes = record { on = λ h. (tt, h, omega arith); keeps = tt; rests = λ h. tt } }

pub returns-in-None : goal.returns-in-None
returns-in-None c =
    let short = rw c.from.ensures at c.in-None.ensures.cases in
    let more = cut_first c.in_ok-length.length.now c.in_ok-length.left.now _ c.in_ok-length.ensures.cases.0 short in
    let fewer = ap length more in
    record { steps = more; goes = record { on = λ h. (tt, h, omega arith); keeps = tt; rests = λ h. tt } }
