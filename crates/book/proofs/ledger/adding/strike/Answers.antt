use Rattle.std.proofs.Common.{set, false, ◌∙◌, sym, ap}
use Rattle.std.proofs.lemmas.List.{map-set}
use Rattle.std.proofs.Math.Seq.{map-set_same}
use Rattle.book.proofs.ledger.adding.strike.Goals as goal
use Rattle.book.specs.Held.{marks_of, struck}
use Rattle.book.specs.declared.line.Kept.{Kept}

pub returns-in-TakeBack-clause-marks : goal.returns-in-TakeBack-clause-marks
returns-in-TakeBack-clause-marks c =
    let ks = c.args.lines.now.items in
    map-set (λ (k : Kept). k.stands) ks c.from.result _ ∙ ap (λ i. set (marks_of ks) i false) c.from.ensures ∙ ap (λ l. struck l (marks_of ks)) (sym c.in-TakeBack.is)

pub returns-in-TakeBack-clause-entries : goal.returns-in-TakeBack-clause-entries
returns-in-TakeBack-clause-entries c =
    map-set_same (λ (k : Kept). k.entry) c.args.lines.now.items c.from.result _ c.index_mut.result.now (ap (λ (k : Kept). k.entry) c.index_mut.ensures.value)
