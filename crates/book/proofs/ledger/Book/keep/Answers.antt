use Rattle.std.proofs.Common.{true, [], ◌∷◌, ◌++◌, sym, ap, ◌∙◌, arith}
use Rattle.std.proofs.lemmas.List.{map-append}
use Rattle.book.proofs.Marks.{orderly_push, standing_push}
use Rattle.book.proofs.ledger.Book.keep.Goals as goal
use Rattle.book.specs.Held.{entries_of, marks_of, standing, struck}
use Rattle.book.specs.Orderly.{orderly}
use Rattle.book.specs.View.{held}
use Rattle.book.specs.declared.line.Kept.{Kept}

pub invariant_of-self : goal.invariant_of-self
invariant_of-self c =
    let b = c.args.self.now in
    let kept : Kept = record { entry = c.args.entry; stands = true } in
    let es = (held b).entries in
    let pushed = c.push_reserved.ensures.items in
    let entries =
    ap entries_of pushed ∙ map-append (λ (k : Kept). k.entry) c.strike.new.lines.items (kept ∷ []) ∙ ap (λ l. l ++ (c.args.entry ∷ [])) c.strike.ensures.entries
    in
    let marks =
    ap marks_of pushed ∙ map-append (λ (k : Kept). k.stands) c.strike.new.lines.items (kept ∷ [])
    ∙ ap (λ l. l ++ (true ∷ [])) (c.strike.ensures.marks ∙ ap (struck c.args.entry.line) b.marked)
    in
    record {
      crew = b.crew;
      few = (omega arith, omega arith);
      reserved = omega arith;
      ordered = ap (orderly b.people) entries ∙ orderly_push b.people [] es c.args.entry b.ordered c.requires.fits;
      marked = marks ∙ standing_push b.people es c.args.entry b.ordered c.requires.fits ∙ ap standing (sym entries);
    }
