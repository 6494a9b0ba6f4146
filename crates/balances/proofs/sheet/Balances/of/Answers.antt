-- Each turn takes one line from those that are left; at the end none is left, and the numbers are the balances.
use Rattle.std.proofs.Common.{◌≡◌, ℕ, ◌-◌, ◌<◌, true, false, List, length, get_or, take, drop, replicate, ℤ, pos, Some, None, sym, refl, ap, ◌∙◌, subst, arith}
use Rattle.book.proofs.Lookup.{few_lines, few_people, in_order, kept_at, kept_length, sound}
use Rattle.book.specs.Held.{entries_of, marks_of, standing}
use Rattle.book.specs.Reading.{lines}
use Rattle.book.specs.View.{held}
use Rattle.book.specs.declared.ledger.Book.{Book}
use Rattle.book.specs.declared.line.Entry.{Entry}
use Rattle.book.specs.declared.line.Kept.{Kept}
use Rattle.balances.proofs.Sums.{all_in_range, everybody, sides_same, sums_even, zero_absent}
use Rattle.balances.proofs.Turns.{Running, entry_follows, named, running_skips, running_stands}
use Rattle.balances.specs.Signed.{at_person, signed}
use Rattle.balances.specs.Tally.{standing_entry}
use Rattle.balances.proofs.sheet.Balances.of.Goals as goal
use Rattle.balances.proofs.sheet.Balances.of.Goals.{then-kept, else-kept}

-- the entry of a line that stands is found at its place, and that of no other
module _ (es : List Entry) (ks : List Kept) (entries : entries_of ks ≡ es) (marks : marks_of ks ≡ standing es) (k : ℕ) (here : k < length ks) where
  there : k < length es
  there = omega (arith, kept_length ks es entries)

  stands : (d : Kept) → (get_or ks k d).stands ≡ true → Some (get_or ks k d).entry ≡ standing_entry es k
  stands d is = let at = kept_at ks es k d (get_or ks k d) entries marks here refl in rw (at.1, is, at.0) refl

  skips : (d : Kept) → (get_or ks k d).stands ≡ false → None ≡ standing_entry es k
  skips d isnt = let at = kept_at ks es k d (get_or ks k d) entries marks here refl in rw (at.1, isnt) refl

pub count_line-requires : goal.count_line-requires
count_line-requires c =
    let b = c.args.book.now in
    let es = (held b).entries in
    let k = c.loop-kept.kept-index in
    let said = c.loop-kept.invariant in
    let few = few_lines b in
    let inside = there es _ said.entries said.marks k c.loop-kept-test.true in
    let follows = entry_follows (held b).people es k (in_order b) inside _ (stands es _ said.entries said.marks k c.loop-kept-test.true _ c.if-kept.true) in
    record {
      named = named (held b).people (take k es) _ _ (few_people b) follows;
      bounded = λ i. omega (arith, said.run.1 i);
    }

pub loop-kept-preserved : goal.loop-kept-preserved
loop-kept-preserved c =
    let b = c.args.book.now in
    let n = (held b).people in
    let es = (held b).entries in
    let k = c.loop-kept.kept-index in
    let said = c.loop-kept.invariant in
    let here = c.loop-kept-test.true in
    let inside = there es _ said.entries said.marks k here in
    record {
      entries = said.entries;
      marks = said.marks;
      run =
          elim c.if-kept.branch [
            | then-kept w ↦
                subst (Running n es _) (sym (w.cents-is ∙ w.count_line.ensures))
                (running_stands n es k (in_order b) inside _ _ (stands es _ said.entries said.marks k here _ w.if-kept.true) said.run)
            | else-kept w ↦
                subst (Running n es _) (sym w.cents-is)
                (running_skips n es k (in_order b) inside _ (skips es _ said.entries said.marks k here _ w.if-kept.false) said.run)
          ];
    }

-- after the last line
ended : (b : Book) (ks : List Kept) (k : ℕ) (xs : List ℤ) → entries_of ks ≡ (held b).entries → k ≡ length ks → Running (held b).people (held b).entries k xs →
    Running (held b).people (held b).entries (length (held b).entries) xs
ended b ks k xs entries all run = subst (λ m. Running (held b).people (held b).entries m xs) (all ∙ kept_length ks (held b).entries entries) run

pub invariant_of-result : goal.invariant_of-result
invariant_of-result c =
    let b = c.args.book.now in
    let n = (held b).people in
    let es = (held b).entries in
    let xs = c.loop-kept.cents in
    let run = ended b _ c.loop-kept.kept-index xs c.loop-kept.invariant.entries (omega arith) c.loop-kept.invariant.run in
    let absent = zero_absent n es xs (sound b) (few_people b) run in
    record {
      crew = omega (arith, few_people b);
      near = all_in_range n es xs (sound b) (few_people b) run (few_lines b);
      absent = subst (λ m. drop m xs ≡ replicate (16 - m) (pos 0)) (sym c.people.ensures) absent;
      even = sums_even n es xs (sound b) (few_people b) run;
    }

pub returns : goal.returns
returns c =
    let b = c.args.book.now in
    let n = (held b).people in
    let es = (held b).entries in
    let xs = c.loop-kept.cents in
    let run = ended b _ c.loop-kept.kept-index xs c.loop-kept.invariant.entries (omega arith) c.loop-kept.invariant.run in
    let each = everybody n es xs (sound b) (few_people b) run in
    record {
      people = c.people.ensures;
      each = each;
      sides = ap (λ m. signed m (at_person xs)) c.people.ensures ∙ sides_same n (lines n es) (at_person xs) each;
    }
