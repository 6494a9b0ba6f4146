-- The verdict that is worked out from a tally fits the payments.
use Rattle.std.proofs.Common.{◌≡◌, ℕ, ◌+◌, ◌<◌, not, leb, List, length, get_or, ℤ, ◌+ℤ◌, None, Ok, Result, refl, ap, ◌∙◌, arith, Bor}
use mathlib.Core.Path.{fun_ext}
use Rattle.std.proofs.ByRecursion.{All-weaker}
use Rattle.std.proofs.lemmas.Int.{ints}
use Rattle.std.proofs.lemmas.Bool.{eqb-true, eq-eqb}
use Rattle.std.proofs.lemmas.Bool.Decides.{same_from_decides}
use Rattle.std.proofs.lemmas.List.{length-map}
use Rattle.shares.specs.Span.{span}
use Rattle.balances.proofs.Holds.{even_there, sides_even}
use Rattle.balances.proofs.Signs.{debt_credit}
use Rattle.balances.specs.Promise.{balances}
use Rattle.balances.specs.Signed.{at_person}
use Rattle.balances.specs.Tally.{Counted, balance_of}
use Rattle.balances.specs.View.{cents_of, people_of, sides_of}
use Rattle.balances.specs.declared.sheet.Balances.{Balances}
use Rattle.book.specs.Held.{Held}
use Rattle.book.specs.Ledger.{Payment}
use Rattle.groups.proofs.GreatestGroups.{greatest_signed}
use Rattle.groups.proofs.OpenLaws.{everyone_sum}
use Rattle.groups.proofs.SetLaws.{everyone_below}
use Rattle.groups.proofs.ZeroLaws.{zero_is, zero_yes}
use Rattle.groups.specs.Counts.{count}
use Rattle.groups.specs.Groups.{still_open}
use Rattle.groups.specs.Sets.{everyone}
use Rattle.groups.specs.Shorts.{too_short}
use Rattle.groups.specs.Signs.{is_zero}
use Rattle.groups.specs.Tables.{Written}
use Rattle.settlement.specs.Amounts.{first_of}
use Rattle.settlement.specs.Settled.{book_lines}
use Rattle.groups.proofs.First.{first_like}
use Rattle.audit.specs.Audited.{Answers, Audited}
use Rattle.audit.specs.Bytes.{lent, payments_of}
use Rattle.audit.specs.Judged.{first_unquit, quit, verdict_of}
use Rattle.audit.specs.Running.{InOrder, Running, is_left}
use Rattle.audit.specs.Told.{Told}
use Rattle.audit.specs.Verdict.{Fits}
use Rattle.audit.specs.declared.tally.Tally.{Tally}
use Rattle.audit.specs.declared.unaudited.Unaudited.{Unaudited}
use Rattle.audit.specs.declared.verdict.Verdict.{Verdict}
use Rattle.audit.proofs.Verdicts.{judged_fits}

module _ (b : Balances) (ps : List Payment) (net : List ℤ) (moved : ℕ) (r : Running (people_of b) ps net moved) where
  -- a person is left with nothing exactly where it is quit
  zero_quit : (i : ℕ) → i < people_of b → is_zero (cents_of b i +ℤ at_person net i) ≡ quit (sides_of b) ps i
  zero_quit i l =
      let n = r.netted i (omega (arith, b.crew)) in
      same_from_decides (is_zero (cents_of b i +ℤ at_person net i)) (quit (sides_of b) ps i)
      (zero_is _, zero_yes _) (
        (λ q. let e = eqb-true _ _ q in omega (arith, ints, debt_credit (cents_of b i))),
        (λ z. eq-eqb _ _ (omega (arith, ints, debt_credit (cents_of b i)))),
      )

  left_unquit : first_of (people_of b) (is_left (cents_of b) net) ≡ first_unquit (sides_of b) ps
  unfolding first_unquit
  left_unquit =
      let same = first_like (is_left (cents_of b) net) (λ i. not (quit (sides_of b) ps i)) (people_of b) (λ i l. ap not (zero_quit i l)) in
      rw same refl

  -- the verdict by the first who is left with something and the count of everyone
  pub given_fits : (v : Verdict) →
      v ≡ verdict_of (first_of (people_of b) (is_left (cents_of b) net))
      (leb (length ps + count (cents_of b) (people_of b) (everyone (people_of b))) (still_open (sides_of b)))
      (leb moved (span (sides_of b).owes (people_of b))) → Fits (sides_of b) ps v
  given_fits v e =
      let most = greatest_signed (cents_of b) (people_of b) (everyone_sum (cents_of b) (people_of b) ∙ even_there b) in
      let among =
      All-weaker (InOrder (people_of b)) (λ p. (p.from < people_of b) × (p.to < people_of b)) (λ p o. (o.from_there, o.to_there)) ps r.each in
      let fits = judged_fits (sides_of b) _ ps (sides_even b) most.1 most.0 among in
      rw (e, left_unquit, r.summed) fits

-- with no refusal and both tables written, the verdict by the table's count of everyone
pub answered : (b : Balances) (ps : List (Bor (List ℕ))) (t : Tally) (old-sums sums : List ℤ) (old-counts counts : List ℕ) (v : Verdict) →
    too_short (people_of b) old-sums old-counts ≡ None → Told (people_of b) (lent ps) (Ok t) →
    Written (cents_of b) (people_of b) old-sums sums old-counts counts →
    v ≡ verdict_of (first_of (people_of b) (is_left (cents_of b) t.net))
    (leb (length ps + get_or counts (everyone (people_of b)) 0) (still_open (sides_of b)))
    (leb t.moved (span (sides_of b).owes (people_of b))) →
    Audited (people_of b) (cents_of b) (sides_of b) old-sums sums old-counts counts (lent ps) v
unfolding payments_of
answered b ps t old-sums sums old-counts counts v room told w e =
    let g = w.counted.below (everyone (people_of b)) 0 (everyone_below (people_of b)) in
    let size : length ps ≡ length (payments_of (lent ps)) = simp length-map in
    record {
      taken = rw (room, told.0) refl;
      written = w;
      fits = given_fits b (payments_of (lent ps)) t.net t.moved told.1 v (e ∙ rw (g, size) refl);
    }

-- what is answered for the balances of a book is answered for the book
pub answers_book : (h : Held) (b : Balances) → Counted h b →
    (old-sums sums : List ℤ) (old-counts counts : List ℕ) (bss : List (List ℕ)) (r : Result Verdict Unaudited) →
    Answers (people_of b) (cents_of b) (sides_of b) old-sums sums old-counts counts bss r →
    Answers h.people (balance_of (book_lines h)) (balances h.people (book_lines h)) old-sums sums old-counts counts bss r
answers_book h b counted old-sums sums old-counts counts bss r a =
    let numbers : cents_of b ≡ balance_of (book_lines h) = fun_ext counted.each in
    rw (← counted.sides, ← numbers, ← counted.people) a
