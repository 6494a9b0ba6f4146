-- Which row is the first that applies, at each turn that the adding of a line takes.
use Rattle.std.proofs.Common.{◌≡◌, ℕ, ◌<◌, ◌≤◌, true, false, not, leb, List, length, Some, None, Ok, Err, vec_len, Option, refl, ap, ◌∙◌, arith}
use Rattle.std.proofs.lemmas.Bool.{le-leb, lt-leb}
use Rattle.book.proofs.ByRows.{agrees_err, agrees_ok, decoded_agrees}
use Rattle.book.proofs.Lookup.{held_length}
use Rattle.book.proofs.Passed.{decoded_passes}
use Rattle.book.specs.Checks.{decoded}
use Rattle.book.specs.Codes.{code}
use Rattle.book.specs.Held.{Held, may_return}
use Rattle.book.specs.Layout.{kind_of}
use Rattle.book.specs.Rows.{told, at_place, of_its_kind, not_returnable, rows, first_row}
use Rattle.book.specs.View.{held}
use Rattle.book.specs.declared.ledger.Book.{Book}
use Rattle.book.specs.declared.line.Entry.{Entry}
use Rattle.book.specs.declared.refusal.Refusal.{Refusal}

-- what the rows 9 and 10 tell
after : Held → List ℕ → Option (ℕ × ℕ)
after h bs = told 9 (of_its_kind (not_returnable h bs) (kind_of bs)) (told 10 (at_place (leb 4096 (length h.entries)) 0) None)

module _ (b : Book) (bs : List ℕ) where
  pub no_room : b.room ≤ vec_len b.lines → first_row rows (held b) bs ≡ Some (11, 0)
  unfolding rows
  no_room used = let full = le-leb b.room (length (held b).entries) (omega (arith, held_length b)) in rw full refl

  module _ (room : vec_len b.lines < b.room) where
    free : leb b.room (length (held b).entries) ≡ false
    free = lt-leb b.room (length (held b).entries) (omega (arith, held_length b))

    pub not_decoded : (e : Refusal) → decoded b.people bs ≡ Err e → first_row rows (held b) bs ≡ Some (code e)
    unfolding rows after
    not_decoded e is = let f = free in rw f (agrees_err _ _ (after (held b) bs) e is (decoded_agrees b.people bs (after (held b) bs)))

    module _ (e : Entry) (is : decoded b.people bs ≡ Ok e) where
      nine_or_ten : first_row rows (held b) bs ≡ told 9 (at_place (not (may_return (held b).entries e.line)) 1) (told 10 (at_place (leb 4096 (length (held b).entries)) 0) None)
      unfolding rows after
      nine_or_ten =
          let f = free in
          rw f
          (agrees_ok _ _ (after (held b) bs) e is (decoded_agrees b.people bs (after (held b) bs))
          ∙ ap (λ p. told 9 p (told 10 (at_place (leb 4096 (length (held b).entries)) 0) None)) ((decoded_passes b.people bs b.crew.1 e is).row_nine (held b)))

      pub not_taken_back : may_return (held b).entries e.line ≡ false → first_row rows (held b) bs ≡ Some (9, 1)
      not_taken_back stays = nine_or_ten ∙ rw stays refl

      pub too_many : may_return (held b).entries e.line ≡ true → 4096 ≤ vec_len b.lines → first_row rows (held b) bs ≡ Some (10, 0)
      too_many may full = let f = le-leb 4096 (length (held b).entries) (omega (arith, held_length b)) in nine_or_ten ∙ rw (may, f) refl

      pub no_row : may_return (held b).entries e.line ≡ true → vec_len b.lines < 4096 → first_row rows (held b) bs ≡ None
      no_row may few = let f = lt-leb 4096 (length (held b).entries) (omega (arith, held_length b)) in nine_or_ten ∙ rw (may, f) refl
