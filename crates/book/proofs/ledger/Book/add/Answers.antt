use Rattle.std.proofs.Common.{◌≡◌, Bool, true, false, not, length, Some, None, sym, refl, ap, ◌∙◌, subst, arith}
use Rattle.std.proofs.lemmas.Result.{err_from_is_err_and}
use Rattle.book.proofs.Answered as told
use Rattle.book.proofs.Lookup.{held_length}
use Rattle.book.proofs.Marks.{stands_push}
use Rattle.book.proofs.Passed.{decoded_passes}
use Rattle.book.proofs.ledger.Book.add.Goals as goal
use Rattle.book.specs.Answers.{with_said}
use Rattle.book.specs.Checks.{unless}
use Rattle.book.specs.Held.{may_return, stands_at}
use Rattle.book.specs.Orderly.{follows}
use Rattle.book.specs.View.{held}
use Rattle.book.specs.declared.line.Entry.{Entry}

-- what the check of taking back handed on
passed : (t : Bool) (e d : Entry) → Some d ≡ unless (not t) e → (t ≡ true) × (e ≡ d)
passed true e d h = (refl, cc)
passed false e d h = grind arith

stopped : (t : Bool) (e : Entry) → None ≡ unless (not t) e → t ≡ false
stopped true e h = grind arith
stopped false e h = refl

pub returns-then-number-self : goal.returns-then-number-self
returns-then-number-self c = record { by_row = told.no_room c.args.self.now c.args.bytes.now (omega arith); same = refl }

pub returns-in_err-entry : goal.returns-in_err-entry
returns-in_err-entry c =
    let p = err_from_is_err_and c.from_residual.result c.from_residual.ensures.1 in
    rw (p.1, p.2) (record { by_row = told.not_decoded c.args.self.now c.args.bytes.now (omega arith) _ (sym c.in_err-entry.ensures); same = refl })

pub returns-in_default : goal.returns-in_default
returns-in_default c =
    let b = c.args.self.now in
    let e = c.in_ok-entry.entry in
    let no = stopped (may_return (held b).entries e.line) e c.in_default.ensures in
    record { by_row = told.not_taken_back b c.args.bytes.now (omega arith) e (sym c.in_ok-entry.ensures) no; same = refl }

pub returns-then-number-ge-MAX_LINES : goal.returns-then-number-ge-MAX_LINES
returns-then-number-ge-MAX_LINES c =
    let b = c.args.self.now in
    let e = c.in_ok-entry.entry in
    let yes = passed (may_return (held b).entries e.line) e c.in-Some.entry c.in-Some.ensures in
    record { by_row = told.too_many b c.args.bytes.now (omega arith) e (sym c.in_ok-entry.ensures) yes.0 (omega arith); same = refl }

pub keep-requires : goal.keep-requires
keep-requires c =
    let b = c.args.self.now in
    let e = c.in_ok-entry.entry in
    let yes = passed (may_return (held b).entries e.line) e c.in-Some.entry c.in-Some.ensures in
    let good = decoded_passes b.people c.args.bytes.now b.crew.1 e (sym c.in_ok-entry.ensures) in
    record {
      room = omega arith;
      few = omega arith;
      fits = subst (λ d. follows b.people (held b).entries d.weights d.line ≡ true) yes.1 (good.fits (held b).entries yes.0);
    }

pub returns : goal.returns
returns c =
    let b = c.args.self.now in
    let e = c.in_ok-entry.entry in
    let es = (held b).entries in
    let is = sym c.in_ok-entry.ensures in
    let yes = passed (may_return es e.line) e c.in-Some.entry c.in-Some.ensures in
    let good = decoded_passes b.people c.args.bytes.now b.crew.1 e is in
    let grown = c.keep.ensures ∙ ap (with_said (held b)) (sym (good.said ∙ ap Some yes.1)) in
    let number : c.len-number.result ≡ length es = omega (arith, held_length b) in
    record {
      numbered = number;
      no_row = told.no_row b c.args.bytes.now (omega arith) e is yes.0 (omega arith);
      grown = grown;
      standing = λ k.
          ap (λ h. stands_at h.entries k) (grown ∙ ap (with_said (held b)) good.said)
          ∙ stands_push b.people es e b.ordered (good.fits es yes.0) k
          ∙ rw (number, good.said) refl;
    }
