use Rattle.std.proofs.Common.{◌≡◌, ℕ, Bool, false, not, ◌&&◌, List, Some, None, Option, Bor, arith, rules}
use Rattle.std.specs.List.{slice_get}
use Rattle.std.specs.Option.{MatchOption}
use Rattle.book.proofs.Lookup.{found}
use Rattle.book.proofs.Marks.{plain_stands}
use Rattle.book.specs.Held.{is_return, returnable, stands_at}
use Rattle.book.specs.View.{held}
use Rattle.book.specs.declared.line.Entry.{Entry}
use Rattle.book.specs.declared.line.Kept.{Kept}
use Rattle.book.proofs.ledger.Book.returnable.Goals as goal

-- by what the look found
by_look : (es : List Entry) (k : ℕ) (r : Bool) (o : Option (Bor Kept)) → MatchOption o (r ≡ false) (λ x. r ≡ (x.now.stands && not (is_return x.now.entry.line))) →
    MatchOption o ((slice_get es k ≡ None) × (stands_at es k ≡ false)) (λ x. (slice_get es k ≡ Some x.now.entry) × (stands_at es k ≡ x.now.stands)) →
    r ≡ returnable es k
by_look es k r None said look = grind arith
by_look es k r (Some x) said look = let plain = plain_stands es k x.now.entry look.0 in grind arith

pub returns : goal.returns
returns c =
    let b = c.args.self.now in
    by_look (held b).entries c.args.number c.is_some_and.result c.get.result (search rules) (found b c.args.number c.get.result (search rules) (search rules))
