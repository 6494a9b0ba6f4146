use Rattle.std.proofs.Common.{◌≡◌, false, arith, rules}
use Rattle.std.specs.Option.{MatchOption}
use Rattle.book.proofs.Lookup.{found}
use Rattle.book.proofs.ledger.Book.stands.Goals as goal

pub returns : goal.returns
returns c =
    let said : MatchOption c.get.result (c.is_some_and.result ≡ false) (λ x. c.is_some_and.result ≡ x.now.stands) = search rules in
    let look = found c.args.self.now c.args.number c.get.result (search rules) (search rules) in
    grind arith
