use Rattle.std.proofs.Common.{◌≡◌, true, false, rules}
use Rattle.std.proofs.lemmas.Iterator.{first_from_Range}
use Rattle.groups.specs.Sets.{is_in}
use Rattle.settlement.proofs.Firsts.{first_of_search}
use Rattle.settlement.proofs.paying.first_with.Goals as goal
use Rattle.settlement.specs.Amounts.{amount_at}
use Rattle.settlement.specs.Paying.{has}

pub returns : goal.returns
returns c =
    let t = has (is_in c.args.set) (amount_at c.args.amounts.now) in
    first_of_search t c.args.people c.find.result (first_from_Range _ _ _ _ (λ i. t i ≡ true) (λ i. t i ≡ false) c.find.ensures.ran (λ x q k. search rules) (λ x q k. search rules))
