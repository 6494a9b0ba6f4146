-- The first who is left with something is found by trying one after another.
use Rattle.std.proofs.Common.{◌≡◌, ℕ, Bool, true, false, ◌∙◌, ap, rules}
use Rattle.std.proofs.lemmas.Iterator.{first_from_Range}
use Rattle.audit.specs.Running.{is_left}
use Rattle.balances.specs.View.{cents_of}
use Rattle.settlement.proofs.Firsts.{first_of_search}
use Rattle.settlement.specs.Amounts.{first_of}
use Rattle.audit.proofs.owing.first_left.Goals as goal

pub returns : goal.returns
returns c =
    let t : ℕ → Bool = is_left (cents_of c.args.balances.now) c.args.tally.now.net in
    let one = first_from_Range _ _ _ _ (λ i. t i ≡ true) (λ i. t i ≡ false) c.find.ensures.ran (λ x q h. search rules) (λ x q h. search rules) in
    first_of_search t c.people.result c.find.result one ∙ ap (λ n. first_of n t) c.people.ensures
