use Rattle.std.proofs.Common.{◌∙◌, arith}
use Rattle.settlement.proofs.Books.{fixed_few, fixed_settle}
use Rattle.settlement.proofs.settling.settle_balances.Goals as goal

pub pay_all-requires-clause-room : goal.pay_all-requires-clause-room
pay_all-requires-clause-room c =
    omega (arith, fixed_few c.args.balances.now _ (c.deref.ensures.value ∙ c.in_ok-groups.ensures.1.groups), c.in_ok-payments.ensures.capacity)

pub returns : goal.returns
returns c =
    let g = c.in_ok-groups.ensures in
    fixed_settle c.args.balances.now _ (c.deref.ensures.value ∙ g.1.groups) _ c.pay_all.ensures _ _ _ _ g.0 g.1.written
