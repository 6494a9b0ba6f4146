use Rattle.book.proofs.Lookup.{few_people}
use Rattle.text.proofs.Payments.{never_short, settled_is}
use Rattle.text.proofs.paying.payments_of.Goals as goal

pub returns-in-Ok : goal.returns-in-Ok
returns-in-Ok c = settled_is _ _ _ _ _ _ _ c.in-Ok.ensures

pub unreachable-requires : goal.unreachable-requires
unreachable-requires c =
    let enough = never_short c.in_ok-sums.field-0 _ _ _ (few_people c.args.book.now) c.deref_mut.ensures.len c.deref_mut-2.ensures.len in
    let short = rw c.in-Err-Short.field-0-is at c.in-Err-Short.ensures.0 in
    cc
