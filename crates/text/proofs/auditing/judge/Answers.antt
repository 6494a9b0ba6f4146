use Rattle.book.proofs.Lookup.{few_people}
use Rattle.text.proofs.Audits.{none_short}
use Rattle.text.proofs.Payments.{never_short}
use Rattle.text.proofs.auditing.judge.Goals as goal

pub unreachable-requires : goal.unreachable-requires
unreachable-requires c =
    let enough = never_short c.in_ok-sums.field-0 _ _ _ (few_people c.args.book.now) c.deref_mut.ensures.len c.deref_mut-2.ensures.len in
    none_short _ _ (rw (enough, c.in-Err-Short.field-0-is) at c.in-Err-Short.ensures.first)
