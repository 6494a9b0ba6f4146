-- Each payment read is one more in the tally; the first that says nothing is the first fault.
use Rattle.std.proofs.Common.{refl, rules}
use Rattle.std.proofs.lemmas.Grind.{common_steps}
use Rattle.std.proofs.lemmas.List.{drop_more}
use Rattle.audit.proofs.FromBytes.{adds, moved_room}
use Rattle.audit.proofs.tally.adding.add_up.Goals as goal
use Rattle.audit.specs.Bytes.{payments_of}
use Rattle.balances.specs.View.{people_of}

pub loop-at-init : goal.loop-at-init
unfolding payments_of
loop-at-init c = record { read = c.new-tally.ensures _; rest = refl }

pub add-requires-clause-few : goal.add-requires-clause-few
add-requires-clause-few c =
    let n = people_of c.args.balances.now in
    let said = rw (c.people.ensures, c.in_ok-payment.ensures.ok_part) at c.decode.ensures in
    moved_room n c.loop-at.at c.args.payments.now _ c.loop-at-test.true _ _ _ c.loop-at.invariant.read said

pub loop-at-preserved : goal.loop-at-preserved
loop-at-preserved c =
    let said = rw (c.people.ensures, c.in_ok-payment.ensures.ok_part) at c.decode.ensures in
    let n = people_of c.args.balances.now in
    record {
      read = rw (c.add.ensures.paid, c.add.ensures.summed)
          (adds n c.loop-at.at c.args.payments.now _ c.loop-at-test.true _ _ _ c.loop-at.invariant.read said c.args.balances.now.crew);
      rest = search (rules, common_steps, drop_more);
    }
