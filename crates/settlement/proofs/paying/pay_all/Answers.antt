-- Each round moves the payments of one set from those to come to those that were paid.
use Rattle.std.proofs.Common.{refl, ◌∙◌, arith}
use Rattle.settlement.proofs.Read.{read_length, read_none}
use Rattle.settlement.proofs.Rounds.{round_room, round_again, round_last}
use Rattle.settlement.proofs.paying.pay_all.Goals as goal

pub loop-set-init : goal.loop-set-init
loop-set-init c = record { to_come = record { whole = simp (c.requires.none, read_none) }; room = refl }

pub pay_set-requires : goal.pay_set-requires
pay_set-requires c =
    let fits = round_room c.loop-set.invariant.to_come c.loop-set-test.true in
    omega (arith, simp read_length at fits, c.loop-set.payments.ok.0)

pub loop-set-preserved : goal.loop-set-preserved
loop-set-preserved c = record {
  to_come = round_again c.loop-set.invariant.to_come c.loop-set-test.true c.pay_set.ensures.paid;
  room = c.pay_set.ensures.room ∙ c.loop-set.invariant.room;
}

pub returns : goal.returns
returns c = round_last c.loop-set.invariant.to_come c.loop-set-test.false
