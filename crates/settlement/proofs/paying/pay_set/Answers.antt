-- Each turn moves one payment from what is left to what was paid.
use Rattle.std.proofs.Common.{refl, sym, ◌∙◌, inl, inr, arith, rules, length-append}
use native.Mathlib.Nat.{sub-zero}
use Rattle.settlement.proofs.Read.{read_length}
use Rattle.settlement.proofs.Tables.{tables_pay}
use Rattle.settlement.proofs.Turns.{turn_room, turn_again, turn_none, turn_last}
use Rattle.settlement.proofs.paying.pay_set.Goals as goal

pub loop-turn-init : goal.loop-turn-init
loop-turn-init c =
    let b = c.args.balances.now in
    let pays = tables_pay b c.args.set _ _ (record { long = search rules; each = c.amounts-owes.ensures }) (record { long = search rules; each = c.amounts-owed.ensures }) in
    record { left = record { whole = rw (sub-zero, c.people-people.ensures, pays) refl }; room = refl }

pub returns-in_default-clause-paid : goal.returns-in_default-clause-paid
returns-in_default-clause-paid c = turn_none c.loop-turn.invariant.left (omega arith) (inr c.in_default.ensures')

pub returns-in_default-2-clause-paid : goal.returns-in_default-2-clause-paid
returns-in_default-2-clause-paid c = turn_none c.loop-turn.invariant.left (omega arith) (inl (sym c.in_default.is-0 ∙ c.first_with.ensures))

pub push_reserved-requires : goal.push_reserved-requires
push_reserved-requires c =
    let more = turn_room c.loop-turn.invariant.left (omega arith) c.in-Some-Some.ensures c.in-Some-Some.ensures' c.min-amount.ensures in
    omega (arith, simp (length-append, read_length) at more, c.loop-turn.payments.ok.0, c.args.payments.now.ok.0)

pub loop-turn-preserved : goal.loop-turn-preserved
loop-turn-preserved c = record {
  left = turn_again c.loop-turn.invariant.left (omega arith) c.in-Some-Some.ensures c.in-Some-Some.ensures' c.min-amount.ensures c.push_reserved.ensures.items;
  room = c.push_reserved.ensures.capacity ∙ c.loop-turn.invariant.room;
}

pub returns-clause-paid : goal.returns-clause-paid
returns-clause-paid c = turn_last c.loop-turn.invariant.left (omega arith)
