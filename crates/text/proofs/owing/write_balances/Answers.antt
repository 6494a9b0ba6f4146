use Rattle.std.proofs.Common.{◌≡◌, ◌++◌, FitsSigned, inl, inr, rules, string_bytes, sym, w64, ◌∙◌}
use Rattle.std.proofs.lemmas.Int.{to_z-of_z}
use Rattle.std.proofs.lemmas.List.{append-nil}
use Rattle.text.proofs.Sides.{all_said, next_said, none_said}
use Rattle.text.proofs.owing.write_balances.Goals as goal
use Rattle.text.specs.Sides.{side_line}

pub loop-person-init : goal.loop-person-init
loop-person-init c =
    let zip = c.zip-person-items.ensures in
    let begun = none_said c.args.balances.now _ _ _ _ zip.first c.people.ensures (zip.second.0 ∙ c.numbers.ensures.all) in
    rw c.into_iter-person-iterator.ensures.into_iter_gives begun

pub loop-person-preserved : goal.loop-person-preserved
loop-person-preserved c =
    let fits : FitsSigned w64 c.in-Some.balance.now = search rules in
    let side = simp to_z-of_z at c.of.ensures in
    let line : string_bytes c.write_line.new.text ≡ string_bytes c.loop-person.text ++ side_line c.of.result = rw c.in-Some-of.is c.in_ok-write_line.ensures in
    next_said c.args.balances.now _ _ _ _ _ _ _ _ _ _ c.loop-person.invariant c.in-Some.ensures.steps.0 c.in-Some.ensures.steps.1 side line

pub loop-person-preserved-in_default : goal.loop-person-preserved-in_default
loop-person-preserved-in_default c =
    let fits : FitsSigned w64 c.in-Some.balance.now = search rules in
    let side = simp to_z-of_z at c.of.ensures in
    let line : string_bytes c.loop-person.text ≡ string_bytes c.loop-person.text ++ side_line c.of.result = rw c.in_default.is (sym (append-nil _)) in
    next_said c.args.balances.now _ _ _ _ _ _ _ _ _ _ c.loop-person.invariant c.in-Some.ensures.steps.0 c.in-Some.ensures.steps.1 side line

pub returns : goal.returns
returns c =
    let each = rw c.numbers.ensures.all at c.numbers.ensures.each in
    all_said c.args.balances.now _ _ _ _ each c.loop-person.invariant (elim c.in-None.ensures.steps [ inl people ↦ inl people.1.1.0 | inr numbers ↦ inr numbers.1.0 ])
