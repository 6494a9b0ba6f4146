-- One person more in the set stands for what no smaller one does.
use Rattle.std.proofs.Common.{◌≡◌, ℕ, ◌^◌, ◌≤◌, Bool, not, length, get_or, pos, refl, ap, add-one, arith, pow_mono, rules}
use Rattle.std.proofs.lemmas.Nat.{one_shl}
use Rattle.groups.proofs.SetLaws.{set_below, set_no, set_yes}
use Rattle.groups.proofs.ZeroLaws.{even_bits, open_bits}
use Rattle.groups.proofs.crew.Crew.open_people.Goals as goal
use Rattle.groups.proofs.crew.Crew.open_people.Goals.{else-balance-ne0, then-balance-ne0}
use Rattle.groups.specs.Sets.{set_of}
use Rattle.balances.specs.Signed.{at_person}
use Rattle.groups.specs.Signs.{is_zero, open_of}
use Rattle.shares.specs.Span.{span}

pub loop-person-init : goal.loop-person-init
unfolding set_of span
loop-person-init c = refl

pub overflow_add-set : goal.overflow_add-set
overflow_add-set c =
    let p : ℕ → Bool = λ i. not (is_zero (at_person c.args.self.now.balances.now i)) in
    let i = c.loop-person.person in
    let le : i ≤ 15 = omega arith in
    let top : 2 ^ i ≤ 2 ^ 15 = pow_mono le in
    record { fits = omega (arith, set_below p i, one_shl i 32 (omega arith), c.loop-person.invariant) }

pub loop-person-preserved : goal.loop-person-preserved
loop-person-preserved c =
    let p : ℕ → Bool = λ i. not (is_zero (at_person c.args.self.now.balances.now i)) in
    let i = c.loop-person.person in
    let z = get_or c.args.self.now.balances.now i (pos 0) in
    rw add-one
    (elim c.if-balance-ne0.branch [
      | then-balance-ne0 w ↦ omega (arith, set_yes p i (ap not (open_bits z (search rules) w.if-balance-ne0.true)), w.set-is, one_shl i 32 (omega arith), c.loop-person.invariant)
      | else-balance-ne0 w ↦ omega (arith, set_no p i (ap not (even_bits z (search rules) w.if-balance-ne0.false)), w.set-is, c.loop-person.invariant)
    ])

pub returns : goal.returns
unfolding open_of
returns c = let e : c.loop-person.person ≡ length c.args.self.now.balances.now = omega arith in rw e at c.loop-person.invariant
