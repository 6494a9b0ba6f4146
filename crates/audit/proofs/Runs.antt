-- A table and a sum while payments are added to them.
use Rattle.std.proofs.Common.{◌≡◌, ℕ, ◌+◌, ◌*◌, ◌^◌, ◌<◌, ◌≤◌, Bool, true, false, eqb, List, [], ◌∷◌, ◌++◌, length, set, replicate, ℤ, pos, ◌+ℤ◌, ◌-ℤ◌, nat_abs, sym, refl, ◌∙◌, subst, inl, inr, arith, length-append, length-set}
use Rattle.std.proofs.ByRecursion.{All-push, All-weaker}
use Rattle.std.proofs.lemmas.List.{get_or-set_same, get_or-set_other}
use Rattle.std.proofs.lemmas.Int.{ints}
use Rattle.std.proofs.lemmas.Bool.{cases_eq, eq-eqb, ne_eqb}
use Rattle.shares.specs.Bill.{pick}
use Rattle.balances.proofs.Zeros.{zero_at}
use Rattle.balances.specs.Signed.{at_person}
use Rattle.book.specs.Ledger.{Payment}
use Rattle.settlement.specs.Settle.{out, into, money}
use Rattle.audit.specs.Running.{InOrder, Running, lowered, paid_in, raised}
use Rattle.audit.proofs.Sums.{money_le, out_push, into_push, money_push}

-- a table in which one place is changed by a
moved_at : (by : ℤ → ℕ → ℤ) → ((z : ℤ) → by z 0 ≡ z) → (t : List ℤ) (k i a : ℕ) → k < length t →
    at_person (set t k (by (at_person t k) a)) i ≡ by (at_person t i) (pick (eqb k i) a 0)
moved_at by none t k i a l =
    elim (cases_eq k i) [
      | inl e ↦ subst (λ i. at_person (set t k (by (at_person t k) a)) i ≡ by (at_person t i) (pick (eqb k i) a 0)) e
          (rw (eq-eqb k k refl) (get_or-set_same t k (by (at_person t k) a) (pos 0) l))
      | inr d ↦ rw (ne_eqb k i d) (get_or-set_other t k i (by (at_person t k) a) (pos 0) (λ e. d (sym e)) ∙ sym (none (at_person t i)))
    ]

raised_at : (t : List ℤ) (k i a : ℕ) → k < length t → at_person (raised t k a) i ≡ at_person t i +ℤ pos (pick (eqb k i) a 0)
raised_at = moved_at (λ z a. z +ℤ pos a) (λ z. omega (arith, ints))

lowered_at : (t : List ℤ) (k i a : ℕ) → k < length t → at_person (lowered t k a) i ≡ at_person t i -ℤ pos (pick (eqb k i) a 0)
lowered_at = moved_at (λ z a. z -ℤ pos a) (λ z. omega (arith, ints))

-- nothing is paid yet
pub running_none : (n : ℕ) → Running n [] (replicate 16 (pos 0)) 0
unfolding out into money
running_none n = record { few = omega arith; each = tt; long = refl; netted = λ i l. zero_at 16 i; summed = refl }

pick_le : (t : Bool) (a : ℕ) → pick t a 0 ≤ a
pick_le true a = omega arith
pick_le false a = omega arith

pub raised_near : (t : List ℤ) (k a m i : ℕ) → k < length t → nat_abs (at_person t i) ≤ m → nat_abs (at_person (raised t k a) i) ≤ m + a
raised_near t k a m i l near = let up = raised_at t k i a l in omega (arith, ints, pick_le (eqb k i) a)

-- a payment moves nobody's number by more than its amount
pub paid_near : (t : List ℤ) (p : Payment) (m i : ℕ) → length t ≡ 16 → p.from < 16 → p.to < 16 → nat_abs (at_person t i) ≤ m →
    nat_abs (at_person (paid_in t p) i) ≤ m + p.amount
paid_near t p m i long from to near =
    let size : length (raised t p.from p.amount) ≡ 16 = simp length-set long in
    let up = raised_at t p.from i p.amount (omega arith) in
    let down = lowered_at (raised t p.from p.amount) p.to i p.amount (omega arith) in
    omega (arith, ints, pick_le (eqb p.from i) p.amount, pick_le (eqb p.to i) p.amount)

module _ (n : ℕ) (ps : List Payment) (net : List ℤ) (moved : ℕ) (r : Running n ps net moved) where
  -- the sum is at most what so many payments of the greatest amount move
  pub moved_le : moved ≤ length ps * 2 ^ 48
  moved_le = omega (arith, r.summed, money_le (2 ^ 48) ps (All-weaker (InOrder n) (λ p. p.amount ≤ 2 ^ 48) (λ p o. o.small) ps r.each))

  -- one payment more
  pub running_push : (p : Payment) → n ≤ 16 → length ps < 1024 → InOrder n p → Running n (ps ++ (p ∷ [])) (paid_in net p) (moved + p.amount)
  running_push p crew room o =
      let a : ℕ = p.amount in
      let t : List ℤ = raised net p.from a in
      let size : length t ≡ 16 = simp length-set r.long in
      record {
        few = simp length-append (omega arith);
        each = All-push (InOrder n) ps p r.each o;
        long = simp length-set r.long;
        netted = λ i l.
            let up = raised_at net p.from i a (omega (arith, o.from_there, r.long)) in
            let down = lowered_at t p.to i a (omega (arith, o.to_there)) in
            omega (arith, ints, r.netted i l, out_push ps p i, into_push ps p i);
        summed = omega (arith, r.summed, money_push ps p);
      }
