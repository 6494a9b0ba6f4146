-- One turn of a set's payments over two tables, of what is owed and of what is owing: what was paid and what is left to pay
-- are all payments, before the turn and after it.
use Rattle.std.proofs.Common.{◌≡◌, ℕ, suc, ◌+◌, ◌-◌, ◌<◌, ◌≤◌, min, Bool, ◌⊎◌, List, [], ◌∷◌, ◌++◌, length, set, Some, None, sym, ap, ◌∙◌, inl, inr, append_assoc, append-nil, arith, length-append}
use Rattle.book.specs.Ledger as ledger
use Rattle.settlement.specs.Amounts.{amount_at, first_of}
use Rattle.settlement.specs.Paying.{first, has, less_at, group_payments}
use Rattle.settlement.specs.Reading.{read_payments}
use Rattle.settlement.specs.declared.payment.Payment.{Payment}
use Rattle.settlement.proofs.Firsts.{who_is_first, nobody_is}
use Rattle.settlement.proofs.Read.{read_more, read_length}
use Rattle.settlement.proofs.Steps.{payments_more, payments_end, less_set}

-- a table in which p has a less
abbrev with_less : List ℕ → ℕ → ℕ → List ℕ
with_less xs p a = set xs p (amount_at xs p - a)

-- after i turns: ps and the payments that the tables still give are all payments
pub record Left (i n : ℕ) (m : ℕ → Bool) (ps : List Payment) (xs ys : List ℕ) (all : List ledger.Payment) : Type 0 where
  pub whole : read_payments ps ++ group_payments (n - i) n m (amount_at xs) (amount_at ys) ≡ all

module _ {i n : ℕ} {m : ℕ → Bool} {ps : List Payment} {xs ys : List ℕ} {all : List ledger.Payment} (inv : Left i n m ps xs ys all) where
  module _ {p q a : ℕ} (l : i < n)
      (pe : Some p ≡ first_of n (has m (amount_at xs))) (qe : Some q ≡ first_of n (has m (amount_at ys)))
      (ae : a ≡ min (amount_at xs p) (amount_at ys q)) where
    one_more :
        group_payments (n - i) n m (amount_at xs) (amount_at ys) ≡
        record { from = p; to = q; amount = a } ∷ group_payments (n - (i + 1)) n m (amount_at (with_less xs p a)) (amount_at (with_less ys q a))
    one_more =
        let k : n - i ≡ suc (n - (i + 1)) = omega arith in
        let pf = who_is_first (has m (amount_at xs)) n p pe in
        let qf = who_is_first (has m (amount_at ys)) n q qe in
        let left : amount_at (with_less xs p a) ≡ less_at (amount_at xs) p a = less_set xs p a in
        let due : amount_at (with_less ys q a) ≡ less_at (amount_at ys) q a = less_set ys q a in
        rw (k, left, due, ae) (payments_more (n - (i + 1)) n m (amount_at xs) (amount_at ys) p q pf.0 qf.0 pf.1 qf.1)

    -- there is one payment more to come
    pub turn_room : length ps < length all
    turn_room = omega (arith, read_length ps, simp length-append at (ap length inv.whole), ap length one_more)

    -- and then it is among those that were paid
    pub turn_again : {qs : List Payment} → qs ≡ ps ++ (record { from = p; to = q; amount = a } ∷ []) → Left (i + 1) n m qs (with_less xs p a) (with_less ys q a) all
    turn_again e = record { whole = rw (e, read_more, append_assoc, ← one_more) inv.whole }

  nothing : group_payments (n - i) n m (amount_at xs) (amount_at ys) ≡ [] → read_payments ps ≡ all
  nothing z = sym (append-nil (read_payments ps)) ∙ (rw z at inv.whole)

  -- where nobody owes or nobody is owed nothing is left to pay
  pub turn_none : i < n → (None ≡ first_of n (has m (amount_at xs))) ⊎ (None ≡ first_of n (has m (amount_at ys))) → read_payments ps ≡ all
  turn_none l none =
      let k : n - i ≡ suc (n - (i + 1)) = omega arith in
      let nobody : (n ≤ first (has m (amount_at xs)) n) ⊎ (n ≤ first (has m (amount_at ys)) n) =
      elim none [ inl e ↦ inl (nobody_is (has m (amount_at xs)) n e) | inr e ↦ inr (nobody_is (has m (amount_at ys)) n e) ] in
      nothing (rw k (payments_end (n - (i + 1)) n m (amount_at xs) (amount_at ys) nobody))

  -- nor after as many turns as people
  pub turn_last : n ≤ i → read_payments ps ≡ all
  unfolding group_payments
  turn_last l = let z : n - i ≡ 0 = omega arith in nothing (rw z)
