-- The payments of one set more: what was paid and what the sets that are left pay are all payments.
use Rattle.std.proofs.Common.{◌≡◌, ℕ, ◌+◌, ◌<◌, ◌≤◌, List, [], ◌++◌, length, get_or, drop, sym, ap, ◌∙◌, append_assoc, append-nil, arith, length-append}
use Rattle.std.proofs.lemmas.List.{at_drop_more, at_drop_all}
use Rattle.balances.specs.declared.sheet.Balances.{Balances}
use Rattle.book.specs.Ledger.{Payment}
use Rattle.settlement.specs.Amounts.{paid_in, settled_by}
use Rattle.settlement.specs.Paying.{all_payments, settlement}

settled_more : (b : Balances) (sets : List ℕ) (i : ℕ) → i < length sets →
    settled_by b (drop i sets) ≡ paid_in b (get_or sets i 0) ++ settled_by b (drop (i + 1) sets)
unfolding settlement all_payments
settled_more b sets i l = at_drop_more (settled_by b) sets i 0 l

settled_over : (b : Balances) (sets : List ℕ) (i : ℕ) → length sets ≤ i → settled_by b (drop i sets) ≡ []
unfolding settlement all_payments
settled_over b sets i l = at_drop_all (settled_by b) sets i l

-- after i sets: ps and the payments of the others are all payments
pub record ToCome (b : Balances) (sets : List ℕ) (i : ℕ) (ps : List Payment) : Type 0 where
  pub whole : ps ++ settled_by b (drop i sets) ≡ settled_by b sets

module _ {b : Balances} {sets : List ℕ} {i : ℕ} {ps : List Payment} (inv : ToCome b sets i ps) where
  parts : i < length sets → ps ++ (paid_in b (get_or sets i 0) ++ settled_by b (drop (i + 1) sets)) ≡ settled_by b sets
  parts l = rw (← settled_more b sets i l) inv.whole

  -- the payments of one set are among those to come
  pub round_room : i < length sets → length ps + length (paid_in b (get_or sets i 0)) ≤ length (settled_by b sets)
  round_room l = omega (arith, simp length-append at (ap length (parts l)))

  -- and then among those that were paid
  pub round_again : i < length sets → {qs : List Payment} → qs ≡ ps ++ paid_in b (get_or sets i 0) → ToCome b sets (i + 1) qs
  round_again l e = record { whole = rw (e, append_assoc) (parts l) }

  -- after the last set all are paid
  pub round_last : length sets ≤ i → ps ≡ settled_by b sets
  round_last l = sym (append-nil ps) ∙ (rw (settled_over b sets i l) at inv.whole)
