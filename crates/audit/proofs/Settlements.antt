-- The payments that settle a crew go from one person to another, and none is of 0 or more than what somebody owes.
use Rattle.std.proofs.Common.{◌≡◌, ℕ, zero, suc, ◌^◌, ◌<◌, ◌≤◌, min, Bool, List, [], ◌∷◌, sym, refl, ap, subst, inl, inr, arith}
use Rattle.std.proofs.ByRecursion.{All-append}
use Rattle.std.proofs.lemmas.Bool.{and_parts, cases_lt, ltb-true}
use Rattle.std.specs.List.{AllByRecursion}
use Rattle.settlement.proofs.Firsts.{first_passes}
use Rattle.settlement.proofs.Paid.{OneSide}
use Rattle.settlement.proofs.Steps.{payments_end, payments_more}
use Rattle.settlement.specs.Paying.{all_payments, first, group_payments, has, less_at}
use Rattle.audit.specs.Running.{InOrder}

-- who is the first to have something has it
has_some : (n : ℕ) (m : ℕ → Bool) (f : ℕ → ℕ) → first (has m f) n < n → 0 < f (first (has m f) n)
has_some n m f l = ltb-true 0 _ (and_parts (m (first (has m f) n)) _ (first_passes (has m f) n l)).1

-- what is left of debts and credits is on one side, and no more
one_side_less : (n : ℕ) (owes owed : ℕ → ℕ) (p q a : ℕ) → OneSide n owes owed → OneSide n (less_at owes p a) (less_at owed q a)
one_side_less n owes owed p q a one i l h = grind (arith, one i l)

less_le : (f : ℕ → ℕ) (p a i m : ℕ) → f i ≤ m → less_at f p a i ≤ m
less_le f p a i m l = grind arith

module _ (n : ℕ) (m : ℕ → Bool) where
  group_in_order : (k : ℕ) (owes owed : ℕ → ℕ) → OneSide n owes owed → ((i : ℕ) → owes i ≤ 2 ^ 48) →
      AllByRecursion (InOrder n) (group_payments k n m owes owed)
  unfolding group_payments
  group_in_order zero owes owed one few = tt
  group_in_order (suc k) owes owed one few =
      let p : ℕ = first (has m owes) n in
      let q : ℕ = first (has m owed) n in
      let a : ℕ = min (owes p) (owed q) in
      elim (cases_lt p n) [
        | inr l ↦ subst (AllByRecursion (InOrder n)) (sym (payments_end k n m owes owed (inl l))) tt
        | inl pl ↦ elim (cases_lt q n) [
          | inr l ↦ subst (AllByRecursion (InOrder n)) (sym (payments_end k n m owes owed (inr l))) tt
          | inl ql ↦
              let x = has_some n m owes pl in
              let y = has_some n m owed ql in
              subst (AllByRecursion (InOrder n)) (sym (payments_more k n m owes owed p q refl refl pl ql)) (
                record {
                  from_there = pl;
                  to_there = ql;
                  another = λ e. let z = one p pl x in let w : owed p ≡ owed q = ap owed e in omega arith;
                  some = omega arith;
                  small = omega (arith, few p);
                },
                group_in_order k (less_at owes p a) (less_at owed q a) (one_side_less n owes owed p q a one) (λ i. less_le owes p a i (2 ^ 48) (few i)),
              )
        ]
      ]

-- of all groups
pub all_in_order : (n : ℕ) (ms : List (ℕ → Bool)) (owes owed : ℕ → ℕ) → OneSide n owes owed → ((i : ℕ) → owes i ≤ 2 ^ 48) →
    AllByRecursion (InOrder n) (all_payments n ms owes owed)
unfolding all_payments
all_in_order n [] owes owed one few = tt
all_in_order n (m ∷ ms) owes owed one few =
    All-append (InOrder n) (group_payments n n m owes owed) (all_payments n ms owes owed)
    (group_in_order n m n owes owed one few) (all_in_order n ms owes owed one few)
