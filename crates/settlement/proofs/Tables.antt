-- Tables of sixteen amounts that were made from balances.
use Rattle.std.proofs.Common.{◌≡◌, ℕ, ◌<◌, List, length, ℤ, pos, refl, ap, sym, ◌∙◌, inl, inr, arith}
use mathlib.Core.Path.{fun_ext}
use Rattle.std.proofs.lemmas.Bool.{cases_lt}
use Rattle.std.proofs.lemmas.List.{get_or_past}
use Rattle.balances.proofs.Holds.{absent_at}
use Rattle.balances.specs.Signed.{debt, credit}
use Rattle.balances.specs.View.{cents_of, people_of}
use Rattle.balances.specs.declared.sheet.Balances.{Balances}
use Rattle.settlement.specs.Amounts.{amount_at, paid_in, set_payments}

-- xs has the amount d of each person's number
pub record Has (b : Balances) (d : ℤ → ℕ) (xs : List ℕ) : Type 0 where
  pub long : length xs ≡ 16
  pub each : (i : ℕ) → i < 16 → amount_at xs i ≡ d (cents_of b i)

module _ (b : Balances) where
  -- and nothing of anybody else, where d is 0 of somebody who is even
  has_all : (d : ℤ → ℕ) → d (pos 0) ≡ 0 → (xs : List ℕ) → Has b d xs → amount_at xs ≡ (λ i. d (cents_of b i))
  has_all d even xs h =
      fun_ext (λ i.
      elim (cases_lt i 16) [
        | inl l ↦ h.each i l
        | inr l ↦ get_or_past xs i 0 (omega (arith, h.long)) ∙ sym (ap d (absent_at b i (omega (arith, b.crew))) ∙ even)
      ])

  -- so two such tables give the payments of a set
  pub tables_pay : (set : ℕ) (xs ys : List ℕ) → Has b debt xs → Has b credit ys → set_payments (people_of b) set xs ys ≡ paid_in b set
  tables_pay set xs ys owes owed = let d = has_all debt refl xs owes in let e = has_all credit refl ys owed in rw (d, e) refl
