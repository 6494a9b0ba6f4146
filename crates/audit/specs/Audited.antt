-- What the auditor answers for: the verdict, and what both tables hold then.
use Rattle.std.specs.Prelude.{◌≡◌, ℕ, List, ℤ, Some, None, Ok, Err, Result}
use Rattle.balances.specs.Even.{Balances}
use Rattle.groups.specs.Tables.{Kept, Written}
use Rattle.audit.specs.Bytes.{payments_of}
use Rattle.audit.specs.Refused.{refusal}
use Rattle.audit.specs.Verdict.{Fits}
use Rattle.audit.specs.declared.unaudited.Unaudited.{Unaudited}
use Rattle.audit.specs.declared.verdict.Verdict.{Verdict}

-- the verdict on payments of n people with the numbers f, whose balances are b, and the tables before and after
pub record Audited (n : ℕ) (f : ℕ → ℤ) (b : Balances) (old-sums sums : List ℤ) (old-counts counts : List ℕ) (bss : List (List ℕ)) (v : Verdict) : Type 0 where
  pub taken : refusal n old-sums old-counts bss ≡ None
  pub written : Written f n old-sums sums old-counts counts
  pub fits : Fits b (payments_of bss) v

-- the first refusal, which changes no table
pub record TurnedAway (n : ℕ) (old-sums sums : List ℤ) (old-counts counts : List ℕ) (bss : List (List ℕ)) (e : Unaudited) : Type 0 where
  pub first : refusal n old-sums old-counts bss ≡ Some e
  pub kept : Kept old-sums sums old-counts counts

-- a verdict or the first refusal
abbrev pub Answers : ℕ → (ℕ → ℤ) → Balances → List ℤ → List ℤ → List ℕ → List ℕ → List (List ℕ) → Result Verdict Unaudited → Type 0
Answers n f b old-sums sums old-counts counts bss (Ok v) = Audited n f b old-sums sums old-counts counts bss v
Answers n f b old-sums sums old-counts counts bss (Err e) = TurnedAway n old-sums sums old-counts counts bss e
