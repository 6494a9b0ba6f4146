-- Payments in order, written as bytes, are read back as they were and have no fault.
use Rattle.std.proofs.Common.{◌≡◌, ℕ, suc, ◌+◌, ◌^◌, ◌<◌, ◌≤◌, false, List, [], ◌∷◌, length, None, refl, ap, ap₂, arith}
use Rattle.std.proofs.lemmas.Bool.Decides.{nat_tests}
use Rattle.std.specs.List.{AllByRecursion}
use Rattle.book.specs.Ledger.{Payment}
use Rattle.audit.specs.Bytes.{eight_bytes, faulty, first_faulty, payment_of, payments_of}
use Rattle.audit.specs.Encoded.{all_encoded, encoded}
use Rattle.audit.specs.Running.{InOrder}

-- eight bytes hold an amount
pub amount_back : (p : Payment) → p.amount ≤ 2 ^ 48 → eight_bytes (encoded p) 2 ≡ p.amount
amount_back p l = omega arith

pub payment_back : (p : Payment) → p.amount ≤ 2 ^ 48 → payment_of (encoded p) ≡ p
payment_back p l = let e = amount_back p l in ap (λ a. record { from = p.from; to = p.to; amount = a }) e

pub not_faulty : (n k : ℕ) (p : Payment) → k < 1024 → InOrder n p → faulty n k (encoded p) ≡ false
not_faulty n k p l h = let e = amount_back p h.small in grind (arith, nat_tests)

-- all of them
pub none_faulty : (n k : ℕ) (ps : List Payment) → k + length ps ≤ 1024 → AllByRecursion (InOrder n) ps → first_faulty n k (all_encoded ps) ≡ None
unfolding all_encoded
none_faulty n k [] l h = refl
none_faulty n k (p ∷ ps) l h = rw (not_faulty n k p (omega arith) h.0) (none_faulty n (suc k) ps (omega arith) h.1)

pub all_back : (n : ℕ) (ps : List Payment) → AllByRecursion (InOrder n) ps → payments_of (all_encoded ps) ≡ ps
unfolding all_encoded payments_of
all_back n [] h = refl
all_back n (p ∷ ps) h = ap₂ (λ q qs. q ∷ qs) (payment_back p h.0.small) (all_back n ps h.1)
