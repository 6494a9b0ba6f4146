-- Payments of the program and how they are read.
use Rattle.std.proofs.Common.{◌≡◌, List, [], ◌∷◌, ◌++◌, length, refl}
use Rattle.std.proofs.lemmas.List.{length-map, map_push}
use Rattle.settlement.specs.Reading.{read_payment, read_payments}
use Rattle.settlement.specs.declared.payment.Payment.{Payment}

pub read_none : read_payments [] ≡ []
unfolding read_payments
read_none = refl

pub read_more : (ps : List Payment) (p : Payment) → read_payments (ps ++ (p ∷ [])) ≡ read_payments ps ++ (read_payment p ∷ [])
unfolding read_payments
read_more ps p = map_push read_payment ps p

pub read_length : (ps : List Payment) → length (read_payments ps) ≡ length ps
unfolding read_payments
read_length ps = length-map ps read_payment
