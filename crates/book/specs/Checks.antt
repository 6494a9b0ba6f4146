-- Each check of a line's bytes: it hands on its value or is answered by None, and a line is decoded by one after another.
use Rattle.std.specs.Prelude.{ℕ, Bool, true, false, cond, ◌||◌, List, [], ◌∷◌, length, replicate, Some, None, Ok, Err, Option, Result, ◌==◌, nat_le, nat_lt, position}
use Rattle.std.specs.Option.{option_map}
use Rattle.shares.specs.Bill.{total}
use Rattle.book.specs.Layout.{byte, two_bytes, four_bytes, kind_of, length_of, weight_at, weights_at, weights_of, entry_of}
use Rattle.book.specs.declared.kind.Kind.{Kind}
use Rattle.book.specs.declared.kind.Kind.TheVariants as kind
use Rattle.book.specs.declared.line.Entry.{Entry}
use Rattle.book.specs.declared.line.Line.TheVariants.{Bill, Payment}
use Rattle.book.specs.declared.refusal.Refusal.{Refusal}
use Rattle.book.specs.declared.refusal.Refusal.TheVariants.{UnknownKind, WrongLength, UnknownPerson, AmountOutOfRange, WeightTooLarge, NoWeight, PaidToSelf}

-- a value unless the test applies
abbrev pub unless : {A : Type 0} → Bool → A → Option A
unless true x = None
unless false x = Some x

-- the first of these places at which the test applies
abbrev pub first_at : (ℕ → Bool) → List ℕ → Option ℕ
first_at p [] = None
first_at p (i ∷ is) = cond (p i) (Some i) (first_at p is)

-- what is turned away: a person that is not among n, an amount of 0 or above 1,000,000,000, a weight above 1,000
abbrev pub absent : ℕ → ℕ → Bool
absent n person = nat_le n person

abbrev pub beyond : ℕ → Bool
beyond amount = amount == 0 || nat_lt 1000000000 amount

abbrev pub heavy : ℕ → Bool
heavy weight = nat_lt 1000 weight

-- the same of what byte i begins
abbrev pub stranger : ℕ → List ℕ → ℕ → Bool
stranger n bs i = absent n (byte bs i)

abbrev pub out_of_range : List ℕ → ℕ → Bool
out_of_range bs i = beyond (four_bytes bs i)

abbrev pub too_heavy : List ℕ → ℕ → Bool
too_heavy bs i = heavy (two_bytes bs i)

-- a person that is among n, and an amount that is in range
abbrev pub present : ℕ → ℕ → Option ℕ
present n person = unless (absent n person) person

abbrev pub payable : ℕ → Option ℕ
payable amount = unless (beyond amount) amount

abbrev pub heavy_at : ℕ → List ℕ → Option ℕ
heavy_at n bs = first_at (too_heavy bs) (weights_at n kind.Bill)

abbrev pub some_weight : List ℕ → Option (List ℕ)
some_weight ws = unless (total ws == 0) ws

-- go on with the value, or with the refusal
abbrev pub asked : {A B E : Type 0} → Option A → E → (A → Result B E) → Result B E
asked None e f = Err e
asked (Some x) e f = f x

-- go on where there is no such place, or refuse at it
abbrev pub clear : {B E : Type 0} → Option ℕ → (ℕ → E) → Result B E → Result B E
clear None e r = r
clear (Some i) e r = Err (e i)

-- a bill and a payment of values that were read; `at` is where the first heavy weight begins, if there is one
abbrev pub bill_unless : Option ℕ → ℕ → ℕ → ℕ → List ℕ → Result Entry Refusal
bill_unless at n payer amount weights =
    asked (present n payer) (UnknownPerson 1)
    (λ payer.
    asked (payable amount) (AmountOutOfRange 2)
    (λ amount. clear at WeightTooLarge (asked (some_weight weights) NoWeight (λ ws. Ok (record { line = Bill payer amount; weights = ws })))))

abbrev pub checked_bill : ℕ → ℕ → ℕ → List ℕ → Result Entry Refusal
checked_bill n payer amount weights = bill_unless (option_map weight_at (position heavy weights)) n payer amount weights

abbrev pub checked_payment : ℕ → ℕ → ℕ → ℕ → Result Entry Refusal
checked_payment n from to amount =
    asked (present n from) (UnknownPerson 1)
    (λ from.
    asked (present n to) (UnknownPerson 2)
    (λ to.
    asked (payable amount) (AmountOutOfRange 3)
    (λ amount. cond (from == to) (Err PaidToSelf) (Ok (record { line = Payment from to amount; weights = replicate 16 0 })))))

abbrev pub bill_of : ℕ → List ℕ → Result Entry Refusal
bill_of n bs = bill_unless (heavy_at n bs) n (byte bs 1) (four_bytes bs 2) (weights_of n bs)

abbrev pub payment_of : ℕ → List ℕ → Result Entry Refusal
payment_of n bs = checked_payment n (byte bs 1) (byte bs 2) (four_bytes bs 3)

abbrev pub of_kind : ℕ → List ℕ → Kind → Result Entry Refusal
of_kind n bs kind.Bill = bill_of n bs
of_kind n bs kind.Payment = payment_of n bs
of_kind n bs kind.TakeBack = Ok (entry_of n bs kind.TakeBack)

-- the entry that the bytes say, or the refusal of what is wrong in them
unfoldable pub decoded : ℕ → List ℕ → Result Entry Refusal
decoded n bs =
    asked (kind_of bs) UnknownKind
    (λ k. cond (length bs == length_of n k) (of_kind n bs k) (Err (WrongLength (length bs))))
