-- A payment from elsewhere: from, to, and eight bytes of amount, low byte first. What is wrong with it, and what it says.
use Rattle.std.specs.Borrow.{Bor}
use Rattle.std.specs.Prelude.{ℕ, suc, ◌+◌, ◌*◌, ◌^◌, Bool, false, not, ◌||◌, leb, List, [], ◌∷◌, map, length, Some, None, Option, ◌==◌, nat_eq, nat_lt}
use Rattle.shares.specs.Bill.{pick}
use Rattle.book.specs.Checks.{stranger, unless}
use Rattle.book.specs.Layout.{byte}
use Rattle.book.specs.Ledger.{Payment}

abbrev pub eight_bytes : List ℕ → ℕ → ℕ
eight_bytes bs i =
    byte bs i + byte bs (i + 1) * 256 + byte bs (i + 2) * 65536 + byte bs (i + 3) * 16777216
    + byte bs (i + 4) * 4294967296 + byte bs (i + 5) * 1099511627776 + byte bs (i + 6) * 281474976710656 + byte bs (i + 7) * 72057594037927936

abbrev pub payment_of : List ℕ → Payment
payment_of bs = record { from = byte bs 0; to = byte bs 1; amount = eight_bytes bs 2 }

-- the bytes of payments of which each is lent
abbrev pub lent : List (Bor (List ℕ)) → List (List ℕ)
lent ps = map (λ p. p.now) ps

-- what the bytes of all payments say
unfoldable pub payments_of : List (List ℕ) → List Payment
payments_of bss = map payment_of bss

-- an amount of 0 or above 2^48
abbrev pub out_of_range : List ℕ → ℕ → Bool
out_of_range bs i = eight_bytes bs i == 0 || nat_lt (2 ^ 48) (eight_bytes bs i)

-- what can be wrong with the bytes of payment k among n people
abbrev pub Fault : Type 0
Fault = ℕ → ℕ → List ℕ → Bool

-- the 1,025th; not ten bytes; from or to a person that is not there; from a person to itself; the amount
abbrev pub faults : List Fault
faults =
    (λ n k bs. leb 1024 k)
    ∷ (λ n k bs. not (length bs == 10))
    ∷ (λ n k bs. stranger n bs 0)
    ∷ (λ n k bs. stranger n bs 1)
    ∷ (λ n k bs. nat_eq (byte bs 0) (byte bs 1))
    ∷ (λ n k bs. out_of_range bs 2)
    ∷ []

-- does one of these faults apply
abbrev pub some_fault : List Fault → ℕ → ℕ → List ℕ → Bool
some_fault [] n k bs = false
some_fault (f ∷ fs) n k bs = f n k bs || some_fault fs n k bs

abbrev pub faulty : ℕ → ℕ → List ℕ → Bool
faulty n k bs = some_fault faults n k bs

-- the first payment that is not in order; the list begins with payment k
abbrev pub first_faulty : ℕ → ℕ → List (List ℕ) → Option ℕ
first_faulty n k [] = None
first_faulty n k (bs ∷ bss) = pick (faulty n k bs) (Some k) (first_faulty n (suc k) bss)

-- what the bytes say where they are in order
abbrev pub said : ℕ → ℕ → List ℕ → Option Payment
said n k bs = unless (faulty n k bs) (payment_of bs)
