-- How a line lies in its bytes: a kind, and then the fields of that kind. Numbers have their low byte first.
use Rattle.std.specs.Prelude.{ℕ, ◌+◌, ◌-◌, ◌*◌, cond, List, [], ◌∷◌, ◌++◌, map, replicate, Some, None, Option, ◌==◌, slice_index, slice_index_or}
use Rattle.std.specs.List.{range_with_len}
use Rattle.book.specs.declared.kind.Kind.{Kind}
use Rattle.book.specs.declared.kind.Kind.TheVariants.{Bill, Payment, TakeBack}
use Rattle.book.specs.declared.line.Entry.{Entry}
use Rattle.book.specs.declared.line.Line.TheVariants as line

abbrev pub byte : List ℕ → ℕ → ℕ
byte bs i = slice_index bs i

abbrev pub two_bytes : List ℕ → ℕ → ℕ
two_bytes bs i = byte bs i + byte bs (i + 1) * 256

abbrev pub four_bytes : List ℕ → ℕ → ℕ
four_bytes bs i = byte bs i + byte bs (i + 1) * 256 + byte bs (i + 2) * 65536 + byte bs (i + 3) * 16777216

-- the kind that a byte names
abbrev pub kind_named : ℕ → Option Kind
kind_named b = cond (b == 1) (Some Bill) (cond (b == 2) (Some Payment) (cond (b == 3) (Some TakeBack) None))

-- the first byte names the kind; an empty line has none
abbrev pub kind_of : List ℕ → Option Kind
kind_of bs = kind_named (byte bs 0)

-- a bill: the payer, four bytes of amount, two of weight for each of n people; a payment: from, to, four bytes; a taking back: two bytes, a line's number
abbrev pub length_of : ℕ → Kind → ℕ
length_of n Bill = 6 + 2 * n
length_of n Payment = 7
length_of n TakeBack = 3

-- where the people of a line stand, in the order of its bytes
abbrev pub people_at : Kind → List ℕ
people_at Bill = 1 ∷ []
people_at Payment = 1 ∷ 2 ∷ []
people_at TakeBack = []

-- where a line's amount begins
abbrev pub amounts_at : Kind → List ℕ
amounts_at Bill = 2 ∷ []
amounts_at Payment = 3 ∷ []
amounts_at TakeBack = []

-- where the weight of person i begins
abbrev pub weight_at : ℕ → ℕ
weight_at i = 6 + 2 * i

-- where the weights of n people begin
abbrev pub weights_at : ℕ → Kind → List ℕ
weights_at n Bill = map weight_at (range_with_len 0 n)
weights_at n Payment = []
weights_at n TakeBack = []

-- the weights of n people, and 0 for the others of sixteen
unfoldable pub weights_of : ℕ → List ℕ → List ℕ
weights_of n bs = map (λ i. two_bytes bs (weight_at i)) (range_with_len 0 n) ++ replicate (16 - n) 0

-- the weights that these pairs of bytes say, and 0 for the others of sixteen
unfoldable pub weights_in : List (List ℕ) → List ℕ
weights_in pairs = map (λ i. two_bytes (slice_index_or pairs i []) 0) (range_with_len 0 16)

-- what the bytes of a line of that kind say
abbrev pub entry_of : ℕ → List ℕ → Kind → Entry
entry_of n bs Bill = record { line = line.Bill (byte bs 1) (four_bytes bs 2); weights = weights_of n bs }
entry_of n bs Payment = record { line = line.Payment (byte bs 1) (byte bs 2) (four_bytes bs 3); weights = replicate 16 0 }
entry_of n bs TakeBack = record { line = line.TakeBack (two_bytes bs 1); weights = replicate 16 0 }
