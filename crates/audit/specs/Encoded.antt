-- A payment as its ten bytes.
use Rattle.std.specs.Prelude.{ℕ, zero, suc, ◌/◌, ◌%◌, List, [], ◌∷◌, map}
use Rattle.book.specs.Ledger.{Payment}

-- so many bytes of a number, low byte first
abbrev pub low_bytes : ℕ → ℕ → List ℕ
low_bytes zero x = []
low_bytes (suc k) x = x % 256 ∷ low_bytes k (x / 256)

abbrev pub encoded : Payment → List ℕ
encoded p = p.from ∷ p.to ∷ low_bytes 8 p.amount

unfoldable pub all_encoded : List Payment → List (List ℕ)
all_encoded ps = map encoded ps
