-- How large a person's number may be: sixteen of them can be summed in 64 bits, and no book reaches it.
use Rattle.std.specs.Prelude.{ℕ, ◌^◌, Bool, true, not, ◌&&◌, List, [], ◌∷◌, ℤ, nat_lt, unsigned_abs}

-- the most that anybody may owe or be owed
abbrev pub most : ℕ
most = 2 ^ 48

-- a number out of range
abbrev pub far : ℤ → Bool
far z = nat_lt most (unsigned_abs z)

-- all numbers are in range
unfoldable pub all_near : List ℤ → Bool
all_near [] = true
all_near (x ∷ xs) = not (far x) && all_near xs
