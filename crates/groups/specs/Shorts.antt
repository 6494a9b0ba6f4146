-- Tables that have too few entries for all sets of people.
use Rattle.std.specs.Prelude.{ℕ, ◌^◌, cond, List, [], ◌∷◌, length, ℤ, Some, None, Option, nat_lt}
use Rattle.groups.specs.declared.short.Short.{Short}
use Rattle.groups.specs.declared.short.Short.TheVariants.{Counts, Sums}

-- the number and place of a table that is too short
abbrev pub short_code : Short → ℕ × ℕ
short_code Sums = (11, 1)
short_code Counts = (11, 2)

-- of tables with their lengths, the first that has fewer than m entries
abbrev pub first_short : ℕ → List (Short × ℕ) → Option Short
first_short m [] = None
first_short m (t ∷ ts) = cond (nat_lt t.1 m) (Some t.0) (first_short m ts)

-- the first table that has fewer entries than n people have sets
abbrev pub too_short : ℕ → List ℤ → List ℕ → Option Short
too_short n sums counts = first_short (2 ^ n) ((Sums, length sums) ∷ (Counts, length counts) ∷ [])
