-- Sets of people as the bits of a number: person i stands for 2 ^ i.
use Rattle.std.specs.Prelude.{ℕ, zero, suc, Option, Some, None, ◌-◌, ◌/◌, ◌%◌, ◌^◌, Bool, ◌==◌, bit_and}
use Rattle.std.specs.Int.Count.{count_trailing_zeros}
use Rattle.shares.specs.Bill.{pick}
use Rattle.shares.specs.Span.{span}

-- is person i in s
unfoldable pub is_in : ℕ → ℕ → Bool
is_in s i = s / 2 ^ i % 2 == 1

-- s with person i taken out
abbrev pub without : ℕ → ℕ → ℕ
without s i = s - 2 ^ i

-- the smallest person of a set among n people
unfoldable pub smallest : ℕ → ℕ → ℕ
smallest n s = count_trailing_zeros n s

-- is everybody of t in s
unfoldable pub is_part : ℕ → ℕ → Bool
is_part t s = bit_and t s == t

-- of the subsets of m below b, where b is one of them or one more than m, the greatest
abbrev pub subset_below : ℕ → ℕ → Option ℕ
subset_below m zero = None
subset_below m (suc b) = Some (bit_and b m)

-- all of n people
abbrev pub everyone : ℕ → ℕ
everyone n = 2 ^ n - 1

-- how many of n people are in s
unfoldable pub size : ℕ → ℕ → ℕ
size n s = span (λ i. pick (is_in s i) 1 0) n

-- those of n people who pass a test
unfoldable pub set_of : (ℕ → Bool) → ℕ → ℕ
set_of p n = span (λ i. pick (p i) (2 ^ i) 0) n
