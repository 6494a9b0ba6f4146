-- How many groups a set of people has, by recurrence over smaller sets: one step for each person of each set.
use Rattle.std.specs.Prelude.{ℕ, zero, suc, ◌+◌, max, cond, List, ℤ, ◌==◌, slice_index}
use Rattle.groups.specs.Courses.{at, up_to}
use Rattle.groups.specs.Sets.{is_in, smallest, without}
use Rattle.groups.specs.Signs.{is_zero, sum_of}

-- the greatest count of s with one of its people below k taken out
unfoldable pub most : List ℕ → ℕ → ℕ → ℕ
most cs s zero = 0
most cs s (suc k) = cond (is_in s k) (max (most cs s k) (slice_index cs (without s k))) (most cs s k)

-- the count of s from the counts of the sets before it
unfoldable pub counted : (ℕ → ℤ) → ℕ → List ℕ → ℕ → ℕ
counted f n cs s =
    cond (s == 0) 0
    (cond (is_zero (f (smallest n s))) (slice_index cs (without s (smallest n s)))
    (cond (is_zero (sum_of f n s)) (slice_index cs (without s (smallest n s)) + 1) (most cs s n)))

-- the count of s
unfoldable pub count : (ℕ → ℤ) → ℕ → ℕ → ℕ
count f n s = at (counted f n) s

-- the counts of all sets below k
unfoldable pub counts : (ℕ → ℤ) → ℕ → ℕ → List ℕ
counts f n k = up_to (counted f n) k
