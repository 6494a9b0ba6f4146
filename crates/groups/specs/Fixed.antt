-- The groups of a crew, fixed by rule: the smallest person left goes with the least set that still reaches the greatest number.
use Rattle.std.specs.Prelude.{◌≡◌, ℕ, zero, suc, ◌+◌, ◌-◌, ◌^◌, ◌<◌, Bool, cond, not, ◌&&◌, List, [], ◌∷◌, map, length, ℤ, pos, ◌==◌, nat_lt, slice_index, slice_index_or}
use Rattle.groups.specs.Counts.{count, counts}
use Rattle.groups.specs.Courses.{at}
use Rattle.shares.specs.Bill.{pick}
use Rattle.groups.specs.Sets.{is_in, is_part, smallest}
use Rattle.groups.specs.SetsPart.{times}
use Rattle.groups.specs.Signs.{is_zero, open_of, sum_of}

-- the first number below k that passes, or k
unfoldable pub first_of : (ℕ → Bool) → ℕ → ℕ
first_of p zero = 0
first_of p (suc k) = cond (nat_lt (first_of p k) k) (first_of p k) (cond (p k) k (suc k))

-- t can be the group of the smallest person of s: it is part of s, has that person, sums to 0, and leaves a count that is one less
unfoldable pub reaches : (ℕ → ℤ) → ℕ → List ℕ → ℕ → ℕ → Bool
reaches f n cs s t = is_part t s && (is_in t (smallest n s) && (is_zero (sum_of f n t) && slice_index cs (s - t) + 1 == slice_index cs s))

-- the least set that can be
unfoldable pub chosen : (ℕ → ℤ) → ℕ → List ℕ → ℕ → ℕ
chosen f n cs s = first_of (reaches f n cs s) (suc s)

-- the groups of s from those of the sets before it: the group of its smallest person, then those of the people left
unfoldable pub fixing : (ℕ → ℤ) → ℕ → List ℕ → List (List ℕ) → ℕ → List ℕ
fixing f n cs before s = cond (s == 0) [] (chosen f n cs s ∷ slice_index_or before (s - chosen f n cs s) [])

-- by the counts of all sets
unfoldable pub fixed_by : (ℕ → ℤ) → ℕ → List ℕ → ℕ → List ℕ
fixed_by f n cs s = at (fixing f n cs) s

-- the groups of n people: those of all who are open
unfoldable pub fixed_groups : (ℕ → ℤ) → ℕ → List ℕ
fixed_groups f n = fixed_by f n (counts f n (2 ^ n)) (open_of f n)

-- how many of the sets have person i
abbrev pub holding : List ℕ → ℕ → ℕ
holding ts i = times (map is_in ts) 1 i

-- sets that part the open people of s: each of them is in exactly one and nobody else in any, none is empty, each sums to 0, and there are as many as can be
pub record Parts (f : ℕ → ℤ) (n s : ℕ) (ts : List ℕ) : Type 0 where
  pub once : (i : ℕ) → holding ts i ≡ pick (is_in s i && not (is_zero (f i))) 1 0
  pub some : (k : ℕ) → k < length ts → 0 < slice_index ts k
  pub even : (k : ℕ) → k < length ts → sum_of f n (slice_index ts k) ≡ pos 0
  pub as_many : length ts ≡ count f n s
