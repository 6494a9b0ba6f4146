-- The tables of the sums and the counts of all sets of people.
use Rattle.std.specs.Prelude.{◌≡◌, ℕ, ◌^◌, List, length, ℤ}
use Rattle.groups.specs.Counts.{count}
use Rattle.groups.specs.Filled.{Filled, Holds}
use Rattle.balances.specs.Signed.{at_person}
use Rattle.groups.specs.Signs.{sum_of}

-- the sum and the count of one set of people whose balances are in a list
abbrev pub set_sum : List ℤ → ℕ → ℤ
set_sum zs s = sum_of (at_person zs) (length zs) s

abbrev pub set_count : List ℤ → ℕ → ℕ
set_count zs s = count (at_person zs) (length zs) s

-- tables that have those of all sets
abbrev pub HasSums : List ℤ → List ℤ → Type 0
HasSums zs table = Holds (set_sum zs) (2 ^ length zs) table

abbrev pub HasCounts : List ℤ → List ℕ → Type 0
HasCounts zs table = Holds (set_count zs) (2 ^ length zs) table

-- tables in which the sums and counts of all sets of n people were written, and nothing past them
pub record Written (f : ℕ → ℤ) (n : ℕ) (old-sums sums : List ℤ) (old-counts counts : List ℕ) : Type 0 where
  pub summed : Filled (sum_of f n) (2 ^ n) old-sums sums
  pub counted : Filled (count f n) (2 ^ n) old-counts counts

-- tables as they were
pub record Kept (old-sums sums : List ℤ) (old-counts counts : List ℕ) : Type 0 where
  pub sums_kept : sums ≡ old-sums
  pub counts_kept : counts ≡ old-counts
