-- A table of which a part has been written.
use Rattle.std.specs.Prelude.{◌≡◌, ℕ, ◌<◌, ◌≤◌, List, length, slice_index_or}

-- a table that has the values of g below m
pub record Holds {A : Type 0} (g : ℕ → A) (m : ℕ) (xs : List A) : Type 0 where
  pub room : m ≤ length xs
  pub below : (k : ℕ) (d : A) → k < m → slice_index_or xs k d ≡ g k

-- below m it has the values of g, and from m on it is as it was
pub record Filled {A : Type 0} (g : ℕ → A) (m : ℕ) (old new : List A) : Type 0 where
  pub below : (k : ℕ) (d : A) → k < m → slice_index_or new k d ≡ g k
  pub rest : (k : ℕ) (d : A) → m ≤ k → slice_index_or new k d ≡ slice_index_or old k d
