-- A recurrence in which each value is made from the list of all values before it.
use Rattle.std.specs.Prelude.{ℕ, zero, suc, List, [], ◌∷◌, ◌++◌}

-- the values before n, the first first
unfoldable pub up_to : {A : Type 0} → (List A → ℕ → A) → ℕ → List A
up_to f zero = []
up_to f (suc n) = up_to f n ++ (f (up_to f n) n ∷ [])

-- the value at n
unfoldable pub at : {A : Type 0} → (List A → ℕ → A) → ℕ → A
at f n = f (up_to f n) n
