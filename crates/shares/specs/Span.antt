-- Sums over people, by their number.
use Rattle.std.specs.Prelude.{ℕ, zero, suc, ◌+◌}

-- f of each person below n, all together
unfoldable pub span : (ℕ → ℕ) → ℕ → ℕ
span f zero = 0
span f (suc n) = f n + span f n
