-- Induction over all smaller numbers.
use Rattle.std.proofs.Common.{ℕ, zero, suc, ◌<◌, arith}

bounded : (P : ℕ → Type 0) → ((s : ℕ) → ((t : ℕ) → t < s → P t) → P s) → (m s : ℕ) → s < m → P s
bounded P step zero s h = absurd (omega arith)
bounded P step (suc m) s h = step s (λ t l. bounded P step m t (omega arith))

pub by_smaller : (P : ℕ → Type 0) → ((s : ℕ) → ((t : ℕ) → t < s → P t) → P s) → (s : ℕ) → P s
by_smaller P step s = bounded P step (suc s) s (omega arith)
