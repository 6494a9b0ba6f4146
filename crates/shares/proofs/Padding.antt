-- Weights of 0 at the end change no share.
use Rattle.std.proofs.Common.{◌≡◌, ℕ, ◌+◌, List, take, drop, arith}
use Rattle.shares.specs.Bill.{total, billed, share}
use Rattle.shares.proofs.Totals.{total_take_drop, total_take_take}

-- where all weights from n on are 0, the first n weights give the same total
pub total_padded : (n : ℕ) (ws : List ℕ) → total (drop n ws) ≡ 0 → total (take n ws) ≡ total ws
total_padded n ws h = omega (arith, total_take_drop n ws)

-- and the same shares
pub share_padded : (p a n : ℕ) (ws : List ℕ) (i : ℕ) → total (drop n ws) ≡ 0 → share (billed p a (take n ws)) i ≡ share (billed p a ws) i
unfolding share
share_padded p a n ws i h =
    let all = total_padded n ws h in
    let before = total_take_take n i ws h in
    let here = total_take_take n (i + 1) ws h in
    cc
