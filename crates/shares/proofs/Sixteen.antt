-- The list of the shares of persons 0 to 15.
use Rattle.std.proofs.Common.{◌≡◌, ℕ, ◌<◌, List, length, get_or, arith}
use Rattle.std.proofs.lemmas.List.FromFn.{get_or-map-range_with_len, fill_by_all}
use Rattle.shares.specs.Bill.{Bill, billed, share, all_shares}

-- the share at each place
pub get_or_all_shares : (b : Bill) (i : ℕ) → i < 16 → get_or (all_shares b) i 0 ≡ share b i
unfolding all_shares
get_or_all_shares b i l = get_or-map-range_with_len (share b) 0 16 i i 0 l (omega arith)

-- sixteen numbers, each the share of its place, are all shares, whoever paid
pub all_shares_from :
    (payer amount : ℕ) (weights shares : List ℕ) → length shares ≡ 16 →
    ((k : ℕ) → k < 16 → get_or shares k 0 ≡ share (billed 0 amount weights) k) → shares ≡ all_shares (billed payer amount weights)
unfolding all_shares share
all_shares_from payer amount weights shares sixteen each =
    fill_by_all (share (billed payer amount weights)) shares 16 0 sixteen each
