use Rattle.std.proofs.Common.{◌≡◌, ℕ, ◌<◌, length, get_or, take}
use Rattle.shares.specs.Bill.{total, up_to, share, billed}
use Rattle.shares.proofs.shares_of.Given as goal

-- the weights so far, what falls to them, and the shares so far, which do not depend on the payer
abbrev pub invariant-loop-person : goal.invariant-loop-person
invariant-loop-person l =
    (length l.shares ≡ 16) × (l.part ≡ total (take l.person l.weights)) × (l.before ≡ up_to l.amount l.part l.all) ×
    ((k : ℕ) → k < l.person → get_or l.shares k 0 ≡ share (billed 0 l.amount l.weights) k)
