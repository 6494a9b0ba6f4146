-- Each person's share: it is within the amount, all of them are the bill, and each is close to the exact one.
use Rattle.std.proofs.Common.{◌≡◌, ℕ, zero, suc, ◌+◌, ◌*◌, ◌≤◌, length, get_or, take, ap, ◌∙◌, mul_comm, mul-zero, mul-add, mul-div_cancel, add-one, arith}
use native.Mathlib.Nat.{zero-div}
use Rattle.std.proofs.lemmas.List.{take_all}
use Rattle.shares.specs.Bill.{Bill, total, up_to, share}
use Rattle.shares.specs.Span.{span}
use Rattle.shares.specs.Promise.{SharesAdd, ShareNear}
use Rattle.shares.proofs.Totals.{total_take_le, total_take_more}
use Rattle.shares.proofs.Parts.{up_to_mono, up_to_le, div_near}

-- what falls to the first i people
abbrev pub front : Bill → ℕ → ℕ
front b i = up_to b.amount (total (take i b.weights)) (total b.weights)

-- nobody's share is more than the amount
pub share_le : (b : Bill) (i : ℕ) → share b i ≤ b.amount
unfolding share
share_le b i =
    let most = up_to_le b.amount (total (take (i + 1) b.weights)) (total b.weights) (total_take_le (i + 1) b.weights) in
    omega arith

-- who is past the weights has no share
pub share_past : (b : Bill) (i : ℕ) → length b.weights ≤ i → share b i ≡ 0
unfolding share
share_past b i l =
    let whole = take_all i b.weights l in
    let more = take_all (i + 1) b.weights (omega arith) in
    rw (whole, more) (omega arith)

-- a share and what falls to those before it is what falls to those up to it
pub share_front : (b : Bill) (i : ℕ) → share b i + front b i ≡ front b (i + 1)
unfolding share
share_front b i =
    rw total_take_more
    (omega (arith, up_to_mono b.amount (total (take i b.weights)) (get_or b.weights i 0) (total b.weights)))

-- the shares of the first n people are what falls to them
pub span_share : (b : Bill) (n : ℕ) → span (λ i. share b i) n ≡ front b n
unfolding span total
span_share b zero = rw (mul-zero, zero-div)
span_share b (suc n) = omega (arith, span_share b n, share_front b n, ap (front b) (add-one n))

pub shares_add : SharesAdd
shares_add n b sound =
    let all : take n b.weights ≡ b.weights = take_all n b.weights (omega (arith, sound.weights)) in
    span_share b n ∙ rw (all, mul-div_cancel b.amount sound.some)

pub share_near : ShareNear
share_near n b i sound l =
    let a = b.amount in
    let w = get_or b.weights i 0 in
    let more : a * total (take (i + 1) b.weights) ≡ a * total (take i b.weights) + w * a =
    rw (total_take_more, mul-add, mul_comm w a) in
    div_near (a * total (take i b.weights)) (w * a) (share b i) (total b.weights) sound.some
    (rw (← more) (share_front b i))
