-- What falls to a part of all weights: it grows with the part, stays below the amount, and is close to the exact quotient.
use Rattle.std.proofs.Common.{◌≡◌, ℕ, ◌+◌, ◌*◌, ◌/◌, ◌<◌, ◌≤◌, inl, inr, le_trans, le-add_right, mul-le-mul_right, mul_comm, add-mul, mul-le-mul_left, le-div_iff_mul-le, div-mul-le_self, arith}
use native.Mathlib.Nat.{div-zero, lt-div-mul-add, div-le_of_le-mul}
use Rattle.std.proofs.lemmas.Bool.{cases_lt}
use Rattle.shares.specs.Bill.{up_to}

-- a larger number has no smaller quotient
div_mono : (x y v : ℕ) → x ≤ y → x / v ≤ y / v
div_mono x y v l =
    elim (cases_lt 0 v) [
      | inl some ↦ (le-div_iff_mul-le some).1 (le_trans (div-mul-le_self x v) l)
      | inr none ↦ let e : v ≡ 0 = omega arith in rw (e, div-zero x, div-zero y) (omega arith)
    ]

-- more weights have no less
pub up_to_mono : (a w x v : ℕ) → up_to a w v ≤ up_to a (w + x) v
up_to_mono a w x v = div_mono (a * w) (a * (w + x)) v (mul-le-mul_left a (le-add_right w x))

-- a part of the weights has no more than the amount
pub up_to_le : (a w v : ℕ) → w ≤ v → up_to a w v ≤ a
up_to_le a w v l = div-le_of_le-mul v (rw (mul_comm a w) (mul-le-mul_right a l))

-- the quotients by v of two numbers that lie w apart lie less than one from w / v apart
pub div_near : (x w s v : ℕ) → 0 < v → s + x / v ≡ (x + w) / v → (s * v < w + v) × (w < s * v + v)
div_near x w s v some e =
    let parts : s * v + x / v * v ≡ (x + w) / v * v = rw (← add-mul, e) in
    let low = div-mul-le_self x v in
    let high = div-mul-le_self (x + w) v in
    let low' = lt-div-mul-add {a = x} some in
    let high' = lt-div-mul-add {a = x + w} some in
    (omega arith, omega arith)
