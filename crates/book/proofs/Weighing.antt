-- A bill's weights: how they are read from pairs of bytes, and what looking for a heavy one and for one above 0 says.
use Rattle.std.proofs.Common.{◌≡◌, ℕ, zero, suc, ◌+◌, ◌-◌, ◌*◌, ◌/◌, ◌<◌, ◌≤◌, Bool, true, false, cond, not, eqb, List, [], ◌∷◌, ◌++◌, map, length, get_or, take, drop, drop-drop, replicate, All, Some, None, Option, position, inl, inr, add-zero, sym, refl, ap, ◌∙◌, arith}
use Rattle.shares.specs.Bill.{total}
use Rattle.shares.proofs.Totals.{total_next_le}
use Rattle.std.proofs.lemmas.List.FromFn.{fill_by_all, length-map-range_with_len, get_or-map-range_with_len}
use Rattle.std.proofs.lemmas.List.{get_or-append_right, get_or-drop, get_or-replicate, get_or-take, get_or_append_left, get_or_default, get_or_past, length-append, length-replicate}
use Rattle.std.proofs.lemmas.Bool.{cases_lt, eq-eqb, ne_eqb}
use Rattle.std.proofs.lemmas.Bool.Decides.{nat_tests}
use Rattle.std.specs.Bool.{MatchBool}
use Rattle.std.specs.List.{Any, range_with_len}
use Rattle.std.specs.Option.{option_map}
use Rattle.std.specs.Simd.{first_chunks}
use Rattle.book.specs.Checks.{bill_of, bill_unless, checked_bill, first_at, heavy, too_heavy}
use Rattle.book.specs.Layout.{byte, two_bytes, four_bytes, weight_at, weights_of, weights_in}

total_none : (ws : List ℕ) → All (λ w. w ≡ 0) ws → total ws ≡ 0
unfolding total
total_none [] none = refl
total_none (w ∷ ws) none = omega (arith, none 0 0 (omega arith), total_none ws (λ k d h. none (suc k) d (omega arith)))

-- whether a weight is above 0 says whether they are not all 0
pub some_above : (b : Bool) (ws : List ℕ) → MatchBool b (Any (λ w. 0 < w) ws) (All (λ w. w ≡ 0) ws) → eqb (total ws) 0 ≡ not b
some_above true ws some =
    let at = get_or_default ws some.0 0 some.1 some.2 in
    ne_eqb (total ws) 0 (λ e. omega (arith, total_next_le ws some.0))
some_above false ws none = eq-eqb (total ws) 0 (total_none ws none)

-- a look at one element more
position_more : (p : ℕ → Bool) (x : ℕ) (xs : List ℕ) (b : Bool) → p x ≡ b → position p (x ∷ xs) ≡ cond b (Some 0) (option_map suc (position p xs))
position_more p x xs true e = rw e (grind (arith, nat_tests))
position_more p x xs false e = rw e (grind (arith, nat_tests))

position_zeros : (m : ℕ) → position heavy (replicate m 0) ≡ None
position_zeros zero = refl
position_zeros (suc m) = position_more heavy 0 (replicate m 0) false refl ∙ ap (option_map suc) (position_zeros m)

one_on : (a : ℕ) (b : Bool) (o : Option ℕ) →
    cond b (Some (weight_at a)) (option_map (λ i. weight_at (a + 1 + i)) o) ≡ option_map (λ i. weight_at (a + i)) (cond b (Some 0) (option_map suc o))
one_on a true o = ap Some (omega arith)
one_on a false None = refl
one_on a false (Some i) = ap Some (omega arith)

-- the first heavy weight among the bytes is that of the first person who has one
heavy_from : (bs : List ℕ) (a n m : ℕ) →
    first_at (too_heavy bs) (map weight_at (range_with_len a n)) ≡
    option_map (λ i. weight_at (a + i)) (position heavy (map (λ i. two_bytes bs (weight_at i)) (range_with_len a n) ++ replicate m 0))
heavy_from bs a zero m = ap (option_map (λ i. weight_at (a + i))) (sym (position_zeros m))
heavy_from bs a (suc n) m =
    let here = too_heavy bs (weight_at a) in
    let rest = map (λ i. two_bytes bs (weight_at i)) (range_with_len (a + 1) n) ++ replicate m 0 in
    ap (cond here (Some (weight_at a))) (heavy_from bs (a + 1) n m)
    ∙ one_on a here (position heavy rest)
    ∙ ap (option_map (λ i. weight_at (a + i))) (sym (position_more heavy (two_bytes bs (weight_at a)) rest here refl))

from_zero : (o : Option ℕ) → option_map (λ i. weight_at (0 + i)) o ≡ option_map weight_at o
from_zero None = refl
from_zero (Some i) = ap Some (omega arith)

-- a bill by the values that its bytes say
pub bill_by_values : (n : ℕ) (bs : List ℕ) → checked_bill n (byte bs 1) (four_bytes bs 2) (weights_of n bs) ≡ bill_of n bs
unfolding weights_of
bill_by_values n bs =
    let ws = weights_of n bs in
    ap (λ at. bill_unless at n (byte bs 1) (four_bytes bs 2) ws) (sym (heavy_from bs 0 n (16 - n) ∙ from_zero (position heavy ws)))

length_chunks : (c : ℕ) (xs : List ℕ) → length (first_chunks 2 c xs) ≡ c
length_chunks zero xs = refl
length_chunks (suc c) xs = ap suc (length_chunks c (drop 2 xs))

-- the pair at a place
chunk_at : (c k : ℕ) (xs : List ℕ) → k < c → get_or (first_chunks 2 c xs) k [] ≡ take 2 (drop (2 * k) xs)
chunk_at zero k xs h = absurd (omega arith)
chunk_at (suc c) zero xs h = refl
chunk_at (suc c) (suc k) xs h =
    let at : 2 + 2 * k ≡ 2 * suc k = omega arith in
    chunk_at c k (drop 2 xs) (omega arith) ∙ ap (take 2) (drop-drop (2 * k) 2 xs ∙ ap (λ i. drop i xs) at)

pair_at : (c k : ℕ) (xs : List ℕ) → k < c → two_bytes (get_or (first_chunks 2 c xs) k []) 0 ≡ two_bytes xs (2 * k)
pair_at c k xs h =
    ap (λ p. two_bytes p 0) (chunk_at c k xs h)
    ∙ omega (
      arith,
      get_or-take 2 (drop (2 * k) xs) 0 0 (omega arith),
      get_or-take 2 (drop (2 * k) xs) 1 0 (omega arith),
      get_or-drop (2 * k) xs 0 0,
      get_or-drop (2 * k) xs 1 0,
      ap (λ i. get_or xs i 0) (add-zero (2 * k)),
    )

after_six : (bs : List ℕ) (k : ℕ) → two_bytes (drop 6 bs) (2 * k) ≡ two_bytes bs (weight_at k)
after_six bs k =
    let on : 6 + (2 * k + 1) ≡ weight_at k + 1 = omega arith in
    omega (arith, get_or-drop 6 bs (2 * k) 0, get_or-drop 6 bs (2 * k + 1) 0, ap (λ i. get_or bs i 0) on)

pub length_weights : (n : ℕ) (bs : List ℕ) → n ≤ 16 → length (weights_of n bs) ≡ 16
unfolding weights_of
length_weights n bs few =
    let read = map (λ i. two_bytes bs (weight_at i)) (range_with_len 0 n) in
    let long = length-map-range_with_len (λ i. two_bytes bs (weight_at i)) 0 n in
    omega (arith, length-append read (replicate (16 - n) 0), length-replicate {A = ℕ} (16 - n) 0)

-- pairs of bytes after the first six of a bill are its weights
pub weights_read : (n : ℕ) (bs rest : List ℕ) → n ≤ 16 → rest ≡ drop 6 bs → length rest ≡ 2 * n → weights_in (first_chunks 2 (length rest / 2) rest) ≡ weights_of n bs
unfolding weights_in weights_of
weights_read n bs rest few is long = sym (fill_by_all (λ i. two_bytes (get_or (first_chunks 2 (length rest / 2) rest) i []) 0) (weights_of n bs) 16 0 (length_weights n bs few) each)
  where
    read : List ℕ
    read = map (λ i. two_bytes bs (weight_at i)) (range_with_len 0 n)

    each : (k : ℕ) → k < 16 → get_or (read ++ replicate (16 - n) 0) k 0 ≡ two_bytes (get_or (first_chunks 2 (length rest / 2) rest) k []) 0
    each k h =
        let half : length rest / 2 ≡ n = omega arith in
        let count = length_chunks (length rest / 2) rest in
        let written = length-map-range_with_len (λ i. two_bytes bs (weight_at i)) 0 n in
        elim (cases_lt k n) [
          | inl below ↦
              get_or_append_left read (replicate (16 - n) 0) 0 k (omega arith)
              ∙ get_or-map-range_with_len (λ i. two_bytes bs (weight_at i)) 0 n k k 0 below (omega arith)
              ∙ sym (pair_at (length rest / 2) k rest (omega arith) ∙ ap (λ l. two_bytes l (2 * k)) is ∙ after_six bs k)
          | inr above ↦
              get_or-append_right read (replicate (16 - n) 0) n k 0 written above
              ∙ get_or-replicate (16 - n) (k - n) 0 0 (omega arith)
              ∙ ap (λ p. two_bytes p 0) (sym (get_or_past (first_chunks 2 (length rest / 2) rest) k [] (omega arith)))
        ]
