-- One turn of the pass over a book: a line that stands moves the numbers, any other leaves them.
use Rattle.std.proofs.Common.{◌≡◌, ℕ, ◌+◌, ◌*◌, ◌<◌, ◌≤◌, Bool, true, false, List, [], length, get_or, take, drop, ℤ, pos, ◌+ℤ◌, ◌-ℤ◌, nat_abs, Some, None, Option, sym, refl, ap, ◌∙◌, inl, inr, arith}
use Rattle.std.proofs.lemmas.List.{drop_all, get_or_past}
use Rattle.std.proofs.lemmas.Int.{ints}
use Rattle.std.proofs.lemmas.Bool.{cases_lt}
use Rattle.std.proofs.lemmas.Bool.Decides.{nat_tests}
use Rattle.std.proofs.lemmas.Option.{slice_get_cases}
use Rattle.std.specs.List.{slice_get}
use Rattle.shares.specs.Bill.{pick, total, billed, share}
use Rattle.shares.proofs.Padding.{share_padded}
use Rattle.book.specs.Held.{stands_at}
use Rattle.book.specs.Ledger as ledger
use Rattle.book.specs.Orderly.{follows, weighed, orderly}
use Rattle.book.specs.Reading.{read_line, lines}
use Rattle.book.specs.declared.line.Entry.{Entry}
use Rattle.book.specs.declared.line.Line.{Line}
use Rattle.book.specs.declared.line.Line.TheVariants.{Bill, Payment, TakeBack}
use Rattle.book.proofs.Lookup.{length_lines, lines_at, follows_at, stands_later}
use Rattle.balances.specs.Given.{gave, had, standing, given, gotten}
use Rattle.balances.specs.Signed.{at_person}
use Rattle.balances.specs.Tally.{Bounded, Named, balance_of, moves, whole_line, after_line, standing_entry}
use Rattle.balances.proofs.Bounds.{amount_of, gave_le, had_le}
use Rattle.balances.proofs.Counts.{after_line_at, length_after_line}
use Rattle.balances.proofs.Standing.{standing_flag}

-- what person i gives less what it gets by the lines from k on
abbrev pub rest_of : List ledger.Line → ℕ → ℕ → ℤ
rest_of ls k i = pos (given i k (drop k ls)) -ℤ pos (gotten i k (drop k ls))

-- the numbers after k lines: with what the lines that are left move they give the balances, and no line moves more than 1,000,000,000
abbrev pub Running : ℕ → List Entry → ℕ → List ℤ → Type 0
Running n es k xs =
    (length xs ≡ 16) × Bounded (k * 1000000000) xs ×
    ((i : ℕ) → i < 16 → at_person xs i +ℤ rest_of (lines n es) k i ≡ balance_of (lines n es) i)

-- an entry that is found stands, and is the one at its place
found : (t : Bool) (o : Option Entry) (e : Entry) → Some e ≡ pick t o None → (t ≡ true) × (Some e ≡ o)
found true o e h = (refl, h)
found false o e h = grind arith

-- a line that is not found does not stand
not_found : (es : List Entry) (k : ℕ) (t : Bool) → k < length es → None ≡ pick t (slice_get es k) None → t ≡ false
not_found es k true there h = elim (slice_get_cases es k).1 [ inl here ↦ cc (here.2) | inr past ↦ absurd (omega arith) ]
not_found es k false there h = refl

-- whoever a line of a book names is there
pub named : (n : ℕ) (es : List Entry) (ws : List ℕ) (l : Line) → n ≤ 16 → follows n es ws l ≡ true → Named l
named n es ws (Bill payer amount) few f = let there : payer < n = grind (arith, nat_tests) in omega arith
named n es ws (Payment from to amount) few f =
    let there : from < n = grind (arith, nat_tests) in let there' : to < n = grind (arith, nat_tests) in (omega arith, omega arith)
named n es ws (TakeBack k) few f = tt

-- a line moves nobody by more than the largest amount
amount_small : (m n : ℕ) (es : List Entry) (ws : List ℕ) (l : Line) → follows n es ws l ≡ true → amount_of (read_line m ws l) ≤ 1000000000
amount_small m n es ws (Bill payer amount) f = grind (arith, nat_tests)
amount_small m n es ws (Payment from to amount) f = grind (arith, nat_tests)
amount_small m n es ws (TakeBack k) f = omega arith

pub moves_small : (n : ℕ) (es : List Entry) (e : Entry) (i : ℕ) → follows n es e.weights e.line ≡ true → nat_abs (moves (whole_line e) i) ≤ 1000000000
moves_small n es e i f =
    let small = amount_small 16 n es e.weights e.line f in
    let gives = gave_le i (whole_line e) in
    let gets = had_le i (whole_line e) in
    omega (arith, ints)

-- weights of people who are not there are 0 and move nothing
padded_share : (n p a : ℕ) (ws : List ℕ) (i : ℕ) → weighed n ws ≡ true → share (billed p a (take 16 ws)) i ≡ share (billed p a (take n ws)) i
unfolding weighed total
padded_share n p a ws i w =
    let long : length ws ≡ 16 = grind (arith, nat_tests) in
    let none : total (drop n ws) ≡ 0 = grind (arith, nat_tests) in
    let past : total (drop 16 ws) ≡ 0 = ap total (drop_all 16 ws (omega arith)) in
    share_padded p a 16 ws i past ∙ sym (share_padded p a n ws i none)

moves_read : (n : ℕ) (es : List Entry) (ws : List ℕ) (l : Line) (i : ℕ) → follows n es ws l ≡ true → moves (read_line 16 ws l) i ≡ moves (read_line n ws l) i
unfolding gave had
moves_read n es ws (Bill payer amount) i f =
    let w : weighed n ws ≡ true = grind arith in
    let same = padded_share n payer amount ws i w in
    omega (arith, ints)
moves_read n es ws (Payment from to amount) i f = refl
moves_read n es ws (TakeBack k) i f = refl

module _ (n : ℕ) (es : List Entry) (k : ℕ) (order : orderly n es ≡ true) (there : k < length es) where
  -- the line at k and the lines after it, by whether it stands
  step : (f : ledger.Line → ℕ) (t : Bool) → stands_at es k ≡ t →
      standing f k (drop k (lines n es)) ≡ pick t (f (get_or (lines n es) k (ledger.takes_back 0))) 0 + standing f (k + 1) (drop (k + 1) (lines n es))
  step f t is = standing_flag f (lines n es) k (ledger.takes_back 0) t (omega (arith, length_lines n es)) (sym is ∙ stands_later n es k order there)

  pub entry_follows : (e : Entry) → Some e ≡ standing_entry es k → follows n (take k es) e.weights e.line ≡ true
  entry_follows e is = follows_at n [] es k e order (found (stands_at es k) (slice_get es k) e is).1

  pub turn_stands : (e : Entry) → Some e ≡ standing_entry es k → (i : ℕ) → rest_of (lines n es) k i ≡ moves (whole_line e) i +ℤ rest_of (lines n es) (k + 1) i
  turn_stands e is i =
      let at = found (stands_at es k) (slice_get es k) e is in
      let line = lines_at n es k e (ledger.takes_back 0) at.1 in
      let gives = step (gave i) true at.0 in
      let gets = step (had i) true at.0 in
      let gave-here = ap (gave i) line in
      let had-here = ap (had i) line in
      let same = moves_read n (take k es) e.weights e.line i (entry_follows e is) in
      omega (arith, ints)

  pub turn_skips : None ≡ standing_entry es k → (i : ℕ) → rest_of (lines n es) k i ≡ rest_of (lines n es) (k + 1) i
  turn_skips is i =
      let off = not_found es k (stands_at es k) there is in
      let gives = step (gave i) false off in
      let gets = step (had i) false off in
      omega (arith, ints)

  pub running_stands : (e : Entry) (xs : List ℤ) → Some e ≡ standing_entry es k → Running n es k xs → Running n es (k + 1) (after_line (whole_line e) xs)
  running_stands e xs is run = (length_after_line (whole_line e) xs, small, gives)
    where
      small : Bounded ((k + 1) * 1000000000) (after_line (whole_line e) xs)
      small i =
          elim (cases_lt i 16) [
            | inl below ↦ omega (arith, ints, after_line_at (whole_line e) xs i below, run.1 i, moves_small n (take k es) e i (entry_follows e is))
            | inr above ↦
                let past = get_or_past (after_line (whole_line e) xs) i (pos 0) (omega (arith, length_after_line (whole_line e) xs)) in
                omega (arith, ap nat_abs past)
          ]

      gives : (i : ℕ) → i < 16 → at_person (after_line (whole_line e) xs) i +ℤ rest_of (lines n es) (k + 1) i ≡ balance_of (lines n es) i
      gives i below = omega (arith, ints, after_line_at (whole_line e) xs i below, run.2 i below, turn_stands e is i)

  pub running_skips : (xs : List ℤ) → None ≡ standing_entry es k → Running n es k xs → Running n es (k + 1) xs
  running_skips xs is run =
      (run.0, λ i. omega (arith, run.1 i), λ i below. omega (arith, ints, run.2 i below, turn_skips is i))
