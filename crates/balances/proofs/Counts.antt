-- What counting a line does to sixteen numbers: what the code writes is what the line moves.
use Rattle.std.proofs.Common.{◌≡◌, ℕ, ◌<◌, Bool, eqb, List, length, get_or, set, ℤ, pos, ◌+ℤ◌, ◌-ℤ◌, neg_ℤ, refl, ap, ◌∙◌, arith, length-set}
use Rattle.std.proofs.lemmas.List.FromFn.{get_or-map-range_with_len, fill_by_all}
use Rattle.std.proofs.lemmas.List.{take_all}
use Rattle.std.proofs.lemmas.Int.{ints}
use Rattle.shares.specs.Bill.{pick, billed, share, all_shares}
use Rattle.shares.proofs.Sixteen.{get_or_all_shares}
use Rattle.book.specs.Ledger as ledger
use Rattle.book.specs.Reading.{read_line}
use Rattle.book.specs.declared.line.Line.TheVariants.{Bill, Payment, TakeBack}
use Rattle.balances.specs.Given.{gave, had}
use Rattle.balances.specs.Signed.{at_person}
use Rattle.balances.specs.Tally.{moves, after_line, less_shares}
use Rattle.balances.proofs.Writes.{at_moved}

pub after_line_at : (l : ledger.Line) (xs : List ℤ) (i : ℕ) → i < 16 → at_person (after_line l xs) i ≡ at_person xs i +ℤ moves l i
unfolding after_line
after_line_at l xs i below = get_or-map-range_with_len (λ k. at_person xs k +ℤ moves l k) 0 16 i i (pos 0) below (omega arith)

pub length_after_line : (l : ledger.Line) (xs : List ℤ) → length (after_line l xs) ≡ 16
unfolding after_line
length_after_line l xs = refl

-- sixteen numbers, each moved by the line, are those after the line
pub after_line_from :
    (l : ledger.Line) (xs ys : List ℤ) → length ys ≡ 16 → ((k : ℕ) → k < 16 → at_person ys k ≡ at_person xs k +ℤ moves l k) →
    ys ≡ after_line l xs
unfolding after_line
after_line_from l xs ys sixteen each = fill_by_all (λ k. at_person xs k +ℤ moves l k) ys 16 (pos 0) sixteen each

less_shares_at : (shares : List ℕ) (xs : List ℤ) (i : ℕ) → i < 16 → at_person (less_shares shares xs) i ≡ at_person xs i -ℤ pos (get_or shares i 0)
unfolding less_shares
less_shares_at shares xs i below = get_or-map-range_with_len (λ k. at_person xs k -ℤ pos (get_or shares k 0)) 0 16 i i (pos 0) below (omega arith)

length_less_shares : (shares : List ℕ) (xs : List ℤ) → length (less_shares shares xs) ≡ 16
unfolding less_shares
length_less_shares shares xs = refl

pick_more : (t : Bool) (a : ℕ) → pick t (pos a) (pos 0) ≡ pos (pick t a 0)
pick_more t a = grind arith

pick_less : (t : Bool) (a : ℕ) → pick t (neg_ℤ (pos a)) (pos 0) ≡ neg_ℤ (pos (pick t a 0))
pick_less t a = grind arith

module _ (xs : List ℤ) (sixteen : length xs ≡ 16) where
  -- a bill: its amount to the payer, and then off each number its share
  pub bill_counted :
      (p a : ℕ) (ws shares : List ℕ) (v : ℤ) → length ws ≡ 16 → p < 16 → v ≡ at_person xs p +ℤ pos a → shares ≡ all_shares (billed p a ws) →
      less_shares shares (set xs p v) ≡ after_line (read_line 16 ws (Bill p a)) xs
  unfolding gave had
  bill_counted p a ws shares v long there is by-weight =
      after_line_from (read_line 16 ws (Bill p a)) xs (less_shares shares (set xs p v)) (length_less_shares shares (set xs p v))
      (λ i below.
      let less = less_shares_at shares (set xs p v) i below in
      let more = at_moved xs p i (pos a) v (omega arith) is in
      let amount = pick_more (eqb p i) a in
      let whole = ap (λ us. share (billed p a us) i) (take_all 16 ws (omega arith)) in
      let mine = ap (λ ss. get_or ss i 0) by-weight ∙ get_or_all_shares (billed p a ws) i below in
      omega (arith, ints))

  -- a payment: more for who paid, less for who was paid
  pub payment_counted :
      (p q a : ℕ) (ws : List ℕ) (u v : ℤ) → p < 16 → q < 16 → u ≡ at_person xs p +ℤ pos a → v ≡ at_person (set xs p u) q -ℤ pos a →
      set (set xs p u) q v ≡ after_line (read_line 16 ws (Payment p q a)) xs
  unfolding gave had
  payment_counted p q a ws u v from to is was =
      let ys = set xs p u in
      after_line_from (read_line 16 ws (Payment p q a)) xs (set ys q v) (length-set ys q v ∙ length-set xs p u ∙ sixteen)
      (λ i below.
      let more = at_moved xs p i (pos a) u (omega arith) is in
      let less = at_moved ys q i (neg_ℤ (pos a)) v (omega (arith, length-set xs p u)) (omega (arith, ints)) in
      let gives = pick_more (eqb p i) a in
      let gets = pick_less (eqb q i) a in
      omega (arith, ints))

  -- a line that takes another back moves nothing itself
  pub return_counted : (k : ℕ) (ws : List ℕ) → xs ≡ after_line (read_line 16 ws (TakeBack k)) xs
  unfolding gave had
  return_counted k ws = after_line_from (read_line 16 ws (TakeBack k)) xs xs sixteen (λ i below. omega (arith, ints))
