-- What the decoder passes is the entry that the bytes say, and may follow the lines of a book where what it takes back can be taken back.
use Rattle.std.proofs.Common.{◌≡◌, ℕ, zero, suc, ◌+◌, ◌-◌, ◌≤◌, Bool, true, false, cond, not, eqb, List, [], ◌∷◌, ◌++◌, map, length, drop, replicate, Some, None, Ok, Err, Option, Result, refl, ap, ◌∙◌, subst, arith}
use Rattle.shares.specs.Bill.{total}
use Rattle.shares.proofs.Totals.{total_take_drop}
use Rattle.std.proofs.lemmas.List.FromFn.{length-map-range_with_len}
use Rattle.std.proofs.lemmas.List.{drop_at}
use Rattle.std.proofs.lemmas.Bool.Decides.{nat_tests}
use Rattle.std.specs.List.{range_with_len}
use Rattle.std.specs.Option.{option_map}
use Rattle.book.proofs.Weighing.{length_weights}
use Rattle.book.specs.Checks.{unless, asked, clear, first_at, stranger, out_of_range, too_heavy, heavy_at, of_kind, decoded}
use Rattle.book.specs.Held.{Held, may_return}
use Rattle.book.specs.Layout.{byte, two_bytes, four_bytes, kind_of, entry_of, length_of, weight_at, weights_of}
use Rattle.book.specs.Orderly.{follows, light, weighed}
use Rattle.book.specs.Rows.{at_place, of_its_kind, not_returnable}
use Rattle.book.specs.declared.kind.Kind.{Kind}
use Rattle.book.specs.declared.kind.Kind.TheVariants as kind
use Rattle.book.specs.declared.line.Entry.{Entry}
use Rattle.book.specs.declared.line.Line.TheVariants.{Bill, Payment}
use Rattle.book.specs.declared.refusal.Refusal.{Refusal}
use Rattle.book.specs.declared.refusal.Refusal.TheVariants.{UnknownKind, WrongLength, UnknownPerson, AmountOutOfRange, WeightTooLarge, NoWeight, PaidToSelf}

-- what is known of an entry that the decoder passes
pub record Passed (n : ℕ) (bs : List ℕ) (ko : Option Kind) (e : Entry) : Type 0 where
  pub said : option_map (entry_of n bs) ko ≡ Some e
  pub fits : (es : List Entry) → may_return es e.line ≡ true → follows n es e.weights e.line ≡ true
  pub row_nine : (h : Held) → of_its_kind (not_returnable h bs) ko ≡ at_place (not (may_return h.entries e.line)) 1

abbrev pub Passes : ℕ → List ℕ → Option Kind → Result Entry Refusal → Type 0
Passes n bs ko (Ok e) = Passed n bs ko e
Passes n bs ko (Err e) = Unit {0}

light_append : (xs ys : List ℕ) → light xs ≡ true → light ys ≡ true → light (xs ++ ys) ≡ true
light_append [] ys p q = q
light_append (x ∷ xs) ys p q = let on = light_append xs ys in grind arith

light_zeros : (m : ℕ) → light (replicate m 0) ≡ true
light_zeros zero = refl
light_zeros (suc m) = light_zeros m

total_zeros : (m : ℕ) → total (replicate m 0) ≡ 0
unfolding total
total_zeros zero = refl
total_zeros (suc m) = omega (arith, total_zeros m)

light_read : (bs : List ℕ) (a n : ℕ) → first_at (too_heavy bs) (map weight_at (range_with_len a n)) ≡ None → light (map (λ i. two_bytes bs (weight_at i)) (range_with_len a n)) ≡ true
light_read bs a zero h = refl
light_read bs a (suc n) h = let on = light_read bs (a + 1) n in grind (arith, nat_tests)

-- weights that are not too heavy and not all 0 are those of a bill in order
weights_fit : (n : ℕ) (bs : List ℕ) → n ≤ 16 → heavy_at n bs ≡ None → eqb (total (weights_of n bs)) 0 ≡ false → weighed n (weights_of n bs) ≡ true
unfolding weights_of weighed
weights_fit n bs few none some =
    let read = map (λ i. two_bytes bs (weight_at i)) (range_with_len 0 n) in
    let long = length-map-range_with_len (λ i. two_bytes bs (weight_at i)) 0 n in
    let all : length (read ++ replicate (16 - n) 0) ≡ 16 = length_weights n bs few in
    let rest : total (drop n (read ++ replicate (16 - n) 0)) ≡ 0 = ap total (drop_at read (replicate (16 - n) 0) n long) ∙ total_zeros (16 - n) in
    let light-all = light_append read (replicate (16 - n) 0) (light_read bs 0 n none) (light_zeros (16 - n)) in
    let parts = total_take_drop n (read ++ replicate (16 - n) 0) in
    grind (arith, nat_tests)

module _ (n : ℕ) (bs : List ℕ) (few : n ≤ 16) where
  bill_passes : (s o : Bool) (heavy : Option ℕ) (w : Bool) → stranger n bs 1 ≡ s → out_of_range bs 2 ≡ o → heavy_at n bs ≡ heavy → eqb (total (weights_of n bs)) 0 ≡ w →
      Passes n bs (Some kind.Bill)
      (asked (unless s (byte bs 1)) (UnknownPerson 1)
      (λ p.
      asked (unless o (four_bytes bs 2)) (AmountOutOfRange 2)
      (λ a. clear heavy WeightTooLarge (asked (unless w (weights_of n bs)) NoWeight (λ v. Ok (record { line = Bill p a; weights = v }))))))
  bill_passes true o heavy w hs ho hh hw = tt
  bill_passes false true heavy w hs ho hh hw = tt
  bill_passes false false (Some i) w hs ho hh hw = tt
  bill_passes false false None true hs ho hh hw = tt
  bill_passes false false None false hs ho hh hw =
      record { said = refl; fits = λ es may. (let ok = weights_fit n bs few hh hw in grind (arith, nat_tests)); row_nine = λ h. refl }

  payment_passes : (s t o same : Bool) → stranger n bs 1 ≡ s → stranger n bs 2 ≡ t → out_of_range bs 3 ≡ o → eqb (byte bs 1) (byte bs 2) ≡ same →
      Passes n bs (Some kind.Payment)
      (asked (unless s (byte bs 1)) (UnknownPerson 1)
      (λ p.
      asked (unless t (byte bs 2)) (UnknownPerson 2)
      (λ q.
      asked (unless o (four_bytes bs 3)) (AmountOutOfRange 3)
      (λ a. cond (eqb p q) (Err PaidToSelf) (Ok (record { line = Payment p q a; weights = replicate 16 0 }))))))
  payment_passes true t o same hs ht ho hq = tt
  payment_passes false true o same hs ht ho hq = tt
  payment_passes false false true same hs ht ho hq = tt
  payment_passes false false false true hs ht ho hq = rw hq tt
  payment_passes false false false false hs ht ho hq = rw hq (record { said = refl; fits = λ es may. grind (arith, nat_tests); row_nine = λ h. refl })

  of_kind_passes : (k : Kind) (whole : Bool) → eqb (length bs) (length_of n k) ≡ whole →
      Passes n bs (Some k) (cond (eqb (length bs) (length_of n k)) (of_kind n bs k) (Err (WrongLength (length bs))))
  of_kind_passes k false e = rw e tt
  of_kind_passes kind.Bill true e = rw e (bill_passes (stranger n bs 1) (out_of_range bs 2) (heavy_at n bs) (eqb (total (weights_of n bs)) 0) refl refl refl refl)
  of_kind_passes kind.Payment true e = rw e (payment_passes (stranger n bs 1) (stranger n bs 2) (out_of_range bs 3) (eqb (byte bs 1) (byte bs 2)) refl refl refl refl)
  of_kind_passes kind.TakeBack true e = rw e (record { said = refl; fits = λ es may. may; row_nine = λ h. refl })

  kind_passes : (ko : Option Kind) →
      Passes n bs ko (asked ko UnknownKind (λ k. cond (eqb (length bs) (length_of n k)) (of_kind n bs k) (Err (WrongLength (length bs)))))
  kind_passes None = tt
  kind_passes (Some k) = of_kind_passes k (eqb (length bs) (length_of n k)) refl

  pub decoded_passes : (e : Entry) → decoded n bs ≡ Ok e → Passed n bs (kind_of bs) e
  unfolding decoded
  decoded_passes e is = subst (Passes n bs (kind_of bs)) is (kind_passes (kind_of bs))
