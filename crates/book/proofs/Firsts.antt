-- The first row that applies, by its place in the list.
use Rattle.std.proofs.Common.{◌≡◌, ℕ, zero, suc, ◌<◌, List, [], ◌∷◌, length, get_or, Some, None, Option, sym, refl, ap, ◌∙◌, arith}
use Rattle.book.specs.Held.{Held}
use Rattle.book.specs.Promise.{Stops, FirstRow}
use Rattle.book.specs.Rows.{Row, first_row}

module _ (h : Held) (bs : List ℕ) (d : Row) where
  -- a row that does not apply is passed over
  passed_over : (r : Row) (rs : List Row) → r.applies h bs ≡ None → first_row (r ∷ rs) h bs ≡ first_row rs h bs
  passed_over r rs none = rw none refl

  stops_first : (r : Row) (rs : List Row) (place : ℕ) → r.applies h bs ≡ Some place → Stops (r ∷ rs) h bs d 0 place
  stops_first r rs place is = record { there = omega arith; here = is; none_before = λ j lt. absurd (omega arith) }

  stops_later : (r : Row) (rs : List Row) (k place : ℕ) → r.applies h bs ≡ None → Stops rs h bs d k place → Stops (r ∷ rs) h bs d (suc k) place
  stops_later r rs k place none s = record { there = omega (arith, s.there); here = s.here; none_before = before }
    where
      before : (j : ℕ) → j < suc k → (get_or (r ∷ rs) j d).applies h bs ≡ None
      before zero lt = none
      before (suc j) lt = s.none_before j (omega arith)

  stops_on : (r : Row) (rs : List Row) (k place : ℕ) → Stops (r ∷ rs) h bs d (suc k) place → Stops rs h bs d k place
  stops_on r rs k place s = record { there = omega (arith, s.there); here = s.here; none_before = λ j lt. s.none_before (suc j) (omega arith) }

  Found : List Row → ℕ → ℕ → Type 0
  Found rs number place = (k : ℕ) × Stops rs h bs d k place × ((get_or rs k d).number ≡ number)

  found_at : (r : Row) (rs : List Row) (number place : ℕ) (o : Option ℕ) → r.applies h bs ≡ o →
      first_row (r ∷ rs) h bs ≡ Some (number, place) → (first_row rs h bs ≡ Some (number, place) → Found rs number place) → Found (r ∷ rs) number place
  unfolding Found
  found_at r rs number place None none is on = let f = on (sym (passed_over r rs none) ∙ is) in (suc f.0, stops_later r rs f.0 place none f.1, f.2)
  found_at r rs number place (Some p) some is on =
      let e : ◌≡◌ {A = Option (ℕ × ℕ)} (Some (r.number, p)) (Some (number, place)) = rw some at is in
      let same_place : p ≡ place = grind arith in
      (0, stops_first r rs place (some ∙ ap Some same_place), grind arith)

  found : (rs : List Row) (number place : ℕ) → first_row rs h bs ≡ Some (number, place) → Found rs number place
  found [] number place is = grind arith
  found (r ∷ rs) number place is = found_at r rs number place (r.applies h bs) refl is (found rs number place)

  stopped : (rs : List Row) (k place : ℕ) → Stops rs h bs d k place → first_row rs h bs ≡ Some ((get_or rs k d).number, place)
  stopped [] k place s = absurd (omega (arith, s.there))
  stopped (r ∷ rs) zero place s = let here = s.here in rw here refl
  stopped (r ∷ rs) (suc k) place s = passed_over r rs (s.none_before 0 (omega arith)) ∙ stopped rs k place (stops_on r rs k place s)

  none_applies_at : (r : Row) (rs : List Row) (o : Option ℕ) → r.applies h bs ≡ o →
      first_row (r ∷ rs) h bs ≡ None → (first_row rs h bs ≡ None → (k : ℕ) → k < length rs → (get_or rs k d).applies h bs ≡ None) →
      (k : ℕ) → k < length (r ∷ rs) → (get_or (r ∷ rs) k d).applies h bs ≡ None
  none_applies_at r rs None none is on zero lt = none
  none_applies_at r rs None none is on (suc k) lt = on (sym (passed_over r rs none) ∙ is) k (omega arith)
  none_applies_at r rs (Some p) some is on k lt = let e : ◌≡◌ {A = Option (ℕ × ℕ)} (Some (r.number, p)) None = rw some at is in grind arith

  none_applies : (rs : List Row) → first_row rs h bs ≡ None → (k : ℕ) → k < length rs → (get_or rs k d).applies h bs ≡ None
  none_applies [] is k lt = absurd (omega arith)
  none_applies (r ∷ rs) is k lt = none_applies_at r rs (r.applies h bs) refl is (none_applies rs) k lt

  all_passed : (rs : List Row) → ((k : ℕ) → k < length rs → (get_or rs k d).applies h bs ≡ None) → first_row rs h bs ≡ None
  all_passed [] none = refl
  all_passed (r ∷ rs) none = passed_over r rs (none 0 (omega arith)) ∙ all_passed rs (λ k lt. none (suc k) (omega arith))

pub first_row_law : FirstRow
unfolding Found
first_row_law rs h bs d = (found h bs d rs, stopped h bs d rs, none_applies h bs d rs, all_passed h bs d rs)
