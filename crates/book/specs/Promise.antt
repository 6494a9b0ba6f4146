-- What is promised of the rules and of every book.
use Rattle.std.specs.Prelude.{◌≡◌, ℕ, ◌<◌, List, length, Some, None, slice_index_or}
use Rattle.book.specs.Held.{Held}
use Rattle.book.specs.Rows.{Row, first_row}

-- row k applies at that place, and no row before it applies
pub record Stops (rs : List Row) (h : Held) (bs : List ℕ) (d : Row) (k place : ℕ) : Type 0 where
  pub there : k < length rs
  pub here : (slice_index_or rs k d).applies h bs ≡ Some place
  pub none_before : (j : ℕ) → j < k → (slice_index_or rs j d).applies h bs ≡ None

-- a line is refused with a number and a place exactly where a row of that number applies at that place and none before it does,
-- and with none exactly where no row applies
abbrev pub FirstRow : Type 0
FirstRow =
    (rs : List Row) (h : Held) (bs : List ℕ) (d : Row) →
    ((number place : ℕ) → first_row rs h bs ≡ Some (number, place) → (k : ℕ) × Stops rs h bs d k place × ((slice_index_or rs k d).number ≡ number)) ×
    ((k place : ℕ) → Stops rs h bs d k place → first_row rs h bs ≡ Some ((slice_index_or rs k d).number, place)) ×
    (first_row rs h bs ≡ None → (k : ℕ) → k < length rs → (slice_index_or rs k d).applies h bs ≡ None) ×
    (((k : ℕ) → k < length rs → (slice_index_or rs k d).applies h bs ≡ None) → first_row rs h bs ≡ None)
