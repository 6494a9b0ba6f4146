-- The rules by which a line is turned away, as rows in the order in which they are tried: the first that applies counts.
use Rattle.std.specs.Prelude.{ℕ, Bool, true, false, not, List, [], ◌∷◌, length, Some, None, Option, ◌==◌, nat_le}
use Rattle.shares.specs.Bill.{total}
use Rattle.book.specs.Checks.{first_at, stranger, out_of_range, too_heavy}
use Rattle.book.specs.Held.{Held, returnable}
use Rattle.book.specs.Layout.{byte, two_bytes, kind_of, length_of, people_at, amounts_at, weights_at, weights_of}
use Rattle.book.specs.declared.kind.Kind.{Kind}
use Rattle.book.specs.declared.kind.Kind.TheVariants.{Bill, Payment, TakeBack}

-- a rule: its number, and the place at which it applies to a line's bytes, if it does
pub record Row : Type 0 where
  pub number : ℕ
  pub applies : Held → List ℕ → Option ℕ

abbrev pub at_place : Bool → ℕ → Option ℕ
at_place true p = Some p
at_place false p = None

-- a rule for lines that have a kind
abbrev pub of_its_kind : (Kind → Option ℕ) → Option Kind → Option ℕ
of_its_kind f None = None
of_its_kind f (Some k) = f k

abbrev pub no_kind : Option Kind → Option ℕ
no_kind None = Some 0
no_kind (Some k) = None

abbrev pub weightless : ℕ → List ℕ → Kind → Option ℕ
weightless n bs Bill = at_place (total (weights_of n bs) == 0) 6
weightless n bs Payment = None
weightless n bs TakeBack = None

abbrev pub to_oneself : List ℕ → Kind → Option ℕ
to_oneself bs Bill = None
to_oneself bs Payment = at_place (byte bs 1 == byte bs 2) 2
to_oneself bs TakeBack = None

abbrev pub not_returnable : Held → List ℕ → Kind → Option ℕ
not_returnable h bs Bill = None
not_returnable h bs Payment = None
not_returnable h bs TakeBack = at_place (not (returnable h.entries (two_bytes bs 1))) 1

abbrev pub row : ℕ → (Held → List ℕ → Option ℕ) → Row
row number applies = record { number = number; applies = applies }

-- the room for lines is used up; the kind is not 1, 2 or 3; not the length of its kind; the first person that is not there;
-- the amount; the first weight that is too large; all weights are 0; a payment to oneself; a line that cannot be taken back; too many lines
abbrev pub used_up : Row
used_up = row 11 (λ h bs. at_place (nat_le h.room (length h.entries)) 0)

abbrev pub kindless : Row
kindless = row 2 (λ h bs. no_kind (kind_of bs))

unfoldable pub rows : List Row
rows =
    used_up
    ∷ kindless
    ∷ row 3 (λ h bs. of_its_kind (λ k. at_place (not (length bs == length_of h.people k)) (length bs)) (kind_of bs))
    ∷ row 4 (λ h bs. of_its_kind (λ k. first_at (stranger h.people bs) (people_at k)) (kind_of bs))
    ∷ row 5 (λ h bs. of_its_kind (λ k. first_at (out_of_range bs) (amounts_at k)) (kind_of bs))
    ∷ row 6 (λ h bs. of_its_kind (λ k. first_at (too_heavy bs) (weights_at h.people k)) (kind_of bs))
    ∷ row 7 (λ h bs. of_its_kind (weightless h.people bs) (kind_of bs))
    ∷ row 8 (λ h bs. of_its_kind (to_oneself bs) (kind_of bs))
    ∷ row 9 (λ h bs. of_its_kind (not_returnable h bs) (kind_of bs))
    ∷ row 10 (λ h bs. at_place (nat_le 4096 (length h.entries)) 0)
    ∷ []

-- a line of which the input has fewer bytes than it says: what is left of it never has the length of its kind
unfoldable pub rows_of_cut : List Row
rows_of_cut = used_up ∷ kindless ∷ row 3 (λ h bs. Some (length bs)) ∷ []

-- the number and place of the first row that applies
abbrev pub told : ℕ → Option ℕ → Option (ℕ × ℕ) → Option (ℕ × ℕ)
told number None rest = rest
told number (Some place) rest = Some (number, place)

abbrev pub first_row : List Row → Held → List ℕ → Option (ℕ × ℕ)
first_row [] h bs = None
first_row (r ∷ rs) h bs = told r.number (r.applies h bs) (first_row rs h bs)
