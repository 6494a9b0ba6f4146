-- Laws of the cutting: a larger bound changes nothing, and one line after another.
use Rattle.std.proofs.Common.{◌≡◌, ℕ, zero, suc, true, false, ◌≤◌, ◌<◌, nat_le, List, [], ◌∷◌, length, take, drop, refl, ap, arith, rules, length-drop}
use Rattle.std.proofs.lemmas.List.{drop_all}
use Rattle.text.specs.Pieces.{cut, piece, pieces, pieces_within, whole}

-- two bounds that suffice
same_within : (k m : ℕ) (bs : List ℕ) → length bs ≤ k → length bs ≤ m → pieces_within k bs ≡ pieces_within m bs
same_within zero zero [] h g = refl
same_within zero (suc m) [] h g = refl
same_within (suc k) zero [] h g = refl
same_within (suc k) (suc m) [] h g = refl
same_within zero m (n ∷ bs) h g = absurd (omega arith)
same_within (suc k) zero (n ∷ bs) h g = absurd (omega arith)
same_within (suc k) (suc m) (n ∷ bs) h g =
    ap (λ ps. piece n bs ∷ ps) (same_within k m (drop n bs) (omega (arith, length-drop n bs)) (omega (arith, length-drop n bs)))

-- a bound of the input's length or more changes nothing
pub within_enough : (k : ℕ) (bs : List ℕ) → length bs ≤ k → pieces_within k bs ≡ pieces bs
unfolding pieces
within_enough k bs h = same_within k (length bs) bs h (omega arith)

-- nothing is left, and one line after another
pub pieces_none : pieces [] ≡ []
unfolding pieces
pieces_none = refl

pub pieces_more : (n : ℕ) (bs : List ℕ) → pieces (n ∷ bs) ≡ piece n bs ∷ pieces (drop n bs)
unfolding pieces
pieces_more n bs = ap (λ ps. piece n bs ∷ ps) (within_enough (length bs) (drop n bs) (omega (arith, length-drop n bs)))

-- a first line that is whole
pub whole_first : (n : ℕ) (left line rest all : List ℕ) → all ≡ n ∷ left → n ≤ length left → line ≡ take n left → rest ≡ drop n left →
    pieces all ≡ whole line ∷ pieces rest
whole_first n left line rest all is fits a b =
    let test : nat_le n (length left) ≡ true = search rules in
    let more = pieces_more n left in
    rw (is, a, b) (rw test at more)

-- a first line that is cut, after which nothing is left
pub cut_first : (n : ℕ) (left all : List ℕ) → all ≡ n ∷ left → length left < n → pieces all ≡ cut left ∷ pieces []
cut_first n left all is short =
    let test : nat_le n (length left) ≡ false = search rules in
    let none : drop n left ≡ [] = drop_all n left (omega arith) in
    let more = pieces_more n left in
    rw is (rw (test, none) at more)
