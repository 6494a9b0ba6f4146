-- Which lines stand, as a book grows by a line.
use Rattle.std.proofs.Common.{◌≡◌, ℕ, zero, suc, ◌+◌, ◌<◌, ◌≤◌, Bool, true, false, not, ◌&&◌, ◌||◌, eqb, List, [], ◌∷◌, ◌++◌, length, get_or, set, Some, sym, refl, ap, ◌∙◌, ⊎_elim, append_assoc, arith}
use Rattle.std.proofs.lemmas.List.FromFn.{length-map-range_with_len, get_or-map-range_with_len}
use Rattle.std.proofs.lemmas.List.{length_push, get_or_append_left, get_or_push, get_or-set_same, get_or-set_other, length-set, same_lists, append-nil}
use Rattle.std.proofs.lemmas.Bool.{cases_eq, cases_lt, and_parts, ne_eqb, eq-eqb, lt-ltb}
use Rattle.std.proofs.lemmas.Bool.Decides.{nat_tests}
use Rattle.std.proofs.lemmas.Option.{slice_get_within}
use Rattle.std.specs.List.{slice_get}
use Rattle.book.specs.Held.{Within, takes, taken, standing, struck, is_plain, is_return, returnable, stands_at}
use Rattle.book.specs.Orderly.{follows, orderly_after, orderly}
use Rattle.book.specs.declared.line.Entry.{Entry}
use Rattle.book.specs.declared.line.Line.{Line}
use Rattle.book.specs.declared.line.Line.TheVariants.{Bill, Payment, TakeBack}

pub taken_push : (es : List Entry) (e : Entry) (k : ℕ) → taken (es ++ (e ∷ [])) k ≡ (taken es k || takes e.line k)
taken_push [] e k = grind arith
taken_push (x ∷ es) e k = let ih = taken_push es e k in grind arith

-- a plain line is there
pub plain_there : (es : List Entry) (k : ℕ) → is_plain (slice_get es k) ≡ true → k < length es
plain_there [] k h = grind arith
plain_there (e ∷ es) zero h = omega arith
plain_there (e ∷ es) (suc k) h = omega (arith, plain_there es k h)

-- a line can be taken back while it stands, if it takes nothing back itself
pub plain_stands : (es : List Entry) (k : ℕ) (e : Entry) → slice_get es k ≡ Some e → returnable es k ≡ (stands_at es k && not (is_return e.line))
plain_stands es k e is = let there = lt-ltb k (length es) (slice_get_within es k e is) in rw (is, there) (grind arith)

-- the line that a line takes back, where it may follow, is there
pub within : (n : ℕ) (es : List Entry) (ws : List ℕ) (l : Line) → follows n es ws l ≡ true → Within l (length es)
within n es ws (Bill payer amount) f = tt
within n es ws (Payment from to amount) f = tt
within n es ws (TakeBack j) f = plain_there es j (and_parts (is_plain (slice_get es j)) (not (taken es j)) f).0

pub returns_earlier : (n : ℕ) (es : List Entry) (ws : List ℕ) (l : Line) (k : ℕ) → follows n es ws l ≡ true → length es ≤ k → takes l k ≡ false
returns_earlier n es ws (Bill payer amount) k h le = refl
returns_earlier n es ws (Payment from to amount) k h le = refl
returns_earlier n es ws (TakeBack j) k h le = let there = within n es ws (TakeBack j) h in ne_eqb j k (λ e. omega arith)

-- no line takes back one that is not there yet
pub not_taken_yet : (n : ℕ) (before es : List Entry) (k : ℕ) → orderly_after n before es ≡ true → length before + length es ≤ k → taken es k ≡ false
unfolding orderly_after
not_taken_yet n before [] k h le = refl
not_taken_yet n before (e ∷ es) k h le =
    let parts = and_parts (follows n before e.weights e.line) (orderly_after n (before ++ (e ∷ [])) es) h in
    let here = returns_earlier n before e.weights e.line k parts.0 (omega arith) in
    let on = not_taken_yet n (before ++ (e ∷ [])) es k parts.1 (omega (arith, length_push before e)) in
    grind arith

pub standing_at : (es : List Entry) (k : ℕ) (d : Bool) → k < length es → get_or (standing es) k d ≡ not (taken es k)
unfolding standing
standing_at es k d h = get_or-map-range_with_len (λ i. not (taken es i)) 0 (length es) k k d h (omega arith)

pub length_standing : (es : List Entry) → length (standing es) ≡ length es
unfolding standing
length_standing es = length-map-range_with_len (λ k. not (taken es k)) 0 (length es)

length_struck : (l : Line) (marks : List Bool) → length (struck l marks) ≡ length marks
length_struck (Bill payer amount) marks = refl
length_struck (Payment from to amount) marks = refl
length_struck (TakeBack k) marks = length-set marks k false

struck_at : (l : Line) (marks : List Bool) (k : ℕ) (d : Bool) → k < length marks → get_or (struck l marks) k d ≡ (get_or marks k d && not (takes l k))
struck_at (Bill payer amount) marks k d h = grind arith
struck_at (Payment from to amount) marks k d h = grind arith
struck_at (TakeBack j) marks k d h =
    ⊎_elim
    (λ (is : j ≡ k).
    let eq = eq-eqb j k is in
    let same = get_or-set_same marks k false d h in
    let at : get_or (set marks j false) k d ≡ false = ap (λ i. get_or (set marks i false) k d) is ∙ same in
    grind arith)
    (λ isnt. let ne = ne_eqb j k isnt in let other = get_or-set_other marks j k false d (λ e. isnt (sym e)) in grind arith)
    (cases_eq j k)

-- what a list of marks must be to say which lines stand
marks_are : (es : List Entry) (e : Entry) (marks : List Bool) →
    length marks ≡ length es → ((k : ℕ) (d : Bool) → k < length es → get_or marks k d ≡ not (taken (es ++ (e ∷ [])) k)) → taken (es ++ (e ∷ [])) (length es) ≡ false →
    marks ++ (true ∷ []) ≡ standing (es ++ (e ∷ []))
marks_are es e marks len each last =
    same_lists _ _ (omega (arith, length_push marks true, length_standing (es ++ (e ∷ [])), length_push es e))
    (λ k d h.
    let there : k < length es + 1 = omega (arith, length_push marks true) in
    standing_of k d there ∙ sym (standing_at (es ++ (e ∷ [])) k d (omega (arith, length_push es e))))
  where
    standing_of : (k : ℕ) (d : Bool) → k < length es + 1 → get_or (marks ++ (true ∷ [])) k d ≡ not (taken (es ++ (e ∷ [])) k)
    standing_of k d there =
        ⊎_elim
        (λ old. get_or_append_left marks (true ∷ []) d k (omega arith) ∙ each k d old)
        (λ new. let is : k ≡ length es = omega arith in get_or_push marks true d k (omega arith) ∙ sym (ap not (ap (taken (es ++ (e ∷ []))) is ∙ last)))
        (cases_lt k (length es))

-- the marks after a line that may follow: that of the line it takes back is struck, and it stands itself
pub standing_push : (n : ℕ) (es : List Entry) (e : Entry) → orderly n es ≡ true → follows n es e.weights e.line ≡ true →
    struck e.line (standing es) ++ (true ∷ []) ≡ standing (es ++ (e ∷ []))
standing_push n es e ordered f =
    let yet = not_taken_yet n [] es (length es) ordered (omega arith) in
    let late = returns_earlier n es e.weights e.line (length es) f (omega arith) in
    let push = taken_push es e (length es) in
    marks_are es e (struck e.line (standing es)) (length_struck e.line (standing es) ∙ length_standing es)
    (λ k d h.
    struck_at e.line (standing es) k d (omega (arith, length_standing es))
    ∙ ap (λ m. m && not (takes e.line k)) (standing_at es k d h)
    ∙ (let at = taken_push es e k in grind arith))
    (grind arith)

-- a book in order with one more line that may follow is in order
pub orderly_push : (n : ℕ) (before es : List Entry) (e : Entry) →
    orderly_after n before es ≡ true → follows n (before ++ es) e.weights e.line ≡ true → orderly_after n before (es ++ (e ∷ [])) ≡ true
unfolding orderly_after
orderly_push n before [] e h f = let f' : follows n before e.weights e.line ≡ true = rw append-nil at f in grind arith
orderly_push n before (x ∷ es) e h f =
    let parts = and_parts (follows n before x.weights x.line) (orderly_after n (before ++ (x ∷ [])) es) h in
    let on = orderly_push n (before ++ (x ∷ [])) es e parts.1 (rw append_assoc f) in
    let here = parts.0 in
    grind arith

-- which lines stand after one more
pub stands_push : (n : ℕ) (es : List Entry) (e : Entry) → orderly n es ≡ true → follows n es e.weights e.line ≡ true →
    (k : ℕ) → stands_at (es ++ (e ∷ [])) k ≡ (eqb k (length es) || (stands_at es k && not (takes e.line k)))
stands_push n es e ordered f k =
    let long = length_push es e in
    let push = taken_push es e k in
    ⊎_elim
    (λ (is : k ≡ length es).
    let yet = not_taken_yet n [] es k ordered (omega arith) in
    let late = returns_earlier n es e.weights e.line k f (omega arith) in
    grind (arith, nat_tests))
    (λ isnt. grind (arith, nat_tests))
    (cases_eq k (length es))
