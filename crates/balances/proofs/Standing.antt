-- Sums over the lines that stand, of any function of a line: one pass from the front, a line more at the end, a line taken back.
use Rattle.std.proofs.Common.{◌≡◌, ℕ, zero, suc, ◌+◌, ◌<◌, ◌≤◌, Bool, true, false, not, List, [], ◌∷◌, ◌++◌, length, get_or, drop, refl, ap, ◌∙◌, append_assoc, add-one, arith}
use Rattle.std.proofs.lemmas.List.{at_drop_more, at_drop_all}
use Rattle.std.proofs.lemmas.Bool.Decides.{nat_tests}
use Rattle.shares.specs.Bill.{pick}
use Rattle.book.specs.Ledger.{Line, bill, paid, takes_back, taken_back}
use Rattle.balances.specs.Given.{standing}

-- a line in front: it counts unless a later one takes it back
pub standing_more :
    (f : Line → ℕ) (n : ℕ) (l : Line) (ls : List Line) → standing f n (l ∷ ls) ≡ pick (taken_back n ls) 0 (f l) + standing f (suc n) ls
unfolding standing
standing_more f n l ls = refl

-- the line at k and what stands after it
pub standing_drop :
    (f : Line → ℕ) (ls : List Line) (k : ℕ) (d : Line) → k < length ls →
    standing f k (drop k ls) ≡ pick (taken_back k (drop (k + 1) ls)) 0 (f (get_or ls k d)) + standing f (k + 1) (drop (k + 1) ls)
unfolding standing
standing_drop f ls k d l = at_drop_more (standing f k) ls k d l ∙ rw (← add-one k)

-- the same by a flag that says whether the line at k stands
pub standing_flag :
    (f : Line → ℕ) (ls : List Line) (k : ℕ) (d : Line) (flag : Bool) → k < length ls → flag ≡ not (taken_back k (drop (k + 1) ls)) →
    standing f k (drop k ls) ≡ pick flag (f (get_or ls k d)) 0 + standing f (k + 1) (drop (k + 1) ls)
standing_flag f ls k d flag below e = let step = standing_drop f ls k d below in rw e (grind arith)

-- past the last line nothing stands
pub standing_drop_all : (f : Line → ℕ) (ls : List Line) (k : ℕ) → length ls ≤ k → standing f k (drop k ls) ≡ 0
unfolding standing
standing_drop_all f ls k l = at_drop_all (standing f k) ls k l

-- a line is taken back by one of two lists if by the first or by the second
pub taken_back_append : (k : ℕ) (xs ys : List Line) → taken_back k (xs ++ ys) ≡ pick (taken_back k xs) true (taken_back k ys)
unfolding taken_back
taken_back_append k [] ys = refl
taken_back_append k (bill b ∷ xs) ys = taken_back_append k xs ys
taken_back_append k (paid p ∷ xs) ys = taken_back_append k xs ys
taken_back_append k (takes_back j ∷ xs) ys = let rest = taken_back_append k xs ys in grind (arith, nat_tests)

-- no line of a list takes back another
abbrev pub Quiet : List Line → Type 0
Quiet ls = (k j : ℕ) (d : Line) → k < length ls → get_or ls k d ≡ takes_back j → ⊥

quiet_rest : (l : Line) (ls : List Line) → Quiet (l ∷ ls) → Quiet ls
quiet_rest l ls q k j d below e = q (suc k) j d (omega arith) e

pub quiet_more : (l : Line) (ls : List Line) → ((j : ℕ) → l ≡ takes_back j → ⊥) → Quiet ls → Quiet (l ∷ ls)
quiet_more l ls none q zero j d below e = none j e
quiet_more l ls none q (suc k) j d below e = q k j d (omega arith) e

pub quiet_keeps : (k : ℕ) (ls : List Line) → Quiet ls → taken_back k ls ≡ false
unfolding taken_back
quiet_keeps k [] q = refl
quiet_keeps k (bill b ∷ ls) q = quiet_keeps k ls (quiet_rest (bill b) ls q)
quiet_keeps k (paid p ∷ ls) q = quiet_keeps k ls (quiet_rest (paid p) ls q)
quiet_keeps k (takes_back j ∷ ls) q = absurd (q 0 j (takes_back j) (omega arith) refl)

-- quiet lines stand, whatever their numbers
pub standing_quiet : (f : Line → ℕ) (m n : ℕ) (ls : List Line) → Quiet ls → standing f m ls ≡ standing f n ls
unfolding standing
standing_quiet f m n [] q = refl
standing_quiet f m n (l ∷ ls) q =
    let rest = standing_quiet f (suc m) (suc n) ls (quiet_rest l ls q) in
    let here = quiet_keeps m ls (quiet_rest l ls q) in
    let here' = quiet_keeps n ls (quiet_rest l ls q) in
    cc

-- two ends of a book that take back the same of the lines before them and have the same that stands
pub standing_after :
    (f : Line → ℕ) (n m : ℕ) (xs ys zs : List Line) → n + length xs ≡ m → ((k : ℕ) → k < m → taken_back k ys ≡ taken_back k zs) →
    standing f m ys ≡ standing f m zs → standing f n (xs ++ ys) ≡ standing f n (xs ++ zs)
unfolding standing
standing_after f n m [] ys zs e same h = let z : n ≡ m = omega arith in rw z h
standing_after f n m (x ∷ xs) ys zs e same h =
    let rest = standing_after f (suc n) m xs ys zs (omega arith) same h in
    let here = same n (omega arith) in
    let first = taken_back_append n xs ys in
    let second = taken_back_append n xs zs in
    cc

-- a last line that does not take back line k
pub taken_back_push : (k : ℕ) (ls : List Line) (l : Line) → taken_back k (l ∷ []) ≡ false → taken_back k (ls ++ (l ∷ [])) ≡ taken_back k ls
taken_back_push k ls l none = let parts = taken_back_append k ls (l ∷ []) in grind arith

-- a last line takes back the line of its number and no other
pub taken_back_hit : (k : ℕ) (ls : List Line) → taken_back k (ls ++ (takes_back k ∷ [])) ≡ true
unfolding taken_back
taken_back_hit k ls = let parts = taken_back_append k ls (takes_back k ∷ []) in grind (arith, nat_tests)

pub taken_back_miss : (j k : ℕ) → (j ≡ k → ⊥) → taken_back k (takes_back j ∷ []) ≡ false
unfolding taken_back
taken_back_miss j k other = grind (arith, nat_tests)

-- a last line that takes back none of the lines before it
pub standing_push :
    (f : Line → ℕ) (n : ℕ) (ls : List Line) (l : Line) → ((k : ℕ) → n ≤ k → k < n + length ls → taken_back k (l ∷ []) ≡ false) →
    standing f n (ls ++ (l ∷ [])) ≡ standing f n ls + f l
unfolding standing taken_back
standing_push f n [] l keeps = omega arith
standing_push f n (x ∷ ls) l keeps =
    let rest = standing_push f (suc n) ls l (λ k from below. keeps k (omega arith) (omega arith)) in
    let same = taken_back_push n ls l (keeps n (omega arith) (omega arith)) in
    omega (arith, ap (λ t. pick t 0 (f x)) same)

-- a last line that takes back line n + j
pub standing_back :
    (f : Line → ℕ) (n j k : ℕ) (ls : List Line) (d : Line) → n + j ≡ k → j < length ls →
    standing f n (ls ++ (takes_back k ∷ [])) + pick (taken_back k (drop (suc j) ls)) 0 (f (get_or ls j d)) ≡ standing f n ls + f (takes_back k)
unfolding standing
standing_back f n j k [] d e below = omega arith
standing_back f n zero k (l ∷ ls) d e below =
    let this : n ≡ k = omega arith in
    let rest = standing_push f (suc n) ls (takes_back k) (λ m from within. taken_back_miss k m (λ same. omega arith)) in
    let hit : taken_back n (ls ++ (takes_back k ∷ [])) ≡ true = rw this (taken_back_hit k ls) in
    omega (arith, ap (λ t. pick t 0 (f l)) hit, ap (λ t. pick (taken_back t ls) 0 (f l)) this)
standing_back f n (suc j) k (l ∷ ls) d e below =
    let rest = standing_back f (suc n) j k ls d (omega arith) (omega arith) in
    let same = taken_back_push n ls (takes_back k) (taken_back_miss k n (λ z. omega arith)) in
    omega (arith, ap (λ t. pick t 0 (f l)) same)

-- a last line that takes nothing back adds its own
pub standing_push_line :
    (f : Line → ℕ) (n : ℕ) (ls : List Line) (l : Line) → ((j : ℕ) → l ≡ takes_back j → ⊥) →
    standing f n (ls ++ (l ∷ [])) ≡ standing f n ls + f l
standing_push_line f n ls l line = standing_push f n ls l (λ k from below. quiet_keeps k (l ∷ []) (quiet_more l [] line (λ k j d none e. omega arith)))

-- a last line that takes back line k takes off what line k added while it stood
pub standing_push_back :
    (f : Line → ℕ) (k : ℕ) (ls : List Line) (d : Line) → f (takes_back k) ≡ 0 → k < length ls →
    standing f 0 (ls ++ (takes_back k ∷ [])) + pick (taken_back k (drop (k + 1) ls)) 0 (f (get_or ls k d)) ≡ standing f 0 ls
standing_push_back f k ls d none below = rw add-one (standing_back f 0 k k ls d (omega arith) below ∙ omega arith)

-- a line taken back leaves what stands as without it
pub standing_without :
    (f : Line → ℕ) (xs ys : List Line) (l : Line) → f (takes_back (length xs)) ≡ 0 → ((j : ℕ) → l ≡ takes_back j → ⊥) → Quiet ys →
    standing f 0 (xs ++ l ∷ ys ++ (takes_back (length xs) ∷ [])) ≡ standing f 0 (xs ++ ys)
unfolding standing taken_back
standing_without f xs ys l none line q =
    let n = length xs in
    let quiet = quiet_more l ys line q in
    let back = standing_back f n 0 n (l ∷ ys) l (omega arith) (omega arith) in
    let kept = ap (λ t. pick t 0 (f l)) (quiet_keeps n ys q) in
    let still = standing_quiet f (suc n) n ys q in
    let rest : standing f n (l ∷ ys ++ (takes_back n ∷ [])) ≡ standing f n ys = omega arith in
    rw append_assoc
    (standing_after f 0 n xs (l ∷ ys ++ (takes_back n ∷ [])) ys (omega arith)
    (λ k below.
    let mine = taken_back_push k (l ∷ ys) (takes_back n) (taken_back_miss n k (λ z. omega arith)) in
    let first = quiet_keeps k (l ∷ ys) quiet in
    let second = quiet_keeps k ys q in
    cc)
    rest)
