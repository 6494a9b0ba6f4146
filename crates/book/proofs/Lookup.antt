-- What crates above read off a book: how many lines and people it has, what holds of the line at a place, and whether it stands.
use Rattle.std.proofs.Common.{◌≡◌, ℕ, zero, suc, ◌+◌, ◌<◌, ◌≤◌, true, false, not, ltb, List, [], ◌∷◌, ◌++◌, length, get_or, take, drop, Some, None, Option, Bor, vec_items, vec_len, sym, refl, ap, ◌∙◌, append_assoc, add-one, arith}
use Rattle.std.proofs.lemmas.List.{append-nil, get_or-map, length-map, length_push}
use Rattle.std.proofs.lemmas.Bool.{and_parts, lt-ltb}
use Rattle.std.proofs.lemmas.Bool.Decides.{nat_tests}
use Rattle.std.proofs.lemmas.Option.{slice_get_past, slice_get_read}
use Rattle.std.specs.List.{slice_get}
use Rattle.std.specs.Option.{is_some, IfSome, MatchOption}
use Rattle.book.proofs.Marks.{returns_earlier, standing_at}
use Rattle.book.proofs.Sound.{orderly_sound, read_taken}
use Rattle.book.specs.Held.{entries_of, marks_of, standing, taken, stands_at}
use Rattle.book.specs.Ledger as ledger
use Rattle.book.specs.Orderly.{follows, orderly_after, orderly}
use Rattle.book.specs.Reading.{read_line, lines}
use Rattle.book.specs.View.{held}
use Rattle.book.specs.declared.ledger.Book.{Book}
use Rattle.book.specs.declared.line.Entry.{Entry}
use Rattle.book.specs.declared.line.Kept.{Kept}

-- lines that were taken, as many as their entries
pub kept_length : (ks : List Kept) (es : List Entry) → entries_of ks ≡ es → length ks ≡ length es
kept_length ks es entries = sym (length-map ks (λ (y : Kept). y.entry)) ∙ ap length entries

-- the lines that a book holds are as many as it keeps
pub held_length : (b : Book) → vec_len b.lines ≡ length (held b).entries
held_length b = omega (arith, b.lines.ok.0, kept_length (vec_items b.lines) (held b).entries refl)

-- the line at a place is the entry there, marked by whether it stands
pub kept_at : (ks : List Kept) (es : List Entry) (k : ℕ) (d x : Kept) → entries_of ks ≡ es → marks_of ks ≡ standing es → k < length ks → x ≡ get_or ks k d →
    (slice_get es k ≡ Some x.entry) × (stands_at es k ≡ x.stands)
kept_at ks es k d x entries marks here is =
    let there : k < length es = omega (arith, kept_length ks es entries) in
    let inside = lt-ltb k (length es) there in
    let entry : x.entry ≡ get_or es k x.entry =
    ap (λ (y : Kept). y.entry) is ∙ sym (get_or-map (λ (y : Kept). y.entry) ks k d x.entry here) ∙ ap (λ l. get_or l k x.entry) entries
    in
    let mark : x.stands ≡ not (taken es k) =
    ap (λ (y : Kept). y.stands) is ∙ sym (get_or-map (λ (y : Kept). y.stands) ks k d x.stands here) ∙ ap (λ l. get_or l k x.stands) marks
    ∙ standing_at es k x.stands there
    in
    (slice_get_read es (length es) k x.entry refl there entry, rw (inside, mark) refl)

-- what a look at the line of a number finds: none, or the line at that place
pub found : (b : Book) (k : ℕ) (o : Option (Bor Kept)) → is_some o ≡ ltb k (length (vec_items b.lines)) → IfSome o (λ x. x.now ≡ get_or (vec_items b.lines) k x.now) →
    MatchOption o
    ((slice_get (held b).entries k ≡ None) × (stands_at (held b).entries k ≡ false))
    (λ x. (slice_get (held b).entries k ≡ Some x.now.entry) × (stands_at (held b).entries k ≡ x.now.stands))
found b k None there is =
    let ks = vec_items b.lines in
    let long = length-map ks (λ (x : Kept). x.entry) in
    let past : length ks ≤ k = grind (arith, nat_tests) in
    (slice_get_past (held b).entries k (omega arith), grind (arith, nat_tests))
found b k (Some x) there is = kept_at (vec_items b.lines) (held b).entries k x.now x.now refl b.marked (grind (arith, nat_tests)) is

module _ (b : Book) where
  pub few_people : (held b).people ≤ 16
  few_people = b.crew.1

  pub few_lines : length (held b).entries ≤ 4096
  few_lines = omega (arith, b.few, held_length b)

  pub in_order : orderly (held b).people (held b).entries ≡ true
  in_order = b.ordered

  pub sound : ledger.Sound (held b).people (lines (held b).people (held b).entries)
  sound = orderly_sound (held b).people [] (held b).entries few_people in_order

pub length_lines : (n : ℕ) (es : List Entry) → length (lines n es) ≡ length es
unfolding lines
length_lines n es = length-map es (λ e. read_line n e.weights e.line)

-- the line at a place, as the theorems read it
pub lines_at : (n : ℕ) (es : List Entry) (k : ℕ) (e : Entry) (d : ledger.Line) → Some e ≡ slice_get es k → get_or (lines n es) k d ≡ read_line n e.weights e.line
unfolding lines
lines_at n [] k e d is = grind arith
lines_at n (x ∷ es) zero e d is = let same : x ≡ e = cc in rw same refl
lines_at n (x ∷ es) (suc k) e d is = lines_at n es k e d is

pub drop_lines : (n : ℕ) (es : List Entry) (k : ℕ) → drop k (lines n es) ≡ lines n (drop k es)
unfolding lines
drop_lines n es zero = refl
drop_lines n [] (suc k) = refl
drop_lines n (e ∷ es) (suc k) = drop_lines n es k

-- the line at a place may follow the ones before it
pub follows_at : (n : ℕ) (before es : List Entry) (k : ℕ) (e : Entry) → orderly_after n before es ≡ true → Some e ≡ slice_get es k →
    follows n (before ++ take k es) e.weights e.line ≡ true
unfolding orderly_after
follows_at n before [] k e h is = grind arith
follows_at n before (x ∷ es) zero e h is =
    let same : x ≡ e = cc in
    let parts = and_parts (follows n before x.weights x.line) (orderly_after n (before ++ (x ∷ [])) es) h in
    rw (append-nil, ← same) parts.0
follows_at n before (x ∷ es) (suc k) e h is =
    let parts = and_parts (follows n before x.weights x.line) (orderly_after n (before ++ (x ∷ [])) es) h in
    rw append_assoc at (follows_at n (before ++ (x ∷ [])) es k e parts.1 is)

-- only a later line takes a line back
pub taken_later : (n : ℕ) (before es : List Entry) (k m : ℕ) → orderly_after n before es ≡ true → k < length es → length before + k ≡ m →
    taken es m ≡ taken (drop (suc k) es) m
unfolding orderly_after
taken_later n before [] k m h l at = refl
taken_later n before (e ∷ es) zero m h l at =
    let parts = and_parts (follows n before e.weights e.line) (orderly_after n (before ++ (e ∷ [])) es) h in
    let here = returns_earlier n before e.weights e.line m parts.0 (omega arith) in
    grind arith
taken_later n before (e ∷ es) (suc k) m h l at =
    let parts = and_parts (follows n before e.weights e.line) (orderly_after n (before ++ (e ∷ [])) es) h in
    let here = returns_earlier n before e.weights e.line m parts.0 (omega arith) in
    let rest = taken_later n (before ++ (e ∷ [])) es k m parts.1 (omega arith) (omega (arith, length_push before e)) in
    grind arith

-- a line stands where no later line takes it back
pub stands_later : (n : ℕ) (es : List Entry) (k : ℕ) → orderly n es ≡ true → k < length es →
    stands_at es k ≡ not (ledger.taken_back k (drop (k + 1) (lines n es)))
stands_later n es k h l =
    let there = lt-ltb k (length es) l in
    let later = taken_later n [] es k k h l (omega arith) in
    rw (add-one, drop_lines, read_taken, there, later) refl
