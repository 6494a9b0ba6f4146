-- The fixed groups by their recurrence, and how they part a set of open people.
use Rattle.std.proofs.Common.{◌≡◌, ℕ, zero, suc, ◌+◌, ◌-◌, ◌^◌, ◌<◌, Bool, true, false, not, ◌&&◌, eqb, List, [], ◌∷◌, ◌++◌, get_or, ℤ, pos, ◌+ℤ◌, sym, refl, ap, ◌∙◌, inl, inr, append_assoc, arith}
use Rattle.std.proofs.lemmas.Nat.{pow_pos}
use Rattle.std.proofs.lemmas.Int.{ints}
use Rattle.std.proofs.lemmas.Bool.{and_parts, both_ways, cases_lt, cond-false, ne_eqb}
use Rattle.groups.proofs.ChosenLaws.{Chosen, CountsIn, chosen_is}
use Rattle.groups.proofs.CountLaws.{count_empty}
use Rattle.groups.proofs.CourseLaws.{up_to_at}
use Rattle.groups.proofs.First.{first_like, first_passes}
use Rattle.groups.proofs.SetLaws.{in_empty, in_le, minus_in, part_in}
use Rattle.groups.proofs.Smaller.{by_smaller}
use Rattle.groups.proofs.SumLaws.{sum_add}
use Rattle.groups.proofs.ZeroLaws.{zero_no}
use Rattle.groups.specs.Courses.{at, up_to}
use Rattle.groups.specs.Fixed.{Parts, chosen, first_of, fixed_by, fixing, reaches}
use Rattle.shares.specs.Bill.{pick}
use Rattle.groups.specs.Sets.{is_in, is_part, smallest}
use Rattle.groups.specs.SetsPart.{times}
use Rattle.groups.specs.Signs.{AllOpen, is_zero, sum_of, only}

-- a sum over a set is that over a part and that over the rest
pub sum_minus : (f : ℕ → ℤ) (n t s : ℕ) → is_part t s ≡ true → sum_of f n s ≡ sum_of f n t +ℤ sum_of f n (s - t)
unfolding sum_of
sum_minus f n t s h =
    sum_add (only (is_in s) f) (only (is_in t) f) (only (is_in (s - t)) f) n
    (λ i l. rw (minus_in t s i h) (two (is_in t i) (is_in s i) (f i) (part_in t s i h)))
  where
    two : (a b : Bool) (z : ℤ) → (a ≡ true → b ≡ true) → pick b z (pos 0) ≡ pick a z (pos 0) +ℤ pick (b && not a) z (pos 0)
    two a b z ins = grind (arith, ints)

-- the chosen set has somebody, so that fewer are left
pub chosen_some : (f : ℕ → ℤ) (n : ℕ) (cs : List ℕ) (s : ℕ) → 0 < chosen f n cs s
unfolding chosen reaches
chosen_some f n cs s =
    elim (cases_lt 0 (first_of (reaches f n cs s) (suc s))) [
      | inl h ↦ h
      | inr h ↦
          let z : first_of (reaches f n cs s) (suc s) ≡ 0 = omega arith in
          let e : reaches f n cs s 0 ≡ true = rw z at (first_passes (reaches f n cs s) (suc s) (omega arith)) in
          absurd (both_ways (is_in 0 (smallest n s)) (in_empty (smallest n s)) (and_parts (is_in 0 (smallest n s)) _ (and_parts (is_part 0 s) _ e).1).0)
    ]

pub fixed_empty : (f : ℕ → ℤ) (n : ℕ) (cs : List ℕ) → fixed_by f n cs 0 ≡ []
unfolding fixed_by at fixing up_to
fixed_empty f n cs = refl

pub fixed_more : (f : ℕ → ℤ) (n : ℕ) (cs : List ℕ) (s : ℕ) → 0 < s → fixed_by f n cs s ≡ chosen f n cs s ∷ fixed_by f n cs (s - chosen f n cs s)
unfolding fixed_by at fixing
fixed_more f n cs s some =
    cond-false (eqb s 0) [] _ (ne_eqb s 0 (omega arith))
    ∙ ap (λ ts. chosen f n cs s ∷ ts) (up_to_at (fixing f n cs) s (s - chosen f n cs s) [] (omega (arith, chosen_some f n cs s)))

parts_none : (f : ℕ → ℤ) (n : ℕ) → Parts f n 0 []
unfolding times
parts_none f n =
    record { once = λ i. rw (in_empty i); some = λ k l. absurd (omega arith); even = λ k l. absurd (omega arith); as_many = sym (count_empty f n) }

once_at : (a b e : Bool) → (a ≡ true → b ≡ true) → (a ≡ true → e ≡ false) → pick {A = ℕ} a 1 0 + pick ((b && not a) && not e) 1 0 ≡ pick (b && not e) 1 0
once_at a b e ins op = grind arith

parts_more : (f : ℕ → ℤ) (n s t : ℕ) (ts : List ℕ) → AllOpen f s → Chosen f n s t → Parts f n (s - t) ts → Parts f n s (t ∷ ts)
unfolding times
parts_more f n s t ts all c p =
    record {
      once = λ i.
          let sub : is_in t i ≡ true → is_in s i ≡ true = part_in t s i c.part in
          rw (p.once i, minus_in t s i c.part) (once_at (is_in t i) (is_in s i) (is_zero (f i)) sub (λ e. zero_no (f i) (all i (sub e))));
      some = elim [ zero ↦ λ l. omega (arith, in_le t (smallest n s) c.low, pow_pos (smallest n s)) | suc k ↦ λ l. p.some k (omega arith) ];
      even = elim [ zero ↦ λ l. c.even | suc k ↦ λ l. p.even k (omega arith) ];
      as_many = omega (arith, p.as_many, c.left);
    }

-- the people left sum to 0 and are open, as all of them
pub left_even : (f : ℕ → ℤ) (n s t : ℕ) → sum_of f n s ≡ pos 0 → Chosen f n s t → sum_of f n (s - t) ≡ pos 0
left_even f n s t total c = omega (arith, ints, sum_minus f n t s c.part, total, c.even)

pub left_open : (f : ℕ → ℤ) (n s t : ℕ) → AllOpen f s → Chosen f n s t → AllOpen f (s - t)
left_open f n s t all c i h = all i (and_parts (is_in s i) (not (is_in t i)) (sym (minus_in t s i c.part) ∙ h)).0

fixed_step : (f : ℕ → ℤ) (n : ℕ) (cs : List ℕ) → CountsIn f n cs → (s : ℕ) →
    ((t : ℕ) → t < s → t < 2 ^ n → sum_of f n t ≡ pos 0 → AllOpen f t → Parts f n t (fixed_by f n cs t)) →
    s < 2 ^ n → sum_of f n s ≡ pos 0 → AllOpen f s → Parts f n s (fixed_by f n cs s)
fixed_step f n cs have s ih small total all =
    elim (cases_lt 0 s) [
      | inr z ↦ let e : s ≡ 0 = omega arith in rw (e, fixed_empty f n cs) (parts_none f n)
      | inl some ↦
          let t : ℕ = chosen f n cs s in
          let c = chosen_is f n cs s have some small total all in
          let less : s - t < s = omega (arith, chosen_some f n cs s) in
          rw (fixed_more f n cs s some)
          (parts_more f n s t _ all c (ih (s - t) less (omega arith) (left_even f n s t total c) (left_open f n s t all c)))
    ]

pub fixed_parts : (f : ℕ → ℤ) (n : ℕ) (cs : List ℕ) → CountsIn f n cs → (s : ℕ) → s < 2 ^ n → sum_of f n s ≡ pos 0 → AllOpen f s → Parts f n s (fixed_by f n cs s)
fixed_parts f n cs have = by_smaller (λ s. s < 2 ^ n → sum_of f n s ≡ pos 0 → AllOpen f s → Parts f n s (fixed_by f n cs s)) (fixed_step f n cs have)

-- the groups depend on the counts of the set and of smaller sets alone
reaches_like : (f : ℕ → ℤ) (n : ℕ) (cs ds : List ℕ) (s t : ℕ) → ((k : ℕ) → k < suc s → get_or cs k 0 ≡ get_or ds k 0) → reaches f n cs s t ≡ reaches f n ds s t
unfolding reaches
reaches_like f n cs ds s t same = rw (same (s - t) (omega arith), same s (omega arith))

like_step : (f : ℕ → ℤ) (n : ℕ) (cs ds : List ℕ) (m : ℕ) → ((k : ℕ) → k < m → get_or cs k 0 ≡ get_or ds k 0) → (s : ℕ) →
    ((t : ℕ) → t < s → t < m → fixed_by f n cs t ≡ fixed_by f n ds t) → s < m → fixed_by f n cs s ≡ fixed_by f n ds s
like_step f n cs ds m same s ih l =
    elim (cases_lt 0 s) [
      | inr z ↦ let e : s ≡ 0 = omega arith in rw e (fixed_empty f n cs ∙ sym (fixed_empty f n ds))
      | inl some ↦
          let e : chosen f n cs s ≡ chosen f n ds s = unfold chosen in first_like (reaches f n cs s) (reaches f n ds s) (suc s)
          (λ t _. reaches_like f n cs ds s t (λ k h. same k (omega arith))) in
          fixed_more f n cs s some
          ∙ ap (λ t. t ∷ fixed_by f n cs (s - t)) e
          ∙ ap (λ ts. chosen f n ds s ∷ ts) (ih (s - chosen f n ds s) (omega (arith, chosen_some f n ds s)) (omega arith))
          ∙ sym (fixed_more f n ds s some)
    ]

pub fixed_like : (f : ℕ → ℤ) (n : ℕ) (cs ds : List ℕ) (m : ℕ) → ((k : ℕ) → k < m → get_or cs k 0 ≡ get_or ds k 0) →
    (s : ℕ) → s < m → fixed_by f n cs s ≡ fixed_by f n ds s
fixed_like f n cs ds m same = by_smaller (λ s. s < m → fixed_by f n cs s ≡ fixed_by f n ds s) (like_step f n cs ds m same)

-- a list to which the chosen set and then the groups of the people left were added
pub fixed_joined : (f : ℕ → ℤ) (n : ℕ) (cs : List ℕ) (s r : ℕ) (old mid new : List ℕ) → 0 < s → r ≡ chosen f n cs s → mid ≡ old ++ (r ∷ []) →
    new ≡ mid ++ fixed_by f n cs (s - r) → new ≡ old ++ fixed_by f n cs s
fixed_joined f n cs s r old mid new some e first rest =
    rest
    ∙ ap (λ ts. ts ++ fixed_by f n cs (s - r)) first
    ∙ append_assoc old (r ∷ []) (fixed_by f n cs (s - r))
    ∙ ap (λ ts. old ++ ts) (ap (λ t. t ∷ fixed_by f n cs (s - t)) e ∙ sym (fixed_more f n cs s some))
