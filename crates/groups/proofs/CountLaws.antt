-- The recurrence of the count as equations, case by case.
use Rattle.std.proofs.Common.{◌≡◌, ℕ, zero, suc, ◌+◌, ◌^◌, ◌<◌, ◌≤◌, max, true, false, cond, eqb, ◌⊎◌, List, get_or, ℤ, pos, sym, refl, ap, ◌∙◌, inl, inr, arith}
use Rattle.std.proofs.lemmas.Bool.{cases_Bool, cases_eq, cases_lt, cond-false, cond-true, ne_eqb}
use Rattle.groups.proofs.CourseLaws.{up_to_at}
use Rattle.groups.proofs.SetLaws.{in_empty, out_gone, out_less, out_other, smallest_in}
use Rattle.groups.proofs.ZeroLaws.{zero_no, zero_yes}
use Rattle.groups.specs.Counts.{count, counted, counts, most}
use Rattle.groups.specs.Courses.{at, up_to}
use Rattle.groups.specs.Sets.{is_in, smallest, without}
use Rattle.groups.specs.Signs.{is_zero, sum_of}

-- the counts before s have that of each smaller set
before : (f : ℕ → ℤ) (n s i : ℕ) → is_in s i ≡ true → get_or (counts f n s) (without s i) 0 ≡ count f n (without s i)
unfolding counts count
before f n s i h = up_to_at (counted f n) s (without s i) 0 (out_less s i h)

-- every entry of the table of counts is the count of its set
pub counts_at : (f : ℕ → ℤ) (n k s : ℕ) → s < k → get_or (counts f n k) s 0 ≡ count f n s
unfolding counts count
counts_at f n k s h = up_to_at (counted f n) k s 0 h

-- one step of the recurrence, over any list of counts
module _ (f : ℕ → ℤ) (n : ℕ) (cs : List ℕ) (s : ℕ) (some : 0 < s) where
  counted_open : counted f n cs s ≡ cond (is_zero (f (smallest n s))) (get_or cs (without s (smallest n s)) 0)
      (cond (is_zero (sum_of f n s)) (get_or cs (without s (smallest n s)) 0 + 1) (most cs s n))
  unfolding counted
  counted_open = cond-false (eqb s 0) 0 _ (ne_eqb s 0 (omega arith))

  pub counted_even : is_zero (f (smallest n s)) ≡ true → counted f n cs s ≡ get_or cs (without s (smallest n s)) 0
  counted_even e = counted_open ∙ cond-true _ _ _ e

  pub counted_sum : is_zero (f (smallest n s)) ≡ false → is_zero (sum_of f n s) ≡ true → counted f n cs s ≡ get_or cs (without s (smallest n s)) 0 + 1
  counted_sum o e = counted_open ∙ cond-false _ _ _ o ∙ cond-true _ _ _ e

  pub counted_most : is_zero (f (smallest n s)) ≡ false → is_zero (sum_of f n s) ≡ false → counted f n cs s ≡ most cs s n
  counted_most o e = counted_open ∙ cond-false _ _ _ o ∙ cond-false _ _ _ e

pub counted_empty : (f : ℕ → ℤ) (n : ℕ) (cs : List ℕ) → counted f n cs 0 ≡ 0
unfolding counted
counted_empty f n cs = refl

pub count_empty : (f : ℕ → ℤ) (n : ℕ) → count f n 0 ≡ 0
unfolding count at counted up_to
count_empty f n = refl

pub count_is : (f : ℕ → ℤ) (n s : ℕ) → count f n s ≡ counted f n (counts f n s) s
unfolding count counts at
count_is f n s = refl

pub count_even : (f : ℕ → ℤ) (n s : ℕ) → 0 < s → s < 2 ^ n → f (smallest n s) ≡ pos 0 → count f n s ≡ count f n (without s (smallest n s))
count_even f n s some small e =
    count_is f n s ∙ counted_even f n (counts f n s) s some (zero_yes (f (smallest n s)) e) ∙ before f n s (smallest n s) (smallest_in n s some small)

pub count_sum : (f : ℕ → ℤ) (n s : ℕ) → 0 < s → s < 2 ^ n → (f (smallest n s) ≡ pos 0 → ⊥) → sum_of f n s ≡ pos 0 →
    count f n s ≡ count f n (without s (smallest n s)) + 1
count_sum f n s some small ne e =
    count_is f n s ∙ counted_sum f n (counts f n s) s some (zero_no (f (smallest n s)) ne) (zero_yes (sum_of f n s) e)
    ∙ ap (λ c. c + 1) (before f n s (smallest n s) (smallest_in n s some small))

count_most : (f : ℕ → ℤ) (n s : ℕ) → 0 < s → (f (smallest n s) ≡ pos 0 → ⊥) → (sum_of f n s ≡ pos 0 → ⊥) → count f n s ≡ most (counts f n s) s n
count_most f n s some ne no-sum =
    count_is f n s ∙ counted_most f n (counts f n s) s some (zero_no (f (smallest n s)) ne) (zero_no (sum_of f n s) no-sum)

pub most_yes : (cs : List ℕ) (s k : ℕ) → is_in s k ≡ true → most cs s (suc k) ≡ max (most cs s k) (get_or cs (without s k) 0)
unfolding most
most_yes cs s k e = rw e

pub most_no : (cs : List ℕ) (s k : ℕ) → is_in s k ≡ false → most cs s (suc k) ≡ most cs s k
unfolding most
most_no cs s k e = rw e

-- the greatest count of s with one of the people of r below k taken out
unfoldable pub most_left : List ℕ → ℕ → ℕ → ℕ → ℕ
most_left cs s r zero = 0
most_left cs s r (suc k) = cond (is_in r k) (max (most_left cs s r k) (get_or cs (without s k) 0)) (most_left cs s r k)

module _ (cs : List ℕ) (s : ℕ) where
  left_yes : (r k : ℕ) → is_in r k ≡ true → most_left cs s r (suc k) ≡ max (most_left cs s r k) (get_or cs (without s k) 0)
  unfolding most_left
  left_yes r k e = rw e

  left_no : (r k : ℕ) → is_in r k ≡ false → most_left cs s r (suc k) ≡ most_left cs s r k
  unfolding most_left
  left_no r k e = rw e

  -- with all of them left, with none, and with one less
  pub left_all : (k : ℕ) → most_left cs s s k ≡ most cs s k
  unfolding most_left most
  left_all zero = refl
  left_all (suc k) = rw (left_all k)

  pub left_none : (k : ℕ) → most_left cs s 0 k ≡ 0
  left_none zero = unfold most_left in refl
  left_none (suc k) = left_no 0 k (in_empty k) ∙ left_none k

  left_like : (r t k : ℕ) → ((i : ℕ) → i < k → is_in r i ≡ is_in t i) → most_left cs s r k ≡ most_left cs s t k
  unfolding most_left
  left_like r t zero same = refl
  left_like r t (suc k) same = rw (same k (omega arith), left_like r t k (λ i l. same i (omega arith)))

  pub left_out : (r i k : ℕ) → i < k → is_in r i ≡ true → most_left cs s r k ≡ max (get_or cs (without s i) 0) (most_left cs s (without r i) k)
  left_out r i zero h e = absurd (omega arith)
  left_out r i (suc k) h e =
      elim (cases_eq k i) [
        | inl q ↦
            let here = left_yes r i e in
            let gone = left_no (without r i) i (out_gone r i e) in
            let same = left_like r (without r i) i (λ j l. sym (out_other r i j e (λ z. omega arith))) in
            rw q (omega arith)
        | inr ne ↦
            let ih = left_out r i k (omega arith) e in
            let same = out_other r i k e ne in
            elim (cases_Bool (is_in r k)) [
              | inl y ↦ omega (arith, ih, left_yes r k y, left_yes (without r i) k (same ∙ y))
              | inr y ↦ omega (arith, ih, left_no r k y, left_no (without r i) k (same ∙ y))
            ]
      ]

most_bound : (cs : List ℕ) (s k i : ℕ) → i < k → is_in s i ≡ true → get_or cs (without s i) 0 ≤ most cs s k
most_bound cs s k i h e = omega (arith, left_all cs s k, left_out cs s s i k h e)

most_reached : (cs : List ℕ) (s k : ℕ) → (most cs s k ≡ 0) ⊎ ((i : ℕ) × (i < k) × (is_in s i ≡ true) × (most cs s k ≡ get_or cs (without s i) 0))
most_reached cs s zero = inl (unfold most in refl)
most_reached cs s (suc k) =
    elim (cases_Bool (is_in s k)) [
      | inl y ↦ elim (cases_lt (most cs s k) (get_or cs (without s k) 0)) [
        | inl l ↦ inr (k, omega arith, y, omega (arith, most_yes cs s k y))
        | inr g ↦ elim (most_reached cs s k) [
          | inl z ↦ inl (omega (arith, most_yes cs s k y))
          | inr r ↦ inr (r.0, omega arith, r.2, omega (arith, most_yes cs s k y))
        ]
      ]
      | inr y ↦ elim (most_reached cs s k) [
        | inl z ↦ inl (most_no cs s k y ∙ z)
        | inr r ↦ inr (r.0, omega arith, r.2, most_no cs s k y ∙ r.3)
      ]
    ]

-- a set that does not sum to 0, with its smallest person open, counts as much as the best set with one person less
pub count_bound : (f : ℕ → ℤ) (n s : ℕ) → 0 < s → (f (smallest n s) ≡ pos 0 → ⊥) → (sum_of f n s ≡ pos 0 → ⊥) →
    (i : ℕ) → i < n → is_in s i ≡ true → count f n (without s i) ≤ count f n s
count_bound f n s some ne no-sum i l e =
    omega (arith, count_most f n s some ne no-sum, before f n s i e, most_bound (counts f n s) s n i l e)

pub count_reached : (f : ℕ → ℤ) (n s : ℕ) → 0 < s → (f (smallest n s) ≡ pos 0 → ⊥) → (sum_of f n s ≡ pos 0 → ⊥) →
    (count f n s ≡ 0) ⊎ ((i : ℕ) × (is_in s i ≡ true) × (count f n s ≡ count f n (without s i)))
count_reached f n s some ne no-sum =
    elim (most_reached (counts f n s) s n) [
      | inl z ↦ inl (count_most f n s some ne no-sum ∙ z)
      | inr r ↦ inr (r.0, r.2, count_most f n s some ne no-sum ∙ r.3 ∙ before f n s r.0 r.2)
    ]

-- the recurrence reads the counts of smaller sets alone
most_like : (cs ds : List ℕ) (s k : ℕ) → ((t : ℕ) → t < s → get_or cs t 0 ≡ get_or ds t 0) → most cs s k ≡ most ds s k
most_like cs ds s zero same = unfold most in refl
most_like cs ds s (suc k) same =
    elim (cases_Bool (is_in s k)) [
      | inl e ↦ omega (arith, most_yes cs s k e, most_yes ds s k e, most_like cs ds s k same, same (without s k) (out_less s k e))
      | inr e ↦ most_no cs s k e ∙ most_like cs ds s k same ∙ sym (most_no ds s k e)
    ]

pub counted_like : (f : ℕ → ℤ) (n : ℕ) (cs ds : List ℕ) (s : ℕ) → s < 2 ^ n → ((t : ℕ) → t < s → get_or cs t 0 ≡ get_or ds t 0) → counted f n cs s ≡ counted f n ds s
unfolding counted
counted_like f n cs ds s small same =
    elim (cases_lt 0 s) [
      | inl some ↦
          let k : ℕ = smallest n s in
          rw (same (without s k) (out_less s k (smallest_in n s some small)), most_like cs ds s n same)
      | inr z ↦ let e : s ≡ 0 = omega arith in rw e
    ]

-- so that a table filled with counts gives the next
pub count_next : (f : ℕ → ℤ) (n : ℕ) (cs : List ℕ) (s : ℕ) → s < 2 ^ n → ((t : ℕ) → t < s → get_or cs t 0 ≡ count f n t) → counted f n cs s ≡ count f n s
count_next f n cs s small same = counted_like f n cs (counts f n s) s small (λ t l. same t l ∙ sym (counts_at f n s t l)) ∙ sym (count_is f n s)
