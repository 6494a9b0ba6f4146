-- Laws of the lines of people, as a loop over the people and their numbers side by side writes them.
use Rattle.std.proofs.Common.{◌≡◌, ℕ, suc, ◌+◌, ◌-◌, ◌<◌, ◌≤◌, List, ◌∷◌, ◌++◌, drop, Option, ℤ, pos, sym, ap, ◌∙◌, append_assoc, arith, length, length-drop, ◌⊎◌, inl, inr}
use Rattle.std.proofs.lemmas.List.{append-nil, drop-drop, get_or-drop}
use Rattle.balances.proofs.Numbers.{numbers_at}
use Rattle.balances.specs.Signed.{at_person, credit, debt}
use Rattle.balances.specs.View.{cents_of, numbers_of, people_of, sides_of}
use Rattle.balances.specs.declared.sheet.Balances.{Balances}
use Rattle.std.specs.declared.ops.Range.{Range}
use Rattle.text.specs.Sides.{balances_said, side, side_line, sides_said}
use Rattle.text.specs.declared.side.Side.{Side}

module _ (b : Balances) (begun : List ℕ) where
  -- the lines of the people so far are written, and the numbers of the others are left
  abbrev pub SaidSoFar : Range ℕ → List ℤ → List ℕ → Type 0
  SaidSoFar left numbers text = (text ≡ begun ++ sides_said (sides_of b) left.start)
      × (numbers ≡ drop left.start (numbers_of b)) × (left.start ≤ people_of b) × (left.end ≡ people_of b)

  -- the number that comes next is that of the next person
  next_number : (n : ℕ) (x : ℤ) (xs : List ℤ) → x ∷ xs ≡ drop n (numbers_of b) → cents_of b n ≡ x
  next_number n x xs e =
      let here : n + 0 ≡ n = omega arith in
      let there = get_or-drop n (numbers_of b) 0 (pos 0) in
      let same : at_person (drop n (numbers_of b)) 0 ≡ at_person (numbers_of b) n = rw here at there in
      sym (numbers_at b n) ∙ sym same ∙ sym (ap (λ l. at_person l 0) e)

  -- the line of the next person
  pub next_said : (s t : Range ℕ) (x : ℤ) (xs xs' : List ℤ) (text text' : List ℕ) (i : ℕ) (r : Option Side) → SaidSoFar s xs text →
      (t.end ≡ s.end) × ((0 < s.end - s.start) × (i ≡ s.start) × (t.start ≡ s.start + 1)) → xs ≡ x ∷ xs' → r ≡ side i (debt x) (credit x) →
      text' ≡ text ++ side_line r → SaidSoFar t xs' text'
  unfolding sides_said
  next_said s t x xs xs' text text' i r so-far step e answer line =
      let left = sym e ∙ so-far.1 in
      let number = next_number s.start x xs' left in
      let next : t.start ≡ suc s.start = omega (arith, step.1.2) in (
        rw (line, answer, step.1.1, next, so-far.0, number) (append_assoc begun _ _),
        rw step.1.2 (ap (drop 1) left ∙ drop-drop 1 s.start (numbers_of b)),
        omega (arith, step.1.0, step.1.2, so-far.3),
        step.0 ∙ so-far.3,
      )

  -- before the first
  pub none_said : (s : Range ℕ) (xs : List ℤ) (n : ℕ) → s ≡ record { start = 0; end = n } → n ≡ people_of b → xs ≡ numbers_of b → SaidSoFar s xs begun
  unfolding sides_said
  none_said s xs n is all numbers =
      let first = ap (λ (r : Range ℕ). r.start) is in
      let past = ap (λ (r : Range ℕ). r.end) is in
      (rw first (sym (append-nil begun)), rw first numbers, omega (arith, first), past ∙ all)

  -- after the last, where no person or no number is left
  pub all_said : (s : Range ℕ) (xs : List ℤ) (text : List ℕ) → length (numbers_of b) ≡ people_of b → SaidSoFar s xs text →
      (s.end - s.start ≡ 0) ⊎ (length xs ≡ 0) → text ≡ begun ++ balances_said (sides_of b)
  all_said s xs text each so-far ended =
      let left : length xs ≡ people_of b - s.start = ap length so-far.1 ∙ omega (arith, each, length-drop s.start (numbers_of b)) in
      let last : s.start ≡ people_of b =
      elim ended [
        | inl none ↦ omega (arith, none, so-far.2, so-far.3)
        | inr none ↦ omega (arith, none, left, so-far.2)
      ] in
      rw last at so-far.0
