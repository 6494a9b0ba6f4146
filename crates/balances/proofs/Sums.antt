-- What the pass over a book ends with: balances of people who are there, which sum to 0.
use Rattle.std.proofs.Common.{◌≡◌, ℕ, suc, ◌+◌, ◌-◌, ◌≤◌, true, List, [], ◌∷◌, length, drop, replicate, ℤ, pos, sym, refl, ap, ◌∙◌, inl, inr, arith}
use Rattle.std.proofs.lemmas.List.{ext_get_or, get_or_past}
use Rattle.std.proofs.lemmas.Int.{ints}
use Rattle.std.proofs.lemmas.Bool.{cases_lt}
use Rattle.std.proofs.lemmas.Bool.Decides.{nat_tests}
use Rattle.std.proofs.lemmas.Grind.{common_steps}
use Rattle.shares.specs.Bill.{Bill, share}
use Rattle.shares.specs.Promise.{SoundBill}
use Rattle.shares.proofs.Persons.{share_past}
use Rattle.book.proofs.Lookup.{length_lines}
use Rattle.book.specs.Reading.{lines}
use Rattle.book.specs.declared.line.Entry.{Entry}
use Rattle.book.specs.Ledger.{Line, Sound, none, a_bill, a_payment, a_return}
use Rattle.balances.specs.Given.{gave, had, standing, given, gotten, owes, is_owed}
use Rattle.balances.specs.Promise.{balances}
use Rattle.balances.specs.Range.{most, all_near}
use Rattle.balances.specs.Signed.{at_person, credit, debt, signed, span_z}
use Rattle.balances.specs.Tally.{Bounded, balance_of}
use Rattle.balances.proofs.Evens.{span_given_gotten}
use Rattle.balances.proofs.Signs.{difference_sides}
use Rattle.balances.proofs.SpansZ.{span_z_less, span_z_pad, span_z_same}
use Rattle.balances.proofs.Standing.{standing_drop_all}
use Rattle.balances.proofs.Turns.{Running, rest_of}

-- nobody gave or had anything who is not there
bill_absent : (n i : ℕ) (b : Bill) → n ≤ i → SoundBill n b → share b i ≡ 0
bill_absent n i b l sound = share_past b i (omega (arith, sound.weights))

pub absent : {n : ℕ} {ls : List Line} (i k : ℕ) → n ≤ i → Sound n ls → (given i k ls ≡ 0) × (gotten i k ls ≡ 0)
unfolding standing gave had
absent i k l none = (refl, refl)
absent {n} i k l (a_bill {b} sound s) =
    let rest = absent i (suc k) l s in let past = bill_absent n i b l sound in let payer = sound.payer in (grind (arith, nat_tests), grind (arith, nat_tests))
absent i k l (a_payment from to s) = let rest = absent i (suc k) l s in (grind (arith, nat_tests), grind (arith, nat_tests))
absent i k l (a_return s) = let rest = absent i (suc k) l s in (grind (arith, nat_tests), grind (arith, nat_tests))

pub balance_absent : {n : ℕ} {ls : List Line} (i : ℕ) → n ≤ i → Sound n ls → balance_of ls i ≡ pos 0
balance_absent i l s = let both = absent i 0 l s in omega (arith, ints)

-- past the last line nothing moves
pub rest_none : (ls : List Line) (k i : ℕ) → length ls ≤ k → rest_of ls k i ≡ pos 0
rest_none ls k i l = omega (arith, ints, standing_drop_all (gave i) ls k l, standing_drop_all (had i) ls k l)

-- bounded numbers are in range
pub near_from : (xs : List ℤ) → Bounded most xs → all_near xs ≡ true
unfolding all_near
near_from [] small = refl
near_from (x ∷ xs) small = let here = small 0 in let rest = near_from xs (λ i. small (suc i)) in grind (arith, nat_tests)

-- numbers that are 0 from n on
pub zeros_from : (xs : List ℤ) (n m : ℕ) → length xs ≡ n + m → ((i : ℕ) → n ≤ i → at_person xs i ≡ pos 0) → drop n xs ≡ replicate m (pos 0)
zeros_from xs n m len nothing =
    ext_get_or (pos 0) (drop n xs) (replicate m (pos 0)) (grind (arith, common_steps))
    (λ i below. let none = nothing (n + i) in grind (arith, common_steps))

module _ (n : ℕ) (es : List Entry) (xs : List ℤ) (sound : Sound n (lines n es)) (few : n ≤ 16) (run : Running n es (length es) xs) where
  -- the numbers after the last line are the balances of everybody, there or not
  pub everybody : (i : ℕ) → at_person xs i ≡ balance_of (lines n es) i
  everybody i =
      elim (cases_lt i 16) [
        | inl below ↦ omega (arith, ints, run.2 i below, rest_none (lines n es) (length es) i (omega (arith, length_lines n es)))
        | inr above ↦ get_or_past xs i (pos 0) (omega (arith, run.0)) ∙ sym (balance_absent i (omega arith) sound)
      ]

  pub zero_absent : drop n xs ≡ replicate (16 - n) (pos 0)
  zero_absent = zeros_from xs n (16 - n) (omega (arith, run.0)) (λ i l. everybody i ∙ balance_absent i l sound)

  pub sums_even : span_z (at_person xs) 16 ≡ pos 0
  sums_even =
      let ls = lines n es in
      let same = span_z_same (at_person xs) (balance_of ls) 16 (λ i l. everybody i) in
      let padded = span_z_pad (balance_of ls) n 16 few (λ i l. balance_absent i l sound) in
      let parts = span_z_less (λ i. given i 0 ls) (λ i. gotten i 0 ls) n in
      omega (arith, ints, span_given_gotten 0 sound)

  pub all_in_range : length es ≤ 4096 → all_near xs ≡ true
  all_in_range short = near_from xs (λ i. omega (arith, run.1 i))

-- numbers that are the balances are balances of the book
pub sides_same : (n : ℕ) (ls : List Line) (f : ℕ → ℤ) → ((i : ℕ) → f i ≡ balance_of ls i) → signed n f ≡ balances n ls
sides_same n ls f each = λ t. record { people = n; owes = λ i. debts i t; owed = λ i. credits i t }
  where
    sides : (i : ℕ) → (debt (balance_of ls i) ≡ owes ls i) × (credit (balance_of ls i) ≡ is_owed ls i)
    sides i = difference_sides (given i 0 ls) (gotten i 0 ls)

    debts : (i : ℕ) → debt (f i) ≡ owes ls i
    debts i = ap debt (each i) ∙ (sides i).0

    credits : (i : ℕ) → credit (f i) ≡ is_owed ls i
    credits i = ap credit (each i) ∙ (sides i).1
