-- Laws of sums over the first n people.
use Rattle.std.proofs.Common.{◌≡◌, ℕ, zero, suc, ◌+◌, ◌*◌, ◌<◌, ◌≤◌, Bool, true, false, eqb, ltb, ℤ, pos, ◌+ℤ◌, nat_abs, refl, ◌∙◌, inl, inr, arith}
use Rattle.std.proofs.lemmas.Int.{ints}
use Rattle.std.proofs.lemmas.Bool.{cases_eq}
use Rattle.std.proofs.lemmas.Bool.Decides.{nat_tests}
use Rattle.shares.proofs.Spans.{span_add, span_same}
use Rattle.shares.specs.Bill.{pick}
use Rattle.shares.specs.Span.{span}
use Rattle.balances.proofs.SpansZ.{span_z_same, span_z_zero}
use Rattle.balances.specs.Signed.{span_z}
use Rattle.groups.proofs.SetLaws.{in_empty, out_gone, out_other}
use Rattle.groups.specs.Sets.{is_in, without}
use Rattle.groups.specs.Signs.{only, sum_of}

-- a sum over whole numbers in two parts
pub span_two : (g h k : ℕ → ℕ) (n : ℕ) → ((i : ℕ) → i < n → g i ≡ h i + k i) → span g n ≡ span h n + span k n
span_two g h k n two = span_same g (λ i. h i + k i) n two ∙ span_add h k n

-- a sum in two parts
pub sum_add : (g h k : ℕ → ℤ) (n : ℕ) → ((i : ℕ) → i < n → g i ≡ h i +ℤ k i) → span_z g n ≡ span_z h n +ℤ span_z k n
unfolding span_z
sum_add g h k zero two = refl
sum_add g h k (suc n) two = omega (arith, ints, sum_add g h k n (λ i l. two i (omega arith)), two n (omega arith))

pub pick_none : (t : Bool) → ◌≡◌ {A = ℤ} (pos 0) (pick t (pos 0) (pos 0))
pick_none true = refl
pick_none false = refl

-- a group's balances, and those of the groups before it
pub pick_split : (a k : ℕ) (x : ℤ) → pick (ltb a (suc k)) x (pos 0) ≡ pick (ltb a k) x (pos 0) +ℤ pick (eqb a k) x (pos 0)
pick_split a k x = grind (arith, ints, nat_tests)

-- the sums over the groups below k together, where each is 0
pub groups_zero : (f : ℕ → ℤ) (n g : ℕ) (label : ℕ → ℕ) → ((j : ℕ) → j < g → span_z (only (λ i. eqb (label i) j) f) n ≡ pos 0) →
    (k : ℕ) → k ≤ g → span_z (only (λ i. ltb (label i) k) f) n ≡ pos 0
groups_zero f n g label even zero h = span_z_zero (only (λ i. ltb (label i) 0) f) n (λ i l. grind (arith, nat_tests))
groups_zero f n g label even (suc k) h =
    let e = sum_add (only (λ i. ltb (label i) (suc k)) f) (only (λ i. ltb (label i) k) f) (only (λ i. eqb (label i) k) f) n
    (λ i l. pick_split (label i) k (f i)) in
    omega (arith, ints, groups_zero f n g label even k (omega arith), even k h)

-- a sum of n numbers of at most m is at most n times m
pub sum_bound : (g : ℕ → ℤ) (m n : ℕ) → ((i : ℕ) → nat_abs (g i) ≤ m) → nat_abs (span_z g n) ≤ n * m
unfolding span_z
sum_bound g m zero each = omega arith
sum_bound g m (suc n) each = omega (arith, ints, sum_bound g m n each, each n)

pub only_bound : (p : ℕ → Bool) (f : ℕ → ℤ) (m : ℕ) → ((i : ℕ) → nat_abs (f i) ≤ m) → (i : ℕ) → nat_abs (only p f i) ≤ m
only_bound p f m each i = let e = each i in grind arith

-- the sum over a set is at most n times as much as any balance
pub sum_of_bound : (f : ℕ → ℤ) (m n s : ℕ) → ((i : ℕ) → nat_abs (f i) ≤ m) → nat_abs (sum_of f n s) ≤ n * m
unfolding sum_of
sum_of_bound f m n s each = sum_bound (only (is_in s) f) m n (only_bound (is_in s) f m each)

-- nobody has nothing, and with somebody taken out the balance goes
pub sum_empty : (f : ℕ → ℤ) (n : ℕ) → sum_of f n 0 ≡ pos 0
unfolding sum_of
sum_empty f n = span_z_zero (only (is_in 0) f) n (λ i l. rw (in_empty i))

pub sum_out : (f : ℕ → ℤ) (n s i : ℕ) → i < n → is_in s i ≡ true → sum_of f n s ≡ f i +ℤ sum_of f n (without s i)
unfolding sum_of span_z
sum_out f zero s i h e = absurd (omega arith)
sum_out f (suc k) s i h e =
    elim (cases_eq k i) [
      | inl q ↦
          let here : pick (is_in s k) (f k) (pos 0) ≡ f i = rw (q, e) in
          let gone : pick (is_in (without s i) k) (f k) (pos 0) ≡ pos 0 = rw (q, out_gone s i e) in
          let same = span_z_same (only (is_in s) f) (only (is_in (without s i)) f) k (λ j l. rw (out_other s i j e (λ z. omega arith))) in
          omega (arith, ints, here, gone, same)
      | inr ne ↦
          let same : pick (is_in (without s i) k) (f k) (pos 0) ≡ pick (is_in s k) (f k) (pos 0) = rw (out_other s i k e ne) in
          omega (arith, ints, same, sum_out f k s i (omega arith) e)
    ]
