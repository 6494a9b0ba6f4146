-- The people who are in no group, as a set: with them the greatest number of groups is reached.
use Rattle.std.proofs.Common.{◌≡◌, ℕ, suc, ◌+◌, ◌-◌, ◌^◌, ◌<◌, Bool, true, false, not, ◌&&◌, ltb, leb, ℤ, pos, ◌+ℤ◌, sym, ◌∙◌, arith}
use Rattle.std.proofs.lemmas.Int.{ints}
use Rattle.std.proofs.lemmas.Bool.{and_from, and_parts, and_right, le-leb, lt-leb, not_from_false, not_from_true}
use Rattle.std.proofs.lemmas.Bool.Decides.{nat_tests}
use Rattle.groups.proofs.Greatest.{at_most, reached}
use Rattle.groups.proofs.Partings.{gained, moved, outside}
use Rattle.groups.proofs.SetLaws.{in_below, in_part, minus_in, out_gone, out_less, out_sub, set_below, set_in}
use Rattle.groups.proofs.SumLaws.{groups_zero, sum_add}
use Rattle.groups.specs.Counts.{count}
use Rattle.groups.specs.Parting.{Parted}
use Rattle.shares.specs.Bill.{pick}
use Rattle.groups.specs.Sets.{is_in, is_part, set_of, without}
use Rattle.groups.specs.Signs.{sum_of, only}

left_at : (b : Bool) (x g : ℕ) (z : ℤ) → (x < g → b ≡ true) → pick b z (pos 0) ≡ pick (ltb x g) z (pos 0) +ℤ pick (b && leb g x) z (pos 0)
left_at b x g z ins = grind (arith, nat_tests, ints)

-- the people of s in no group
left_by : ℕ → ℕ → ℕ → (ℕ → ℕ) → ℕ
left_by n s g label = set_of (λ i. is_in s i && leb g (label i)) n

left_in : (n s g : ℕ) (label : ℕ → ℕ) (i : ℕ) → i < n → is_in (left_by n s g label) i ≡ (is_in s i && leb g (label i))
unfolding left_by
left_in n s g label i l = set_in (λ i. is_in s i && leb g (label i)) n i l

left_part : (n s g : ℕ) (label : ℕ → ℕ) → is_part (left_by n s g label) s ≡ true
unfolding left_by
left_part n s g label =
    in_part n (left_by n s g label) s (set_below (λ i. is_in s i && leb g (label i)) n)
    (λ i l e. (and_parts (is_in s i) (leb g (label i)) (sym (left_in n s g label i l) ∙ e)).0)

-- they sum to 0 where s does, and the groups are inside the rest
left_out_even : (f : ℕ → ℤ) (n s u g : ℕ) → (p : Parted f n u g) → ((i : ℕ) → is_in u i ≡ true → is_in s i ≡ true) →
    sum_of f n s ≡ pos 0 → sum_of f n (left_by n s g p.group) ≡ pos 0
unfolding sum_of
left_out_even f n s u g p sub total =
    let two = sum_add (only (is_in s) f) (only (λ i. ltb (p.group i) g) f) (only (is_in (left_by n s g p.group)) f) n
    (λ i l. rw (left_in n s g p.group i l) (left_at (is_in s i) (p.group i) g (f i) (λ m. sub i (p.inside i m)))) in
    omega (arith, ints, two, total, groups_zero f n g p.group p.even g (omega arith))

left_rest : (f : ℕ → ℤ) (n s u g : ℕ) → (p : Parted f n u g) → ((i : ℕ) → is_in u i ≡ true → is_in s i ≡ true) → Parted f n (s - left_by n s g p.group) g
left_rest f n s u g p sub =
    let t : ℕ = left_by n s g p.group in
    moved f n u (s - t) g p
    (λ i l.
    let out : is_in t i ≡ false = left_in n s g p.group i (p.among i l) ∙ and_right (is_in s i) (leb g (p.group i)) (lt-leb g (p.group i) l) in
    minus_in t s i (left_part n s g p.group) ∙ and_from (is_in s i) (not (is_in t i)) (sub i (p.inside i l)) (not_from_false (is_in t i) out))

-- the smallest person of a set that sums to 0 has a group with which the greatest number is reached
pub there_is : (f : ℕ → ℤ) (n s k : ℕ) → s < 2 ^ n → sum_of f n s ≡ pos 0 → is_in s k ≡ true → (f k ≡ pos 0 → ⊥) → count f n s ≡ count f n (without s k) + 1 →
    (t : ℕ) × (is_part t s ≡ true) × (is_in t k ≡ true) × (sum_of f n t ≡ pos 0) × (count f n (s - t) + 1 ≡ count f n s)
there_is f n s k small total kin ne e =
    let u : ℕ = without s k in
    let sub : (i : ℕ) → is_in u i ≡ true → is_in s i ≡ true = λ i. out_sub s k i kin in
    go (reached f n u (omega (arith, out_less s k kin))) sub
  where
    go : (p : Parted f n (without s k) (count f n (without s k))) → ((i : ℕ) → is_in (without s k) i ≡ true → is_in s i ≡ true) →
        (t : ℕ) × (is_part t s ≡ true) × (is_in t k ≡ true) × (sum_of f n t ≡ pos 0) × (count f n (s - t) + 1 ≡ count f n s)
    go p sub =
        let u : ℕ = without s k in
        let c : ℕ = count f n u in
        let t : ℕ = left_by n s c p.group in
        let part = left_part n s c p.group in
        let in-t : is_in t k ≡ true = left_in n s c p.group k (in_below n s k small kin)
        ∙ and_from (is_in s k) (leb c (p.group k)) kin (le-leb c (p.group k) (outside f n u c k p (out_gone s k kin))) in
        let r : ℕ = s - t in
        let below : r < 2 ^ n = omega arith in
        let less = at_most f n r below c (left_rest f n s u c p sub) in
        let more = at_most f n s small (suc (count f n r)) (gained f n s r k (count f n r) small total kin ne
        (λ i h. (and_parts (is_in s i) (not (is_in t i)) (sym (minus_in t s i part) ∙ h)).0)
        (minus_in t s k part ∙ and_right (is_in s k) (not (is_in t k)) (not_from_true (is_in t k) in-t))
        (reached f n r below)) in
        (t, part, in-t, left_out_even f n s u c p sub total, omega arith)
