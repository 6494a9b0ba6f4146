-- The fixed groups as tests on people: they part the open people of balances, as many as can be.
use Rattle.std.proofs.Common.{◌≡◌, ℕ, zero, suc, ◌+◌, ◌^◌, ◌<◌, ◌≤◌, true, not, ◌&&◌, ltb, List, [], ◌∷◌, map, length, get_or, ℤ, pos, negsuc, ◌∙◌, arith}
use Rattle.std.proofs.ByRecursion.{All-from_get_or, All-map}
use Rattle.std.proofs.lemmas.Bool.{and_parts, lt-ltb, ltb-true}
use Rattle.std.proofs.lemmas.Bool.Decides.{nat_tests}
use Rattle.balances.proofs.Holds.{even_there}
use Rattle.balances.specs.Signed.{credit, debt, signed}
use Rattle.balances.specs.View.{cents_of, people_of, sides_of}
use Rattle.balances.specs.declared.sheet.Balances.{Balances}
use Rattle.groups.proofs.FixedGroups.{fixed_groups_right}
use Rattle.groups.proofs.GreatestGroups.{greatest_signed}
use Rattle.groups.proofs.OpenLaws.{everyone_sum}
use Rattle.groups.proofs.SetLaws.{everyone_below, everyone_in, in_below, smallest_in}
use Rattle.groups.proofs.Sides.{sides_even}
use Rattle.groups.specs.Fixed.{Parts, fixed_groups, holding}
use Rattle.groups.specs.Groups.{Groups}
use Rattle.groups.specs.Sets.{everyone, is_in, smallest}
use Rattle.groups.specs.SetsPart.{EvenGroup, SetsPart, times}
use Rattle.groups.specs.Signs.{is_zero, sum_of}
use Rattle.groups.specs.Theorems.{FixedPart}

-- somebody is open who owes or is owed
open_is : (z : ℤ) → ltb 0 (debt z + credit z) ≡ not (is_zero z)
unfolding is_zero
open_is (pos n) = grind (arith, nat_tests)
open_is (negsuc n) = grind (arith, nat_tests)

-- somebody in one of the sets is held
held_at : (ts : List ℕ) (k i : ℕ) → k < length ts → is_in (get_or ts k 0) i ≡ true → 0 < holding ts i
unfolding times
held_at [] k i l e = absurd (omega arith)
held_at (t ∷ ts) zero i l e = rw e (omega arith)
held_at (t ∷ ts) (suc k) i l e = omega (arith, held_at ts k i (omega arith) e)

below_pow : (n : ℕ) → n < 2 ^ n
below_pow zero = omega arith
below_pow (suc n) = omega (arith, below_pow n)

module _ (f : ℕ → ℤ) (n : ℕ) (ts : List ℕ) (p : Parts f n (everyone n) ts) where
  -- somebody who is held is there and open
  held_open : (i : ℕ) → 0 < holding ts i → (i < n) × (0 < debt (f i) + credit (f i))
  held_open i h =
      let both : (is_in (everyone n) i && not (is_zero (f i))) ≡ true = grind (arith, p.once i) in
      let parts = and_parts (is_in (everyone n) i) (not (is_zero (f i))) both in
      (in_below n (everyone n) i (everyone_below n) parts.0, ltb-true 0 (debt (f i) + credit (f i)) (open_is (f i) ∙ parts.1))

  even_group : (k : ℕ) → k < length ts → EvenGroup (signed n f) (is_in (get_or ts k 0))
  unfolding sum_of
  even_group k l =
      let t : ℕ = get_or ts k 0 in
      let i : ℕ = smallest t t in
      let kin : is_in t i ≡ true = smallest_in t t (p.some k l) (below_pow t) in
      let is = held_open i (held_at ts k i l kin) in
      record { even = sides_even (is_in t) f n (p.even k l); some = (i, is.0, kin, is.1) }

  parts_sets : SetsPart (signed n f) (map is_in ts)
  parts_sets =
      record {
        once = λ i l o. p.once i ∙ rw (everyone_in n i l, ← open_is (f i), lt-ltb 0 (debt (f i) + credit (f i)) o);
        each = All-map (EvenGroup (signed n f)) is_in ts (All-from_get_or (λ t. EvenGroup (signed n f) (is_in t)) ts 0 even_group);
      }

pub fixed_part : FixedPart
fixed_part f n total =
    let p = fixed_groups_right f n total in
    (parts_sets f n (fixed_groups f n) p, λ h g. omega (arith, (greatest_signed f n total).0 h g, p.as_many))

-- the same of a value `Balances`
module _ (b : Balances) where
  total : sum_of (cents_of b) (people_of b) (everyone (people_of b)) ≡ pos 0
  total = everyone_sum (cents_of b) (people_of b) ∙ even_there b

  -- its fixed groups part its open people
  pub groups_part : SetsPart (sides_of b) (map is_in (fixed_groups (cents_of b) (people_of b)))
  groups_part = (fixed_part (cents_of b) (people_of b) total).0

  -- and no parting into groups has more
  pub groups_most : (h : ℕ) → Groups (sides_of b) h → h ≤ length (fixed_groups (cents_of b) (people_of b))
  groups_most = (fixed_part (cents_of b) (people_of b) total).1
