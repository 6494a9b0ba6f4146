-- What is proved of groups, over any number of people.
use Rattle.std.specs.Prelude.{◌≡◌, ℕ, ◌^◌, ◌<◌, ◌≤◌, map, length, ℤ, pos}
use Rattle.balances.specs.Even.{Balances, Even}
use Rattle.groups.specs.Counts.{count}
use Rattle.groups.specs.Fixed.{Parts, fixed_groups}
use Rattle.groups.specs.Groups.{Groups}
use Rattle.groups.specs.Parting.{Parted}
use Rattle.groups.specs.Sets.{everyone, is_in}
use Rattle.groups.specs.SetsPart.{SetsPart}
use Rattle.balances.specs.Signed.{signed}
use Rattle.groups.specs.Signs.{difference, sum_of}

-- no family of groups inside a set has more than the set's count, and there is one that has so many
abbrev pub GreatestCount : Type 0
GreatestCount = (f : ℕ → ℤ) (n s : ℕ) → s < 2 ^ n → ((h : ℕ) → Parted f n s h → h ≤ count f n s) × Parted f n s (count f n s)

-- where the signed balances of n people sum to 0, the count of all people is the greatest number of groups
abbrev pub GreatestSigned : Type 0
GreatestSigned =
    (f : ℕ → ℤ) (n : ℕ) → sum_of f n (everyone n) ≡ pos 0 →
    ((h : ℕ) → Groups (signed n f) h → h ≤ count f n (everyone n)) × Groups (signed n f) (count f n (everyone n))

-- the greatest number of groups of balances
abbrev pub greatest : Balances → ℕ
greatest b = count (difference b) b.people (everyone b.people)

-- it is the greatest, of any balances that come out even
abbrev pub GreatestGroups : Type 0
GreatestGroups = (b : Balances) → Even b → ((h : ℕ) → Groups b h → h ≤ greatest b) × Groups b (greatest b)

-- the fixed groups part the open people, each comes out even and is not empty, and there are as many as can be
abbrev pub FixedGroups : Type 0
FixedGroups = (f : ℕ → ℤ) (n : ℕ) → sum_of f n (everyone n) ≡ pos 0 → Parts f n (everyone n) (fixed_groups f n)

-- as tests on people they part the open people of the balances, and no parting into groups has more
abbrev pub FixedPart : Type 0
FixedPart =
    (f : ℕ → ℤ) (n : ℕ) → sum_of f n (everyone n) ≡ pos 0 →
    SetsPart (signed n f) (map is_in (fixed_groups f n)) × ((h : ℕ) → Groups (signed n f) h → h ≤ length (fixed_groups f n))
