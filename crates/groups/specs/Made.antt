-- What grouping people makes, and why it may not.
use Rattle.std.specs.Prelude.{◌≡◌, ℕ, List, ℤ, Some, None, Option}
use Rattle.groups.specs.Fixed.{fixed_groups}
use Rattle.groups.specs.Tables.{Written}
use Rattle.groups.specs.declared.short.Short as table
use Rattle.groups.specs.declared.ungrouped.Ungrouped.{Ungrouped}
use Rattle.groups.specs.declared.ungrouped.Ungrouped.TheVariants.{Memory, Short}

-- both tables written, and the groups
pub record Made (f : ℕ → ℤ) (n : ℕ) (old-sums sums : List ℤ) (old-counts counts ts : List ℕ) : Type 0 where
  pub written : Written f n old-sums sums old-counts counts
  pub groups : ts ≡ fixed_groups f n

-- a table is too short, or none is and there was no memory
abbrev pub Refused : Option table.Short → Ungrouped → Type 0
Refused short (Short s) = short ≡ Some s
Refused short Memory = short ≡ None
