-- Answers as the tables write them.
use Rattle.std.specs.Prelude.{ℕ, Ok, Err, Some, None, Option, Result}
use Rattle.book.specs.Codes.{code}
use Rattle.book.specs.declared.refusal.Refusal.{Refusal}
use Rattle.groups.specs.Shorts.{short_code}
use Rattle.groups.specs.declared.ungrouped.Ungrouped.{Ungrouped}
use Rattle.groups.specs.declared.ungrouped.Ungrouped.TheVariants.{Memory, Short}

-- the line's number, or the refusal's number and place
abbrev pub told : Result ℕ Refusal → Result ℕ (ℕ × ℕ)
told (Ok number) = Ok number
told (Err e) = Err (code e)

-- the number and place of a table that was too short, if one was
abbrev pub short_told : {A : Type 0} → Result A Ungrouped → Option (ℕ × ℕ)
short_told (Ok answer) = None
short_told (Err (Short short)) = Some (short_code short)
short_told (Err Memory) = None
