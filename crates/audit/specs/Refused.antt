-- Why payments are not audited: which refusal is given, and each one's number and place.
use Rattle.std.specs.Prelude.{ℕ, List, ℤ, Option}
use Rattle.std.specs.Option.{option_map, option_or}
use Rattle.groups.specs.Shorts.{short_code, too_short}
use Rattle.audit.specs.Bytes.{first_faulty}
use Rattle.audit.specs.declared.unaudited.Unaudited.{Unaudited}
use Rattle.audit.specs.declared.unaudited.Unaudited.TheVariants.{Short, Payment}

abbrev pub unaudited_code : Unaudited → ℕ × ℕ
unaudited_code (Short s) = short_code s
unaudited_code (Payment at) = (12, at)

-- the first, if there is one, and else the second
abbrev pub either_first : Option Unaudited → Option Unaudited → Option Unaudited
either_first = option_or

-- a table that is too short is told before a payment that is not in order
abbrev pub refusal : ℕ → List ℤ → List ℕ → List (List ℕ) → Option Unaudited
refusal n sums counts bss = either_first (option_map Short (too_short n sums counts)) (option_map Payment (first_faulty n 0 bss))
