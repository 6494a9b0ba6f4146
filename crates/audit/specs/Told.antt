-- What reading payments tells: what they come to, or the first that is not in order.
use Rattle.std.specs.Prelude.{◌≡◌, ℕ, List, Some, None, Ok, Err, Result}
use Rattle.std.specs.Option.{option_map}
use Rattle.audit.specs.Bytes.{first_faulty, payments_of}
use Rattle.audit.specs.Running.{Tallied}
use Rattle.audit.specs.declared.tally.Tally.{Tally}
use Rattle.audit.specs.declared.unaudited.Unaudited.{Unaudited}
use Rattle.audit.specs.declared.unaudited.Unaudited.TheVariants.{Payment}

abbrev pub Told : ℕ → List (List ℕ) → Result Tally Unaudited → Type 0
Told n bss (Ok t) = (first_faulty n 0 bss ≡ None) × Tallied n (payments_of bss) t
Told n bss (Err e) = option_map Payment (first_faulty n 0 bss) ≡ Some e
