-- Each refusal's number and place.
use Rattle.std.specs.Prelude.{ℕ}
use Rattle.book.specs.declared.refusal.Refusal.{Refusal}
use Rattle.book.specs.declared.refusal.Refusal.TheVariants.{AmountOutOfRange, CannotTakeBack, CrewSize, NoRoom, NoWeight, PaidToSelf}
use Rattle.book.specs.declared.refusal.Refusal.TheVariants.{TooManyLines, UnknownKind, UnknownPerson, WeightTooLarge, WrongLength}

abbrev pub code : Refusal → ℕ × ℕ
code CrewSize = (1, 0)
code UnknownKind = (2, 0)
code (WrongLength found) = (3, found)
code (UnknownPerson at) = (4, at)
code (AmountOutOfRange at) = (5, at)
code (WeightTooLarge at) = (6, at)
code NoWeight = (7, 6)
code PaidToSelf = (8, 2)
code CannotTakeBack = (9, 1)
code TooManyLines = (10, 0)
code NoRoom = (11, 0)
