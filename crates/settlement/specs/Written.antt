-- A settlement that was carried out, as lines of the book.
use Rattle.std.specs.Prelude.{List, [], ◌∷◌}
use Rattle.book.specs.Ledger.{Payment, Line, paid}

unfoldable pub written : List Payment → List Line
written [] = []
written (p ∷ ps) = paid p ∷ written ps
