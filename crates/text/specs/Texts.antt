-- Lines of text.
use Rattle.std.specs.Prelude.{ℕ, List, ◌++◌, codes}

-- each ends with a newline
abbrev pub as_line : List ℕ → List ℕ
as_line bs = bs ++ codes "\n"
