-- The words of a refusal.
use Rattle.std.specs.Prelude.{ℕ, List, ◌++◌, codes, decimal}

-- its number and its place
abbrev pub refused_at : ℕ × ℕ → List ℕ
refused_at code = codes "refused " ++ (decimal code.0 ++ (codes " at " ++ decimal code.1))
