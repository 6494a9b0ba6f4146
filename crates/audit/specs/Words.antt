-- Each verdict's words.
use Rattle.std.specs.Prelude.{ℕ, List, ◌++◌, codes, decimal}
use Rattle.audit.specs.declared.verdict.Verdict.{Verdict}
use Rattle.audit.specs.declared.verdict.Verdict.TheVariants.{FewestAndLeast, FewestOnly, LeastOnly, SettlesOnly, NotQuit}

abbrev pub verdict_said : Verdict → List ℕ
verdict_said FewestAndLeast = codes "fewest and least"
verdict_said FewestOnly = codes "fewest"
verdict_said LeastOnly = codes "least"
verdict_said SettlesOnly = codes "settles"
verdict_said (NotQuit i) = decimal i ++ codes " is not quit"
