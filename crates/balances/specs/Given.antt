-- What each person has laid out and has had over the lines that stand, and what it owes or is owed.
use Rattle.std.specs.Prelude.{ℕ, suc, ◌+◌, ◌-◌, List, [], ◌∷◌, ◌==◌}
use Rattle.shares.specs.Bill.{pick, share}
use Rattle.book.specs.Ledger.{Line, bill, paid, takes_back, taken_back}

-- what person i has laid out by a line
unfoldable pub gave : ℕ → Line → ℕ
gave i (bill b) = pick (b.payer == i) b.amount 0
gave i (paid p) = pick (p.from == i) p.amount 0
gave i (takes_back k) = 0

-- what person i has had by a line
unfoldable pub had : ℕ → Line → ℕ
had i (bill b) = share b i
had i (paid p) = pick (p.to == i) p.amount 0
had i (takes_back k) = 0

-- f of each line that stands, that no later one takes back, all together; the lines are numbered from n
unfoldable pub standing : (Line → ℕ) → ℕ → List Line → ℕ
standing f n [] = 0
standing f n (l ∷ ls) = pick (taken_back n ls) 0 (f l) + standing f (suc n) ls

-- what person i has laid out over the lines that stand
abbrev pub given : ℕ → ℕ → List Line → ℕ
given i n ls = standing (gave i) n ls

-- what person i has had over the lines that stand
abbrev pub gotten : ℕ → ℕ → List Line → ℕ
gotten i n ls = standing (had i) n ls

-- who has had more than it gave owes the rest
abbrev pub owes : List Line → ℕ → ℕ
owes book i = gotten i 0 book - given i 0 book

-- who has given more than it had is owed the rest
abbrev pub is_owed : List Line → ℕ → ℕ
is_owed book i = given i 0 book - gotten i 0 book
