-- A line taken back leaves what each person gave and had as without it.
use Rattle.std.proofs.Common.{◌≡◌, ℕ, length, refl}
use Rattle.book.specs.Ledger.{takes_back}
use Rattle.balances.specs.Given.{gave, had}
use Rattle.balances.specs.Promise.{TakenBack}
use Rattle.balances.proofs.Standing.{standing_without}

-- a line that takes another back moves no money itself
pub gave_return : (i k : ℕ) → gave i (takes_back k) ≡ 0
unfolding gave
gave_return i k = refl

pub had_return : (i k : ℕ) → had i (takes_back k) ≡ 0
unfolding had
had_return i k = refl

pub taken_back_law : TakenBack
taken_back_law n xs ys l i line quiet = (
  standing_without (gave i) xs ys l (gave_return i (length xs)) line quiet,
  standing_without (had i) xs ys l (had_return i (length xs)) line quiet,
)
