-- A book as lines, with no limit on people, lines or amounts: what the theorems on balances and settlements speak of.
use Rattle.std.specs.Prelude.{ℕ, ◌<◌, Bool, true, false, List, [], ◌∷◌, ◌==◌}
use Rattle.shares.specs.Bill.{pick, Bill}
use Rattle.shares.specs.Promise.{SoundBill}

-- money that went from one to another
pub record Payment : Type 0 where
  pub from : ℕ
  pub to : ℕ
  pub amount : ℕ

-- a line of the book: a bill, or a payment that was made, or a line that takes back the line of that number
pub data Line : Type 0 where
  bill : Bill → Line
  paid : Payment → Line
  takes_back : ℕ → Line

-- is line k taken back by one of these lines
unfoldable pub taken_back : ℕ → List Line → Bool
taken_back k [] = false
taken_back k (bill b ∷ ls) = taken_back k ls
taken_back k (paid p ∷ ls) = taken_back k ls
taken_back k (takes_back j ∷ ls) = pick (j == k) true (taken_back k ls)

-- a book in order for n people: payers and payees are there, and each bill has a weight for each person, not all of them 0
pub data Sound (n : ℕ) : List Line → Type 0 where
  none : Sound n []
  a_bill : {b : Bill} {ls : List Line} → SoundBill n b → Sound n ls → Sound n (bill b ∷ ls)
  a_payment : {p : Payment} {ls : List Line} → p.from < n → p.to < n → Sound n ls → Sound n (paid p ∷ ls)
  a_return : {k : ℕ} {ls : List Line} → Sound n ls → Sound n (takes_back k ∷ ls)
