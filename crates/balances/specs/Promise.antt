-- What holds of the balances of every book in order.
use Rattle.std.specs.Prelude.{◌≡◌, ℕ, ◌<◌, List, [], ◌∷◌, ◌++◌, length, ◌≢◌, slice_index_or}
use Rattle.book.specs.Ledger.{Line, takes_back, Sound}
use Rattle.balances.specs.Given.{given, gotten, owes, is_owed}
use Rattle.balances.specs.Even.{Balances, Even}

-- the balances of n people by a book
abbrev pub balances : ℕ → List Line → Balances
balances n book = record { people = n; owes = owes book; owed = is_owed book }

-- balances come out even
abbrev pub ComesEven : Type 0
ComesEven = (n : ℕ) (book : List Line) → Sound n book → Even (balances n book)

-- a line taken back leaves what each gave and had as without it, where it and the lines after it take nothing back themselves
abbrev pub TakenBack : Type 0
TakenBack =
    (n : ℕ) (xs ys : List Line) (l : Line) (i : ℕ) → ((j : ℕ) → l ≢ takes_back j) →
    ((k j : ℕ) (d : Line) → k < length ys → slice_index_or ys k d ≢ takes_back j) →
    (given i 0 (xs ++ l ∷ ys ++ (takes_back (length xs) ∷ [])) ≡ given i 0 (xs ++ ys)) ×
    (gotten i 0 (xs ++ l ∷ ys ++ (takes_back (length xs) ∷ [])) ≡ gotten i 0 (xs ++ ys))
