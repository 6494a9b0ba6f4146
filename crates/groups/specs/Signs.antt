-- Balances as signed numbers: below 0 a person owes, above 0 it is owed, at 0 it is even.
use Rattle.std.specs.Prelude.{◌≡◌, ℕ, ◌^◌, ◌≤◌, Bool, true, not, List, ℤ, pos, ◌-ℤ◌, ◌==◌, ◌≢◌, unsigned_abs}
use Rattle.shares.specs.Bill.{pick}
use Rattle.balances.specs.Even.{Balances}
use Rattle.groups.specs.Sets.{is_in, set_of}
use Rattle.balances.specs.Signed.{at_person, span_z}

-- every balance is small enough that any sixteen of them add up in 64 bits
abbrev pub Moderate : List ℤ → Type 0
Moderate zs = (i : ℕ) → unsigned_abs (at_person zs i) ≤ 2 ^ 48

-- neither owes nor is owed
unfoldable pub is_zero : ℤ → Bool
is_zero z = unsigned_abs z == 0

-- the signed balance of person i
abbrev pub difference : Balances → ℕ → ℤ
difference b i = pos (b.owed i) -ℤ pos (b.owes i)

-- the balances of those who pass a test, and 0 for the others
abbrev pub only : (ℕ → Bool) → (ℕ → ℤ) → ℕ → ℤ
only p f i = pick (p i) (f i) (pos 0)

-- the balances of the people of s, among n, together
unfoldable pub sum_of : (ℕ → ℤ) → ℕ → ℕ → ℤ
sum_of f n s = span_z (only (is_in s) f) n

-- those of n people who owe or are owed something
unfoldable pub open_of : (ℕ → ℤ) → ℕ → ℕ
open_of f n = set_of (λ i. not (is_zero (f i))) n

-- everybody in s is open
abbrev pub AllOpen : (ℕ → ℤ) → ℕ → Type 0
AllOpen f s = (i : ℕ) → is_in s i ≡ true → f i ≢ pos 0
