-- Laws of the lines of payments, and the payments that settle a book.
use Rattle.std.proofs.Common.{◌≡◌, ℕ, ◌^◌, ◌≤◌, List, length, vec_len, ℤ, None, ◌∙◌, subst, arith, pow_mono}
use Rattle.balances.specs.Promise.{balances}
use Rattle.balances.specs.Tally.{balance_of}
use Rattle.book.specs.Ledger as ledger
use Rattle.groups.specs.Shorts.{too_short}
use Rattle.settlement.specs.Settle.{Best}
use Rattle.settlement.specs.Settled.{SettledBy}
use Rattle.std.proofs.lemmas.Bool.Decides.{nat_tests}
use Rattle.text.specs.Payments.{Settled, payments}
use Rattle.text.specs.declared.tables.Tables.{Tables}

-- what `settle` gives is the payments by the definition here
pub settled_is : (n : ℕ) (ls : List ledger.Line) (old-sums sums : List ℤ) (old-counts counts : List ℕ) (ps : List ledger.Payment) →
    SettledBy n (balance_of ls) (balances n ls) old-sums sums old-counts counts ps → Settled n ls ps
unfolding payments
settled_is n ls old-sums sums old-counts counts ps s = record { exact = s.exact; best = subst (Best (balances n ls)) s.exact s.best }

-- the tables of all sets are never too short
pub never_short : (t : Tables) (n : ℕ) (sums : List ℤ) (counts : List ℕ) → n ≤ 16 → length sums ≡ vec_len t.sums → length counts ≡ vec_len t.counts →
    too_short n sums counts ≡ None
never_short t n sums counts few a b =
    let all-sums = a ∙ t.all_sums in
    let all-counts = b ∙ t.all_counts in
    let sets : 2 ^ n ≤ 2 ^ 16 = pow_mono few in
    grind (arith, nat_tests)
