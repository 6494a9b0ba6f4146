-- Every book in order has a best settlement, and the one by the fixed groups is best.
use Rattle.std.proofs.Common.{◌≡◌, ℕ, ◌≤◌, List, length, ℤ, None, ap, ◌∙◌}
use Rattle.balances.proofs.Evens.{comes_even}
use Rattle.balances.proofs.Holds.{sides_even}
use Rattle.balances.specs.Promise.{balances}
use Rattle.balances.specs.View.{cents_of, people_of, sides_of}
use Rattle.balances.specs.declared.sheet.Balances.{Balances}
use Rattle.book.specs.Ledger.{Payment}
use Rattle.groups.proofs.GreatestGroups.{greatest_groups}
use Rattle.groups.proofs.PartedSets.{groups_part, groups_most}
use Rattle.groups.specs.Fixed.{fixed_groups}
use Rattle.groups.specs.Shorts.{too_short}
use Rattle.groups.specs.Tables.{Written}
use Rattle.groups.specs.Theorems.{greatest}
use Rattle.settlement.proofs.Best.{best_from_groups, sets_best}
use Rattle.settlement.proofs.Few.{at_most_sixteen}
use Rattle.settlement.proofs.Numbered.{groups_settle}
use Rattle.settlement.specs.Amounts.{settled_by}
use Rattle.settlement.specs.Promise.{Settled}
use Rattle.settlement.specs.Settled.{SettledBy}

pub settled : Settled
settled n book sound =
    let b = balances n book in
    let even = comes_even n book sound in
    let most = greatest_groups b even in
    let s = groups_settle b (greatest b) even most.1 in
    (s.0, best_from_groups b (greatest b) even most.0 s.0 s.1 s.2 s.3)

-- the payments of sets that are the fixed groups: they are few, and settle best
module _ (b : Balances) (sets : List ℕ) (fixed : sets ≡ fixed_groups (cents_of b) (people_of b)) where
  pub fixed_few : length (settled_by b sets) ≤ 16
  fixed_few = rw fixed (at_most_sixteen b (fixed_groups (cents_of b) (people_of b)) (groups_part b))

  pub fixed_settle : (ps : List Payment) → ps ≡ settled_by b sets →
      (old-sums sums : List ℤ) (old-counts counts : List ℕ) → too_short (people_of b) old-sums old-counts ≡ None →
      Written (cents_of b) (people_of b) old-sums sums old-counts counts →
      SettledBy (people_of b) (cents_of b) (sides_of b) old-sums sums old-counts counts ps
  fixed_settle ps paid old-sums sums old-counts counts room written =
      let ts = fixed_groups (cents_of b) (people_of b) in
      let exact = paid ∙ ap (settled_by b) fixed in
      record {
        room = room;
        written = written;
        exact = exact;
        best = rw exact (sets_best (people_of b) (cents_of b) ts (sides_even b) (groups_part b) (groups_most b));
      }
