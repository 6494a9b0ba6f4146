-- A settlement that reaches the bound by groups is best.
use Rattle.std.proofs.Common.{◌≡◌, ℕ, ◌+◌, ◌≤◌, List, length, arith}
use Rattle.shares.specs.Span.{span}
use Rattle.balances.specs.Even.{Balances, Even}
use Rattle.groups.specs.Groups.{Groups, still_open}
use Rattle.book.specs.Ledger.{Payment}
use Rattle.settlement.specs.Settle.{money, Settles, Best}
use Rattle.balances.specs.Signed.{signed}
use Rattle.settlement.specs.Paying.{settlement}
use Rattle.settlement.specs.Promise.{SetsBest}
use Rattle.settlement.proofs.Moved.{money_bound}
use Rattle.settlement.proofs.Fewest.{groups_bound}
use Rattle.settlement.proofs.Settled.{sets_settle}

-- a settlement that reaches the bound by groups and moves what is owed is best
pub best_from_groups : (b : Balances) (g : ℕ) → Even b → ((h : ℕ) → Groups b h → h ≤ g) →
    (ps : List Payment) → Settles b ps → length ps + g ≤ still_open b → money ps ≡ span b.owes b.people → Best b ps
best_from_groups b g e most ps s few moves = record {
  settles = s;
  fewest = λ qs t. omega (arith, groups_bound b g e most qs t);
  least = λ qs t. omega (arith, money_bound b qs t e);
}

-- the settlement by sets is best where no parting has more groups
pub sets_best : SetsBest
sets_best n f sets e h most =
    let d = sets_settle n f sets e h in
    best_from_groups (signed n f) (length sets) e most (settlement n sets f) d.0 d.1 d.2
