-- The auditor's answer to the payments that settle a book.
use Rattle.std.proofs.Common.{◌≡◌, ℕ, ◌≤◌, List, map, length, ℤ, None, Ok, Err, sym, ap, subst, arith}
use mathlib.Core.Path.{fun_ext}
use Rattle.std.specs.List.{AllByRecursion}
use Rattle.balances.proofs.Signs.{one_of}
use Rattle.balances.specs.Tally.{Counted, balance_of}
use Rattle.balances.specs.View.{cents_of, people_of}
use Rattle.balances.specs.declared.sheet.Balances.{Balances}
use Rattle.book.specs.Held.{Held}
use Rattle.book.specs.Ledger.{Payment}
use Rattle.groups.proofs.PartedSets.{groups_part}
use Rattle.groups.specs.Fixed.{fixed_groups}
use Rattle.groups.specs.Sets.{is_in}
use Rattle.groups.specs.Shorts.{too_short}
use Rattle.settlement.proofs.Few.{at_most_sixteen}
use Rattle.settlement.specs.Paying.{settlement}
use Rattle.settlement.specs.Settled.{book_lines}
use Rattle.audit.proofs.Encodings.{all_back, none_faulty}
use Rattle.audit.proofs.Owings.{debt_near}
use Rattle.audit.proofs.Settlements.{all_in_order}
use Rattle.audit.proofs.Verdicts.{best_judged}
use Rattle.audit.specs.Encoded.{all_encoded}
use Rattle.audit.specs.Promise.{SettledAudited}
use Rattle.audit.specs.Refused.{refusal}
use Rattle.audit.specs.Running.{InOrder}

-- few payments, all in order
abbrev Sent : ℕ → List Payment → Type 0
Sent n ps = AllByRecursion (InOrder n) ps × (length ps ≤ 16)

crew_sent : (b : Balances) → Sent (people_of b) (settlement (people_of b) (fixed_groups (cents_of b) (people_of b)) (cents_of b))
unfolding settlement
crew_sent b = (
  all_in_order (people_of b) (map is_in (fixed_groups (cents_of b) (people_of b))) _ _ (λ i l h. omega (arith, one_of (cents_of b i))) (debt_near b),
  at_most_sixteen b (fixed_groups (cents_of b) (people_of b)) (groups_part b),
)

book_sent : (h : Held) (b : Balances) → Counted h b →
    Sent h.people (settlement h.people (fixed_groups (balance_of (book_lines h)) h.people) (balance_of (book_lines h)))
book_sent h b counted =
    let numbers : cents_of b ≡ balance_of (book_lines h) = fun_ext counted.each in
    rw (← numbers, ← counted.people) (crew_sent b)

-- where both tables have room such payments are not refused
not_refused : (n : ℕ) (sums : List ℤ) (counts : List ℕ) (ps : List Payment) → too_short n sums counts ≡ None → Sent n ps →
    refusal n sums counts (all_encoded ps) ≡ None
not_refused n sums counts ps room sent = let none = none_faulty n 0 ps (omega arith) sent.0 in rw (room, none)

pub settled_audited : SettledAudited
settled_audited h b counted ps _ _ _ _ settled (Ok v) _ _ _ _ room a =
    let sent = subst (Sent h.people) (sym settled.exact) (book_sent h b counted) in
    ap Ok (best_judged _ ps v settled.best (rw (all_back h.people ps sent.0) at a.fits))
settled_audited h b counted ps _ _ _ _ settled (Err e) sums _ counts _ room a =
    let sent = subst (Sent h.people) (sym settled.exact) (book_sent h b counted) in
    let none = not_refused h.people sums counts ps room sent in
    let some = a.first in absurd cc
