-- Groups that part the open people give a settlement.
use Rattle.std.proofs.Common.{◌≡◌, ℕ, suc, ◌+◌, ◌<◌, ◌≤◌, Bool, List, [], ◌∷◌, map, length, sym, refl, inl, inr, arith, length-append}
use lib.ListN.{length-map}
use Rattle.std.specs.List.{AllByRecursion}
use Rattle.std.proofs.ByRecursion.{All-append, All-get_or}
use Rattle.std.proofs.lemmas.Bool.{cases_lt}
use Rattle.shares.specs.Bill.{pick}
use Rattle.shares.specs.Span.{span}
use Rattle.balances.specs.Even.{Balances, Even}
use Rattle.groups.specs.Groups.{still_open}
use Rattle.groups.specs.SetsPart.{times, in_group, EvenGroup, SetsPart}
use Rattle.book.specs.Ledger.{Payment}
use Rattle.settlement.specs.Settle.{out, into, money, Settles}
use Rattle.balances.specs.Signed.{signed}
use Rattle.groups.specs.Sets.{is_in}
use Rattle.settlement.specs.Paying.{group_payments, all_payments, settlement}
use Rattle.settlement.specs.Promise.{SetsSettle}
use Rattle.shares.proofs.Spans.{span_add, span_same, span_zero, span_count}
use Rattle.settlement.proofs.Classes.{Among}
use Rattle.settlement.proofs.Paid.{one_open, paid, still}
use Rattle.settlement.proofs.Joined.{out_append, into_append, money_append}

times_zero : (ms : List (ℕ → Bool)) (i : ℕ) → times ms 0 i ≡ 0
unfolding times
times_zero [] i = refl
times_zero (m ∷ ms) i = grind (arith, times_zero ms i)

times_none : (ms : List (ℕ → Bool)) (x i : ℕ) → times ms 1 i ≡ 0 → times ms x i ≡ 0
unfolding times
times_none [] x i h = refl
times_none (m ∷ ms) x i h = grind (arith, times_none ms x i)

-- who is in one group counts once
times_once : (ms : List (ℕ → Bool)) (x i : ℕ) → times ms 1 i ≡ 1 → times ms x i ≡ x
unfolding times
times_once [] x i h = absurd (omega arith)
times_once (m ∷ ms) x i h = grind (arith, times_once ms x i, times_none ms x i)

-- payments of all groups
record PaidAll (b : Balances) (ms : List (ℕ → Bool)) (ps : List Payment) : Type 0 where
  there : Among b.people ps
  quits : (i : ℕ) → i < b.people → times ms (b.owes i) i + into ps i ≡ times ms (b.owed i) i + out ps i
  moves : money ps ≡ span (λ i. times ms (b.owes i) i) b.people
  few : length ps + length ms ≤ span (λ i. times ms (one_open b.owes b.owed i) i) b.people

paid_all : (b : Balances) → Even b → (ms : List (ℕ → Bool)) → AllByRecursion (EvenGroup b) ms → PaidAll b ms (all_payments b.people ms b.owes b.owed)
unfolding all_payments out into money times
paid_all b e [] h = record {
  there = tt;
  quits = λ i l. refl;
  moves = sym (span_zero (λ i. 0) b.people (λ i l. refl));
  few = omega arith;
}
paid_all b e (m ∷ ms) h =
    let n : ℕ = b.people in
    let open-ones : ℕ → ℕ = one_open b.owes b.owed in
    let ps : List Payment = group_payments n n m b.owes b.owed in
    let qs : List Payment = all_payments n ms b.owes b.owed in
    let short : in_group n m open-ones ≤ n = span_count (λ i. pick (m i) (open-ones i) 0) n (λ i l. grind arith) in
    let d = paid n m n b.owes b.owed e.one_side h.0.even short in
    let r = paid_all b e ms h.1 in
    let s = h.0.some in
    let more = still n m b.owes b.owed s.0 s.1 s.2 s.3 in
    record {
      there = All-append (λ p. (p.from < n) × (p.to < n)) ps qs d.there r.there;
      quits = λ i l. omega (arith, d.quits i l, r.quits i l, out_append ps qs i, into_append ps qs i);
      moves = omega (arith, d.moves, r.moves, money_append ps qs, span_add (λ i. pick (m i) (b.owes i) 0) (λ i. times ms (b.owes i) i) n);
      few =
          let one : suc (length ps) ≤ in_group n m open-ones = grind (arith, d.few) in
          omega (arith, r.few, length-append ps qs, span_add (λ i. pick (m i) (open-ones i) 0) (λ i. times ms (open-ones i) i) n);
    }

-- groups that part the open people: their payments settle, are so few, and move what is owed
pub parted_settles : (b : Balances) → Even b → (ms : List (ℕ → Bool)) → SetsPart b ms →
    let ps : List Payment = all_payments b.people ms b.owes b.owed in
    Settles b ps × (length ps + length ms ≤ still_open b) × (money ps ≡ span b.owes b.people)
unfolding still_open
parted_settles b e ms h =
    let n : ℕ = b.people in
    let d = paid_all b e ms h.each in
    let each : (f : ℕ → ℕ) → ((i : ℕ) → b.owes i + b.owed i ≡ 0 → f i ≡ 0) → (i : ℕ) → i < n → times ms (f i) i ≡ f i =
    λ f z i l. elim (cases_lt 0 (b.owes i + b.owed i)) [
      | inl x ↦ times_once ms (f i) i (h.once i l x)
      | inr x ↦ let y : f i ≡ 0 = z i (omega arith) in rw y (times_zero ms i)
    ] in
    let ow : (i : ℕ) → i < n → times ms (b.owes i) i ≡ b.owes i = each b.owes (λ i z. omega arith) in
    let od : (i : ℕ) → i < n → times ms (b.owed i) i ≡ b.owed i = each b.owed (λ i z. omega arith) in
    let open-ones : ℕ → ℕ = one_open b.owes b.owed in
    let oo : (i : ℕ) → i < n → times ms (open-ones i) i ≡ open-ones i = each open-ones (λ i z. grind arith) in (
      record {
        among_them = λ k p l. All-get_or (λ p. (p.from < n) × (p.to < n)) (all_payments n ms b.owes b.owed) k p l d.there;
        quits = λ i l. omega (arith, d.quits i l, ow i l, od i l);
      },
      omega (arith, d.few, span_same (λ i. times ms (one_open b.owes b.owed i) i) (one_open b.owes b.owed) n oo),
      omega (arith, d.moves, span_same (λ i. times ms (b.owes i) i) b.owes n ow),
    )

-- the settlement by sets is that of the groups of which they are the people
pub sets_settle : SetsSettle
unfolding settlement
sets_settle n f sets e h =
    let d = parted_settles (signed n f) e (map is_in sets) h in
    (d.0, omega (arith, d.1, length-map sets is_in), d.2)
