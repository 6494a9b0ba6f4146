-- No settlement has fewer payments than open people less groups: the classes that its payments join are groups.
use Rattle.std.proofs.Common.{◌≡◌, ℕ, ◌+◌, ◌<◌, eqb, List, inl, inr, arith}
use Rattle.std.proofs.ByRecursion.{All-from_get_or}
use Rattle.std.proofs.lemmas.Bool.{cases_lt}
use Rattle.shares.specs.Bill.{pick}
use Rattle.shares.specs.Span.{span}
use Rattle.balances.specs.Even.{Balances}
use Rattle.groups.specs.Groups.{Groups, still_open}
use Rattle.book.specs.Ledger.{Payment}
use Rattle.settlement.specs.Settle.{out, into, Settles}
use Rattle.settlement.specs.Promise.{GroupsBound}
use Rattle.shares.proofs.Spans.{span_same, at_most_span, span_some}
use Rattle.settlement.proofs.Classes.{within, opened, classes, Among, inside, classes_below, within_add, class_even, classes_opened}
use Rattle.settlement.proofs.Ranks.{rank, rank_less, rank_same, ranked}

-- what stands past the end of a list of payments
abbrev none : Payment
none = record { from = 0; to = 0; amount = 0 }

-- classes numbered by how many open ones are before them, as groups
class_groups : (b : Balances) (ps : List Payment) → Settles b ps → Groups b (opened (classes ps) (λ i. b.owes i + b.owed i) b.people b.people)
class_groups b ps s = record { group = number; below = below; even = even; some = some }
  where
    n : ℕ
    n = b.people

    sums : ℕ → ℕ
    sums j = within (classes ps) (λ i. b.owes i + b.owed i) n j

    there : Among n ps
    there = All-from_get_or (λ p. (p.from < n) × (p.to < n)) ps none (λ k l. s.among_them k none l)

    number : ℕ → ℕ
    number i = rank sums (classes ps i)

    -- what a class owes it is owed
    balanced : (j : ℕ) → within (classes ps) b.owes n j ≡ within (classes ps) b.owed n j
    balanced j =
        let quit = span_same (λ i. pick (eqb (classes ps i) j) (b.owes i + into ps i) 0) (λ i. pick (eqb (classes ps i) j) (b.owed i + out ps i) 0) n
        (λ i l. rw (s.quits i l)) in
        let io = class_even n (classes ps) ps j (inside n ps there) in
        omega (arith, within_add (classes ps) b.owes (into ps) n j, within_add (classes ps) b.owed (out ps) n j)

    -- the class of an open person is open
    has : (i : ℕ) → i < n → 0 < b.owes i + b.owed i → 0 < sums (classes ps i)
    has i l h =
        let k = at_most_span (λ k. pick (eqb (classes ps k) (classes ps i)) (b.owes k + b.owed k) 0) n i l in
        grind arith

    below : (i : ℕ) → i < n → 0 < b.owes i + b.owed i → number i < opened (classes ps) (λ i. b.owes i + b.owed i) n n
    below i l h = rank_less sums (classes ps i) n (classes_below n ps there i l) (has i l h)

    -- a group's sum is that of its class
    group_sum : (w : ℕ → ℕ) (j k : ℕ) → ((i : ℕ) → i < n → 0 < w i → 0 < b.owes i + b.owed i) → 0 < sums j → rank sums j ≡ k →
        span (λ i. pick (eqb (number i) k) (w i) 0) n ≡ within (classes ps) w n j
    group_sum w j k some h e =
        span_same (λ i. pick (eqb (number i) k) (w i) 0) (λ i. pick (eqb (classes ps i) j) (w i) 0) n
        (λ i l. elim (cases_lt 0 (w i)) [
          | inl p ↦ let q = has i l (some i l p) in grind (arith, rank_same sums (classes ps i) j q h)
          | inr p ↦ grind arith
        ])

    even : (k : ℕ) → k < opened (classes ps) (λ i. b.owes i + b.owed i) n n →
        span (λ i. pick (eqb (number i) k) (b.owes i) 0) n ≡ span (λ i. pick (eqb (number i) k) (b.owed i) 0) n
    even k l =
        let r = ranked sums n k l in
        let x = group_sum b.owes r.0 k (λ i l p. omega arith) r.2 r.3 in
        let y = group_sum b.owed r.0 k (λ i l p. omega arith) r.2 r.3 in
        omega (arith, balanced r.0)

    some : (k : ℕ) → k < opened (classes ps) (λ i. b.owes i + b.owed i) n n → (i : ℕ) × (i < n) × (number i ≡ k) × (0 < b.owes i)
    some k l =
        let r = ranked sums n k l in
        let j : ℕ = r.0 in
        let h : 0 < within (classes ps) b.owes n j = omega (arith, balanced j, within_add (classes ps) b.owes b.owed n j, r.2) in
        let x = span_some (λ i. pick (eqb (classes ps i) j) (b.owes i) 0) n h in
        let e : classes ps x.0 ≡ j = grind (arith, x.2) in
        (x.0, x.1, (rw e r.3), grind (arith, x.2))

pub groups_bound : GroupsBound
unfolding still_open
groups_bound b g e most ps s =
    omega (arith, classes_opened (λ i. b.owes i + b.owed i) b.people ps, most _ (class_groups b ps s))
