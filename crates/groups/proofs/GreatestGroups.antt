-- The count of all people is the greatest number of groups of their balances.
use Rattle.std.proofs.Common.{◌≡◌, ℕ, ◌<◌, eqb, ◌⊎◌, ℤ, pos, sym, ◌∙◌, inl, inr, arith}
use Rattle.std.proofs.lemmas.Int.{ints}
use Rattle.std.proofs.lemmas.Bool.{cases_lt}
use Rattle.groups.proofs.FromGroups.{from_groups}
use Rattle.groups.proofs.Greatest.{at_most}
use Rattle.groups.proofs.OpenLaws.{everyone_sum}
use Rattle.groups.proofs.SetLaws.{everyone_below}
use Rattle.balances.proofs.Signs.{difference_sides}
use Rattle.balances.proofs.SpansZ.{span_z_less}
use Rattle.shares.proofs.Spans.{span_same}
use Rattle.groups.proofs.ToGroups.{groups_there}
use Rattle.balances.specs.Even.{Balances, Even}
use Rattle.groups.specs.Groups.{Groups}
use Rattle.shares.specs.Bill.{pick}
use Rattle.groups.specs.Sets.{everyone}
use Rattle.balances.specs.Signed.{credit, debt}
use Rattle.groups.specs.Signs.{difference, sum_of}
use Rattle.groups.specs.Theorems.{GreatestGroups, GreatestSigned}

pub greatest_signed : GreatestSigned
greatest_signed f n total =
    (λ h g. at_most f n (everyone n) (everyone_below n) h (from_groups f n h g), groups_there f n total)

-- groups depend on what people below n owe and are owed alone
like : (n h : ℕ) (o d o' d' : ℕ → ℕ) → ((i : ℕ) → i < n → o i ≡ o' i) → ((i : ℕ) → i < n → d i ≡ d' i) →
    Groups (record { people = n; owes = o; owed = d }) h → Groups (record { people = n; owes = o'; owed = d' }) h
like n h o d o' d' same-owes same-owed g =
    record {
      group = g.group;
      below = λ i l m. g.below i l (omega (arith, same-owes i l, same-owed i l));
      even = λ j l.
          sym (span_same (λ i. pick (eqb (g.group i) j) (o i) 0) (λ i. pick (eqb (g.group i) j) (o' i) 0) n (λ i m. rw (same-owes i m)))
          ∙ g.even j l
          ∙ span_same (λ i. pick (eqb (g.group i) j) (d i) 0) (λ i. pick (eqb (g.group i) j) (d' i) 0) n (λ i m. rw (same-owed i m));
      some = λ j l. let w = g.some j l in (w.0, w.1, w.2, omega (arith, same-owes w.0 w.1, w.3));
    }

-- who owes nothing or is owed nothing
one_side : (b : Balances) → Even b → (i : ℕ) → i < b.people → (b.owes i ≡ 0) ⊎ (b.owed i ≡ 0)
one_side b e i l = elim (cases_lt 0 (b.owes i)) [ inl o ↦ inr (e.one_side i l o) | inr o ↦ inl (omega arith) ]

-- balances are read back from their signed numbers
signed_owes : (b : Balances) → Even b → (i : ℕ) → i < b.people → debt (difference b i) ≡ b.owes i
signed_owes b e i l = omega (arith, one_side b e i l, difference_sides (b.owed i) (b.owes i))

signed_owed : (b : Balances) → Even b → (i : ℕ) → i < b.people → credit (difference b i) ≡ b.owed i
signed_owed b e i l = omega (arith, one_side b e i l, difference_sides (b.owed i) (b.owes i))

signed_total : (b : Balances) → Even b → sum_of (difference b) b.people (everyone b.people) ≡ pos 0
signed_total b e =
    everyone_sum (difference b) b.people ∙ span_z_less b.owed b.owes b.people ∙ omega (arith, ints, e.sum)

pub greatest_groups : GreatestGroups
greatest_groups b e =
    let n : ℕ = b.people in
    let f : ℕ → ℤ = difference b in
    let all = greatest_signed f n (signed_total b e) in (
      λ h g. all.0 h (like n h b.owes b.owed (λ i. debt (f i)) (λ i. credit (f i)) (λ i l. sym (signed_owes b e i l)) (λ i l. sym (signed_owed b e i l)) g),
      like n _ (λ i. debt (f i)) (λ i. credit (f i)) b.owes b.owed (signed_owes b e) (signed_owed b e) all.1,
    )
