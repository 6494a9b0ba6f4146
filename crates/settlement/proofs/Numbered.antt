-- Groups by number as groups by tests.
use Rattle.std.proofs.Common.{◌≡◌, ℕ, zero, suc, ◌<◌, Bool, eqb, ltb, List, [], ◌∷◌, length, refl, arith}
use Rattle.std.specs.List.{AllByRecursion}
use Rattle.shares.specs.Bill.{pick}
use Rattle.groups.specs.SetsPart.{times, EvenGroup}
use Rattle.settlement.specs.Paying.{all_payments}
use Rattle.settlement.specs.Promise.{GroupsSettle}
use Rattle.settlement.proofs.Settled.{parted_settles}

-- groups by number as tests
numbered : (ℕ → ℕ) → ℕ → List (ℕ → Bool)
numbered group zero = []
numbered group (suc g) = (λ i. eqb (group i) g) ∷ numbered group g

numbered_length : (group : ℕ → ℕ) (g : ℕ) → length (numbered group g) ≡ g
unfolding numbered
numbered_length group zero = refl
numbered_length group (suc g) = omega (arith, numbered_length group g)

numbered_times : (group : ℕ → ℕ) (g i : ℕ) → times (numbered group g) 1 i ≡ pick (ltb (group i) g) 1 0
unfolding numbered times
numbered_times group zero i = grind arith
numbered_times group (suc g) i = grind (arith, numbered_times group g i)

numbered_each : (P : (ℕ → Bool) → Type 0) (group : ℕ → ℕ) (g : ℕ) → ((j : ℕ) → j < g → P (λ i. eqb (group i) j)) → AllByRecursion P (numbered group g)
unfolding numbered
numbered_each P group zero h = tt
numbered_each P group (suc g) h = (h g (omega arith), numbered_each P group g (λ j l. h j (omega arith)))

pub groups_settle : GroupsSettle
groups_settle b g e h =
    let ms : List (ℕ → Bool) = numbered h.group g in
    let d = parted_settles b e ms (record {
      once = λ i l x. grind (arith, numbered_times h.group g i, h.below i l x);
      each = numbered_each (EvenGroup b) h.group g (λ j l.
          let s = h.some j l in
          record { even = h.even j l; some = (s.0, s.1, grind (arith, s.2), omega (arith, s.3)) });
    }) in
    (all_payments b.people ms b.owes b.owed, d.0, omega (arith, d.1, numbered_length h.group g), d.2)
