use Rattle.std.proofs.Common.{◌≡◌, ℕ, List, All, replicate, sym, refl, subst}
use Rattle.std.proofs.lemmas.List.Elements.{All-replicate}
use Rattle.text.proofs.tables.Tables.new.Goals as goal

all_one : {X : Type 0} (n : ℕ) (x : X) (xs : List X) → xs ≡ replicate n x → All (λ y. y ≡ x) xs
all_one n x xs e = subst (All (λ y. y ≡ x)) (sym e) (All-replicate (λ y. y ≡ x) n x refl)

-- given, since a search that fails would work out every entry
pub invariant_of-result : goal.invariant_of-result
invariant_of-result c = record { all_sums = c.in_ok-sums.ensures.len; all_counts = c.in_ok-counts.ensures.len }

pub returns : goal.returns
returns c =
    (all_one 65536 _ _ (c.in_ok-sums.ensures.items_if_clones_equal (λ y e. e)), all_one 65536 _ _ (c.in_ok-counts.ensures.items_if_clones_equal (λ y e. e)))
