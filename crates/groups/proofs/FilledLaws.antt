-- A table that is written from its beginning on.
use Rattle.std.proofs.Common.{◌≡◌, ℕ, ◌+◌, ◌<◌, ◌≢◌, List, length, get_or, set, sym, ap, ◌∙◌, inl, inr, arith}
use Rattle.std.proofs.lemmas.List.{get_or-set_other, get_or-set_same}
use Rattle.std.proofs.lemmas.Bool.{cases_eq}
use Rattle.groups.specs.Filled.{Filled}

-- one entry more
pub filled_more : {A : Type 0} (g : ℕ → A) (i : ℕ) (old xs : List A) (v : A) → v ≡ g i → i < length xs → Filled g i old xs → Filled g (i + 1) old (set xs i v)
filled_more g i old xs v e room h =
    record {
      below = λ k d l. elim (cases_eq k i) [
        | inl q ↦ ap (λ j. get_or (set xs i v) j d) q ∙ get_or-set_same xs i v d room ∙ e ∙ ap g (sym q)
        | inr ne ↦ get_or-set_other xs i k v d ne ∙ h.below k d (omega arith)
      ];
      rest = λ k d l. let ne : k ≢ i = omega arith in get_or-set_other xs i k v d ne ∙ h.rest k d (omega arith);
    }
