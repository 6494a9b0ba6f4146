-- What the count means: so many disjoint groups of open people inside a set, each of which comes out even.
use Rattle.std.specs.Prelude.{◌≡◌, ℕ, ◌<◌, true, ℤ, pos, ◌≢◌, nat_eq}
use Rattle.groups.specs.Sets.{is_in}
use Rattle.balances.specs.Signed.{span_z}
use Rattle.groups.specs.Signs.{only}

-- person i is in the group of number `group i` if that is below g, and else in none
pub record Parted (f : ℕ → ℤ) (n s g : ℕ) : Type 0 where
  pub group : ℕ → ℕ
  pub among : (i : ℕ) → group i < g → i < n
  pub inside : (i : ℕ) → group i < g → is_in s i ≡ true
  pub «open» : (i : ℕ) → group i < g → f i ≢ pos 0
  pub some : (j : ℕ) → j < g → (i : ℕ) × (group i ≡ j)
  pub even : (j : ℕ) → j < g → span_z (only (λ i. nat_eq (group i) j) f) n ≡ pos 0
