-- Each number less its share fits, since it was bounded.
use Rattle.std.proofs.Common.{◌≡◌, ℕ, get_or, ℤ, pos, ◌-ℤ◌, refl, ◌∙◌, arith, rules}
use Rattle.std.proofs.lemmas.List.FromFn.{fill_by_all}
use Rattle.book.proofs.Made.{made_each}
use Rattle.balances.proofs.Writes.{difference_fits, minus64}
use Rattle.balances.specs.Signed.{at_person}
use Rattle.balances.specs.Tally.{less_shares}
use Rattle.balances.proofs.sheet.tally.take_shares.Goals as goal

pub returns : goal.returns
unfolding less_shares
returns c =
    let made = c.from_fn.ensures.items in
    let had : ℕ → ℤ = λ k. at_person c.args.cents.now k in
    let share : ℕ → ℕ = λ k. get_or c.args.shares.now k 0 in
    let fits : (k : ℕ) → minus64 (had k) (pos (share k)) ≡ had k -ℤ pos (share k) =
    λ k. difference_fits (had k) _ (share k) (omega (arith, c.requires k)) refl (c.fits-shares k) in
    let each = made_each (λ k y. y ≡ minus64 (had k) (pos (share k))) (λ k y q called. (search rules, search rules)) made in
    fill_by_all (λ k. had k -ℤ pos (share k)) c.from_fn.result 16 (pos 0) made.long (λ k l. each k (pos 0) l ∙ fits k)
