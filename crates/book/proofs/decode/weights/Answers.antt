use Rattle.std.proofs.Common.{◌≡◌, ℕ, get_or, [], rules}
use Rattle.std.proofs.lemmas.List.FromFn.{fill_by_all}
use Rattle.book.proofs.Made.{made_each}
use Rattle.book.proofs.decode.weights.Goals as goal
use Rattle.book.specs.Layout.{two_bytes, weights_in}

pub returns : goal.returns
unfolding weights_in
returns c =
    let made = c.from_fn.ensures.items in
    let weight : ℕ → ℕ = λ k. two_bytes (get_or c.args.pairs.now k []) 0 in
    let each = made_each (λ k w. w ≡ weight k) (λ k w q called. (search rules, search rules)) made in
    fill_by_all weight c.from_fn.result 16 0 made.long (λ k l. each k 0 l)
