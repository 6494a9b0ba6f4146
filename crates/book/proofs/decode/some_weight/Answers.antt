use Rattle.std.proofs.Common.{◌≡◌, ◌<◌, All, arith, rules}
use Rattle.std.specs.Bool.{MatchBool}
use Rattle.std.specs.List.{Any}
use Rattle.book.proofs.Weighing.{some_above}
use Rattle.book.proofs.decode.some_weight.Goals as goal

pub returns : goal.returns
returns c =
    let ws = c.args.weights in
    let some : MatchBool c.any.result (Any (λ w. 0 < w) ws) (All (λ w. w ≡ 0) ws) = search rules in
    let above = some_above c.any.result ws some in
    grind arith
