use Rattle.std.proofs.Common.{◌≡◌, ℕ, ◌-◌, ◌+◌, ◌*◌, List, length, drop, take, Some, sym, refl, ap, ◌∙◌, arith}
use Rattle.std.proofs.lemmas.Bool.{eq-eqb}
use Rattle.std.proofs.lemmas.List.{length-drop, take_all}
use Rattle.book.proofs.Weighing.{bill_by_values, weights_read}
use Rattle.book.proofs.decode.decode.Goals as goal
use Rattle.book.specs.Checks.{bill_of, checked_bill, decoded}
use Rattle.book.specs.Layout.{byte, four_bytes, kind_of, weights_of, weights_in}
use Rattle.book.specs.declared.kind.Kind.TheVariants.{Bill}

decoded_bill : (n : ℕ) (bs : List ℕ) → kind_of bs ≡ Some Bill → length bs ≡ 6 + 2 * n → bill_of n bs ≡ decoded n bs
unfolding decoded
decoded_bill n bs kind whole = let long = eq-eqb (length bs) (6 + 2 * n) whole in rw (kind, long) refl

-- the pairs after the amount are all that a whole bill has there
pub returns-in-Bill-len6-up : goal.returns-in-Bill-len6-up
returns-in-Bill-len6-up c =
    let bs = c.args.bytes.now in
    let n = c.args.people in
    let rest = take (length bs - 6) (drop 6 bs) in
    let all = take_all (length bs - 6) (drop 6 bs) (omega (arith, length-drop 6 bs)) in
    let whole : length bs ≡ 6 + 2 * n = omega (arith, c.from.ensures, ap length all, length-drop 6 bs) in
    let weights : c.weights.result ≡ weights_of n bs =
    c.weights.ensures ∙ ap weights_in c.as_chunks.ensures.front ∙ weights_read n bs rest c.requires all (omega (arith, c.from.ensures))
    in
    c.bill.ensures
    ∙ ap (λ a. checked_bill n (byte bs 1) a c.weights.result) c.from_le_bytes-cents.ensures
    ∙ ap (checked_bill n (byte bs 1) (four_bytes bs 2)) weights
    ∙ bill_by_values n bs ∙ decoded_bill n bs (sym c.in-Some.ensures ∙ ap Some c.in-Bill-len6-up.is-0) whole
