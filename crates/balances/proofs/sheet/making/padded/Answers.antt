-- The numbers are written over the first of sixteen zeros.
use Rattle.std.proofs.Common.{◌≡◌, List, ◌++◌, length, drop, replicate, ℤ, pos, Ok, ap, arith}
use Rattle.std.proofs.lemmas.Bool.{le-ltb}
use Rattle.std.proofs.lemmas.List.{drop-replicate}
use Rattle.balances.specs.Faults.{padded}
use Rattle.balances.proofs.sheet.making.padded.Goals as goal

written : (xs ys : List ℤ) → ys ≡ xs → ys ++ drop (length xs) (replicate 16 (pos 0)) ≡ padded xs
written xs ys is = rw (is, drop-replicate)

pub returns : goal.returns
returns c =
    let xs = c.args.cents.now in
    rw (le-ltb 16 (length xs) (omega arith)) (ap Ok (written xs _ c.copy_from_slice.ensures.after))
