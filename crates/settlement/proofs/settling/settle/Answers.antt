-- What is settled of the balances of a book is settled of the book.
use Rattle.std.proofs.Common.{◌≡◌}
use mathlib.Core.Path.{fun_ext}
use Rattle.balances.specs.Tally.{balance_of}
use Rattle.balances.specs.View.{cents_of}
use Rattle.book.specs.View.{held}
use Rattle.settlement.proofs.settling.settle.Goals as goal
use Rattle.settlement.specs.Settled.{book_lines}

pub returns : goal.returns
returns c =
    let counted = c.of-balances.ensures in
    let numbers : cents_of c.of-balances.result ≡ balance_of (book_lines (held c.args.book.now)) = fun_ext counted.each in
    rw (counted.sides, numbers, counted.people) at c.settle_balances.ensures
