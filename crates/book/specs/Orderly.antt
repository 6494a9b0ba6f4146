-- What holds of the lines of every book.
use Rattle.std.specs.Prelude.{ℕ, Bool, true, not, ◌&&◌, List, [], ◌∷◌, ◌++◌, length, take, drop, ◌==◌, nat_le, nat_lt}
use Rattle.shares.specs.Bill.{total}
use Rattle.book.specs.Held.{returnable}
use Rattle.book.specs.declared.line.Entry.{Entry}
use Rattle.book.specs.declared.line.Line.{Line}
use Rattle.book.specs.declared.line.Line.TheVariants.{Bill, Payment, TakeBack}

abbrev pub in_range : ℕ → Bool
in_range amount = nat_lt 0 amount && nat_le amount 1000000000

-- each weight is at most 1,000
abbrev pub light : List ℕ → Bool
light [] = true
light (w ∷ ws) = nat_le w 1000 && light ws

-- sixteen weights, of which only those of the n people may be above 0, and one is
unfoldable pub weighed : ℕ → List ℕ → Bool
weighed n ws = length ws == 16 && light ws && total (drop n ws) == 0 && nat_lt 0 (total (take n ws))

-- may this line follow those lines in a book for n people
abbrev pub follows : ℕ → List Entry → List ℕ → Line → Bool
follows n es ws (Bill payer amount) = nat_lt payer n && in_range amount && weighed n ws
follows n es ws (Payment from to amount) = nat_lt from n && nat_lt to n && in_range amount && not (from == to)
follows n es ws (TakeBack k) = returnable es k

-- may each line follow the ones before it
unfoldable pub orderly_after : ℕ → List Entry → List Entry → Bool
orderly_after n before [] = true
orderly_after n before (e ∷ es) = follows n before e.weights e.line && orderly_after n (before ++ (e ∷ [])) es

-- a book in order: from the first line on
abbrev pub orderly : ℕ → List Entry → Bool
orderly n es = orderly_after n [] es
