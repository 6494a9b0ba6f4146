-- A settlement carried out leaves nothing open.
use Rattle.std.proofs.Common.{◌≡◌, ℕ, suc, ◌+◌, List, [], ◌∷◌, ◌++◌, refl, arith}
use Rattle.groups.specs.Groups.{still_open}
use Rattle.book.specs.Ledger.{Payment, Line, bill, paid, takes_back, taken_back}
use Rattle.settlement.specs.Settle.{out, into}
use Rattle.balances.specs.Given.{gave, had, standing, given, gotten}
use Rattle.settlement.specs.Written.{written}
use Rattle.settlement.specs.Promise.{CarriedOut}
use Rattle.shares.proofs.Spans.{span_zero}

-- payments take nothing back
written_keeps : (k : ℕ) (ls : List Line) (ps : List Payment) → taken_back k (ls ++ written ps) ≡ taken_back k ls
unfolding taken_back written
written_keeps k [] [] = refl
written_keeps k [] (p ∷ ps) = written_keeps k [] ps
written_keeps k (bill b ∷ ls) ps = written_keeps k ls ps
written_keeps k (paid p ∷ ls) ps = written_keeps k ls ps
written_keeps k (takes_back j ∷ ls) ps = rw (written_keeps k ls ps)

-- what payments add to a sum over the lines that stand, by what each of them adds
standing_written : (f : Line → ℕ) (g : List Payment → ℕ) → g [] ≡ 0 → ((p : Payment) (ps : List Payment) → g (p ∷ ps) ≡ f (paid p) + g ps) →
    (n : ℕ) (ls : List Line) (ps : List Payment) → standing f n (ls ++ written ps) ≡ standing f n ls + g ps
unfolding standing written taken_back
standing_written f g none more n [] [] = omega (arith, none)
standing_written f g none more n [] (p ∷ ps) = rw (written_keeps n [] ps) (omega (arith, more p ps, standing_written f g none more (suc n) [] ps))
standing_written f g none more n (l ∷ ls) ps = rw (written_keeps n ls ps) (omega (arith, standing_written f g none more (suc n) ls ps))

given_written : (i : ℕ) (ls : List Line) (ps : List Payment) → given i 0 (ls ++ written ps) ≡ given i 0 ls + out ps i
unfolding gave out
given_written i ls ps = standing_written (gave i) (λ qs. out qs i) refl (λ p qs. refl) 0 ls ps

gotten_written : (i : ℕ) (ls : List Line) (ps : List Payment) → gotten i 0 (ls ++ written ps) ≡ gotten i 0 ls + into ps i
unfolding had into
gotten_written i ls ps = standing_written (had i) (λ qs. into qs i) refl (λ p qs. refl) 0 ls ps

pub carried_out : CarriedOut
unfolding still_open
carried_out n book ps sound s =
    span_zero _ n (λ i l. grind (arith, s.quits i l, given_written i book ps, gotten_written i book ps))
