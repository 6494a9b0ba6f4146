-- What all people gave is what they had, so balances come out even.
use Rattle.std.proofs.Common.{◌≡◌, ℕ, suc, ◌<◌, Bool, true, false, List, [], ◌∷◌, sym, refl, ◌∙◌, arith}
use Rattle.shares.specs.Bill.{Bill, pick}
use Rattle.shares.specs.Span.{span}
use Rattle.shares.specs.Promise.{SoundBill}
use Rattle.shares.proofs.Spans.{span_zero, span_add, span_at, span_excess}
use Rattle.shares.proofs.Persons.{shares_add}
use Rattle.book.specs.Ledger.{Line, Payment, bill, paid, taken_back, Sound, none, a_bill, a_payment, a_return}
use Rattle.balances.specs.Given.{gave, had, standing, given, gotten}
use Rattle.balances.specs.Promise.{ComesEven}

-- all that n people gave by a line, and all that they had by it
abbrev all_gave : ℕ → Line → ℕ
all_gave n l = span (λ i. gave i l) n

abbrev all_had : ℕ → Line → ℕ
all_had n l = span (λ i. had i l) n

span_pick : (t : Bool) (f : ℕ → ℕ) (n : ℕ) → span (λ i. pick t 0 (f i)) n ≡ pick t 0 (span f n)
span_pick true f n = span_zero (λ i. 0) n (λ i below. refl)
span_pick false f n = refl

-- a sum over people of what stands is what stands of the sums
span_standing :
    (f : ℕ → Line → ℕ) (n k : ℕ) (ls : List Line) → span (λ i. standing (f i) k ls) n ≡ standing (λ l. span (λ i. f i l) n) k ls
unfolding standing
span_standing f n k [] = span_zero (λ i. 0) n (λ i below. refl)
span_standing f n k (l ∷ ls) =
    let both = span_add (λ i. pick (taken_back k ls) 0 (f i l)) (λ i. standing (f i) (suc k) ls) n in
    let here = span_pick (taken_back k ls) (λ i. f i l) n in
    let rest = span_standing f n (suc k) ls in
    omega arith

-- by a bill in order, and by a payment between people who are there, people gave what people had
bill_even : (n : ℕ) (b : Bill) → SoundBill n b → all_gave n (bill b) ≡ all_had n (bill b)
unfolding gave had
bill_even n b sound = span_at b.payer b.amount n sound.payer ∙ sym (shares_add n b sound)

payment_even : (n : ℕ) (p : Payment) → p.from < n → p.to < n → all_gave n (paid p) ≡ all_had n (paid p)
unfolding gave had
payment_even n p from to = span_at p.from p.amount n from ∙ sym (span_at p.to p.amount n to)

lines_even : {n : ℕ} {ls : List Line} (k : ℕ) → Sound n ls → standing (all_gave n) k ls ≡ standing (all_had n) k ls
unfolding standing gave had
lines_even k none = refl
lines_even {n} k (a_bill {b} sound s) = let here = bill_even n b sound in let rest = lines_even (suc k) s in cc
lines_even {n} k (a_payment {p} from to s) = let here = payment_even n p from to in let rest = lines_even (suc k) s in cc
lines_even k (a_return s) = let rest = lines_even (suc k) s in cc

-- over a book in order all people gave what all people had
pub span_given_gotten : {n : ℕ} {ls : List Line} (k : ℕ) → Sound n ls → span (λ i. given i k ls) n ≡ span (λ i. gotten i k ls) n
span_given_gotten {n} {ls} k s = span_standing gave n k ls ∙ lines_even k s ∙ sym (span_standing had n k ls)

pub comes_even : ComesEven
comes_even n book sound =
    record {
      one_side = λ i l some. omega arith;
      sum = span_excess (λ i. gotten i 0 book) (λ i. given i 0 book) n (sym (span_given_gotten 0 sound));
    }
