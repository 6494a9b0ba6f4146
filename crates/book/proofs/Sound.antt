-- A book in order is sound, as the theorems ask it, and its lines stand where no later line takes them back.
use Rattle.std.proofs.Common.{◌≡◌, ℕ, ◌<◌, ◌≤◌, true, ◌||◌, List, [], ◌∷◌, ◌++◌, length, take, refl, ap, ◌∙◌, arith}
use Rattle.shares.specs.Bill.{total, billed}
use Rattle.shares.specs.Promise.{SoundBill}
use Rattle.std.proofs.lemmas.List.{length-take-le}
use Rattle.std.proofs.lemmas.Bool.{and_parts}
use Rattle.std.proofs.lemmas.Bool.Decides.{nat_tests}
use Rattle.book.specs.Held.{takes, taken}
use Rattle.book.specs.Ledger as ledger
use Rattle.book.specs.Orderly.{follows, weighed, orderly_after}
use Rattle.book.specs.Reading.{read_line, lines}
use Rattle.book.specs.declared.line.Entry.{Entry}
use Rattle.book.specs.declared.line.Line.{Line}
use Rattle.book.specs.declared.line.Line.TheVariants.{Bill, Payment, TakeBack}

-- what a bill of a book in order is
pub weighed_bill : (n payer amount : ℕ) (ws : List ℕ) → n ≤ 16 → payer < n → weighed n ws ≡ true → SoundBill n (billed payer amount (take n ws))
unfolding weighed
weighed_bill n payer amount ws few there w =
    let long : length ws ≡ 16 = grind (arith, nat_tests) in
    let some : 0 < total (take n ws) = grind (arith, nat_tests) in
    record { payer = there; weights = length-take-le n ws (omega arith); some = some }

sound_line : (n : ℕ) (es : List Entry) (ws : List ℕ) (l : Line) (ls : List ledger.Line) → n ≤ 16 →
    follows n es ws l ≡ true → ledger.Sound n ls → ledger.Sound n (read_line n ws l ∷ ls)
sound_line n es ws (Bill payer amount) ls few f s =
    let there : payer < n = grind (arith, nat_tests) in
    let w : weighed n ws ≡ true = grind arith in
    ledger.a_bill (weighed_bill n payer amount ws few there w) s
sound_line n es ws (Payment from to amount) ls few f s = ledger.a_payment (grind (arith, nat_tests)) (grind (arith, nat_tests)) s
sound_line n es ws (TakeBack k) ls few f s = ledger.a_return s

pub orderly_sound : (n : ℕ) (before es : List Entry) → n ≤ 16 → orderly_after n before es ≡ true → ledger.Sound n (lines n es)
unfolding orderly_after lines
orderly_sound n before [] few h = ledger.none
orderly_sound n before (e ∷ es) few h =
    let parts = and_parts (follows n before e.weights e.line) (orderly_after n (before ++ (e ∷ [])) es) h in
    sound_line n before e.weights e.line (lines n es) few parts.0 (orderly_sound n (before ++ (e ∷ [])) es few parts.1)

-- taken back by one of these lines, read either way
read_taken_line : (n : ℕ) (ws : List ℕ) (l : Line) (ls : List ledger.Line) (k : ℕ) → ledger.taken_back k (read_line n ws l ∷ ls) ≡ (takes l k || ledger.taken_back k ls)
unfolding ledger.taken_back
read_taken_line n ws (Bill payer amount) ls k = grind arith
read_taken_line n ws (Payment from to amount) ls k = grind arith
read_taken_line n ws (TakeBack j) ls k = grind arith

pub read_taken : (n : ℕ) (es : List Entry) (k : ℕ) → ledger.taken_back k (lines n es) ≡ taken es k
unfolding lines ledger.taken_back
read_taken n [] k = refl
read_taken n (e ∷ es) k = read_taken_line n e.weights e.line (lines n es) k ∙ ap (λ t. takes e.line k || t) (read_taken n es k)
