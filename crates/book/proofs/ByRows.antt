-- The decoder answers by the rows: what it refuses the first row that applies refuses, and what it passes no row before that of taking back does.
use Rattle.std.proofs.Common.{◌≡◌, ℕ, Bool, true, false, cond, not, eqb, List, length, replicate, Some, None, Ok, Err, Option, Result, refl, subst}
use Rattle.shares.specs.Bill.{total}
use Rattle.book.specs.Checks.{unless, asked, clear, first_at, stranger, out_of_range, too_heavy, heavy_at, of_kind, decoded}
use Rattle.book.specs.Codes.{code}
use Rattle.book.specs.Layout.{byte, four_bytes, kind_of, length_of, people_at, amounts_at, weights_at, weights_of}
use Rattle.book.specs.Rows.{told, at_place, no_kind, of_its_kind, weightless, to_oneself}
use Rattle.book.specs.declared.kind.Kind.{Kind}
use Rattle.book.specs.declared.kind.Kind.TheVariants as kind
use Rattle.book.specs.declared.line.Entry.{Entry}
use Rattle.book.specs.declared.line.Line.TheVariants.{Bill, Payment}
use Rattle.book.specs.declared.refusal.Refusal.{Refusal}
use Rattle.book.specs.declared.refusal.Refusal.TheVariants.{UnknownKind, WrongLength, UnknownPerson, AmountOutOfRange, WeightTooLarge, NoWeight, PaidToSelf}

-- what the rows tell where the checks answer so, and the rows after them tell `rest`
abbrev pub Agrees : Result Entry Refusal → Option (ℕ × ℕ) → Option (ℕ × ℕ) → Type 0
Agrees (Err e) x rest = x ≡ Some (code e)
Agrees (Ok e) x rest = x ≡ rest

bill_agrees : (s o : Bool) (heavy : Option ℕ) (w : Bool) (payer amount : ℕ) (ws : List ℕ) (rest : Option (ℕ × ℕ)) →
    Agrees
    (asked (unless s payer) (UnknownPerson 1)
    (λ p. asked (unless o amount) (AmountOutOfRange 2) (λ a. clear heavy WeightTooLarge (asked (unless w ws) NoWeight (λ v. Ok (record { line = Bill p a; weights = v }))))))
    (told 4 (cond s (Some 1) None) (told 5 (cond o (Some 2) None) (told 6 heavy (told 7 (at_place w 6) rest)))) rest
bill_agrees true o heavy w payer amount ws rest = refl
bill_agrees false true heavy w payer amount ws rest = refl
bill_agrees false false (Some i) w payer amount ws rest = refl
bill_agrees false false None true payer amount ws rest = refl
bill_agrees false false None false payer amount ws rest = refl

payment_agrees : (s t o same : Bool) (from to amount : ℕ) (rest : Option (ℕ × ℕ)) → eqb from to ≡ same →
    Agrees
    (asked (unless s from) (UnknownPerson 1)
    (λ p.
    asked (unless t to) (UnknownPerson 2)
    (λ q. asked (unless o amount) (AmountOutOfRange 3) (λ a. cond (eqb p q) (Err PaidToSelf) (Ok (record { line = Payment p q a; weights = replicate 16 0 }))))))
    (told 4 (cond s (Some 1) (cond t (Some 2) None)) (told 5 (cond o (Some 3) None) (told 8 (at_place (eqb from to) 2) rest))) rest
payment_agrees true t o same from to amount rest e = refl
payment_agrees false true o same from to amount rest e = refl
payment_agrees false false true same from to amount rest e = refl
payment_agrees false false false true from to amount rest e = rw e refl
payment_agrees false false false false from to amount rest e = rw e refl

pub agrees_err : (r : Result Entry Refusal) (x rest : Option (ℕ × ℕ)) (e : Refusal) → r ≡ Err e → Agrees r x rest → x ≡ Some (code e)
agrees_err r x rest e is = subst (λ s. Agrees s x rest) is

pub agrees_ok : (r : Result Entry Refusal) (x rest : Option (ℕ × ℕ)) (e : Entry) → r ≡ Ok e → Agrees r x rest → x ≡ rest
agrees_ok r x rest e is = subst (λ s. Agrees s x rest) is

-- the rows 2 to 8 of a line whose kind is ko, over what the rows after them tell
abbrev kind_rows : ℕ → List ℕ → Option Kind → Option (ℕ × ℕ) → Option (ℕ × ℕ)
kind_rows n bs ko rest =
    told 2 (no_kind ko)
    (told 3 (of_its_kind (λ k. at_place (not (eqb (length bs) (length_of n k))) (length bs)) ko)
    (told 4 (of_its_kind (λ k. first_at (stranger n bs) (people_at k)) ko)
    (told 5 (of_its_kind (λ k. first_at (out_of_range bs) (amounts_at k)) ko)
    (told 6 (of_its_kind (λ k. first_at (too_heavy bs) (weights_at n k)) ko)
    (told 7 (of_its_kind (weightless n bs) ko) (told 8 (of_its_kind (to_oneself bs) ko) rest))))))

of_kind_agrees : (n : ℕ) (bs : List ℕ) (k : Kind) (whole : Bool) → eqb (length bs) (length_of n k) ≡ whole → (rest : Option (ℕ × ℕ)) →
    Agrees (cond (eqb (length bs) (length_of n k)) (of_kind n bs k) (Err (WrongLength (length bs)))) (kind_rows n bs (Some k) rest) rest
of_kind_agrees n bs k false e rest = rw e refl
of_kind_agrees n bs kind.Bill true e rest =
    rw e (bill_agrees (stranger n bs 1) (out_of_range bs 2) (heavy_at n bs) (eqb (total (weights_of n bs)) 0) (byte bs 1) (four_bytes bs 2) (weights_of n bs) rest)
of_kind_agrees n bs kind.Payment true e rest =
    rw e (payment_agrees (stranger n bs 1) (stranger n bs 2) (out_of_range bs 3) (eqb (byte bs 1) (byte bs 2)) (byte bs 1) (byte bs 2) (four_bytes bs 3) rest refl)
of_kind_agrees n bs kind.TakeBack true e rest = rw e refl

kind_agrees : (n : ℕ) (bs : List ℕ) (ko : Option Kind) (rest : Option (ℕ × ℕ)) →
    Agrees (asked ko UnknownKind (λ k. cond (eqb (length bs) (length_of n k)) (of_kind n bs k) (Err (WrongLength (length bs))))) (kind_rows n bs ko rest) rest
kind_agrees n bs None rest = refl
kind_agrees n bs (Some k) rest = of_kind_agrees n bs k (eqb (length bs) (length_of n k)) refl rest

-- the rows 2 to 8 tell what the decoder answers
pub decoded_agrees : (n : ℕ) (bs : List ℕ) (rest : Option (ℕ × ℕ)) → Agrees (decoded n bs) (kind_rows n bs (kind_of bs) rest) rest
unfolding decoded
decoded_agrees n bs rest = kind_agrees n bs (kind_of bs) rest
