-- Reading payments from their bytes, one after another.
use Rattle.std.proofs.Common.{◌≡◌, ℕ, ◌+◌, ◌^◌, ◌<◌, ◌≤◌, Bool, true, false, List, [], ◌∷◌, ◌++◌, length, get_or, take, ℤ, Some, refl, arith, length-take, Bor}
use Rattle.std.proofs.lemmas.List.{length-map, map-append, take_more}
use Rattle.std.proofs.lemmas.Bool.Decides.{nat_tests}
use Rattle.book.specs.Checks.{unless}
use Rattle.book.specs.Ledger.{Payment}
use Rattle.audit.specs.Bytes.{faulty, lent, payment_of, payments_of, said}
use Rattle.audit.specs.Running.{InOrder, Running, paid_in}
use Rattle.audit.proofs.Runs.{moved_le, running_push}

taken : (t : Bool) (x p : Payment) → Some p ≡ unless t x → (t ≡ false) × (p ≡ x)
taken true x p e = absurd cc
taken false x p e = (refl, cc)

-- a payment that says something says it in order, and is one of the first 1,024
read : (n k : ℕ) (bs : List ℕ) (p : Payment) → Some p ≡ said n k bs → (p ≡ payment_of bs) × (k < 1024) × InOrder n (payment_of bs)
read n k bs p e =
    let t = taken (faulty n k bs) (payment_of bs) p e in
    let none : faulty n k bs ≡ false = t.0 in (
      t.1,
      grind (arith, nat_tests),
      record {
        from_there = grind (arith, nat_tests);
        to_there = grind (arith, nat_tests);
        another = grind (arith, nat_tests);
        some = grind (arith, nat_tests);
        small = grind (arith, nat_tests);
      },
    )

module _ (n k : ℕ) (ps : List (Bor (List ℕ))) (d : Bor (List ℕ)) (l : k < length ps) where
  -- one payment more is read
  read_more : payments_of (lent (take (k + 1) ps)) ≡ payments_of (lent (take k ps)) ++ (payment_of (get_or ps k d).now ∷ [])
  unfolding payments_of
  read_more = rw (take_more ps k d l) (simp map-append)

  read_length : length (payments_of (lent (take k ps))) ≤ k
  unfolding payments_of
  read_length = simp length-map (omega (arith, length-take k ps))

  module _ (net : List ℤ) (moved : ℕ) (p : Payment) (r : Running n (payments_of (lent (take k ps))) net moved) (e : Some p ≡ said n k (get_or ps k d).now) where
    -- what is moved with it is within what 1,024 payments of the greatest amount move
    pub moved_room : moved + p.amount ≤ 2 ^ 58
    moved_room =
        let s = read n k (get_or ps k d).now p e in
        rw s.0 (omega (arith, s.1, s.2.small, read_length, moved_le n (payments_of (lent (take k ps))) net moved r))

    pub adds : n ≤ 16 → Running n (payments_of (lent (take (k + 1) ps))) (paid_in net p) (moved + p.amount)
    adds crew =
        let s = read n k (get_or ps k d).now p e in
        rw (read_more, s.0)
        (running_push n (payments_of (lent (take k ps))) net moved r (payment_of (get_or ps k d).now) crew (omega (arith, read_length, s.1)) s.2)
