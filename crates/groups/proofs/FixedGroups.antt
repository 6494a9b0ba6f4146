-- The fixed groups of all people part those who are open.
use Rattle.std.proofs.Common.{◌≡◌, ℕ, ◌^◌, Bool, not, ◌&&◌, List, [], ◌++◌, ℤ, pos, sym, ap, ◌∙◌, arith}
use Rattle.groups.proofs.ChosenLaws.{CountsIn}
use Rattle.groups.proofs.CountLaws.{counts_at}
use Rattle.groups.proofs.FixedLaws.{fixed_like, fixed_parts}
use Rattle.groups.proofs.OpenLaws.{open_all, open_below, open_count, open_in, open_sum}
use Rattle.groups.specs.Counts.{counts}
use Rattle.groups.specs.Fixed.{Parts, fixed_by, fixed_groups}
use Rattle.shares.specs.Bill.{pick}
use Rattle.groups.specs.Sets.{everyone, is_in}
use Rattle.groups.specs.Signs.{is_zero, open_of, sum_of}

twice_not : (a b : Bool) → ((a && not b) && not b) ≡ (a && not b)
twice_not a b = grind arith

pub fixed_groups_right : (f : ℕ → ℤ) (n : ℕ) → sum_of f n (everyone n) ≡ pos 0 → Parts f n (everyone n) (fixed_groups f n)
unfolding fixed_groups
fixed_groups_right f n total =
    let p = fixed_parts f n (counts f n (2 ^ n)) (counts_at f n (2 ^ n)) (open_of f n) (open_below f n) (open_sum f n ∙ total) (open_all f n) in
    record {
      once = λ i. p.once i ∙ ap (λ t. pick {A = ℕ} t 1 0) (ap (λ t. t && not (is_zero (f i))) (open_in f n i) ∙ twice_not (is_in (everyone n) i) (is_zero (f i)));
      some = p.some;
      even = p.even;
      as_many = p.as_many ∙ open_count f n;
    }

-- an empty list to which those of the open people were added, from any list that has the counts of all sets
pub fixed_all : (f : ℕ → ℤ) (n : ℕ) (cs : List ℕ) (s : ℕ) (old new : List ℕ) → CountsIn f n cs → old ≡ [] → s ≡ open_of f n →
    new ≡ old ++ fixed_by f n cs s → new ≡ fixed_groups f n
unfolding fixed_groups
fixed_all f n cs s old new have none e all =
    all
    ∙ ap (λ ts. ts ++ fixed_by f n cs s) none
    ∙ ap (fixed_by f n cs) e
    ∙ fixed_like f n cs (counts f n (2 ^ n)) (2 ^ n) (λ k l. have k l ∙ sym (counts_at f n (2 ^ n) k l)) (open_of f n) (open_below f n)
