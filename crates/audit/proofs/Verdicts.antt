-- One verdict fits a list of payments, and it is the one that is given.
use Rattle.std.proofs.Common.{◌≡◌, ℕ, ◌+◌, ◌<◌, ◌≤◌, Bool, true, false, not, ◌⊎◌, List, length, Some, None, Decides, Option, refl, inl, inr, arith}
use Rattle.std.proofs.ByRecursion.{All-get_or, All-from_get_or}
use Rattle.std.proofs.lemmas.Bool.{cases_Bool, cases_lt, eqb-true, eqb-false, leb-true, le-leb, lt-ltb, le-ltb, not-true, not_from_false, false≢true}
use Rattle.std.proofs.lemmas.Bool.Decides.{not_from_Decides, same_from_decides}
use Rattle.balances.specs.Even.{Balances, Even}
use Rattle.groups.specs.Groups.{Groups, still_open}
use Rattle.book.specs.Ledger.{Payment}
use Rattle.settlement.specs.Paying.{first}
use Rattle.settlement.specs.Settle.{Settles}
use Rattle.settlement.proofs.Moved.{money_bound}
use Rattle.settlement.proofs.Fewest.{groups_bound}
use Rattle.settlement.proofs.Numbered.{groups_settle}
use Rattle.settlement.proofs.Firsts.{first_passes, first_least}
use Rattle.audit.specs.declared.verdict.Verdict.{Verdict}
use Rattle.audit.specs.declared.verdict.Verdict.TheVariants.{FewestAndLeast, FewestOnly, LeastOnly, SettlesOnly, NotQuit}
use Rattle.audit.specs.Judged.{first_unquit, graded, is_few, is_little, quit, verdict_of}
use Rattle.audit.specs.Promise.{BestJudged, JudgedFits, OnlyOne, SaysFewest, SaysLeast}
use Rattle.audit.specs.Verdict.{Among, Fewest, Fits, Least, Quit, Unquit, says_fewest, says_least}

-- what stands past the end of a list of payments
abbrev none : Payment
none = record { from = 0; to = 0; amount = 0 }

-- the payments of a settlement are among the people
pub among : (b : Balances) (ps : List Payment) → Settles b ps → Among b ps
among b ps s = All-from_get_or (λ p. (p.from < b.people) × (p.to < b.people)) ps none (λ k l. s.among_them k none l)

-- payments by which everybody is quit settle
all_quit : (b : Balances) (ps : List Payment) → Among b ps → ((i : ℕ) → i < b.people → Quit b ps i) → Settles b ps
all_quit b ps a q = record { among_them = λ k d l. All-get_or (λ p. (p.from < b.people) × (p.to < b.people)) ps k d l a; quits = q }

-- a settlement leaves nobody who is not quit
never_unquit : (b : Balances) (ps : List Payment) (i : ℕ) → Settles b ps → Unquit b ps i → ⊥
never_unquit b ps i s u = u.unquit (s.quits i u.there)

-- who is before the first who is not quit is quit
quit_before : (b : Balances) (ps : List Payment) (j : ℕ) → j < b.people → j < first (λ i. not (quit b ps i)) b.people → Quit b ps j
quit_before b ps j l h =
    elim (cases_Bool (quit b ps j)) [
      | inl e ↦ eqb-true _ _ e
      | inr e ↦ absurd (omega (arith, first_least (λ i. not (quit b ps i)) b.people j l (not_from_false (quit b ps j) e)))
    ]

-- somebody is the first who is not quit, or the payments settle
unquit_or_settles : (b : Balances) (ps : List Payment) → Among b ps →
    ((i : ℕ) × (first_unquit b ps ≡ Some i) × Unquit b ps i) ⊎ ((first_unquit b ps ≡ None) × Settles b ps)
unfolding first_unquit
unquit_or_settles b ps a =
    let n : ℕ = b.people in
    let i : ℕ = first (λ i. not (quit b ps i)) n in
    elim (cases_lt i n) [
      | inl l ↦ inl (
        i,
        (rw (lt-ltb i n l) refl),
        record {
          there = l;
          unquit = eqb-false _ _ (not-true (quit b ps i) (first_passes (λ i. not (quit b ps i)) n l));
          before = λ j h. quit_before b ps j (omega arith) h;
        },
      )
      | inr l ↦ inr ((rw (le-ltb i n l) refl), all_quit b ps a (λ j h. quit_before b ps j h (omega arith)))
    ]

module _ (b : Balances) (g : ℕ) (ps : List Payment) (e : Even b) (groups : Groups b g) (most : (h : ℕ) → Groups b h → h ≤ g) (s : Settles b ps) where
  -- the test on the number of payments decides whether they are the fewest
  pub few_decides : Decides (is_few b g ps) (Fewest b ps)
  few_decides = (
    (λ t. let few = leb-true (length ps + g) (still_open b) t in record { settles = s; fewest = λ qs q. omega (arith, groups_bound b g e most qs q) }),
    (λ f.
        let r = groups_settle b g e groups in
        le-leb (length ps + g) (still_open b) (omega (arith, r.2, f.fewest r.0 r.1))),
  )

  -- the test on the money decides whether it is the least
  pub little_decides : Decides (is_little b ps) (Least b ps)
  little_decides = (
    (λ t. let little = leb-true _ _ t in record { settles = s; least = λ qs q. omega (arith, money_bound b qs q e) }),
    (λ f.
        let r = groups_settle b g e groups in
        le-leb _ _ (omega (arith, r.3, f.least r.0 r.1))),
  )

-- tests that decide whether a settlement is the fewest and the least give a verdict that fits
graded_fits : (b : Balances) (ps : List Payment) (few little : Bool) → Settles b ps → Decides few (Fewest b ps) → Decides little (Least b ps) →
    Fits b ps (graded few little)
graded_fits b ps true true s f l = (f.0 refl, l.0 refl)
graded_fits b ps true false s f l = (f.0 refl, not_from_Decides false l refl)
graded_fits b ps false true s f l = (l.0 refl, not_from_Decides false f refl)
graded_fits b ps false false s f l = (s, not_from_Decides false f refl, not_from_Decides false l refl)

pub judged_fits : JudgedFits
judged_fits b g ps e groups most a =
    elim (unquit_or_settles b ps a) [
      | inl u ↦ rw u.1 u.2
      | inr s ↦ rw s.0 (graded_fits b ps (is_few b g ps) (is_little b ps) s.1
          (few_decides b g ps e groups most s.1) (little_decides b g ps e groups most s.1))
    ]

-- the person that a verdict names
abbrev named : Verdict → Option ℕ
named FewestAndLeast = None
named FewestOnly = None
named LeastOnly = None
named SettlesOnly = None
named (NotQuit i) = Some i

-- where nobody is named the payments settle, and else it is the first who is not quit
abbrev Names : Balances → List Payment → Option ℕ → Type 0
Names b ps (Some i) = Unquit b ps i
Names b ps None = Settles b ps

unquit_le : (b : Balances) (ps : List Payment) (i j : ℕ) → Unquit b ps i → Unquit b ps j → i ≤ j
unquit_le b ps i j u v =
    elim (cases_lt j i) [
      | inl l ↦ absurd (v.unquit (u.before j l))
      | inr l ↦ l
    ]

same_names : (b : Balances) (ps : List Payment) (o r : Option ℕ) → Names b ps o → Names b ps r → o ≡ r
same_names b ps (Some i) (Some j) u v = let e : i ≡ j = omega (arith, unquit_le b ps i j u v, unquit_le b ps j i v u) in rw e refl
same_names b ps (Some i) None u s = absurd (never_unquit b ps i s u)
same_names b ps None (Some i) s u = absurd (never_unquit b ps i s u)
same_names b ps None None s t = refl

names : (b : Balances) (ps : List Payment) (v : Verdict) → Fits b ps v → Names b ps (named v)
names b ps FewestAndLeast f = f.0.settles
names b ps FewestOnly f = f.0.settles
names b ps LeastOnly f = f.0.settles
names b ps SettlesOnly f = f.0
names b ps (NotQuit i) f = f

yes : {P : Type 0} → P → Decides true P
yes p = ((λ t. p), (λ x. refl))

no : {P : Type 0} → (P → ⊥) → Decides false P
no p = ((λ t. absurd (false≢true t)), (λ x. absurd (p x)))

pub says_fewest_right : SaysFewest
says_fewest_right b ps FewestAndLeast f = yes f.0
says_fewest_right b ps FewestOnly f = yes f.0
says_fewest_right b ps LeastOnly f = no f.1
says_fewest_right b ps SettlesOnly f = no f.1
says_fewest_right b ps (NotQuit i) f = no (λ x. never_unquit b ps i x.settles f)

pub says_least_right : SaysLeast
says_least_right b ps FewestAndLeast f = yes f.1
says_least_right b ps FewestOnly f = no f.1
says_least_right b ps LeastOnly f = yes f.0
says_least_right b ps SettlesOnly f = no f.2
says_least_right b ps (NotQuit i) f = no (λ x. never_unquit b ps i x.settles f)

-- a verdict is whom it names and what it says
told : (v : Verdict) → verdict_of (named v) (says_fewest v) (says_least v) ≡ v
told FewestAndLeast = refl
told FewestOnly = refl
told LeastOnly = refl
told SettlesOnly = refl
told (NotQuit i) = refl

pub only_one : OnlyOne
only_one b ps v w f h =
    let who = same_names b ps (named v) (named w) (names b ps v f) (names b ps w h) in
    let few = same_from_decides (says_fewest v) (says_fewest w) (says_fewest_right b ps v f) (says_fewest_right b ps w h) in
    let little = same_from_decides (says_least v) (says_least w) (says_least_right b ps v f) (says_least_right b ps w h) in
    cc (told v, told w)

pub best_judged : BestJudged
best_judged b ps v h f =
    only_one b ps v FewestAndLeast f (record { settles = h.settles; fewest = h.fewest }, record { settles = h.settles; least = h.least })
