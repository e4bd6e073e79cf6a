-- All seats of a map are brought together.
use Rattle.std.proofs.Common.{◌≡◌, ◌<◌, ◌≤◌, ℕ, get_or, map, List, [], ◌∷◌, ◌++◌, All, length, refl, sym, ap, subst, ◌∙◌, arith, append_assoc}
use Rattle.std.proofs.lemmas.List.Elements.{All-append, All-cons, All-nil, All-map}
use mathlib.Core.Option.{some}
use lib.ListN.{get_elem?}
use Rattle.atomic_table.specs.Table as Table
use Rattle.atomic_table.specs.Table.{Final, Seen}
use Rattle.history.specs.declared.calls.Call.{Call}
use Rattle.machine_model.specs.Machine.{AreBounds}
use Rattle.proof_linearizable.specs.Laws.{EveryOrderIsLegal}
use Rattle.lock_free.specs.declared.accounts.Account.{Account}
use Rattle.lock_free.specs.declared.rules.View.{View}
use Rattle.lock_free.specs.declared.sizes.Sizes.{Sizes}
use Rattle.lock_free.specs.Accounts.{bounds_for, HasWaited}
use Rattle.lock_free.specs.Finishing.{seen_by, unoffered, HasHeard, HasHeardMore, IsTold}
use Rattle.lock_free.specs.Rules.{first_account, IsKept, IsRuled}
use Rattle.lock_free.specs.Shadows.{IsShadowed, with_views}
use Rattle.lock_free.proofs.OneGlance.Shadowed.{its_shadow}
use Rattle.lock_free.proofs.AnswersTold.{never_told, others_say_nothing}
use Rattle.lock_free.proofs.Hearing.{still_heard}
use Rattle.lock_free.proofs.HistoriesOn.{histories_go_on}
use Rattle.lock_free.proofs.Waiting.{both_unoffered, waited_both, waited_unoffered}

pub none_rest : {X : Type 0} (rest : List X) (n : ℕ) → n ≡ length rest → n ≡ 0 → rest ≡ []
none_rest [] n is none = refl
none_rest (x ∷ rest) n is none = absurd (omega (arith, is, none))

pub moved_on : {X : Type 0} (all before rest later : List X) (x : X) → all ≡ before ++ rest → rest ≡ x ∷ later → all ≡ (before ++ x ∷ []) ++ later
moved_on all before rest later x is next = is ∙ ap (λ ys. before ++ ys) next ∙ sym (append_assoc before (x ∷ []) later)

-- who has heard of these all that who had heard of them had, and of one more
pub all_heard : {X : Type 0} (of : X → View) (v w : View) (xs : List X) (x : X) → All (λ o. HasHeard v (of o)) xs → HasHeardMore v w → HasHeard w (of x) → All (λ o. HasHeard w (of o)) (xs ++ x ∷ [])
all_heard of v w xs x all more one =
    All-append (λ o. HasHeard w (of o)) xs (x ∷ []) (λ k d low. still_heard v w _ more (all k d low))
    (All-cons (λ o. HasHeard w (of o)) x [] one (All-nil (λ o. HasHeard w (of o))))

-- ---- the end

-- all that the seat has seen has happened; its actor has taken no step since, and those after it never one
record Rests (sizes : Sizes) (account : Account) (w : View) : Type 0 where
  waited : HasWaited w.actor (unoffered w.account) account
  rested : (a : ℕ) → w.actor < a → a ≤ w.last → HasWaited a (first_account sizes) account

module _ (law : EveryOrderIsLegal) (sizes : Sizes) (s : Table.State Call View) (ruled : IsRuled sizes s) where
  abbrev kept : IsKept sizes s
  kept = ruled.kept

  bounds_of : (account : Account) → AreBounds (bounds_for sizes account.steps)
  bounds_of account = (omega arith, kept.range.some, kept.range.many)

  told_by : (views : List View) → All (λ w. Rests sizes kept.account w) views → IsTold sizes views
  told_by views rest = record {
    account = kept.account;
    explained = law (bounds_for sizes kept.account.steps) kept.account.steps kept.bounds kept.keys;
    told = λ k d low. histories_go_on sizes (get_or views k d).account kept.account (bounds_of (get_or views k d).account)
        ((rest k d low).waited.steps, (rest k d low).waited.goes_on);
    talks = λ k d low. others_say_nothing (get_or views k d).actor sizes (unoffered (get_or views k d).account) kept.account (bounds_of (get_or views k d).account) (rest k d low).waited;
    rested = λ k d low a above below. never_told a sizes kept.account (bounds_of (first_account sizes)) ((rest k d low).rested a above below);
  }

  module _ (id : ℕ) (v : View) (at : get_elem? s.views id ≡ some v) where
    last_rests : (w : View) → HasHeardMore w v → Rests sizes kept.account w
    last_rests w more =
        let seat = kept.seats id v at in
        record {
          waited = waited_unoffered w.actor w.account kept.account (subst (λ (x : View). HasWaited x.actor x.account kept.account) more.is seat.waited);
          rested = subst (λ (x : View). (a : ℕ) → x.actor < a → a ≤ x.last → HasWaited a (first_account sizes) kept.account) more.is seat.rested;
        }

    heard_rests : (w : View) → HasHeard v w → Rests sizes kept.account w
    heard_rests w h =
        let g = ruled.heard id v at (seen_by w (unoffered h.account)) h.it in
        let seat = kept.seats g.id g.view g.at in
        record {
          waited =
              waited_both w.actor (unoffered w.account) (unoffered h.account) kept.account (both_unoffered w.actor w.account h.account h.waited)
              (subst (λ n. HasWaited n (unoffered h.account) kept.account) g.actor (subst (λ x. HasWaited g.view.actor x kept.account) g.account seat.waited));
          rested = λ a above below. seat.rested a (subst (λ n. n < a) (sym g.actor) above) (subst (λ n. a ≤ n) (sym g.last) below);
        }

finished : EveryOrderIsLegal → (sizes : Sizes) (id : ℕ) (v : View) → 1 ≤ v.sizes.seats → (ws : List ℕ) (xs : List Call) → Final (Seen (IsShadowed sizes) id v) ws xs →
    {X : Type 0} (of : X → View) (others : List X) (last : X) →
    HasHeardMore (of last) v → All (λ o. HasHeard v (of o)) others → IsTold sizes (map of (others ++ last ∷ []))
finished law sizes id v some_seats ws xs (s, seen, words, homes, rest) of others last more all =
    let shadows = with_views s seen.0.shadows in
    let ruled = seen.0.ruled in
    let here = (its_shadow sizes s seen.0 id v seen.1 some_seats).0 in
    told_by law sizes shadows ruled (map of (others ++ last ∷ []))
    (All-map (λ w. Rests sizes ruled.kept.account w) of (others ++ last ∷ [])
    (All-append (λ o. Rests sizes ruled.kept.account (of o)) others (last ∷ []) (λ k d low. heard_rests law sizes shadows ruled id v here _ (all k d low))
    (All-cons (λ o. Rests sizes ruled.kept.account (of o)) last [] (last_rests law sizes shadows ruled id v here (of last) more) (All-nil (λ o. Rests sizes ruled.kept.account (of o))))))

finished_alone : EveryOrderIsLegal → (sizes : Sizes) (ws : List ℕ) (xs : List Call) → Final (IsShadowed sizes) ws xs → IsTold sizes []
finished_alone law sizes ws xs (s, h, words, homes, rest) = told_by law sizes (with_views s h.shadows) h.ruled [] (All-nil (λ w. Rests sizes h.ruled.kept.account w))

pub finished_all : {X : Type 0} (of : X → View) → EveryOrderIsLegal → (sizes : Sizes) (id : ℕ) (v : View) → 1 ≤ v.sizes.seats → (ws : List ℕ) (xs : List Call) →
    Final (Seen (IsShadowed sizes) id v) ws xs → (seats others : List X) (last : X) → seats ≡ others ++ last ∷ [] → HasHeardMore (of last) v → All (λ o. HasHeard v (of o)) others
    → IsTold sizes (map of seats)
finished_all of law sizes id v some_seats ws xs final seats others last is more all =
    subst (λ ss. IsTold sizes (map of ss)) (sym is) (finished law sizes id v some_seats ws xs final of others last more all)

pub finished_none : {X : Type 0} (of : X → View) → EveryOrderIsLegal → (sizes : Sizes) (ws : List ℕ) (xs : List Call) → Final (IsShadowed sizes) ws xs → (seats : List X) → seats ≡ [] →
    IsTold sizes (map of seats)
finished_none of law sizes ws xs final seats none = subst (λ ss. IsTold sizes (map of ss)) (sym none) (finished_alone law sizes ws xs final)
