-- The load of an offer's first word by which an operation that asks for the root finds it standing there is the operation's step; where it is settled, that is known for ever.
use Rattle.history.specs.declared.calls.Call.{Call}
use Rattle.std.proofs.Common.{◌≤◌, ◌≡◌, ◌≢◌, ◌*◌, ◌==◌, ℕ, Bool, true, false, Contains, set, slice_index, refl, sym, ap, subst, ◌∙◌, eqb-true, if◌then◌else◌, inr}
use Rattle.std.proofs.lemmas.Bool.{eqb-false}
use Rattle.std.proofs.lemmas.List.{set-get_or}
use mathlib.Core.Option.{some, none}
use lib.ListN.{get_elem?}
use Rattle.atomic_table.specs.Table.{Me, Allows, step}
use Rattle.atomic_table.specs.Table as Table
use Rattle.history.specs.declared.calls.Access.TheVariants.{Writable}
use Rattle.machine_model.specs.declared.operations.Operation.{Operation}
use Rattle.machine_model.specs.declared.roots.RootWord.TheVariants.{Offer}
use Rattle.machine_model.specs.Operations.{action_of}
use Rattle.machine_model.specs.States.{State, root_at}
use Rattle.lock_free.proofs.EpochStays.{rest_of}
use Rattle.lock_free.specs.declared.accounts.Account.{Account}
use Rattle.lock_free.specs.declared.accounts.Known.{Known}
use Rattle.lock_free.specs.declared.offers.Fate.TheVariants as became
use Rattle.lock_free.specs.declared.rules.View.{View}
use Rattle.lock_free.specs.declared.sizes.Sizes.{Sizes}
use Rattle.lock_free.specs.Accounts.{state_of}
use Rattle.lock_free.specs.Fates.{HasSettled, IsSettled, is_carried_out, is_taken_back}
use Rattle.lock_free.specs.HandleWords.{HasOffer}
use Rattle.lock_free.specs.Loading.{Moment, now, HasGone, HasSeen, IsSound}
use Rattle.lock_free.specs.Places.{words_of}
use Rattle.lock_free.specs.Roots.{fate, undecided, carried_out, taken_back, open_with}
use Rattle.lock_free.specs.RootWords.{AsksAt, HasFoundOffer, HasMetOffer, HasSeenFate, HasSeenSettled, MetAs, fate_by, has_met}
use Rattle.lock_free.specs.Shadows.{IsShadowed}
use Rattle.lock_free.specs.Rules.{IsKept}
use Rattle.lock_free.proofs.AbortStep.{known_there}
use Rattle.lock_free.proofs.Definition.{IsReading}
use Rattle.lock_free.proofs.Looking.{saw, went}
use Rattle.lock_free.proofs.Moments.{allowed, seen_view, seen_kept, waited_so, gone_view, gone_kept, gone_sound, gone_took}
use Rattle.lock_free.proofs.Stood.{stands_there}
use Rattle.lock_free.specs.Parting.{IsMet}

module _ (v : View) (handle : ℕ) (asks : AsksAt v handle) (word : ℕ) (s : Table.State Call View) (kept : IsKept v.sizes s) (id : ℕ) (at : get_elem? s.views id ≡ some v) where
  abbrev found : ℕ
  found = slice_index s.words word

  abbrev o : Operation
  o = asks.acts.operation

  reading : IsReading (action_of (now v) o)
  reading = subst IsReading (sym asks.acts.acts) tt

  abbrev Meets : Bool → View → Type 0
  Meets b w = IsKept v.sizes (record { words = s.words; homes = s.homes; views = set s.views id w }) × MetAs b v word found w × IsSound (words_of v.sizes) w × (rest_of w ≡ rest_of v)

  pub meets_as : (b : Bool) → (w : View) × Meets b w
  meets_as true = (
    gone_view v s kept id at o asks.acts.runs reading,
    (
      gone_kept v s kept id at o asks.acts.runs reading,
      (record { table = s; kept = kept; id = id; at = at; finds = refl }, refl, gone_took v s kept id at o asks.acts.runs reading),
      gone_sound v s kept id at o asks.acts.runs reading,
      refl,
    ),
  )
  meets_as false =
      (seen_view v s kept id at, (seen_kept v s kept id at, (record { table = s; kept = kept; id = id; at = at; finds = refl }, refl), (waited_so v s kept id at).sound, refl))

pub meet_allowed : (sizes : Sizes) (size id : ℕ) (me : Me Call View) (some_seats : 1 ≤ me.0.sizes.seats) (handle word : ℕ) → AsksAt me.0 handle →
    Allows (IsShadowed sizes) size id me word (λ n. n) (has_met (step size word 0 0 none) me)
meet_allowed sizes size id me some_seats handle word asks =
    allowed sizes size id me word (λ n. n) (has_met (step size word 0 0 none) me)
    some_seats (λ s kept at. inr refl)
    (λ s kept at. (let x = meets_as me.0 handle asks word s kept id at (slice_index s.words word == undecided) in (
      x.0,
      subst (λ ws. IsKept me.0.sizes (record { words = ws; homes = s.homes; views = set s.views id x.0 })) (sym (set-get_or s.words word 0)) x.1.0,
      (x.1.1, x.1.2, refl),
    )))
    (λ s kept at. (meets_as me.0 handle asks word s kept id at (slice_index s.words word == undecided)).1.3)

-- ---- what the seat is told

-- an offer that the seat knows in this slot is the one there
module _ (before : View) (name found : ℕ) (m : Moment before (2 * name) found) (k : Known) (c : IsMet before.account before.pin k) (in_it : k.slot ≡ name) where
  pub here : Contains m.kept.account.offers k
  here = known_there before m.table m.kept m.id m.at k c

  pub fate_found : fate m.table.words k ≡ found
  fate_found = ap (λ n. slice_index m.table.words (2 * n)) in_it ∙ m.finds

  pub its_handle : (handle : ℕ) → HasOffer before.sizes before.account before.pin handle name → k.handle ≡ handle
  its_handle handle h =
      let same : k ≡ h.its = m.kept.roots.single k h.its here (known_there before m.table m.kept m.id m.at h.its h.here) (in_it ∙ sym h.place) in ap (λ (x : Known). x.handle) same ∙ h.on

  pub settled_there : found ≢ undecided → HasSettled before.sizes m.kept.account k found
  settled_there decided =
      subst (HasSettled before.sizes m.kept.account k) fate_found ((m.kept.roots.fates k here).told (λ none. decided (sym fate_found ∙ none)))

carried_or_back : (n : ℕ) (before later : State) (k : Known) → n ≢ carried_out → IsSettled n k.offer before later → n ≡ taken_back
carried_or_back n before later k other (is_carried_out e h) = absurd (other e)
carried_or_back n before later k other (is_taken_back e h) = e

-- by a load that is no step

module _ (before : View) (name found : ℕ) (after : View) (h : HasSeen before (2 * name) found after) where
  found_standing : found ≡ undecided → HasSeenFate before name became.Undecided after
  found_standing e = (
    saw before name (2 * name) found after h,
    λ k c in_it. stands_there before.sizes h.0.table h.0.kept k (here before name found h.0 k c in_it) (fate_found before name found h.0 k c in_it ∙ e),
  )

  found_settled : (n : ℕ) → ((k : Known) (account : Account) → HasSettled before.sizes account k found → found ≡ n) → found ≢ undecided → HasSeenSettled before name n after
  found_settled n is decided = (
    saw before name (2 * name) found after h,
    λ k c in_it.
        (let x = settled_there before name found h.0 k c in_it decided in
        subst (HasSettled before.sizes h.0.kept.account k) (is k h.0.kept.account x) x),
  )

  pub settled_as : (one : Bool) → (found == undecided) ≡ false → (found == carried_out) ≡ one → HasSeenSettled before name (if one then carried_out else taken_back) after
  settled_as true e f = found_settled carried_out (λ k account x. eqb-true found carried_out f) (eqb-false found undecided e)
  settled_as false e f = found_settled taken_back (λ k account x. carried_or_back found _ _ k (eqb-false found carried_out f) x.settled) (eqb-false found undecided e)

  fate_seen : (none one : Bool) → (found == undecided) ≡ none → (found == carried_out) ≡ one → HasSeenFate before name
      (if none then became.Undecided else (if one then became.CarriedOut else became.TakenBack)) after
  fate_seen true one e f = found_standing (eqb-true found undecided e)
  fate_seen false true e f = settled_as true e f
  fate_seen false false e f = settled_as false e f

  pub fate_told : HasSeenFate before name (fate_by found) after
  fate_told = fate_seen (found == undecided) (found == carried_out) refl refl

-- by one that is, where it stands
module _ (before : View) (handle name found : ℕ) (knows : HasOffer before.sizes before.account before.pin handle name) (after : View) where
  abbrev word : ℕ
  word = 2 * name

  offer_found : found ≡ undecided → HasGone before word found after → HasFoundOffer before handle name after
  offer_found e g = record {
    went = went before name word found after g;
    is = λ k c in_it.
        (let on = its_handle before name found g.0 k c in_it handle knows in
        subst (λ h. root_at (state_of before.sizes g.0.kept.account) h ≡ open_with Writable (Offer k.offer)) on
        (stands_there before.sizes g.0.table g.0.kept k (here before name found g.0 k c in_it) (fate_found before name found g.0 k c in_it ∙ e)));
  }

  met_by : (none one : Bool) → (found == undecided) ≡ none → (found == carried_out) ≡ one → MetAs none before word found after → HasMetOffer before handle name
      (if none then became.Undecided else (if one then became.CarriedOut else became.TakenBack)) after
  met_by true one e f g = offer_found (eqb-true found undecided e) g
  met_by false true e f h = settled_as before name found after h true e f
  met_by false false e f h = settled_as before name found after h false e f

  pub meet_told : MetAs (found == undecided) before word found after → HasMetOffer before handle name (fate_by found) after
  meet_told h = met_by (found == undecided) (found == carried_out) refl refl h
