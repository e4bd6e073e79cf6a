-- A seat goes on towards closing a handle: no word changes.
use Rattle.history.specs.declared.calls.Call.{Call}
use Rattle.std.proofs.Common.{◌≡◌, ◌≢◌, ◌+◌, ℕ, ◌<◌, inl, inr, true, List, ◌∷◌, eq-eqb, ne_eqb, if◌then◌else◌, set, slice_index, is_some, Option, Some, refl, sym, ap, subst, ◌∙◌, arith}
use Rattle.std.proofs.lemmas.Bool.{cases_eq}
use Rattle.std.proofs.lemmas.Option.{same_Some}
use mathlib.Core.Option.{some, some-injective}
use lib.ListN.{get_elem?}
use Rattle.atomic_table.specs.Table as Table
use Rattle.atomic_table.proofs.Lists.{at_set}
use Rattle.trie_words.specs.Codes.{pin_code}
use Rattle.trie_words.specs.declared.pins.Pin.{Pin}
use Rattle.machine_model.specs.declared.operations.Operation.{Operation}
use Rattle.machine_model.specs.Calls.{handle_of}
use Rattle.machine_model.specs.States.{State, operation_of, root_at, handle_limit}
use Rattle.lock_free.specs.declared.rules.Closing.{Closing}
use Rattle.lock_free.specs.declared.rules.Pinned.{Pinned}
use Rattle.lock_free.specs.declared.rules.View.{View}
use Rattle.lock_free.specs.declared.sizes.Sizes.{Sizes}
use Rattle.lock_free.specs.Accounts.{state_of}
use Rattle.lock_free.specs.Places.{pin_word, root_word}
use Rattle.lock_free.specs.Rules.{IsClosing, SaysClosing, IsSeat, IsKept, IsShown, latest, pin_word_of}
use Rattle.lock_free.proofs.Assembling.{all_stand, here, closing_at, numbers_stay, assembled}
use Rattle.lock_free.proofs.CellsStay.{cells_seen}
use Rattle.lock_free.proofs.Meanings.{no_tries}
use Rattle.lock_free.proofs.Seats.{ran_so, Stays, other_kept, names_kept, own_else}
use Rattle.lock_free.proofs.HeldStill.{held_views}

-- the word of a pin that is shown
pub shown_word : (p : Pinned) → p.shown ≡ true → pin_word_of (Some p) ≡ pin_code p.pin
shown_word p shown = ap (λ b. if b then pin_code p.pin else 0) shown

-- the mark that was made last, and the others
pub newest : (c : Closing) (marks : List Closing) → latest (c ∷ marks) c.handle ≡ Some c
newest c marks = ap (λ b. if b then Some c else latest marks c.handle) (eq-eqb c.handle c.handle refl)

pub older : (c : Closing) (marks : List Closing) (handle : ℕ) → c.handle ≢ handle → latest (c ∷ marks) handle ≡ latest marks handle
older c marks handle differs = ap (λ b. if b then Some c else latest marks handle) (ne_eqb c.handle handle differs)

module _ (sizes : Sizes) (s : Table.State Call View) (kept : IsKept sizes s) (id : ℕ) (v : View) (at : get_elem? s.views id ≡ some v) where
  abbrev now : State
  now = state_of sizes kept.account

  seat : IsSeat sizes kept.account kept.stands s.words v
  seat = kept.seats id v at

  -- what the seat has entered and would close then
  module _ (entered : Option ℕ) (closing : List Closing)
      (inside : (g : ℕ) → entered ≡ Some g → (g < handle_limit) × (is_some (root_at now g) ≡ true) × ((p : Pinned) × (v.pin ≡ Some p) × (p.pin.handle ≡ g)))
      (calls : (o : Operation) → operation_of now v.actor ≡ Some o → entered ≡ Some (handle_of o.call)) where
    abbrev pub view_then : View
    view_then = record v { entered = entered; closing = closing }

    stays : Stays sizes s kept id v at kept.account kept.stands s.words
    stays = record {
      waits = λ actor first differs h. h;
      still = λ x h. h.still;
      others = λ a differs. ran_so now now a refl;
      pins = λ a positive most apart. refl;
      named = λ other w e apart handle slot o x. refl;
      numbers = λ other x e apart. (kept.seats other x e).opens;
      still_open = λ other w at_w g inside e. e;
      taken = λ b n small h. h;
      spare = λ other x b name e apart free. (((kept.seats other x e).spare b name free).1, λ j its. refl);
      plain = λ d h. h;
      offering = λ actor pin own slots h. h;
    }

    own_then : IsSeat sizes kept.account kept.stands s.words view_then
    own_then =
        own_else sizes s kept id v at kept.account kept.stands s.words stays v.account seat.waited seat.rested seat.counts v.pin entered closing v.opens v.opening
        seat.pinned seat.pinned_idle inside calls seat.opens seat.reserves
        (λ g slot o n. (let x = seat.opening g slot o n in names_kept sizes s kept id v at kept.account kept.stands s.words stays v view_then g slot x refl x.free))
        (λ b name free. ((seat.spare b name free).1, λ j its. refl)) seat.offering

    -- the rule holds, where it holds of who would close what
    pub seat_kept : ((g who : ℕ) → g < handle_limit → SaysClosing (slice_index s.words (root_word g)) who → IsClosing (set s.views id view_then) g who) →
        IsKept sizes (record { words = s.words; homes = s.homes; views = set s.views id view_then })
    seat_kept closings =
        assembled sizes s kept id v at view_then refl refl kept.account kept.stands s.words (all_stand sizes s kept) closings own_then
        (other_kept sizes s kept id v at kept.account kept.stands s.words stays)
        (λ b name f. inl f)
        (numbers_stay sizes s kept id v at view_then refl refl kept.account s.words (no_tries kept.account.offers now) (λ slot none. none) (λ g below. refl) refl (λ slot g e free. free))
        (held_views sizes s kept id v at view_then refl refl refl) (cells_seen sizes s kept id v at view_then (λ b n f. f))

  -- ---- closing

  module _ (handle looked : ℕ) (others : List Closing) (closes : v.closing ≡ record { handle = handle; looked = looked } ∷ others) (cleared : v.passed.cleared ≡ true) where
    abbrev pub passed : Closing
    passed = record { handle = handle; looked = looked + 1 }

    is_latest : latest v.closing handle ≡ Some (record { handle = handle; looked = looked })
    is_latest = ap (λ marks. latest marks handle) closes ∙ newest (record { handle = handle; looked = looked }) others

    -- the closer finds that the next seat has no call on the handle, or is itself
    module _ (none : (pin : Pin) → slice_index s.words (pin_word (looked + 1)) ≡ pin_code pin → pin.handle ≡ handle → looked + 1 ≡ v.actor) where
      not_next : (who other : ℕ) (w : View) → get_elem? s.views other ≡ some w → w.entered ≡ Some handle → who ≡ v.actor → w.actor ≢ who → IsShown w → w.actor ≢ looked + 1
      not_next who other w e inside own apart shown same =
          let x = kept.seats other w e in
          let p = (x.entered handle inside).2 in
          apart (same ∙ none p.0.pin (ap (λ n. slice_index s.words (pin_word n)) (sym same) ∙ x.pinned ∙ ap pin_word_of p.1 ∙ shown_word p.0 (shown p.0 p.1)) p.2 ∙ sym own)

      same_seat : (who : ℕ) (h : IsClosing s.views handle who) → v.actor ≡ who → id ≡ h.id
      same_seat who h its =
          kept.alone id h.id v h.view v.actor at h.at (omega arith, seat.top)
          (let top = (kept.seats h.id h.view h.at).top in let is = h.its ∙ sym its in (omega (arith, is), omega (arith, top, is)))

      passing : (who : ℕ) → IsClosing s.views handle who → IsClosing (set s.views id (record v { closing = passed ∷ v.closing })) handle who
      passing who h = elim (cases_eq h.id id) [
        | inl same ↦
            (let mine : h.view ≡ v = some-injective h.view v (sym h.at ∙ ap (λ n. get_elem? s.views n) same ∙ at) in
            let own : who ≡ v.actor = sym h.its ∙ ap (λ (x : View). x.actor) mine in
            let closing_is = same_Some h.closing (record { handle = handle; looked = looked })
            (sym h.is ∙ ap (λ (x : View). latest x.closing handle) mine ∙ is_latest) in
            let looked_is : h.closing.looked ≡ looked = ap (λ (c : Closing). c.looked) closing_is in
            let cleared_is : h.view.passed.cleared ≡ true = ap (λ (x : View). x.passed.cleared) mine ∙ cleared in
            record {
              id = id;
              view = record v { closing = passed ∷ v.closing };
              at = here sizes s kept id v at (record v { closing = passed ∷ v.closing }) refl refl;
              its = sym own;
              closing = passed;
              is = newest passed v.closing;
              this = refl;
              none = λ other w e inside apart shown. (let old = before other w e inside apart in
                  let shown_then : IsShown old.0 = λ p is. shown p (sym old.4 ∙ is) in
                  let more = h.none other old.0 old.1 old.2 (λ x. apart (sym old.3 ∙ x)) shown_then in
                  let differs = not_next who other old.0 old.1 old.2 own (λ x. apart (sym old.3 ∙ x)) shown_then in
                  subst (λ n. looked + 1 < n) old.3 (omega (arith, more, differs, looked_is)));
              clear = λ some other w e inside apart. (let old = before other w e inside apart in
                  λ p is. h.clear (inl cleared_is) other old.0 old.1 old.2 (λ x. apart (sym old.3 ∙ x)) p (old.4 ∙ is));
            })
        | inr other_id ↦
            closing_at sizes s kept id v at (record v { closing = passed ∷ v.closing }) refl refl handle who (λ e. (e, refl)) (λ c is this its. absurd (other_id (sym (same_seat who h its))))
            (λ c. c) h
      ]
        where
          before : (other : ℕ) (w : View) → get_elem? (set s.views id (record v { closing = passed ∷ v.closing })) other ≡ some w → w.entered ≡ Some handle → w.actor ≢ who →
              (u : View) × (get_elem? s.views other ≡ some u) × (u.entered ≡ Some handle) × (u.actor ≡ w.actor) × (u.pin ≡ w.pin)
          before other w e inside apart = elim (at_set s.views id other (record v { closing = passed ∷ v.closing }) w e) [
            | inl p ↦ (v, ap (λ n. get_elem? s.views n) p.0 ∙ at, ap (λ (x : View). x.entered) p.1 ∙ inside, ap (λ (x : View). x.actor) p.1, ap (λ (x : View). x.pin) p.1)
            | inr p ↦ (w, p.1, inside, refl, refl)
          ]

      -- it goes on to the one after it
      pub pass_kept : IsKept sizes (record { words = s.words; homes = s.homes; views = set s.views id (record v { closing = passed ∷ v.closing }) })
      pass_kept =
          seat_kept v.entered (passed ∷ v.closing) seat.entered seat.calls
          (λ g who below says. elim (cases_eq g handle) [
            | inl same ↦ subst (λ n. IsClosing (set s.views id (record v { closing = passed ∷ v.closing })) n who) (sym same)
                (passing who (subst (λ n. IsClosing s.views n who) same (kept.closings g who below says)))
            | inr differs ↦
                closing_at sizes s kept id v at (record v { closing = passed ∷ v.closing }) refl refl g who (λ e. (e, refl))
                (λ c is this its. older passed v.closing g (λ e. differs (sym e)) ∙ is) (λ c. c)
                (kept.closings g who below says)
          ])
