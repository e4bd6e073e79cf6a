-- An operation begins, at the load that finds its handle open. If it is to open another handle, the seat has reserved that one's number before.
use Rattle.history.specs.declared.calls.Call.{Call}
use Rattle.std.proofs.Common.{◌≡◌, ◌≢◌, ◌+◌, ◌⊎◌, ℕ, ◌<◌, ◌≤◌, inl, inr, true, false, [], ◌∷◌, Contains, get_or, is_some, set, slice_index, Some, None, refl, sym, ap, subst, ◌∙◌, arith}
use Rattle.std.proofs.Common.{append-nil}
use Rattle.std.specs.Prelude.{option_map}
use Rattle.std.proofs.lemmas.Bool.{cases_eq}
use Rattle.std.proofs.lemmas.Option.{none-some, same_Some}
use Rattle.std.proofs.lemmas.List.Elements.{All-cons, All-nil, All-append}
use mathlib.Core.Option.{some}
use lib.ListN.{get_elem?}
use Rattle.atomic_table.specs.Table as Table
use Rattle.machine_model.specs.declared.operations.Operation.{Operation}
use Rattle.machine_model.specs.declared.steps.Step.{Step}
use Rattle.machine_model.specs.Calls.{handle_of}
use Rattle.machine_model.specs.Keys.{FitsKey}
use Rattle.machine_model.specs.States.{State, operation_of, handle_limit, root_at}
use Rattle.lock_free.specs.declared.accounts.Account.{Account}
use Rattle.lock_free.specs.declared.rules.Pinned.{Pinned}
use Rattle.lock_free.specs.declared.rules.View.{View}
use Rattle.lock_free.specs.declared.sizes.Sizes.{Sizes}
use Rattle.lock_free.specs.Accounts.{state_of, HasWaited, IsOfOther}
use Rattle.lock_free.specs.Beginning.{Begins, taking}
use Rattle.lock_free.specs.Places.{root_word}
use Rattle.lock_free.specs.Roots.{AreMarked, IsItsTry}
use Rattle.lock_free.specs.Rules.{SaysClosing, IsSpare, IsHeld, Reserves, IsSeat, IsKept, first_account}
use Rattle.lock_free.specs.Trying.{try_of, try_at}
use Rattle.proof_garbage.specs.Beneath.proof_generations.proofs.Handles.Running.{place_of_actor}
use Rattle.lock_free.proofs.Assembling.{AllStand, all_stand, closing_at, opening_stays, Numbers, assembled, other_actor}
use Rattle.lock_free.proofs.CellsStay.{cells_still}
use Rattle.lock_free.proofs.Meanings.{unmarked_at, unmarked_then, marked_at}
use Rattle.lock_free.proofs.RootSteps as root
use Rattle.lock_free.proofs.BegunSince.{begun_since}
use Rattle.lock_free.proofs.OneStep.Standing.{has}
use Rattle.lock_free.proofs.PlainStay.{plain_begun}
use Rattle.lock_free.proofs.Seats.{idle_then, ran_so, Stays, other_kept, own_else}
use Rattle.lock_free.proofs.Waiting.{grown_steps, waited_none, waited_more, quiet_more, other_quiet}
use Rattle.machine_model.specs.Beneath.slot_arena.specs.declared.refs.Ref.{Ref}
use Rattle.proof_claims.specs.Changes.{change_of}
use Rattle.lock_free.specs.Claims.{held_now}
use Rattle.lock_free.specs.Holdings.{AreHeld}
use Rattle.lock_free.proofs.HeldGone.{IsLetting, less_next, LetsGoSince}
use Rattle.lock_free.proofs.HeldLeads.{alike_slots}
use Rattle.lock_free.proofs.HeldStep.{held_step}
use Rattle.lock_free.proofs.Idle.{empty_has}
use Rattle.lock_free.proofs.LinesStay.{lines_private}
use Rattle.lock_free.specs.Live.{IsLive}

module _ (sizes : Sizes) (s : Table.State Call View) (kept : IsKept sizes s) (id : ℕ) (v : View) (at : get_elem? s.views id ≡ some v) (taken : Step) (call : Call)
    (begins : Begins sizes kept.account v.actor taken call v.opens) (idle : operation_of (state_of sizes kept.account) v.actor ≡ None) where
  abbrev all : AllStand sizes kept.account kept.stands s.words
  all = all_stand sizes s kept

  abbrev now : State
  now = state_of sizes kept.account

  abbrev pub account_then : Account
  account_then = taking taken kept.account

  abbrev next : State
  next = state_of sizes account_then

  seat : IsSeat sizes kept.account kept.stands s.words v
  seat = kept.seats id v at

  same_try : (a : ℕ) → a ≢ v.actor → try_at next a ≡ try_at now a
  same_try a differs = ap (λ o. option_map try_of o) (begins.others a differs)

  marks_then : AreMarked next s.words kept.account.offers
  marks_then k c a o e its = elim (cases_eq a v.actor) [
    | inl own ↦ absurd (begins.fresh k c (subst (λ x. IsItsTry x k.offer) (same_Some o begins.operation (sym e ∙ ap (operation_of next) own ∙ begins.own)) its))
    | inr other ↦ marked_at now next a (same_try a other) k _ _ refl (kept.roots.marks k c a) o e its
  ]

  pub all_then : AllStand sizes account_then kept.stands s.words
  all_then =
      root.all_left sizes kept.account taken begins.leaves kept.stands s.words
      (All-append FitsKey kept.account.steps (taken ∷ []) kept.keys (All-cons FitsKey taken [] begins.fits (All-nil FitsKey)))
      (quiet_more kept.account.steps taken kept.quiet (other_quiet (v.actor + 1) taken (begins.its (v.actor + 1) (λ e. omega (arith, e))))) begins.roots marks_then all

  root_then : (g : ℕ) → root_at next g ≡ root_at now g
  root_then g = ap (λ rs. get_or rs g None) begins.roots

  reserved_else : (w : View) (g : ℕ) → w.actor ≢ v.actor → Reserves next w g → Reserves now w g
  reserved_else w g differs r = (r.0, unmarked_at now next w.actor (same_try w.actor differs) r.1)

  reserves_else : (w : View) (g : ℕ) → w.actor ≢ v.actor → Reserves now w g → Reserves next w g
  reserves_else w g differs r = (r.0, unmarked_then now next w.actor (same_try w.actor differs) r.1)

  others_actor : (other : ℕ) (w : View) → get_elem? s.views other ≡ some w → (other ≡ id → ⊥) → w.actor ≢ v.actor
  others_actor other w e apart = other_actor sizes s kept id v at v refl refl other w e apart

  spare_then : (name : ℕ) → IsSpare sizes kept.account kept.stands name → IsSpare sizes account_then kept.stands name
  spare_then name h = (λ k slot e. h.0 k slot (e.0, sym (begins.leaves.nodes k) ∙ e.1), h.1)

  waits : (actor : ℕ) (first : Account) → actor ≢ v.actor → HasWaited actor first kept.account → HasWaited actor first account_then
  waits actor first differs h =
      subst (λ names. HasWaited actor first (record account_then { names = names })) (append-nil kept.account.names)
      (waited_more actor first kept.account (taken ∷ []) [] [] [] (All-cons (IsOfOther actor) taken [] (begins.its actor differs) (All-nil (IsOfOther actor))) h)

  -- its number is new
  new_id : now.begun ≤ begins.operation.id
  new_id =
      begun_since sizes kept.account account_then all_then.bounds (record { steps = taken ∷ []; goes_on = refl; names = []; more_names = sym (append-nil kept.account.names) }) v.actor idle
      begins.operation begins.own

  below_id : begins.operation.id < next.begun
  below_id = let place = place_of_actor next v.actor begins.operation begins.own in (has sizes account_then all_then.bounds).0.ids.below place.0 begins.operation place.2

  own_call : (o : Operation) → operation_of next v.actor ≡ Some o → o ≡ begins.operation
  own_call o e = same_Some o begins.operation (sym e ∙ begins.own)

  runners_then : (a : ℕ) (o : Operation) → operation_of next a ≡ Some o → (a ≡ v.actor) ⊎ ((p : Operation) × (operation_of now a ≡ Some p))
  runners_then a o e = elim (cases_eq a v.actor) [
    | inl own ↦ inl own
    | inr other ↦ inr (o, sym (begins.others a other) ∙ e)
  ]

  -- ---- the number that the seat has reserved

  own_reserved : (g : ℕ) → v.opens ≡ Some g → Reserves now v g
  own_reserved g e = (e, λ o runs. absurd (none-some o (sym idle ∙ runs)))

  own_unmarked : (o : Operation) → operation_of next v.actor ≡ Some o → o.is_marked ≡ false
  own_unmarked o e = ap (λ (x : Operation). x.is_marked) (own_call o e) ∙ begins.unmarked

  still_held : (g : ℕ) → IsHeld now s.words g → IsHeld next s.words g
  still_held g h = record { low = h.low; taken = h.taken; closed = root_then g ∙ h.closed }

  -- ---- the seat has pinned itself to the handle, and there is no mark that somebody would close it

  module _ (pin : Pinned) (pinned : v.pin ≡ Some pin) (its : pin.pin.handle ≡ handle_of call) (low : handle_of call < handle_limit) (is_open : is_some (root_at now (handle_of call)) ≡ true)
      (unmarked : (who : ℕ) → SaysClosing (slice_index s.words (root_word (handle_of call))) who → ⊥) where
    abbrev pub view_then : View
    view_then = record v { account = account_then; entered = Some (handle_of call) }

    stays : Stays sizes s kept id v at account_then kept.stands s.words
    stays = record {
      waits = waits;
      still = λ x h. h.still;
      others = λ a differs. ran_so now next a (begins.others a differs);
      pins = λ a positive most_a differs. refl;
      named = λ other w e apart g slot p x. refl;
      numbers = λ other w e apart g r. still_held g ((kept.seats other w e).opens g (reserved_else w g (others_actor other w e apart) r));
      still_open = λ other w at_w g inside e. ap is_some (root_then g) ∙ e;
      taken = λ b n small h. h;
      spare = λ other w b name e apart free. (spare_then name ((kept.seats other w e).spare b name free).1, λ j its. refl);
      plain = plain_begun sizes kept.account account_then kept.bounds (taken ∷ []) refl s.words s.words v.actor begins.operation begins.own new_id below_id;
      offering = λ actor pin own slots h. h;
    }

    own_then : IsSeat sizes account_then kept.stands s.words view_then
    own_then =
        own_else sizes s kept id v at account_then kept.stands s.words stays account_then (waited_none v.actor account_then)
        (λ a above below. waits a (first_account sizes) (λ is. absurd (omega (arith, above, is))) (seat.rested a above below)) all_then.counted v.pin (Some (handle_of call)) v.closing v.opens
        v.opening seat.pinned (λ p is. idle_then sizes s kept id v at account_then kept.stands s.words stays v.actor p (seat.pinned_idle p is))
        (λ g e. (let same = same_Some (handle_of call) g e in
        (subst (λ n. n < handle_limit) same low, ap (λ n. is_some (root_at next n)) (sym same) ∙ ap is_some (root_then (handle_of call)) ∙ is_open, (pin, pinned, its ∙ same))))
        (λ o e. ap (λ c. Some (handle_of c)) (sym begins.its_call) ∙ ap (λ (x : Operation). Some (handle_of x.call)) (sym (own_call o e)))
        (λ g r. still_held g (seat.opens g (own_reserved g r.0))) (λ o e. sym begins.its_opens ∙ ap (λ (x : Operation). x.opens) (sym (own_call o e)))
        (λ g slot o n. (let x = seat.opening g slot o n in record { low = x.low; fits = x.fits; is = x.is; free = x.free }))
        (λ b name free. (spare_then name (seat.spare b name free).1, λ j its. refl)) seat.offering

    numbers_then : Numbers sizes s kept id v at view_then refl refl account_then s.words
    numbers_then = record {
      openings = λ g slot below fits is nothing.
          opening_stays sizes s kept id v at view_then refl refl next g slot (λ r f. ((r.0, own_unmarked), f)) (λ other w e apart f r. reserves_else w g (others_actor other w e apart) r)
          (kept.openings g slot below fits is nothing);
      number = λ g r. inl (own_reserved g r.0);
      others = λ other w e apart g r. reserved_else w g (others_actor other w e apart) r;
      runners = runners_then;
    }

    private_then : (a : ℕ) (o : Operation) → operation_of next a ≡ Some o → (r : Ref) → Contains o.private r → (p : Operation) × (operation_of now a ≡ Some p) × Contains p.private r
    private_then a o e r c = elim (cases_eq a v.actor) [
      | inl own ↦
          absurd (empty_has r (subst (λ rs. Contains rs r) begins.alone
          (subst (λ (x : Operation). Contains x.private r) (same_Some o begins.operation (sym e ∙ ap (operation_of next) own ∙ begins.own)) c)))
      | inr other ↦ (o, sym (begins.others a other) ∙ e, c)
    ]

    held_begun : IsLetting kept.stands kept.stands (IsLive now) (change_of now (held_now sizes kept.account) taken) → LetsGoSince sizes kept.account account_then kept.stands kept.stands →
        AreHeld sizes account_then kept.stands s.words (set s.views id view_then)
    held_begun letting let_go =
        held_step sizes s kept id v at account_then (grown_steps kept.account account_then (taken ∷ []) refl refl) refl refl (alike_slots now next begins.leaves.nodes) begins.leaves.live private_then
        (less_next sizes kept.account kept.bounds kept.stands kept.stands (λ j e. e) (IsLive now) taken letting account_then refl)
        let_go view_then refl refl (λ k. omega arith)
        (lines_private sizes s kept id v at account_then view_then begins.others begins.leaves.bounds begins.operation begins.own begins.alone) s.words (λ c is. refl)

    -- the rule holds
    pub begin_kept : IsLetting kept.stands kept.stands (IsLive now) (change_of now (held_now sizes kept.account) taken) →
        LetsGoSince sizes kept.account (taking taken kept.account) kept.stands kept.stands →
        IsKept sizes (record { words = s.words; homes = s.homes; views = set s.views id view_then })
    begin_kept letting let_go =
        assembled sizes s kept id v at view_then refl refl account_then kept.stands s.words all_then
        (λ g who below says. elim (cases_eq g (handle_of call)) [
          | inl same ↦ absurd (unmarked who (subst (λ n. SaysClosing (slice_index s.words (root_word n)) who) same says))
          | inr differs ↦ closing_at sizes s kept id v at view_then refl refl g who (λ e. absurd (differs (sym (same_Some (handle_of call) g e)))) (λ c is this its. is) (λ c. c)
              (kept.closings g who below says)
        ]) own_then (other_kept sizes s kept id v at account_then kept.stands s.words stays) (λ b name f. inl f) numbers_then (held_begun letting let_go)
        (cells_still sizes s kept id v at view_then account_then kept.stands spare_then (λ b n f. f))
