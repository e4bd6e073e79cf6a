-- The store of 0 to a seat's own word ends its operation.
use Rattle.history.specs.declared.calls.Call.{Call}
use Rattle.std.proofs.Common.{◌≡◌, ◌≢◌, ◌⊎◌, ℕ, ◌<◌, ◌≤◌, inl, inr, true, false, List, [], ◌∷◌, get_or, is_some, set, slice_index, Option, Some, None, refl, sym, ap, subst, ◌∙◌, arith, append-nil}
use Rattle.std.proofs.Common.{Contains, get_or-set_other}
use Rattle.std.specs.Prelude.{option_map}
use Rattle.std.proofs.lemmas.Bool.{cases_eq, true≢false}
use Rattle.std.proofs.lemmas.Option.{none-some, same_Some}
use Rattle.std.proofs.lemmas.List.Elements.{All-cons, All-nil, All-append}
use mathlib.Core.Option.{some}
use lib.ListN.{get_elem?}
use Rattle.atomic_table.specs.Table as Table
use Rattle.machine_model.specs.declared.operations.Operation.{Operation}
use Rattle.machine_model.specs.declared.steps.Step.TheVariants as step
use Rattle.machine_model.specs.Keys.{FitsKey}
use Rattle.machine_model.specs.States.{State, operation_of, handle_limit, root_at}
use Rattle.lock_free.specs.declared.accounts.Account.{Account}
use Rattle.lock_free.specs.declared.rules.View.{View}
use Rattle.lock_free.specs.declared.sizes.Sizes.{Sizes}
use Rattle.lock_free.specs.Accounts.{state_of, gone_on, HasWaited, IsOfOther}
use Rattle.lock_free.specs.Beginning.{Ends}
use Rattle.lock_free.specs.Places.{pin_word, root_word}
use Rattle.lock_free.specs.Roots.{AreMarked, fate}
use Rattle.lock_free.specs.Rules.{SaysClosing, IsFree, IsSpare, IsHeld, Reserves, IsSeat, IsKept, first_account}
use Rattle.lock_free.specs.Trying.{try_of, try_at}
use Rattle.lock_free.proofs.Assembling.{AllStand, all_stand, closing_stays, opening_stays, Numbers, assembled, other_actor}
use Rattle.lock_free.proofs.CellsStay.{cells_step, pin_before}
use Rattle.lock_free.proofs.Meanings.{unmarked_at, unmarked_then, marked_at}
use Rattle.lock_free.proofs.RootSteps as root
use Rattle.lock_free.proofs.PlainStay.{plain_running}
use Rattle.lock_free.proofs.Seats.{ran_so, Stays, StaysSpare, other_kept, own_else}
use Rattle.lock_free.proofs.Waiting.{grown_steps, waited_none, waited_more, quiet_more}
use Rattle.machine_model.specs.Beneath.slot_arena.specs.declared.refs.Ref.{Ref}
use Rattle.machine_model.specs.Operations.{action_of}
use Rattle.lock_free.specs.Counts.{references_in}
use Rattle.lock_free.specs.Holdings.{AreHeld}
use Rattle.lock_free.proofs.CountWords.{pin_apart}
use Rattle.lock_free.proofs.HeldLeads.{alike_slots}
use Rattle.lock_free.proofs.HeldStep.{going_less, held_step}
use Rattle.lock_free.proofs.Lettings.{TakesNone}
use Rattle.lock_free.proofs.LinesStay.{lines_idle}
use Rattle.lock_free.proofs.SeatOwing.{seat_owing}
use Rattle.lock_free.proofs.LetGoSince.{going_let_go}
use Rattle.lock_free.proofs.PartingStay.{knows_still, names_same, knows_unpinned}

-- the seat keeps the number that it has reserved, where its operation hasn't opened it
module _ (sizes : Sizes) (s : Table.State Call View) (kept : IsKept sizes s) (id : ℕ) (v : View) (at : get_elem? s.views id ≡ some v) (operation : Operation)
    (runs : operation_of (state_of sizes kept.account) v.actor ≡ Some operation) (ends : Ends sizes kept.account v.actor) (opens : Option ℕ)
    (keeps : (g : ℕ) → opens ≡ Some g → (v.opens ≡ Some g) × (operation.is_marked ≡ false)) (drops : (g : ℕ) → v.opens ≡ Some g → (opens ≡ Some g) ⊎ (operation.is_marked ≡ true)) where
  abbrev all : AllStand sizes kept.account kept.stands s.words
  all = all_stand sizes s kept

  abbrev now : State
  now = state_of sizes kept.account

  abbrev pub account_then : Account
  account_then = gone_on v.actor kept.account

  abbrev next : State
  next = state_of sizes account_then

  abbrev pub words_then : List ℕ
  words_then = set s.words (pin_word v.actor) 0

  abbrev pub view_then : View
  view_then = record v { account = account_then; pin = None; entered = None; opens = opens; opening = None; owed = [] }

  seat : IsSeat sizes kept.account kept.stands s.words v
  seat = kept.seats id v at

  most : v.actor ≤ sizes.seats
  most = omega (arith, seat.top, seat.most)

  root_same : (g : ℕ) → g < handle_limit → slice_index words_then (root_word g) ≡ slice_index s.words (root_word g)
  root_same = root.root_pinned sizes kept.account kept.stands s.words all v.actor seat.low most 0

  same_try : (a : ℕ) → a ≢ v.actor → try_at next a ≡ try_at now a
  same_try a differs = ap (λ o. option_map try_of o) (ends.others a differs)

  marks_then : AreMarked next words_then kept.account.offers
  marks_then k c a o e its = elim (cases_eq a v.actor) [
    | inl own ↦ absurd (none-some o (sym ends.own ∙ ap (operation_of next) (sym own) ∙ e))
    | inr other ↦
        marked_at now next a (same_try a other) k (fate words_then k) (fate s.words k) (root.fate_pinned sizes kept.account kept.stands s.words all v.actor seat.low most 0 k c)
        (kept.roots.marks k c a) o e its
  ]

  pub all_then : AllStand sizes account_then kept.stands words_then
  all_then =
      root.all_left sizes kept.account (step.Go v.actor) ends.leaves kept.stands words_then
      (All-append FitsKey kept.account.steps (step.Go v.actor ∷ []) kept.keys (All-cons FitsKey (step.Go v.actor) [] tt (All-nil FitsKey)))
      (quiet_more kept.account.steps (step.Go v.actor) kept.quiet tt) ends.roots marks_then
      (root.all_pinned sizes kept.account kept.stands s.words all v.actor seat.low most 0)

  root_then : (g : ℕ) → root_at next g ≡ root_at now g
  root_then g = ap (λ rs. get_or rs g None) ends.roots

  still_held : (g : ℕ) → IsHeld now s.words g → IsHeld next words_then g
  still_held g h = record { low = h.low; taken = λ none. h.taken (sym (root_same g h.low) ∙ none); closed = root_then g ∙ h.closed }

  reserved_else : (w : View) (g : ℕ) → w.actor ≢ v.actor → Reserves next w g → Reserves now w g
  reserved_else w g differs r = (r.0, unmarked_at now next w.actor (same_try w.actor differs) r.1)

  others_actor : (other : ℕ) (w : View) → get_elem? s.views other ≡ some w → (other ≡ id → ⊥) → w.actor ≢ v.actor
  others_actor other w e apart = other_actor sizes s kept id v at v refl refl other w e apart

  own_reserved : (g : ℕ) → opens ≡ Some g → Reserves now v g
  own_reserved g e = let x = keeps g e in (x.0, λ o f. ap (λ (y : Operation). y.is_marked) (same_Some o operation (sym f ∙ runs)) ∙ x.1)

  spare_then : (name : ℕ) → IsSpare sizes kept.account kept.stands name → IsSpare sizes account_then kept.stands name
  spare_then name h = (λ k slot e. h.0 k slot (e.0, sym (ends.leaves.nodes k) ∙ e.1), h.1)

  stays_spare : (other : ℕ) (w : View) (b name : ℕ) → get_elem? s.views other ≡ some w → IsFree w b name → StaysSpare sizes s kept id v at account_then kept.stands words_then b name
  stays_spare other w b name e free =
      let h = (kept.seats other w e).spare b name free in (spare_then name h.1, root.slot_pinned sizes kept.account kept.stands s.words all v.actor seat.low most 0 b name free.0 h.0)

  waits : (actor : ℕ) (first : Account) → actor ≢ v.actor → HasWaited actor first kept.account → HasWaited actor first account_then
  waits actor first differs h =
      subst (λ names. HasWaited actor first (record account_then { names = names })) (append-nil kept.account.names)
      (waited_more actor first kept.account (step.Go v.actor ∷ []) [] [] [] (All-cons (IsOfOther actor) (step.Go v.actor) [] (λ e. differs (sym e)) (All-nil (IsOfOther actor))) h)

  stays : Stays sizes s kept id v at account_then kept.stands words_then
  stays = record {
    waits = waits;
    still = λ x h. h.still;
    others = λ a differs. ran_so now next a (ends.others a differs);
    pins = λ a positive most_a differs. root.else_pinned sizes kept.account kept.stands s.words all v.actor seat.low most 0 a differs;
    named = λ other w e apart handle slot o x. root_same handle x.low;
    numbers = λ other w e apart g r. still_held g ((kept.seats other w e).opens g (reserved_else w g (others_actor other w e apart) r));
    still_open = λ other w at_w g inside e. ap is_some (root_then g) ∙ e;
    taken = root.taken_pinned sizes kept.account kept.stands s.words all v.actor seat.low most 0;
    spare = λ other w b name e apart free. stays_spare other w b name e free;
    plain = plain_running sizes kept.account account_then kept.bounds ((step.Go v.actor) ∷ []) refl s.words words_then v.actor operation runs;
    offering = knows_still kept.account.offered kept.account.offers kept.account.parted s.words words_then
        (names_same kept.account.offers s.words words_then root_same);
  }

  own_then : IsSeat sizes account_then kept.stands words_then view_then
  own_then =
      seat_owing sizes account_then kept.stands words_then (record v { account = account_then; pin = None; entered = None; opens = opens; opening = None }) []
      (own_else sizes s kept id v at account_then kept.stands words_then stays account_then (waited_none v.actor account_then)
      (λ a above below. waits a (first_account sizes) (λ is. absurd (omega (arith, above, is))) (seat.rested a above below)) all_then.counted None None v.closing opens None
      (root.at_p sizes kept.account kept.stands s.words all v.actor seat.low most 0) (λ p is. absurd (none-some p is)) (λ g e. absurd (none-some g e)) (λ o e. absurd (none-some o (sym ends.own ∙ e)))
      (λ g r. still_held g (seat.opens g (own_reserved g r.0))) (λ o e. absurd (none-some o (sym ends.own ∙ e))) (λ g slot o n. absurd (none-some slot n))
      (λ b name free. stays_spare id v b name at free)
      (knows_unpinned kept.account.offered kept.account.offers kept.account.parted words_then v.actor v.pin v.offer v.pool.parted
      (stays.offering v.actor v.pin v.offer v.pool.parted seat.offering)))

  reserves_else : (w : View) (g : ℕ) → w.actor ≢ v.actor → Reserves now w g → Reserves next w g
  reserves_else w g differs r = (r.0, unmarked_then now next w.actor (same_try w.actor differs) r.1)

  own_reserves : (g : ℕ) → Reserves now v g → Reserves next view_then g
  own_reserves g r = elim (drops g r.0) [
    | inl same ↦ (same, λ o e. absurd (none-some o (sym ends.own ∙ e)))
    | inr marked ↦ absurd (true≢false (sym marked ∙ r.1 operation runs))
  ]

  numbers_then : Numbers sizes s kept id v at view_then refl refl account_then words_then
  numbers_then = record {
    openings = λ g slot below fits is nothing.
        opening_stays sizes s kept id v at view_then refl refl next g slot (λ r f. (own_reserves g r, f)) (λ other w e apart f r. reserves_else w g (others_actor other w e apart) r)
        (kept.openings g slot below fits (sym (root_same g below) ∙ is) nothing);
    number = λ g r. inl (own_reserved g r.0);
    others = λ other w e apart g r. reserved_else w g (others_actor other w e apart) r;
    runners = λ a o e. elim (cases_eq a v.actor) [
      | inl own ↦ inl own
      | inr other ↦ inr (o, sym (ends.others a other) ∙ e)
    ];
  }

  private_then : (a : ℕ) (o : Operation) → operation_of next a ≡ Some o → (r : Ref) → Contains o.private r → (p : Operation) × (operation_of now a ≡ Some p) × Contains p.private r
  private_then a o e r c = elim (cases_eq a v.actor) [
    | inl own ↦ absurd (none-some o (sym ends.own ∙ ap (operation_of next) (sym own) ∙ e))
    | inr other ↦ (o, sym (ends.others a other) ∙ e, c)
  ]

  held_ended : TakesNone kept.stands now operation (action_of now operation) → AreHeld sizes account_then kept.stands words_then (set s.views id view_then)
  held_ended takes =
      held_step sizes s kept id v at account_then (grown_steps kept.account account_then (step.Go v.actor ∷ []) refl refl) refl refl (alike_slots now next ends.leaves.nodes) ends.leaves.live
      private_then
      (going_less sizes s kept v.actor operation runs takes account_then refl) (going_let_go sizes s kept v.actor operation runs takes account_then refl)
      view_then refl refl (λ k. omega arith) (lines_idle sizes s kept id v at account_then view_then ends.others ends.own)
      words_then
      (λ c is. ap references_in (get_or-set_other s.words (pin_word v.actor) c 0 0 ((pin_apart sizes v.actor most).1 c is)))

  -- the rule holds
  pub end_kept : TakesNone kept.stands now operation (action_of now operation) → IsKept sizes (record { words = words_then; homes = s.homes; views = set s.views id view_then })
  end_kept takes =
      assembled sizes s kept id v at view_then refl refl account_then kept.stands words_then all_then
      (λ g who below says. closing_stays sizes s kept id v at view_then refl refl (λ h e. absurd (none-some h e)) refl (λ c. c) g who
      (kept.closings g who below (subst (λ n. SaysClosing n who) (root_same g below) says))) own_then
      (other_kept sizes s kept id v at account_then kept.stands words_then stays) (λ b name f. inl f) numbers_then (held_ended takes)
      (cells_step sizes s kept id v at view_then account_then kept.stands (pin_word v.actor) 0 (pin_before sizes v.actor most) (pin_apart sizes v.actor most).1 stays.taken spare_then (λ b n f. f))
