-- A step of a seat's operation changes a word of a node that stands: the rule for all seats, from what stands in words then.
use Rattle.history.specs.declared.calls.Call.{Call}
use Rattle.std.proofs.Common.{◌≡◌, ◌≢◌, ℕ, ◌<◌, inl, List, [], ◌∷◌, ◌++◌, set, get_or, slice_index, is_some, Some, None, refl, sym, ap, subst, ◌∙◌, arith, append-nil}
use Rattle.std.proofs.lemmas.List.Elements.{All-cons, All-nil}
use mathlib.Core.Option.{some}
use lib.ListN.{get_elem?}
use Rattle.atomic_table.specs.Table as Table
use Rattle.machine_model.specs.Beneath.slot_arena.specs.declared.nodes.Slot.{Slot}
use Rattle.machine_model.specs.declared.steps.Step.TheVariants as step
use Rattle.machine_model.specs.declared.operations.Operation.{Operation}
use Rattle.machine_model.specs.Acting.{operation_after}
use Rattle.machine_model.specs.States.{operation_of, handle_limit}
use Rattle.lock_free.specs.declared.accounts.Account.{Account}
use Rattle.lock_free.specs.declared.accounts.Owned.{Owned}
use Rattle.lock_free.specs.declared.rules.View.{View}
use Rattle.lock_free.specs.declared.sizes.Sizes.{Sizes}
use Rattle.lock_free.specs.Accounts.{state_of, place_at, HasWaited, IsOfOther}
use Rattle.lock_free.specs.Nodes.{class_of}
use Rattle.lock_free.specs.Owing.{owing}
use Rattle.lock_free.specs.Holdings.{AreHeld}
use Rattle.lock_free.specs.Places.{root_word}
use Rattle.lock_free.specs.Rules.{Stands, SaysClosing, IsFree, IsSpare, IsSeat, IsKept}
use Rattle.lock_free.specs.Trying.{SameTries, as_before}
use Rattle.lock_free.proofs.Assembling.{AllStand, all_stand, closing_stays, numbers_stay, assembled}
use Rattle.lock_free.proofs.CellsStay.{before_cells, cells_step}
use Rattle.lock_free.proofs.CountWords.{slot_apart}
use Rattle.lock_free.proofs.Framing.{class_small, else_word, still_taken, node_far, not_of_spare, root_beside, pin_beside}
use Rattle.lock_free.proofs.Geometry.{IsWordOf}
use Rattle.lock_free.proofs.PlainStay.{plain_running}
use Rattle.lock_free.proofs.Seats.{ran_so, numbers_so, Stays, StaysSpare, other_kept, own_kept, drafts_kept}
use Rattle.lock_free.proofs.Waiting.{waited_more}
use Rattle.lock_free.proofs.SeatOwing.{seat_owing}
use Rattle.lock_free.proofs.PartingStay.{knows_still, names_same}

-- one more step of this actor's operation, and more that is known of whose main nodes are
abbrev pub owning : ℕ → List Owned → Account → Account
owning actor owned account = record account { steps = account.steps ++ step.Go actor ∷ []; owned = owned ++ account.owned }

module _ (sizes : Sizes) (s : Table.State Call View) (kept : IsKept sizes s) (id : ℕ) (v : View) (at : get_elem? s.views id ≡ some v) (operation : Operation)
    (runs : operation_of (state_of sizes kept.account) v.actor ≡ Some operation) (k : ℕ) (slot : Slot) (stood : Stands kept.stands (state_of sizes kept.account) k slot) (i : ℕ)
    (its : IsWordOf (class_of slot.node) (place_at kept.account k) i) (value : ℕ) (owned : List Owned) (all_then : AllStand sizes (owning v.actor owned kept.account) kept.stands (set s.words i value))
    (spare_then : (name : ℕ) → IsSpare sizes kept.account kept.stands name → IsSpare sizes (owning v.actor owned kept.account) kept.stands name)
    (roots : (state_of sizes (owning v.actor owned kept.account)).roots ≡ (state_of sizes kept.account).roots)
    (others : (a : ℕ) → a ≢ v.actor → operation_of (state_of sizes (owning v.actor owned kept.account)) a ≡ operation_of (state_of sizes kept.account) a)
    (own : operation_of (state_of sizes (owning v.actor owned kept.account)) v.actor ≡ Some (operation_after (state_of sizes kept.account) operation))
    (tries : SameTries (state_of sizes kept.account) (state_of sizes (owning v.actor owned kept.account))) where
  abbrev all : AllStand sizes kept.account kept.stands s.words
  all = all_stand sizes s kept

  abbrev pub account_then : Account
  account_then = owning v.actor owned kept.account

  abbrev pub words_then : List ℕ
  words_then = set s.words i value

  abbrev pub view_then : View
  view_then = record v { account = account_then }

  waits : (actor : ℕ) (first : Account) → actor ≢ v.actor → HasWaited actor first kept.account → HasWaited actor first account_then
  waits actor first differs h =
      subst (λ names. HasWaited actor first (record account_then { names = names })) (append-nil kept.account.names)
      (waited_more actor first kept.account (step.Go v.actor ∷ []) [] owned [] (All-cons (IsOfOther actor) (step.Go v.actor) [] (λ e. differs (sym e)) (All-nil (IsOfOther actor))) h)

  spare_stays : (other : ℕ) (w : View) (b name : ℕ) → get_elem? s.views other ≡ some w → IsFree w b name → StaysSpare sizes s kept id v at account_then kept.stands words_then b name
  spare_stays other w b name e free =
      let x = (kept.seats other w e).spare b name free in (
        spare_then name x.1,
        λ j its_word.
            else_word kept.account s.words i value j
            (not_of_spare sizes kept.account kept.stands s.words all k slot stood i its value b name free.0 x.0 x.1 j its_word),
      )

  root_same : (handle : ℕ) → handle < handle_limit → slice_index words_then (root_word handle) ≡ slice_index s.words (root_word handle)
  root_same = root_beside sizes kept.account kept.stands s.words all k slot stood i its value

  stays : Stays sizes s kept id v at account_then kept.stands words_then
  stays = record {
    waits = waits;
    still = λ x h. h.still;
    others = λ a differs. ran_so (state_of sizes kept.account) (state_of sizes account_then) a (others a differs);
    pins = λ a some most apart. pin_beside sizes kept.account kept.stands s.words all k slot stood i its value a most;
    named = λ other w e apart handle slot o x. root_same handle x.low;
    numbers = λ other w e apart. numbers_so sizes s kept account_then words_then (as_before tries) roots root_same other w e;
    still_open = λ other w at_w handle inside e. ap (λ rs. is_some (get_or rs handle None)) roots ∙ e;
    taken = still_taken sizes kept.account s.words kept.taken i (node_far sizes kept.account kept.stands s.words all k slot stood i its value) value;
    spare = λ other w b name e apart free. spare_stays other w b name e free;
    plain = plain_running sizes kept.account account_then kept.bounds ((step.Go v.actor) ∷ []) refl s.words words_then v.actor operation runs;
    offering = knows_still kept.account.offered kept.account.offers kept.account.parted s.words words_then
        (names_same kept.account.offers s.words words_then root_same);
  }

  own_then : IsSeat sizes account_then kept.stands words_then view_then
  own_then =
      let seat = kept.seats id v at in
      own_kept sizes s kept id v at account_then kept.stands words_then stays operation (operation_after (state_of sizes kept.account) operation) runs own refl refl
      (numbers_so sizes s kept account_then words_then (as_before tries) roots root_same id v at) all_then.counted
      (pin_beside sizes kept.account kept.stands s.words all k slot stood i its value v.actor (omega (arith, seat.top, seat.most))) v.pool v.opening
      (λ handle slot o n. (n, λ x. (root_same handle x.low, x.free.1))) v.drafts
      (λ b name free. (let x = seat.spare b name free in (stays.taken b name free.0 x.0, (spare_stays id v b name at free).0))) seat.once
      (λ d c. drafts_kept sizes s kept id v at account_then kept.stands words_then stays view_then d (seat.drafts d c) (λ b name free. (free, (spare_stays id v b name at free).1)))
      (stays.offering v.actor v.pin v.offer v.pool.parted seat.offering)

  -- the rule holds
  pub node_word_kept : (owed : List ℕ) → AreHeld sizes account_then kept.stands words_then (set s.views id (owing view_then owed)) → IsKept sizes
      (record { words = words_then; homes = s.homes; views = set s.views id (owing view_then owed) })
  node_word_kept owed held =
      let w = owing view_then owed in
      assembled sizes s kept id v at w refl refl account_then kept.stands words_then all_then
      (λ handle who low says.
      closing_stays sizes s kept id v at w refl refl (λ h e. (e, refl)) refl (λ c. c) handle who (kept.closings handle who low (subst (λ n. SaysClosing n who) (root_same handle low) says)))
      (seat_owing sizes account_then kept.stands words_then view_then owed own_then) (other_kept sizes s kept id v at account_then kept.stands words_then stays)
      (λ b name free. inl free) (numbers_stay sizes s kept id v at w refl refl account_then words_then (as_before tries) (λ slot none. none) root_same refl (λ slot handle e free. free)) held
      (cells_step sizes s kept id v at w account_then kept.stands i value
      (before_cells sizes s.words kept.taken (class_of slot.node) (place_at kept.account k) i (class_small slot.node) (kept.nodes.within k slot stood) its)
      (slot_apart sizes s.words kept.taken (class_of slot.node) (place_at kept.account k) i (class_small slot.node) (kept.nodes.within k slot stood) its).1 stays.taken spare_then (λ b n f. f))
