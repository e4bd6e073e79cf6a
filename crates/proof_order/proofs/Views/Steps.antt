-- Each step of a run by what the facts say of it: one constructor for each kind.
use Rattle.std.proofs.Common.{Option, ◌≡◌, ◌≢◌, ℕ, suc, ◌+◌, ◌<◌, Bool, true, false, cond, ◌⊎◌, inl, inr, List, ◌∷◌, ◌++◌, length, Some, None, slice_get, refl, sym, ap, ◌∙◌, subst}
use Rattle.std.proofs.Common.{append-nil, arith, []}
use Rattle.proof_order.specs.Vocabulary.{KeyMap, Access, Close, Reply, End, BeginsAt, HasEnded, begun, Recalls, generation_at, Place, on_time, Operation, Descriptor, Bounds, Outcome, Step, State}
use Rattle.proof_order.specs.Vocabulary.{operation_of, action_of, Moves, IsRun, place_of, is_placed, entered_at_end, Record, moment_at, noted, entrant_of, told_in}
use Rattle.proof_order.specs.Beneath.history.specs.declared.replies.Reply.TheVariants as reply
use Rattle.proof_order.specs.Beneath.history.specs.declared.events.Event.TheVariants.{Begin}
use Rattle.proof_order.specs.Beneath.history.specs.Histories.{Operation as Told}
use Rattle.proof_order.specs.Beneath.history.proofs.Places.{at_push}
use Rattle.proof_order.specs.Beneath.history.proofs.Begins.{begun_push}
use Rattle.proof_order.specs.Beneath.machine_model.specs.declared.actions.Action.TheVariants as act
use Rattle.proof_order.specs.Beneath.machine_model.specs.declared.steps.Step.TheVariants as step
use Rattle.proof_order.specs.Beneath.machine_model.proofs.Times.{steps_at}
use Rattle.proof_generations.proofs.Handles.Running.{place_of_actor}
use Rattle.proof_order.specs.Facts.{standing_of, standing, HasStood, Runs, IsReply, entered_by_step, Facts, Update, Replied, Notes}
use Rattle.proof_order.specs.Openings.{IsSwap}
use Rattle.proof_order.proofs.Offers.Carried.{Carried, carried}
use Rattle.proof_order.proofs.Offers.Standing.{offers_at}
use Rattle.proof_order.proofs.Views.Changes.{footing, roots_swapped}
use Rattle.proof_order.proofs.Views.EachStep as each
use Rattle.proof_order.proofs.Views.EachStep.{Changes}
use Rattle.proof_order.proofs.Views.Standing.{step_at, change_at, keeps_standing, no_standing}
use Rattle.proof_order.proofs.History.Recalling.{event_later, told_reply, end_event}
use Rattle.proof_order.proofs.History.Closes.{closed_reply}
use Rattle.proof_order.specs.Beneath.machine_model.proofs.Alike.{alike}

-- what an empty list comes to
empty_or_not : {X : Type 0} (xs : List X) → (xs ≡ []) ⊎ (xs ≢ [])
empty_or_not [] = inl refl
empty_or_not (x ∷ xs) = inr (λ e. let wrong : ⊥ = cc e in wrong)

module _ (limits : Bounds) (states : ℕ → State) (records : ℕ → Record) (last : ℕ) (V : ℕ → ℕ → KeyMap) where
  -- the step enters nothing into the order
  abbrev pub EntersNone : ℕ → Type 0
  EntersNone t = (records (suc t)).places ≡ (records t).places

  -- it enters this place alone
  abbrev pub Enters : ℕ → Place → Type 0
  Enters t p = (records (suc t)).places ≡ (records t).places ++ p ∷ []

  abbrev pub ClosesNone : ℕ → Type 0
  ClosesNone t = (records (suc t)).closings ≡ (records t).closings

  -- it leaves the standing of each handle
  abbrev pub KeepsAll : ℕ → Type 0
  KeepsAll t = (handle : ℕ) → standing (states (suc t)) handle ≡ standing (states t) handle

  -- it leaves the content of each generation that has stood
  abbrev pub IsStill : ℕ → Type 0
  IsStill t = (generation : ℕ) → HasStood states t generation → V generation (suc t) ≡ V generation t

  pub data Kind (t : ℕ) : Type 0 where
    -- nothing that concerns the order
    plain : EntersNone t → ClosesNone t → KeepsAll t → IsStill t → Kind t
    -- an own update is committed
    updates : (entered : List Place) (update : Update limits states records last V t entered) → Enters t (place_of (records t) (entrant_of update.owner) t false) → ClosesNone t → KeepsAll t → Kind t
    -- an operation that changed nothing ends
    answers : (k : ℕ) (operation : Operation) (answer : Reply) → Runs (states t) k operation → Enters t (place_of (records t) (entrant_of operation) (moment_at (records t) (suc k)).moment true) →
        is_placed (records t) operation.id ≡ false → IsReply (records last).events operation.id answer →
        Replied limits states records last V operation (moment_at (records t) (suc k)).moment answer →
        ClosesNone t → KeepsAll t → IsStill t → Kind t
    -- a close begins
    closes : (handle : ℕ) (stood : Access × ℕ) → Enters t (on_time t false (begun (records t).events)) →
        Recalls (records last).events (begun (records t).events) (record { call = Close handle; opens = None; answer = reply.Closed }) →
        begun (records (suc t)).events ≡ begun (records t).events + 1 →
        standing (states t) handle ≡ Some stood → standing (states (suc t)) handle ≡ None →
        ((other : ℕ) → (other ≡ handle → ⊥) → standing (states (suc t)) other ≡ standing (states t) other) → ClosesNone t → IsStill t → Kind t
    -- an offer is carried out
    swaps : (handle : ℕ) (offer : Descriptor) (swap : Carried states records last V t handle offer) → Enters t (on_time t false offer.operation) →
        (records (suc t)).closings ≡ (records t).closings ++ record { generation = generation_at (states t).heap offer.root; step = t } ∷ [] →
        (states (suc t)).roots ≡ roots_swapped (states t) handle offer offer.opens → (states (suc t)).heap ≡ (states t).heap → IsStill t → Kind t

module _ {limits : Bounds} {states : ℕ → State} {last : ℕ} (r : IsRun limits states last) (V : ℕ → ℕ → KeyMap) (facts : Facts limits states r.records last V) where
  kept_all : (t : ℕ) → t < last → ((h : ℕ) → footing (states (suc t)) h ≡ footing (states t) h) → KeepsAll limits states r.records last V t
  kept_all t lt same handle = keeps_standing r V facts t handle lt (same handle)

  number_at : (t : ℕ) → t < last → (states t).steps ≡ t
  number_at t lt = steps_at r t (omega arith)

  quiet_kind : (t : ℕ) (lt : t < last) (s : Step) (o : Outcome) (entered : List Place) → Moves (states t) s o (states (suc t)) → Notes states r.records t s →
      entered_by_step (r.records t) (states t) s ≡ entered →
      (entered ≡ []) ⊎ (entered ≢ []) → (r.records (suc t)).places ≡ (r.records t).places ++ entered → ClosesNone limits states r.records last V t →
      ((h : ℕ) → footing (states (suc t)) h ≡ footing (states t) h) → Kind limits states r.records last V t
  quiet_kind t lt s o entered m notes e (inl none) places closings same =
      plain (places ∙ ap (λ l. (r.records t).places ++ l) none ∙ append-nil _) closings (kept_all t lt same) (facts.still t s o lt m notes (e ∙ none))
  quiet_kind t lt s o entered m notes e (inr some) places closings same =
      let update = facts.updates t s o lt m notes (λ none. some (sym e ∙ none)) in
      updates (entered_by_step (r.records t) (states t) s) update (places ∙ ap (λ l. (r.records t).places ++ l) (sym e ∙ update.enters)) closings (kept_all t lt same)

  -- at an end
  end_kind : (t actor : ℕ) (lt : t < last) (o : Outcome) (operation : Operation) (answer : Reply) (placed : Bool) → Moves (states t) (step.Go actor) o (states (suc t)) →
      Notes states r.records t (step.Go actor) →
      operation_of (states t) actor ≡ Some operation → action_of (states t) operation ≡ act.End answer → is_placed (r.records t) operation.id ≡ placed →
      (r.records (suc t)).places ≡ (r.records t).places ++ entered_at_end (r.records t) (entrant_of operation) (moment_at (r.records t) actor).moment answer →
      ClosesNone limits states r.records last V t → KeepsAll limits states r.records last V t →
      IsStill limits states r.records last V t → Kind limits states r.records last V t
  end_kind t actor lt o operation reply.NoSlots placed m notes is does e places closings kept still =
      plain (places ∙ append-nil _) closings kept still
  end_kind t actor lt o operation answer true m notes is does e places closings kept still =
      plain (places ∙ ap (λ b. (r.records t).places ++ cond b [] (place_of (r.records t) (entrant_of operation) (moment_at (r.records t) actor).moment true ∷ [])) e
      ∙ append-nil _) closings kept still
  end_kind t actor lt o operation answer false m notes is does e places closings kept still =
      let (k, own, runs) = place_of_actor (states t) actor operation is in
      let told = ap (λ (q : Record). q.events) notes ∙ end_event (states t) (r.records t) actor operation answer is does in
      let ended : HasEnded (r.records (suc t)).events operation.id answer =
      (length (r.records t).events, ap (λ l. slice_get l (length (r.records t).events)) told ∙ at_push (r.records t).events (End operation.id answer) (length (r.records t).events) refl) in
      answers k operation answer runs
      (places ∙ ap (λ b. (r.records t).places ++ cond b [] (place_of (r.records t) (entrant_of operation) (moment_at (r.records t) actor).moment true ∷ [])) e
      ∙ ap (λ j. (r.records t).places ++ place_of (r.records t) (entrant_of operation) (moment_at (r.records t) j).moment true ∷ []) own)
      e
      (told_reply r (suc t) operation.id answer lt ended)
      (subst (λ j. Replied limits states r.records last V operation (moment_at (r.records t) j).moment answer) own
      (facts.replies t actor operation answer o lt m notes is does (λ no_slots. let wrong : ⊥ = cc no_slots in wrong) e))
      closings kept still

  -- where a close begins
  close_kind : (t : ℕ) (lt : t < last) (s : Step) (o : Outcome) (actor handle : ℕ) (number : Option ℕ) (stood : Access × ℕ) → Moves (states t) s o (states (suc t)) → Notes states r.records t s →
      s ≡ step.Begin actor (Close handle) number →
      entered_by_step (r.records t) (states t) s ≡ [] → Enters limits states r.records last V t (on_time (states t).steps false (states t).begun) → ClosesNone limits states r.records last V t →
      standing (states t) handle ≡ Some stood → footing (states (suc t)) handle ≡ None →
      ((h : ℕ) → (h ≡ handle → ⊥) → footing (states (suc t)) h ≡ footing (states t) h) → Kind limits states r.records last V t
  close_kind t lt s o actor handle number stood m notes e none places closings at gone others =
      let history = (r.records t).events in
      let id : ℕ = begun history in
      let count : (states t).begun ≡ id = sym (alike r t (omega arith)).begun_are in
      let told : (r.records (suc t)).events ≡ history ++ Begin id actor (Close handle) None ∷ [] =
      ap (λ (q : Record). q.events) notes ∙ ap (λ x. (noted (r.records t) (states t).steps (told_in (states t) x)).events) e
      ∙ ap (λ n. history ++ Begin n actor (Close handle) None ∷ []) count in
      let here : slice_get (r.records (suc t)).events (length history) ≡ Some (Begin id actor (Close handle) None) =
      ap (λ l. slice_get l (length history)) told ∙ at_push history (Begin id actor (Close handle) None) (length history) refl in
      let at_end = event_later r (suc t) last (length history) (Begin id actor (Close handle) None) lt (omega arith) here in
      let says : Told = record { actor = actor; call = Close handle; opens = None } in
      let begins : BeginsAt (r.records last).events (length history) id says = at_end in
      let reply_is : IsReply (r.records last).events id reply.Closed =
      λ other ends. sym (closed_reply r last (omega arith) id (record { place = length history; actor = actor; handle = handle; opens = None; at = at_end }) other ends) in
      closes handle stood
      (places ∙ ap (λ n. (r.records t).places ++ on_time n false (states t).begun ∷ []) (number_at t lt) ∙ ap (λ n. (r.records t).places ++ on_time t false n ∷ []) count)
      ((length history, says, begins, refl, refl), reply_is)
      (ap begun told ∙ begun_push history (Begin id actor (Close handle) None) refl)
      at (no_standing r V facts (states (suc t)) handle gone)
      (λ other apart. keeps_standing r V facts t other lt (others other apart))
      closings (facts.still t s o lt m notes none)

  -- where an offer is carried out
  swap_kind : (t handle : ℕ) (offer : Descriptor) (swap : IsSwap states r.records last t handle offer) → entered_by_step (r.records t) (states t) swap.step ≡ [] →
      Enters limits states r.records last V t (on_time (states t).steps false offer.operation) →
      (r.records (suc t)).closings ≡ (r.records t).closings ++ record { generation = generation_at (states t).heap offer.root; step = (states t).steps } ∷ [] →
      (states (suc t)).roots ≡ roots_swapped (states t) handle offer offer.opens → (states (suc t)).heap ≡ (states t).heap → Kind limits states r.records last V t
  swap_kind t handle offer swap none places closings roots heap =
      swaps handle offer (carried r V facts t handle offer swap (offers_at r t (omega (arith, swap.taken))))
      (places ∙ ap (λ n. (r.records t).places ++ on_time n false offer.operation ∷ []) (number_at t swap.taken))
      (closings ∙ ap (λ n. (r.records t).closings ++ record { generation = generation_at (states t).heap offer.root; step = n } ∷ []) (number_at t swap.taken))
      roots heap (facts.still t swap.step swap.outcome swap.taken swap.moves swap.notes none)

  by_change : (t : ℕ) (lt : t < last) (s : Step) (o : Outcome) → Moves (states t) s o (states (suc t)) → Notes states r.records t s →
      Changes (states t) (r.records t) s (states (suc t)) (r.records (suc t)) → Kind limits states r.records last V t
  by_change t lt s o m notes (each.quiet places closings same) = quiet_kind t lt s o (entered_by_step (r.records t) (states t) s) m notes refl (empty_or_not _) places closings same
  by_change t lt s o m notes (each.ends actor operation answer e is does none places closings same) =
      end_kind t actor lt o operation answer _ (subst (λ x. Moves (states t) x o (states (suc t))) e m)
      (subst (λ x. Notes states r.records t x) e notes) is does refl places closings (kept_all t lt same) (facts.still t s o lt m notes none)
  by_change t lt s o m notes (each.closes actor handle number root e is none places closings gone others) =
      close_kind t lt s o actor handle number _ m notes e none places closings (ap (standing_of (states t).heap) is) gone others
  by_change t lt s o m notes (each.swaps handle offer carries none places closings roots heap) =
      swap_kind t handle offer (record { taken = lt; step = s; outcome = o; moves = m; notes = notes; carries = carries }) none places closings roots heap

  -- the kind of each step
  pub kind_at : (t : ℕ) → t < last → Kind limits states r.records last V t
  kind_at t lt =
      let a = step_at r V facts t lt in
      by_change t lt a.its a.outcome a.move a.notes (change_at r V facts t lt)
