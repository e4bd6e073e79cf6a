-- What the steps of a run tell may be told.
use Rattle.std.proofs.Common.{arith, ◌≡◌, ℕ, ◌<◌, ◌≤◌, ◌+◌, All, Bool, true, false, List, length, Option, Some, None, refl, sym, ap, subst, ◌∙◌, lt-ltb}
use Rattle.std.specs.Prelude.{IfSome, if◌then◌else◌}
use Rattle.std.proofs.lemmas.Bool.{false≢true}
use Rattle.std.proofs.lemmas.List.{length-replicate}
use Rattle.std.proofs.lemmas.List.Elements.{All-weaker}
use Rattle.std.proofs.lemmas.Option.{none-some, same_Some}
use Rattle.proof_runs.specs.Vocabulary.{begun, Slot, Ref, Heap, generation_at, generation_of, stored, birth_of, slot_of, Action, Line, Purpose, Operation, SwapLine, Carried, Entrant, Publication}
use Rattle.proof_runs.specs.Vocabulary.{Descriptor, RootWord, Plain, Offer, Bounds, Outcome, Step, operation_after, handle_of, of_birth, AreBounds, is_actor, run, Begins, Ends, Moves, Sweeps}
use Rattle.proof_runs.specs.Vocabulary.{GivesUp, action_of, State, first_state, operation_of, with_operation, word_at, is_carried_out, carried_by, changer_for, committed_now, given_now}
use Rattle.proof_runs.specs.Vocabulary.{published_at, published_by, progress_of, IsInUse, AllHold, action_wants}
use Rattle.proof_runs.specs.Beneath.machine_model.specs.declared.actions.Action.TheVariants as act
use Rattle.proof_runs.specs.Beneath.machine_model.specs.declared.lines.Line.TheVariants as line
use Rattle.proof_runs.specs.Beneath.machine_model.specs.declared.lines.Purpose.TheVariants as purpose
use Rattle.proof_runs.specs.Beneath.machine_model.specs.declared.reading.SwapLine.TheVariants as swap
use Rattle.proof_runs.specs.Beneath.machine_model.specs.Moves.{Goes}
use Rattle.proof_runs.specs.Beneath.machine_model.proofs.Along.{along}
use Rattle.proof_runs.specs.Beneath.machine_model.proofs.Alike.{actor_within, alike_along}
use Rattle.proof_runs.specs.Beneath.machine_model.proofs.Found.{found_within}
use Rattle.proof_runs.specs.Beneath.machine_model.proofs.Frames.{acted_framed, limits_kept, steps_counted}
use Rattle.proof_runs.specs.Beneath.machine_model.proofs.Grown.{node_standing}
use Rattle.proof_runs.specs.Beneath.machine_model.proofs.Slots.{sound_along}
use Rattle.proof_memory.proofs.Claims.Uses.{safe_of}
use Rattle.proof_memory.proofs.Safety.AtEachTime.{safe_along}
use Rattle.proof_memory.proofs.Safety.AtTimes.{action_finds}
use Rattle.proof_runs.specs.Beneath.proof_generations.proofs.Handles.Running.{actors_length, place_of_actor}
use Rattle.proof_runs.specs.Beneath.proof_generations.proofs.Offers.Same.{HasOffers}
use Rattle.proof_runs.specs.Beneath.proof_generations.proofs.Offers.Standing.{own_numbers}
use Rattle.proof_runs.specs.Beneath.proof_generations.proofs.Roots.OfLists.{has_handles_along, standing_below}
use Rattle.proof_runs.specs.Beneath.proof_generations.proofs.Roots.Along.{ordered_along}
use Rattle.proof_runs.specs.Beneath.proof_order.proofs.History.PlacesPast.{places_past}
use Rattle.proof_runs.specs.Beneath.proof_order.proofs.Phases.Commits.{Decides, line_decides}
use Rattle.proof_runs.proofs.Record.Newest.{committed_are_newest, commits_used, published_are_newest, publishes_used}
use Rattle.chronicle.specs.Chronicled.{Chronicled, CanClose, CanCommit, CanPublish, IsActor, CanBegin, CanEnd, CanGo}
use Rattle.chronicle.specs.Committed.{IsNewestCommitted}
use Rattle.proof_runs.specs.Tellings.{IsKeptOf, TellingsFit}
use Rattle.proof_runs.proofs.Record.Reading.{given_used}

-- ---- numbers

-- what a step begins
begins_after : (state : State) (s : Step) (o : Outcome) (after : State) → Moves state s o after → after.begun ≤ state.begun + 1
begins_after state s o after (Begins d) = omega arith
begins_after state s o after (Goes {actor} {operation} d is a g) =
    let framed = acted_framed (with_operation state actor (Some (operation_after state operation))) (handle_of operation.call) (action_of state operation) in omega (arith, framed.begun)
begins_after state s o after (Ends d is a) = omega arith
begins_after state s o after (GivesUp d is a) = omega arith
begins_after state s o after (Sweeps spent) = omega arith

none_begun : (limits : Bounds) → (first_state limits).begun ≤ (first_state limits).steps
unfolding first_state
none_begun limits = omega arith

-- no more operations have begun than steps were taken
few_begun : (limits : Bounds) (steps : List Step) → (run limits steps).begun ≤ (run limits steps).steps
few_begun limits =
    along limits (λ state. state.begun ≤ state.steps) (none_begun limits)
    (λ steps s o after m h. omega (arith, begins_after (run limits steps) s o after m, steps_counted (run limits steps) s o after m, h))

first_actors : (limits : Bounds) → length (first_state limits).actors ≡ (first_state limits).limits.actors
unfolding first_state
first_actors limits = length-replicate limits.actors None

-- each actor has a place
seats : (limits : Bounds) (steps : List Step) → length (run limits steps).actors ≡ (run limits steps).limits.actors
seats limits =
    along limits (λ state. length state.actors ≡ state.limits.actors) (first_actors limits)
    (λ steps s o after m h. actors_length (run limits steps) s o after m ∙ h ∙ sym (ap (λ (l : Bounds). l.actors) (limits_kept (run limits steps) s o after m)))

-- ---- a slot in use

stored_within : (heap : Heap) (r : Ref) (slot : Slot) → stored heap r ≡ Some slot → slot_of r < length heap.slots
unfolding stored
stored_within heap r slot e = found_within heap.slots (slot_of r) slot e

used_within : (heap : Heap) (r : Ref) → IsInUse heap r → slot_of r < length heap.slots
used_within heap r used = by (stored heap r) refl used.1
  where
    by : (o : Option Slot) → stored heap r ≡ o → of_birth (birth_of r) o ≡ Some used.0 → slot_of r < length heap.slots
    by None is e = absurd (none-some used.0 e)
    by (Some slot) is e = stored_within heap r slot is

-- ---- what is carried out

for_some : {A : Type 0} (o : Option A) (P : A → Type 0) → ((x : A) → o ≡ Some x → P x) → IfSome o P
for_some None P each = tt
for_some (Some x) P each = each x refl

-- the step carries an offer out: it completes it, and another with its number stands in the root word
record Carries (state : State) (handle : ℕ) (action : Action) (c : Carried) : Type 0 where
  offer : Descriptor
  main : Ref
  is : action ≡ act.Complete offer main
  generation : c.generation ≡ generation_at state.heap offer.root
  other : Descriptor
  stands : word_at state handle ≡ Offer other
  same : other.operation ≡ c.operation

stood_by : (word : RootWord) (offer : Descriptor) (main : Ref) → is_carried_out word offer main ≡ true → (other : Descriptor) × (word ≡ Offer other) × (other.operation ≡ offer.operation)
stood_by (Plain root) offer main carried = absurd (false≢true carried)
stood_by (Offer other) offer main carried = (other, refl, grind (arith, carried))

carries : (state : State) (handle : ℕ) (action : Action) (c : Carried) → carried_by state handle action ≡ Some c → Carries state handle action c
carries state handle (act.Complete offer main) c e = by (is_carried_out (word_at state handle) offer main) refl e
  where
    told : Carried
    told = record { generation = generation_at state.heap offer.root; operation = offer.operation }

    by : (b : Bool) → is_carried_out (word_at state handle) offer main ≡ b → (if b then Some told else None) ≡ Some c → Carries state handle (act.Complete offer main) c
    by false is none = absurd (none-some c none)
    by true is some =
        let same : told ≡ c = same_Some told c some in
        let found = stood_by (word_at state handle) offer main is in
        record {
          offer = offer;
          main = main;
          is = refl;
          generation = sym (ap (λ (x : Carried). x.generation) same);
          other = found.0;
          stands = found.1;
          same = found.2 ∙ ap (λ (x : Carried). x.operation) same;
        }
carries state handle action c e = absurd (grind (arith, e))

-- what commits carries nothing out
none_carried : (state : State) (handle : ℕ) (action : Action) (main : Ref) → Decides state.heap action main → carried_by state handle action ≡ None
none_carried state handle action main d = ap (carried_by state handle) d.is_it

-- ---- what is published

changer_is : (operation : Operation) (why : Purpose) (e : Entrant) → changer_for operation why ≡ Some e → e.id ≡ operation.id
changer_is operation (purpose.Update path former) e is = ap (λ (x : Entrant). x.id) (sym (same_Some _ e is))
changer_is operation why e is = absurd (none-some e is)

publication_is : (changer : Option Entrant) (main : Ref) (l : SwapLine) (p : Publication) → published_at changer main l ≡ Some p → changer ≡ p.changer
publication_is changer main swap.Publish p is = ap (λ (x : Publication). x.changer) (same_Some _ p is)
publication_is changer main (swap.Deciding l) p is = absurd (none-some p is)
publication_is changer main swap.Check p is = absurd (none-some p is)

-- whoever changes its key by it is the operation itself
publisher : (operation : Operation) (l : Line) (p : Publication) → published_by operation l ≡ Some p → (e : Entrant) → p.changer ≡ Some e → e.id ≡ operation.id
publisher operation (line.Swap why s) p is e its = changer_is operation why e (publication_is (changer_for operation why) s.fresh s.line p is ∙ its)
publisher operation l p is e its = absurd (none-some p is)

-- ---- at each time of a run

module _ (limits : Bounds) (steps : List Step) (kept : Chronicled) (ok : AreBounds limits) (k : IsKeptOf limits steps kept) where
  abbrev now : State
  now = run limits steps

  offers_known : HasOffers now
  offers_known = (has_handles_along limits steps).0

  begun_are : begun kept.past.events ≡ now.begun
  begun_are = ap (λ past. begun past.events) k.past ∙ (alike_along limits steps).begun_are

  moments_are : length kept.past.moments ≡ now.limits.actors
  moments_are = ap (λ past. length past.moments) k.past ∙ (alike_along limits steps).moments

  within : (r : Ref) → IsInUse now.heap r → slot_of r < kept.slots
  within r used = omega (arith, used_within now.heap r used, (sound_along limits ok steps).heap.size, k.slots)

  newest_committed : (r : Ref) → IsInUse now.heap r → IsNewestCommitted kept.past.commits r
  newest_committed r used = subst (λ past. IsNewestCommitted past.commits r) (sym k.past) (committed_are_newest limits steps ok r used)

  begins : (actor : ℕ) → is_actor now actor ≡ true → CanBegin kept actor now.begun
  begins actor own = record {
    actor_is = (grind (arith, own, lt-ltb), omega (arith, moments_are, actor_within now actor own));
    next = sym begun_are;
  }

  module _ (actor : ℕ) (operation : Operation) (runs : operation_of now actor ≡ Some operation) where
    actor_is : IsActor kept.past actor
    actor_is =
        let (n, place, at) = place_of_actor now actor operation runs in
        let seat = found_within now.actors n operation at in
        (omega (arith, place), omega (arith, place, seat, seats limits steps, moments_are))

    given_id : operation.id < now.begun
    given_id = let (n, place, at) = place_of_actor now actor operation runs in offers_known.ids.below n operation at

    wants : AllHold (IsInUse now.heap) now.heap (action_wants (action_of now operation))
    wants = action_finds now (safe_along limits ok steps) actor operation runs

    can_commit : (main : Ref) → committed_now now operation ≡ Some main → CanCommit kept main
    can_commit main e =
        let used = commits_used now (safe_along limits ok steps) actor operation main runs e in
        record {
          within = within main used;
          newest = newest_committed main used;
          last = subst (λ past. All (λ p. slot_of p.main ≡ slot_of main → p.main ≤ main) past.published) (sym k.past) (published_are_newest limits steps ok main used);
        }

    can_publish : (p : Publication) → published_by operation operation.line ≡ Some p → CanPublish kept p
    can_publish p e =
        let used = publishes_used now operation operation.line p e wants in
        record {
          within = within p.main used;
          last = subst (λ past. All (λ q. slot_of q.main ≡ slot_of p.main → q.main ≤ p.main) past.published) (sym k.past) (published_are_newest limits steps ok p.main used);
          begun = for_some p.changer (λ e. e.id < begun kept.past.events)
              (λ changer is. omega (arith, publisher operation operation.line p e changer is, given_id, begun_are));
        }

    drawn : (r : Ref) → IsInUse now.heap r → generation_at now.heap r < now.generations
    drawn r there =
        subst (λ n. generation_of n < now.generations) (sym (node_standing now.heap r there.0 there.1))
        (standing_below now (ordered_along limits ok steps).below r there.0 there.1)

    offer_below : (handle : ℕ) (offer : Descriptor) → word_at now handle ≡ Offer offer → offer.operation < now.begun
    offer_below handle offer word =
        let b = offers_known.offers handle offer word in
        let mine = own_numbers b.owner offer (offers_known.own b.k b.owner b.runs) b.completes in
        omega (arith, mine.its, offers_known.ids.below b.k b.owner b.runs)

    can_close : (c : Carried) → carried_by now (handle_of operation.call) (action_of now operation) ≡ Some c → CanClose kept now.steps c
    can_close c e =
        let its = carries now (handle_of operation.call) (action_of now operation) c e in
        let used = safe_of (subst (λ (a : Action). AllHold (IsInUse now.heap) now.heap (action_wants a)) its.is wants).1.0 in
        let past = subst (λ past. All (λ place. place.step < now.steps) past.places × All (λ closing. closing.step < now.steps) past.closings) (sym k.past) (places_past limits steps) in
        record {
          drawn = omega (arith, its.generation, drawn its.offer.root used, k.generations);
          begun = omega (arith, its.same, offer_below (handle_of operation.call) its.other its.stands, begun_are);
          later = past.1;
          behind = All-weaker (λ place. place.step < now.steps) (λ place. place.step ≤ now.steps) (λ place h. omega (arith, h)) kept.past.places past.0;
        }

    goes : CanGo kept now.steps actor (progress_of now operation)
    goes = record {
      actor_is = actor_is;
      begun_is = omega (arith, given_id, few_begun limits steps);
      given = for_some (given_now now operation) (IsNewestCommitted kept.past.commits) (λ main e. newest_committed main (given_used now operation main e wants));
      committed = for_some (committed_now now operation) (CanCommit kept) can_commit;
      carried = for_some (carried_by now (handle_of operation.call) (action_of now operation)) (CanClose kept now.steps) can_close;
      published = for_some (published_by operation operation.line) (CanPublish kept) can_publish;
      alone = for_some (committed_now now operation) (λ main. carried_by now (handle_of operation.call) (action_of now operation) ≡ None)
          (λ main e. none_carried now (handle_of operation.call) (action_of now operation) main (line_decides now operation main operation.line e));
    }

    ends : CanEnd kept actor operation.id
    ends = record { actor_is = actor_is; begun_is = omega (arith, given_id, begun_are) }

pub tellings_fit : TellingsFit
tellings_fit limits steps kept ok k = record {
  begins = begins limits steps kept ok k;
  goes = goes limits steps kept ok k;
  ends = ends limits steps kept ok k;
}
