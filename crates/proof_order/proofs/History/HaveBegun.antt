-- Each operation that has a place has begun.
use Rattle.std.proofs.Common.{◌≡◌, ℕ, suc, ◌⊎◌, inl, inr, Bool, true, false, if◌then◌else◌, List, []}
use Rattle.std.proofs.Common.{◌∷◌, ◌++◌, length, Option, Some, None, ◌<◌, ◌≤◌, option_and_then, cond, find, option_to_list, ◌==◌}
use Rattle.std.proofs.Common.{refl, sym, ap, ◌∙◌, subst}
use Rattle.std.proofs.lemmas.Bool.{and_parts}
use Rattle.proof_order.specs.Vocabulary.{Call, Close, Reply, Event, HasBegun, begun, OrderedAt, Ref, Place, rising, ids_by_place, Action, Operation, Descriptor, Bounds, Outcome, Step, handle_of}
use Rattle.proof_order.specs.Vocabulary.{State, first_state, word_at, operation_of, action_of, stands_in, is_carried_out, run, Begins, Ends, Sweeps, GivesUp, Moves, begun_operation, IsRun, place_of}
use Rattle.proof_order.specs.Vocabulary.{is_placed, closing_for, order_of, entered, entered_by, entered_at_end, Record, entered_at_begin, first_record, record_of, changer_of, noted, placed_by}
use Rattle.proof_order.specs.Vocabulary.{moment_at, carried_by, told_in, progress_of, published_by, entrant_of, published_at, changer_for, Publication, Carried, Entrant, Progress, Line}
use Rattle.proof_order.specs.Vocabulary.{generation_at, Purpose, SwapLine, settles}
use Rattle.proof_order.specs.Beneath.history.specs.declared.replies.Reply.TheVariants as reply
use Rattle.proof_order.specs.Beneath.history.specs.declared.events.Event.TheVariants.{Begin}
use Rattle.proof_order.specs.Beneath.history.specs.Histories.{Operation as Told}
use Rattle.proof_order.specs.Beneath.history.proofs.Places.{at_push}
use Rattle.proof_order.specs.Beneath.machine_model.specs.declared.actions.Action.TheVariants as act
use Rattle.proof_order.specs.Beneath.machine_model.specs.Moves.{Goes}
use Rattle.proof_generations.proofs.Offers.Same.{same_offer}
use Rattle.proof_generations.proofs.Handles.Running.{place_of_actor}
use Rattle.proof_order.specs.Facts.{Runs}
use Rattle.proof_order.specs.Beneath.history.proofs.Among.{Among, among_either}
use Rattle.proof_order.proofs.Places.Elements.{among_get, among_mapped}
use Rattle.proof_order.proofs.Places.Sorting.{among_rising}
use Rattle.proof_order.proofs.History.Books.{Books, id_below}
use Rattle.proof_order.proofs.History.Growing.{Grows, get_grown, events_grow}
use Rattle.proof_order.proofs.Places.Origins.{place_says}
use Rattle.proof_order.proofs.Offers.Known.{Offers, stands}
use Rattle.proof_order.proofs.Offers.Standing.{offers_kept, first_offers}
use Rattle.proof_order.specs.Beneath.machine_model.proofs.Recorded.{KeptByNotes, at_each_record, along_with}
use Rattle.proof_order.specs.Beneath.machine_model.proofs.Notes.{noted_going, noted_ending}
use Rattle.std.proofs.lemmas.Option.{none-some, same_Some}
use Rattle.proof_order.specs.Beneath.machine_model.specs.declared.lines.Line.TheVariants as line
use Rattle.proof_order.specs.Beneath.machine_model.specs.declared.reading.SwapLine.TheVariants as swap
use Rattle.proof_order.specs.Beneath.machine_model.specs.declared.lines.Purpose.TheVariants as purpose

-- who runs has begun
runs_begun : (state : State) (past : Record) → Books state past → (k : ℕ) (operation : Operation) → Runs state k operation → HasBegun past.events operation.id
runs_begun state past books k operation runs =
    let told = books.told k operation runs in
    let says : Told = record { actor = suc k; call = operation.call; opens = operation.opens } in
    (told.place, says, told.begins)

-- ---- the places that a step adds

-- a place is its entrant's
id_of_place : (past : Record) (e : Entrant) (moment : ℕ) (changed_nothing : Bool) → (place_of past e moment changed_nothing).id ≡ e.id
id_of_place past e moment changed_nothing = (place_says (closing_for past e.generation e.access) moment e.id changed_nothing).2

-- whose change a node is said to be was said as it was to be swapped in
changer_published : (xs : List Publication) (main : Ref) (e : Entrant) → option_and_then (λ (p : Publication). p.changer) (find (λ (p : Publication). p.main == main) xs) ≡ Some e →
    (p : Publication) × Among p xs × (p.changer ≡ Some e)
changer_published [] main e is = absurd (none-some e is)
changer_published (p ∷ ps) main e is = by (p.main == main) (changer_published ps main e) is
  where
    by : (b : Bool) → (option_and_then (λ (q : Publication). q.changer) (find (λ (q : Publication). q.main == main) ps) ≡ Some e → (q : Publication) × Among q ps × (q.changer ≡ Some e)) →
        option_and_then (λ (q : Publication). q.changer) (cond b (Some p) (find (λ (q : Publication). q.main == main) ps)) ≡ Some e →
        (q : Publication) × Among q (p ∷ ps) × (q.changer ≡ Some e)
    by true rest at = (p, inl refl, at)
    by false rest at = let (q, among, its) = rest at in (q, inr among, its)

-- who enters by a commit published the node
entered_one : (past : Record) (step : ℕ) (changer : Option Entrant) (p : Place) → Among p (entered_by past step changer) → (e : Entrant) × (changer ≡ Some e) × (p.id ≡ e.id)
entered_one past step None p a = absurd a
entered_one past step (Some e) p (inl is) = (e, refl, ap (λ (q : Place). q.id) is ∙ id_of_place past e step false)
entered_one past step (Some e) p (inr none) = absurd none

-- the changes that were published are of operations that have begun
abbrev ChangersBegun : Record → Type 0
ChangersBegun past = (p : Publication) (e : Entrant) → Among p past.published → p.changer ≡ Some e → HasBegun past.events e.id

entered_begun : (past : Record) → ChangersBegun past → (step : ℕ) (committed : Option Ref) (p : Place) → Among p (entered past step committed) → HasBegun past.events p.id
entered_begun past changers step None p a = absurd a
entered_begun past changers step (Some main) p a =
    let (e, is, id) = entered_one past step (changer_of past main) p a in
    let (published, among, its) = changer_published past.published main e is in
    subst (λ i. HasBegun past.events i) (sym id) (changers published e among its)

-- what a step publishes is its operation's
published_own : (operation : Operation) (l : Line) (p : Publication) (e : Entrant) → Among p (option_to_list (published_by operation l)) → p.changer ≡ Some e → e.id ≡ operation.id
published_own operation (line.Swap why s) p e a its = by why (published_line why s.line a) its
  where
    -- it stands on the SWAP's first line
    published_line : (w : Purpose) (l : SwapLine) → Among p (option_to_list (published_at (changer_for operation w) s.fresh l)) → p.changer ≡ changer_for operation w
    published_line w swap.Publish (inl is) = ap (λ (q : Publication). q.changer) is
    published_line w swap.Publish (inr none) = absurd none
    published_line w (swap.Deciding r) a = absurd a
    published_line w swap.Check a = absurd a

    by : (w : Purpose) → p.changer ≡ changer_for operation w → p.changer ≡ Some e → e.id ≡ operation.id
    by (purpose.Update path former) is its = ap (λ (x : Entrant). x.id) (same_Some _ _ (sym its ∙ is))
    by (purpose.Renew path) is its = absurd (none-some e (sym is ∙ its))
    by purpose.Clean is its = absurd (none-some e (sym is ∙ its))
    by (purpose.Climb c) is its = absurd (none-some e (sym is ∙ its))
published_own operation (line.Root l) p e a its = absurd a
published_own operation (line.Key l) p e a its = absurd a
published_own operation (line.Build l) p e a its = absurd a
published_own operation (line.Renew l) p e a its = absurd a
published_own operation (line.Clean l) p e a its = absurd a
published_own operation (line.Climb l) p e a its = absurd a
published_own operation (line.Copy l) p e a its = absurd a
published_own operation (line.Walk l) p e a its = absurd a
published_own operation (line.End answer) p e a its = absurd a
published_own operation line.Impossible p e a its = absurd a

-- an offer that is carried out is of an operation that has begun
carried_begun : (state : State) (past : Record) → Offers state past → (actor : ℕ) (operation : Operation) (offer : Descriptor) (main : Ref) → operation_of state actor ≡ Some operation →
    action_of state operation ≡ act.Complete offer main → is_carried_out (word_at state (handle_of operation.call)) offer main ≡ true → HasBegun past.events offer.operation
carried_begun state past offers actor operation offer main is does carried =
    let there = (and_parts (stands_in (word_at state (handle_of operation.call)) offer) _ carried).0 in
    let st = stands state offers (handle_of operation.call) offer (same_offer state offers.own actor operation offer is (ap settles does) (handle_of operation.call) there) in
    subst (λ i. HasBegun past.events i) st.id (runs_begun state past offers.books st.k st.operation st.runs)

-- what is told to be carried out
carried_says : (state : State) (handle : ℕ) (action : Action) (c : Carried) → carried_by state handle action ≡ Some c →
    (offer : Descriptor) × (main : Ref) × (action ≡ act.Complete offer main) × (is_carried_out (word_at state handle) offer main ≡ true) × (c.operation ≡ offer.operation)
carried_says state handle (act.Complete offer main) c e = by (is_carried_out (word_at state handle) offer main) refl e
  where
    by : (b : Bool) → is_carried_out (word_at state handle) offer main ≡ b →
        cond b (Some (record { generation = generation_at state.heap offer.root; operation = offer.operation })) None ≡ Some c →
        (other : Descriptor) × (node : Ref) × (act.Complete offer main ≡ act.Complete other node) × (is_carried_out (word_at state handle) other node ≡ true) × (c.operation ≡ other.operation)
    by true is e = (offer, main, refl, is, ap (λ (x : Carried). x.operation) (sym (same_Some _ c e)))
    by false is e = absurd (none-some c e)
carried_says state handle action c e = absurd (let wrong : None ≡ Some c = e in none-some c wrong)

placed_begun_by : (state : State) (past : Record) → Offers state past → (actor : ℕ) (operation : Operation) → operation_of state actor ≡ Some operation → (carried : Option Carried) →
    carried_by state (handle_of operation.call) (action_of state operation) ≡ carried → (p : Place) → Among p (placed_by state.steps carried) → HasBegun past.events p.id
placed_begun_by state past offers actor operation is None e p a = absurd a
placed_begun_by state past offers actor operation is (Some c) e p (inr none) = absurd none
placed_begun_by state past offers actor operation is (Some c) e p (inl at) =
    let (offer, main, does, carried, its) = carried_says state (handle_of operation.call) (action_of state operation) c e in
    subst (λ i. HasBegun past.events i) (sym (ap (λ (q : Place). q.id) at ∙ its)) (carried_begun state past offers actor operation offer main is does carried)

end_place : (past : Record) (e : Entrant) (moment : ℕ) (answer : Reply) (p : Place) → Among p (entered_at_end past e moment answer) → p.id ≡ e.id
end_place past e moment reply.NoSlots p a = absurd a
end_place past e moment answer p a = by (is_placed past e.id) a
  where
    by : (b : Bool) → Among p (if b then [] else place_of past e moment true ∷ []) → p.id ≡ e.id
    by true none = absurd none
    by false (inl is) = ap (λ (q : Place). q.id) is ∙ id_of_place past e moment true
    by false (inr none) = absurd none

-- ---- each place

record Begun (state : State) (past : Record) : Type 0 where
  offers : Offers state past
  changers : ChangersBegun past
  each : (p : Place) → Among p past.places → HasBegun past.events p.id

begin_place : (step id : ℕ) (call : Call) (p : Place) → Among p (entered_at_begin step id call) → p.id ≡ id
begin_place step id (Close handle) p (inl is) = ap (λ (q : Place). q.id) is
begin_place step id (Close handle) p (inr none) = absurd none
begin_place step id call p a = absurd a

still_begun : (before after : List Event) (id : ℕ) → Grows before after → HasBegun before id → HasBegun after id
still_begun before after id g (place, operation, at) = (place, operation, get_grown before after place _ g at)

-- what is noted of a step's place or publication: it is an old one, or its operation has begun by now
place_begun : (state : State) (past : Record) (s : Step) (o : Outcome) (after : State) → Moves state s o after → Begun state past → (p : Place) →
    Among p (noted past state.steps (told_in state s)).places → Among p past.places ⊎ HasBegun (noted past state.steps (told_in state s)).events p.id
place_begun state past s o after (Begins {actor} {call} {number} d) h p a =
    let operation : Operation = begun_operation state call number in
    let says : Told = record { actor = actor; call = call; opens = operation.opens } in
    let event : Event = Begin operation.id actor call operation.opens in
    elim (among_either past.places _ p a) [
      | inl old ↦ inl old
      | inr new ↦ inr (subst (λ i. HasBegun (past.events ++ event ∷ []) i) (sym (begin_place state.steps operation.id call p new))
          (length past.events, says, at_push past.events event (length past.events) refl))
    ]
place_begun state past s o after (Goes {actor} {operation} {action} d is b g) h p a =
    let grown = events_grow state past s o after (Goes {actor = actor} {operation = operation} {action = action} d is b g) in
    let p_of : Progress = progress_of state operation in
    elim (among_either (past.places ++ entered past state.steps p_of.committed) (placed_by state.steps p_of.carried) p
    (subst (λ (r : Record). Among p r.places) (noted_going state past actor operation action is b g) a)) [
      | inl before ↦ elim (among_either past.places (entered past state.steps p_of.committed) p before) [
        | inl old ↦ inl old
        | inr new ↦ inr (still_begun past.events _ p.id grown (entered_begun past h.changers state.steps p_of.committed p new))
      ]
      | inr new ↦ inr (still_begun past.events _ p.id grown (placed_begun_by state past h.offers actor operation is p_of.carried refl p new))
    ]
place_begun state past s o after (Ends {actor} {operation} {answer} d is b) h p a =
    let (k, actors, runs) = place_of_actor state actor operation is in
    let grown = events_grow state past s o after (Ends {actor = actor} {operation = operation} {answer = answer} d is b) in
    elim (among_either past.places (entered_at_end past (entrant_of operation) (moment_at past actor).moment answer) p
    (subst (λ (r : Record). Among p r.places) (noted_ending state past actor operation answer is b) a)) [
      | inl old ↦ inl old
      | inr new ↦ inr (still_begun past.events _ p.id grown
          (subst (λ i. HasBegun past.events i) (sym (end_place past (entrant_of operation) (moment_at past actor).moment answer p new)) (runs_begun state past h.offers.books k operation runs)))
    ]
place_begun state past s o after (GivesUp d is b) h p a = inl a
place_begun state past s o after (Sweeps spent) h p a = inl a

changers_begun : (state : State) (past : Record) (s : Step) (o : Outcome) (after : State) → Moves state s o after → Begun state past → ChangersBegun (noted past state.steps (told_in state s))
changers_begun state past s o after (Begins {actor} {call} {number} d) h p e a its =
    still_begun past.events _ e.id (events_grow state past s o after (Begins {actor = actor} {call = call} {number = number} d)) (h.changers p e a its)
changers_begun state past s o after (Goes {actor} {operation} {action} d is b g) h p e a its =
    let grown = events_grow state past s o after (Goes {actor = actor} {operation = operation} {action = action} d is b g) in
    let (k, actors, runs) = place_of_actor state actor operation is in
    still_begun past.events _ e.id grown
    (elim (among_either (option_to_list (published_by operation operation.line)) past.published p
    (subst (λ (r : Record). Among p r.published) (noted_going state past actor operation action is b g) a)) [
      | inl new ↦ subst (λ i. HasBegun past.events i) (sym (published_own operation operation.line p e new its)) (runs_begun state past h.offers.books k operation runs)
      | inr old ↦ h.changers p e old its
    ])
changers_begun state past s o after (Ends {actor} {operation} {answer} d is b) h p e a its =
    still_begun past.events _ e.id (events_grow state past s o after (Ends {actor = actor} {operation = operation} {answer = answer} d is b))
    (h.changers p e (subst (λ (r : Record). Among p r.published) (noted_ending state past actor operation answer is b) a) its)
changers_begun state past s o after (GivesUp d is b) h p e a its = h.changers p e a its
changers_begun state past s o after (Sweeps spent) h p e a its = h.changers p e a its

begun_kept : KeptByNotes Begun
begun_kept state past s o after m h = record {
  offers = offers_kept state past s o after m h.offers;
  changers = changers_begun state past s o after m h;
  each = λ p a. elim (place_begun state past s o after m h p a) [
    | inl old ↦ still_begun past.events _ p.id (events_grow state past s o after m) (h.each p old)
    | inr new ↦ new
  ];
}

first_begun : (limits : Bounds) → Begun (first_state limits) (first_record limits)
first_begun limits = record { offers = first_offers limits; changers = λ p e a its. absurd a; each = λ p a. absurd a }

-- after each list of steps
pub placed_begun : (limits : Bounds) (steps : List Step) (p : Place) → Among p (record_of limits steps).places → HasBegun (record_of limits steps).events p.id
placed_begun limits steps = (along_with limits Begun (first_begun limits) (λ before s o after m h. begun_kept (run limits before) (record_of limits before) s o after m h) steps).each

-- at each time of a run the ids of places are below the number of those that have begun
pub places_below : {limits : Bounds} {states : ℕ → State} {last : ℕ} (r : IsRun limits states last) (t : ℕ) → t ≤ last → (p : Place) → Among p (r.records t).places →
    p.id < begun (r.records t).events
places_below {limits} {states} {last} r t le p a =
    let h = at_each_record r Begun (first_begun limits) begun_kept t le in
    let (place, told, at) = h.each p a in
    id_below (r.records t).events place p.id told h.offers.books.well_formed at

-- so each id of the order has
pub ordered_begun : (limits : Bounds) (steps : List Step) (i id : ℕ) → OrderedAt (order_of (record_of limits steps)) i id → HasBegun (record_of limits steps).events id
unfolding ids_by_place
ordered_begun limits steps i id at =
    let places = (record_of limits steps).places in
    let (p, within, same) = among_mapped (λ (q : Place). q.id) (rising places) id (among_get (order_of (record_of limits steps)) i id at) in
    subst (λ x. HasBegun (record_of limits steps).events x) same (placed_begun limits steps p (among_rising places p within))
