-- The record of a call that runs alone as one.
use Rattle.std.proofs.Common.{◌≡◌, ℕ, suc, ◌-◌, ◌<◌, ◌==◌, Bool, true, false, cond, nat_lt, max, List, [], ◌∷◌, ◌++◌, length, get_or, set, Option, Some, None, refl, sym, ap, ◌∙◌, eq-eqb, arith}
use Rattle.std.specs.List.{list_any}
use Rattle.std.proofs.lemmas.Bool.{cond_both, or_left, or_right}
use Rattle.std.proofs.lemmas.List.{set-set, append-nil, get_or-set_same, length-replicate, length-set}
use Rattle.std.proofs.lemmas.List.Folds.{list_any-append}
use Rattle.proof_straight.specs.Vocabulary.{Call, Reply, Ref, generation_at, main_at, Place, on_time, place_by, Entrant, Moment, is_close, begun_operation, Record, closing_for, entered_at_end}
use Rattle.proof_straight.specs.Vocabulary.{is_placed, moment_at, first_record, no_moment, noted_end, noted_progress, place_of, State}
use Rattle.proof_straight.specs.Beneath.history.specs.declared.events.Event.TheVariants as event
use Rattle.proof_straight.specs.Beneath.history.specs.declared.replies.Reply.TheVariants as reply
use Rattle.proof_straight.specs.Recorded.{changed_record, contracted_record, copied_record, entrant_with, moment_of, unchanged_record, with_begun}
use Rattle.proof_straight.specs.Running.{IsRecordOf}
use Rattle.proof_straight.proofs.Steps.Going.{begun_record}
use Rattle.proof_straight.proofs.Steps.Noting.{carrying, committing, noted_carrying, noted_committing, noted_publishing, publishing, read_again, with_commit_of, with_read}

-- where no record is kept the first one may stand for it
pub first_is_record : (state : State) → IsRecordOf state (first_record state.limits)
first_is_record state = record { moments = length-replicate state.limits.actors no_moment; unplaced = refl }

-- of a call that has begun and read, whatever it read before
read_record : (state : State) (past : Record) (k : ℕ) (call : Call) (m : Moment) → is_close call ≡ false →
    record (begun_record state past k call) { moments = set (begun_record state past k call).moments k m } ≡ with_begun past state (suc k) call m
read_record state past k call m stays_open =
    ap (λ b. by_places (past.places ++ cond b (on_time state.steps false state.begun ∷ []) []) (set (set past.moments (suc k - 1) no_moment) k m)) stays_open
    ∙ ap (λ places. by_places places (set (set past.moments (suc k - 1) no_moment) k m)) (append-nil past.places)
    ∙ ap (λ i. by_places past.places (set (set past.moments i no_moment) k m)) index ∙ ap (λ moments. by_places past.places moments) (set-set past.moments k no_moment m)
    ∙ ap (λ i. by_places past.places (set past.moments i m)) (sym index)
  where
    by_places : List Place → List Moment → Record
    by_places places moments = record past {
      events = past.events ++ event.Begin state.begun (suc k) call (begun_operation state call None).opens ∷ [];
      places = places;
      moments = moments;
    }

    index : suc k - 1 ≡ k
    index = omega arith

-- it isn't the refusal for want of slots
abbrev pub IsAnswer : Reply → Type 0
IsAnswer reply.NoSlots = ⊥
IsAnswer answer = Unit {0}

answered_at_end : (past : Record) (e : Entrant) (moment : ℕ) (answer : Reply) → IsAnswer answer →
    entered_at_end past e moment answer ≡ cond (is_placed past e.id) [] (place_of past e moment true ∷ [])
answered_at_end past e moment reply.NoSlots is = absurd is
answered_at_end past e moment answer is = refl

-- the end of a call that changed nothing
pub unchanged_noted : (state : State) (past : Record) (k : ℕ) (call : Call) (root : Ref) (step : ℕ) (main : Ref) (answer : Reply) → IsRecordOf state past → k < length past.moments →
    is_close call ≡ false → IsAnswer answer →
    noted_end (with_read (begun_record state past k call) k step main) (suc k) (entrant_with state call root) answer ≡ unchanged_record past state (suc k) call root step main answer
unchanged_noted state past k call root step main answer is fits stays_open answers =
    let m = moment_of past step main in
    let e = entrant_with state call root in
    let begun = with_begun past state (suc k) call m in
    ap (λ r. noted_end r (suc k) e answer) (read_record state past k call m stays_open)
    ∙ ap (λ ps. record begun { events = begun.events ++ event.End state.begun answer ∷ []; places = past.places ++ ps })
    (answered_at_end begun e (moment_at begun (suc k)).moment answer answers ∙ ap (λ b. cond b [] (place_of begun e (moment_at begun (suc k)).moment true ∷ [])) is.unplaced
    ∙ ap (λ (x : Moment). place_of past e x.moment true ∷ []) own)
  where
    index : suc k - 1 ≡ k
    index = omega arith

    own : get_or (set past.moments (suc k - 1) (moment_of past step main)) k no_moment ≡ moment_of past step main
    own = ap (λ i. get_or (set past.moments i (moment_of past step main)) k no_moment) index ∙ get_or-set_same past.moments k (moment_of past step main) no_moment fits

-- what was placed last is placed
pub placed_last : (places : List Place) (place : Place) (id : ℕ) → place.id ≡ id → list_any (λ p. p.id == id) (places ++ place ∷ []) ≡ true
placed_last places place id same =
    list_any-append (λ p. p.id == id) places (place ∷ []) ∙ or_right (list_any (λ p. p.id == id) places) _ (or_left _ _ (eq-eqb place.id id same))

-- what has a place already gets none at its end
pub placed_at_end : (past : Record) (e : Entrant) (moment : ℕ) (answer : Reply) → is_placed past e.id ≡ true → entered_at_end past e moment answer ≡ []
placed_at_end past e moment reply.NoSlots is = refl
placed_at_end past e moment answer is = ap (λ b. cond b [] (place_of past e moment true ∷ [])) is

place_id : (closing : Option ℕ) (moment : ℕ) (changed : Bool) (id : ℕ) → (place_by closing moment changed id).id ≡ id
place_id None moment changed id = refl
place_id (Some closing) moment changed id = cond_both (nat_lt closing moment) _ _ (λ (p : Place). p.id ≡ id) (λ e. refl) (λ e. refl)

-- the end of a call that changed its key
pub changed_noted : (state : State) (past : Record) (k : ℕ) (call : Call) (root : Ref) (read_at published commit : ℕ) (main fresh : Ref) (answer : Reply) → k < length past.moments →
    is_close call ≡ false →
    noted_end
    (noted_progress (noted_progress (with_read (begun_record state past k call) k read_at main) published (suc k) (publishing (Some (entrant_with state call root)) fresh)) commit (suc k)
    (committing fresh))
    (suc k) (entrant_with state call root) answer ≡ changed_record past state (suc k) call root read_at commit fresh answer
changed_noted state past k call root read_at published commit main fresh answer fits stays_open =
    ap (λ r. ended (noted_progress (noted_progress r published (suc k) (publishing (Some e) fresh)) commit (suc k) (committing fresh))) (read_record state past k call m stays_open)
    ∙ ap (λ r. ended (noted_progress r commit (suc k) (committing fresh))) (noted_publishing begun published k (Some e) fresh)
    ∙ ap ended (noted_committing swapped commit k (Some e) fresh m past.published refl own) ∙ ap (λ ps. record placed
    { events = placed.events ++ event.End state.begun answer ∷ []; places = placed.places ++ ps }) no_more
    ∙ ap (λ ps. record placed { events = placed.events ++ event.End state.begun answer ∷ []; places = ps }) (append-nil placed.places)
    ∙ ap (λ ms. record placed { events = placed.events ++ event.End state.begun answer ∷ []; moments = ms }) moments
  where
    e : Entrant
    e = entrant_with state call root

    m : Moment
    m = moment_of past read_at main

    begun : Record
    begun = with_begun past state (suc k) call m

    swapped : Record
    swapped = record begun { published = record { main = fresh; changer = Some e } ∷ past.published }

    last : Moment
    last = record { read_at = read_at; moment = max read_at commit }

    placed : Record
    placed = record swapped {
      commits = past.commits ++ record { main = fresh; step = commit } ∷ [];
      places = past.places ++ place_of past e commit false ∷ [];
      moments = set swapped.moments k last;
    }

    ended : Record → Record
    ended r = noted_end r (suc k) e answer

    index : suc k - 1 ≡ k
    index = omega arith

    own : get_or (set past.moments (suc k - 1) m) k no_moment ≡ m
    own = ap (λ i. get_or (set past.moments i m) k no_moment) index ∙ get_or-set_same past.moments k m no_moment fits

    moments : set (set past.moments (suc k - 1) m) k last ≡ set past.moments (suc k - 1) last
    moments = ap (λ i. set (set past.moments i m) k last) index ∙ set-set past.moments k m last ∙ ap (λ i. set past.moments i last) (sym index)

    is_there : is_placed placed state.begun ≡ true
    is_there = placed_last past.places (place_of past e commit false) state.begun (place_id (closing_for past e.generation e.access) commit false state.begun)

    no_more : entered_at_end placed e (moment_at placed (suc k)).moment answer ≡ []
    no_more = placed_at_end placed e (moment_at placed (suc k)).moment answer is_there

-- the end of a call that carried its offer out
pub copied_noted : (state : State) (past : Record) (k : ℕ) (call : Call) (root : Ref) (before read_at step : ℕ) (answer : Reply) → is_close call ≡ false →
    noted_end
    (noted_progress (with_read (with_read (begun_record state past k call) k before (main_at state.heap root)) k read_at (main_at state.heap root)) step (suc k)
    (carrying (generation_at state.heap root) state.begun))
    (suc k) (entrant_with state call root) answer ≡ copied_record past state (suc k) call root read_at step answer
copied_noted state past k call root before read_at step answer stays_open =
    ap (λ r. ended (noted_progress r step (suc k) (carrying generation state.begun))) (read_again (begun_record state past k call) k before read_at main main ∙ read_record state past k call m
    stays_open)
    ∙ ap ended (noted_carrying begun step k generation state.begun) ∙ ap (λ ps. record placed { events = placed.events ++ event.End state.begun answer ∷ []; places = placed.places ++ ps }) no_more
    ∙ ap (λ ps. record placed { events = placed.events ++ event.End state.begun answer ∷ []; places = ps }) (append-nil placed.places)
  where
    e : Entrant
    e = entrant_with state call root

    main : Ref
    main = main_at state.heap root

    generation : ℕ
    generation = generation_at state.heap root

    m : Moment
    m = moment_of past read_at main

    begun : Record
    begun = with_begun past state (suc k) call m

    placed : Record
    placed = record begun { closings = past.closings ++ record { generation = generation; step = step } ∷ []; places = past.places ++ on_time step false state.begun ∷ [] }

    ended : Record → Record
    ended r = noted_end r (suc k) e answer

    is_there : is_placed placed state.begun ≡ true
    is_there = placed_last past.places (on_time step false state.begun) state.begun refl

    no_more : entered_at_end placed e (moment_at placed (suc k)).moment answer ≡ []
    no_more = placed_at_end placed e (moment_at placed (suc k)).moment answer is_there

-- the end of a call that left a tomb, and put its single into the main node above
pub contracted_noted : (state : State) (past : Record) (k : ℕ) (call : Call) (root : Ref) (before published commit read_at later last : ℕ) (main tomb above fresh : Ref) (answer : Reply) →
    k < length past.moments → is_close call ≡ false →
    noted_end
    (noted_progress (noted_progress (with_read
    (noted_progress (noted_progress (with_read (begun_record state past k call) k before main) published (suc k) (publishing (Some (entrant_with state call root)) tomb)) commit (suc k)
    (committing tomb))
    k read_at above) later (suc k) (publishing None fresh)) last (suc k) (committing fresh))
    (suc k) (entrant_with state call root) answer ≡ contracted_record past state (suc k) call root commit tomb read_at last fresh answer
contracted_noted state past k call root before published commit read_at later last main tomb above fresh answer fits stays_open =
    ap (λ r. second (noted_progress (noted_progress r published (suc k) (publishing (Some e) tomb)) commit (suc k) (committing tomb))) (read_record state past k call m stays_open)
    ∙ ap (λ r. second (noted_progress r commit (suc k) (committing tomb))) (noted_publishing begun published k (Some e) tomb)
    ∙ ap second (noted_committing swapped commit k (Some e) tomb m past.published refl own)
    ∙ ap (λ r. ended (noted_progress r last (suc k) (committing fresh))) (noted_publishing (with_read tombed k read_at above) later k None fresh)
    ∙ ap ended (noted_committing again last k None fresh (moment_of tombed read_at above) tombed.published refl own_again)
    ∙ ap (λ ps. closing ps again_moments) (append-nil tombed.places) ∙ ap (λ ms. closing tombed.places ms) moments
    ∙ ap (λ ps. record closed { events = closed.events ++ event.End state.begun answer ∷ []; places = closed.places ++ ps }) no_more
    ∙ ap (λ ps. record closed { events = closed.events ++ event.End state.begun answer ∷ []; places = ps }) (append-nil closed.places)
  where
    e : Entrant
    e = entrant_with state call root

    m : Moment
    m = moment_of past before main

    begun : Record
    begun = with_begun past state (suc k) call m

    swapped : Record
    swapped = record begun { published = record { main = tomb; changer = Some e } ∷ past.published }

    index : suc k - 1 ≡ k
    index = omega arith

    own : get_or (set past.moments (suc k - 1) m) k no_moment ≡ m
    own = ap (λ i. get_or (set past.moments i m) k no_moment) index ∙ get_or-set_same past.moments k m no_moment fits

    -- once the tomb is committed
    tombed : Record
    tombed = with_commit_of swapped commit k (Some e) tomb m

    ended : Record → Record
    ended r = noted_end r (suc k) e answer

    second : Record → Record
    second r = ended (noted_progress (noted_progress (with_read r k read_at above) later (suc k) (publishing None fresh)) last (suc k) (committing fresh))

    -- once the main node above is swapped in
    again : Record
    again = record (with_read tombed k read_at above) { published = record { main = fresh; changer = None } ∷ tombed.published }

    long : k < length tombed.moments
    long = omega (arith, fits, length-set past.moments (suc k - 1) m, length-set (set past.moments (suc k - 1) m) k (record { read_at = m.read_at; moment = max m.read_at commit }))

    own_again : get_or again.moments k no_moment ≡ moment_of tombed read_at above
    own_again = get_or-set_same tombed.moments k (moment_of tombed read_at above) no_moment long

    final : Moment
    final = record { read_at = read_at; moment = max read_at last }

    again_moments : List Moment
    again_moments = set again.moments k final

    closed_with : List Place → List Moment → Record
    closed_with places ms = record again { commits = again.commits ++ record { main = fresh; step = last } ∷ []; places = places; moments = ms }

    closing : List Place → List Moment → Record
    closing places ms = ended (closed_with places ms)

    moments : set again.moments k final ≡ set past.moments (suc k - 1) final
    moments =
        set-set tombed.moments k (moment_of tombed read_at above) final ∙ set-set (set past.moments (suc k - 1) m) k (record { read_at = m.read_at; moment = max m.read_at commit }) final
        ∙ ap (λ i. set (set past.moments i m) k final) index ∙ set-set past.moments k m final ∙ ap (λ i. set past.moments i final) (sym index)

    closed : Record
    closed = closed_with tombed.places (set past.moments (suc k - 1) final)

    no_more : entered_at_end closed e (moment_at closed (suc k)).moment answer ≡ []
    no_more =
        placed_at_end closed e (moment_at closed (suc k)).moment answer
        (placed_last past.places (place_of past e commit false) state.begun (place_id (closing_for past e.generation e.access) commit false state.begun))
