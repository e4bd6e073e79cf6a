-- What a call tells that runs alone: its begin and its end, and nothing else.
use Rattle.std.specs.Prelude.{None, ◌≡◌, ◌<◌, ℕ, zero, suc, List, [], ◌∷◌, ◌++◌, Option, Ok}
use Rattle.std.proofs.Common.{cond, refl, ap, arith, ◌∙◌}
use Rattle.std.proofs.lemmas.List.{append-nil, append_assoc}
use Rattle.proof_alone.specs.Vocabulary.{Kind, Call, Event, Reply, Bounds, Outcome, Began, Ended, Went, Step, Go, begun_operation, is_taken_step, next, run, Begins, Ends, Moves, Sweeps, GivesUp}
use Rattle.proof_alone.specs.Vocabulary.{Record, next_record, noted, record_of, State, told_in, GoesOnAt}
use Rattle.proof_alone.specs.Beneath.history.specs.declared.events.Event.TheVariants as event
use Rattle.proof_alone.specs.Beneath.machine_model.specs.declared.steps.Step.TheVariants.{Begin}
use Rattle.proof_alone.specs.Beneath.machine_model.specs.Moves.{Goes}
use Rattle.proof_alone.specs.Beneath.machine_model.proofs.Moves.{moved}
use Rattle.proof_alone.specs.Beneath.machine_model.proofs.Notes.{noted_going}
use Rattle.proof_alone.specs.Beneath.proof_order.proofs.History.Recalling.{end_event}
use Rattle.proof_obstruction_free.proofs.Ends.Lists.{one_more_recorded, record_after}
use Rattle.proof_alone.proofs.Going.{began, there}
use Rattle.proof_alone.proofs.Runs.{noted_step}

-- ---- one step

-- of a step that is taken what it told is noted
taken_noted : (state : State) (past : Record) (s : Step) (o : Outcome) (after : State) → next state s ≡ Ok (o, after) →
    next_record state past s ≡ noted past state.steps (told_in state s)
taken_noted state past s o after e = ap (λ answer. cond (is_taken_step answer) (noted past state.steps (told_in state s)) past) e

-- one that goes on tells nothing
quiet_by : (state : State) (past : Record) (s : Step) (o : Outcome) (after : State) → Moves state s o after → (actor : ℕ) (kind : Kind) → s ≡ Go actor → o ≡ Went kind →
    (noted past state.steps (told_in state s)).events ≡ past.events
quiet_by state past s o after (Begins d) actor kind is told = cc
quiet_by state past s o after (GivesUp d found a) actor kind is told = cc is
quiet_by state past s o after (Sweeps d) actor kind is told = cc
quiet_by state past s o after (Ends d found a) actor kind is told = cc told
quiet_by state past s o after (Goes {actor = who} {operation = own} {action} d found a g) actor kind is told =
    ap (λ (r : Record). r.events) (noted_going state past who own action found a g)

quiet : (state : State) (past : Record) (actor : ℕ) (kind : Kind) (after : State) → next state (Go actor) ≡ Ok (Went kind, after) →
    (next_record state past (Go actor)).events ≡ past.events
quiet state past actor kind after e =
    ap (λ (r : Record). r.events) (taken_noted state past (Go actor) (Went kind) after e)
    ∙ quiet_by state past (Go actor) (Went kind) after (moved state (Go actor) (Went kind) after e) actor kind refl refl

-- the end is told
told_by : (state : State) (past : Record) (s : Step) (o : Outcome) (after : State) → Moves state s o after → (actor id : ℕ) (answer : Reply) → s ≡ Go actor → o ≡ Ended id answer →
    (noted past state.steps (told_in state s)).events ≡ past.events ++ event.End id answer ∷ []
told_by state past s o after (Begins d) actor id answer is told = cc is
told_by state past s o after (GivesUp d found a) actor id answer is told = cc is
told_by state past s o after (Sweeps d) actor id answer is told = cc is
told_by state past s o after (Goes d found a g) actor id answer is told = cc told
told_by state past s o after (Ends {actor = who} {operation = own} {answer = said} d found a) actor id answer is told =
    let one : own.id ≡ id = cc told in
    let same : said ≡ answer = cc told in
    end_event state past who own said found a ∙ ap (λ i. past.events ++ event.End i said ∷ []) one ∙ ap (λ r. past.events ++ event.End id r ∷ []) same

tells_end : (state : State) (past : Record) (actor id : ℕ) (answer : Reply) (after : State) → next state (Go actor) ≡ Ok (Ended id answer, after) →
    (next_record state past (Go actor)).events ≡ past.events ++ event.End id answer ∷ []
tells_end state past actor id answer after e =
    ap (λ (r : Record). r.events) (taken_noted state past (Go actor) (Ended id answer) after e)
    ∙ told_by state past (Go actor) (Ended id answer) after (moved state (Go actor) (Ended id answer) after e) actor id answer refl refl

-- ---- all of them

module _ (limits : Bounds) (steps : List Step) (actor : ℕ) (call : Call) (first : State)
    (begins : next (run limits steps) (Begin actor call None) ≡ Ok (Began (run limits steps).begun, first)) where
  abbrev opens_of : Option ℕ
  opens_of = (begun_operation (run limits steps) call None).opens

  abbrev its_begin : Event
  its_begin = event.Begin (run limits steps).begun actor call opens_of

  abbrev recorded : ℕ → Record
  recorded n = record_after limits (began limits steps actor call) actor n

  abbrev before : List Event
  before = (record_of limits steps).events

  told_so_far : (n : ℕ) → ((k : ℕ) → k < n → GoesOnAt limits (began limits steps actor call) actor k) → (recorded n).events ≡ before ++ its_begin ∷ []
  told_so_far zero on =
      ap (λ l. (record_of limits l).events) (append-nil (began limits steps actor call))
      ∙ ap (λ (r : Record). r.events) (noted_step limits steps (Begin actor call None) (Began (run limits steps).begun) first begins)
  told_so_far (suc n) on =
      let (kind, step) = on n (omega arith) in
      ap (λ (r : Record). r.events) (one_more_recorded limits (began limits steps actor call) actor n)
      ∙ quiet (there limits steps actor call n) (recorded n) actor kind _ step
      ∙ told_so_far n (λ k below. on k (omega (arith, below)))

  pub told_at_end : (n : ℕ) (answer : Reply) (after : State) → ((k : ℕ) → k < n → GoesOnAt limits (began limits steps actor call) actor k) →
      next (there limits steps actor call n) (Go actor) ≡ Ok (Ended (run limits steps).begun answer, after) →
      (recorded (suc n)).events ≡ before ++ its_begin ∷ event.End (run limits steps).begun answer ∷ []
  told_at_end n answer after on ends =
      ap (λ (r : Record). r.events) (one_more_recorded limits (began limits steps actor call) actor n)
      ∙ tells_end (there limits steps actor call n) (recorded n) actor (run limits steps).begun answer after ends
      ∙ ap (λ l. l ++ event.End (run limits steps).begun answer ∷ []) (told_so_far n on)
      ∙ append_assoc before (its_begin ∷ []) (event.End (run limits steps).begun answer ∷ [])
