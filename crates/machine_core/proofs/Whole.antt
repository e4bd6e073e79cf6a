-- What a step of an operation that goes on behind it, and its end, come to in all: the state, what is told, and what is kept.
use Rattle.std.proofs.Common.{arith, ◌≡◌, ℕ, ◌+◌, ◌-◌, Some, None, refl, sym, ap, subst, ◌∙◌}
use Rattle.std.specs.Prelude.{option_map}
use Rattle.std.proofs.lemmas.Option.{none-some, same_Some}
use Rattle.machine_core.specs.Vocabulary.{Kind, Reply, Action, Line, Operation, Entrant, Bounds, ended, gone, handle_of, go_denial, went, GoesOn, action_of, kind_of, line_action, State}
use Rattle.machine_core.specs.Vocabulary.{operation_of, word_at, entrant_of, progress_of, published_by, told_by, told_of, RootWord, answer_of, Table, carried_of, carried_offer, line_for, Taken}
use Rattle.machine_core.specs.Vocabulary.{scene, IsOfRun, KnowsNumbers}
use Rattle.handle_table.specs.Numbers.{Numbers}
use Rattle.machine_model.specs.declared.actions.Action.TheVariants as act
use Rattle.machine_model.specs.declared.lines.Line.TheVariants as line
use Rattle.machine_model.specs.declared.records.Told.TheVariants as told
use Rattle.machine_model.specs.declared.steps.Outcome.TheVariants as outcome
use Rattle.running.proofs.Progress.{progress_is}
use Rattle.machine_core.specs.Going.{CarriesUnless}
use Rattle.machine_core.proofs.Allowed.{there_is}
use Rattle.machine_core.specs.declared.parts.Parts.{Parts}
use Rattle.machine_core.specs.declared.parts.UnderWay.{UnderWay}
use Rattle.machine_core.specs.declared.telling.Ended.{Ended}
use Rattle.machine_core.specs.declared.telling.Stepped.{Stepped}
use Rattle.machine_core.specs.Keeping.{AreSeated, IsKept}
use Rattle.machine_core.specs.Seen.{operation_at, seen}
use Rattle.machine_core.specs.Told.{TellsEnd, TellsStep}
use Rattle.machine_core.proofs.Gone.{carried_is, gone_seen, takes}
use Rattle.machine_core.proofs.Keeps.{marks_now, seats_now, tied_now}
use Rattle.machine_core.proofs.Kept.{operation_there}
use Rattle.proof_core.proofs.Numbering.{known_gone}
use Rattle.machine_core.proofs.Offerers.{offerers_length, offerers_now}
use Rattle.machine_core.proofs.Offering.{knows_offered}
use Rattle.machine_core.proofs.Onward.{only_end}
use Rattle.machine_core.proofs.Took.{Took}

-- ---- what goes on, and what ends

went_by : (state : State) (actor : ℕ) (operation : Operation) (action : Action) → ((answer : Reply) → action ≡ act.End answer → ⊥) →
    went state actor operation action ≡ (outcome.Went (kind_of action), gone state actor operation)
went_by state actor operation (act.End answer) other = absurd (other answer refl)
went_by state actor operation action other = refl

went_on : (state : State) (actor : ℕ) (operation : Operation) → answer_of operation.line ≡ None →
    went state actor operation (action_of state operation) ≡ (outcome.Went (kind_of (action_of state operation)), gone state actor operation)
went_on state actor operation none =
    went_by state actor operation (action_of state operation) (λ answer e. none-some answer (sym none ∙ ap answer_of (only_end state operation operation.line answer e)))

goes_unless : (action : Action) → ((answer : Reply) → action ≡ act.End answer → ⊥) → GoesOn action
goes_unless (act.End answer) other = other answer refl
goes_unless action other = tt

-- an operation whose line tells no reply goes on
pub no_end : (state : State) (operation : Operation) → answer_of operation.line ≡ None → GoesOn (action_of state operation)
no_end state operation none =
    goes_unless (action_of state operation) (λ answer e. none-some answer (sym none ∙ ap answer_of (only_end state operation operation.line answer e)))

pub ends_so : (state : State) (operation : Operation) (l : Line) (answer : Reply) → answer_of l ≡ Some answer → line_action state operation l ≡ act.End answer
ends_so state operation (line.End own) answer e = ap act.End (same_Some own answer e)
ends_so state operation l answer e = absurd (grind (arith, e))

told_going : (state : State) (actor : ℕ) (operation : Operation) (action : Action) → ((answer : Reply) → action ≡ act.End answer → ⊥) →
    told_by state actor operation action ≡ told.Went actor (progress_of state operation)
told_going state actor operation (act.End answer) other = absurd (other answer refl)
told_going state actor operation action other = refl

unless : (table : Table) (word : RootWord) (action : Action) → table.carried ≡ carried_offer word action → CarriesUnless (kind_of action) table
unless table word (act.Abort offer) is = tt
unless table word (act.Offer offer) is = tt
unless table word (act.Complete offer main) is = tt
unless table word action is = is

-- ---- a step

module _ (before : Parts) (actor : ℕ) (u : UnderWay) (taken : Taken) (now : Parts) (t : Took before actor u taken now) (run : IsOfRun (seen before)) (kept : IsKept before)
    (allowed : go_denial (seen before) actor ≡ None) (goes_on : answer_of (line_for u.program t.seat.found.programs) ≡ None) where
  abbrev own : Operation
  own = operation_at before.table t.seat.found.programs u

  -- of what was carried out nothing is kept
  abbrev pub Behind : Parts
  Behind = record now { table = record now.table { carried = None } }

  there : operation_of (seen before) actor ≡ Some own
  there = operation_there before actor u t.seat

  gone_now : gone (seen before) actor own ≡ seen now
  gone_now = gone_seen before actor u taken now t run kept (knows_offered before actor u taken now t run kept)

  same_own : (operation : Operation) → operation_of (seen before) actor ≡ Some operation → operation ≡ own
  same_own operation found = same_Some operation own (sym found ∙ there)

  pub goes : (k : Kind) → k ≡ taken.kind → (operation : Operation) → operation_of (seen before) actor ≡ Some operation →
      went (seen before) actor operation (action_of (seen before) operation) ≡ (outcome.Went k, seen Behind)
  goes k kinds operation found =
      ap (λ (o : Operation). went (seen before) actor o (action_of (seen before) o)) (same_own operation found)
      ∙ went_on (seen before) actor own goes_on
      ∙ ap (λ (x : Kind). (outcome.Went x, gone (seen before) actor own)) ((takes before actor u taken now t run kept).kind ∙ sym kinds)
      ∙ ap (λ (s : State). (outcome.Went k, s)) gone_now

  -- ---- what is told

  pub tells : (step : Stepped) → step.progress.committed ≡ taken.committed → step.progress.given ≡ taken.given → step.progress.counts ≡ taken.counts →
      ((operation : Operation) → operation_of (seen before) actor ≡ Some operation → step.progress.published ≡ published_by operation operation.line) →
      step.progress.carried ≡ option_map (carried_of now.heap.heap) now.table.carried → TellsStep (seen before) actor step
  tells step committed given counts published carried =
      let p = t.seat.found.programs in
      let progress : step.progress ≡ progress_of (seen before) own =
      subst (λ (s : State). step.progress ≡ progress_of s own) (there_is before (actor - 1) t.seat.found (kept.seats (actor - 1) t.seat.found t.seat.at))
      (progress_is u.job u.program (scene before.heap before.table before.generations p) (scene now.heap now.table now.generations t.programs) taken t.does kept.noted.carried (seen before)
      own step.progress committed given counts (published own there) carried) in
      ap (told_of (seen before) actor) there
      ∙ told_going (seen before) actor own (action_of (seen before) own) (λ answer e. none-some answer (sym goes_on ∙ ap answer_of (only_end (seen before) own own.line answer e)))
      ∙ ap (told.Went actor) (sym progress)

  -- a step of another kind than a swap of the root carries nothing out
  pub carries_nothing : CarriesUnless taken.kind now.table
  carries_nothing =
      subst (λ (k : Kind). CarriesUnless k now.table) (takes before actor u taken now t run kept).kind
      (unless now.table (word_at (seen before) (handle_of own.call)) (action_of (seen before) own) (carried_is before actor u taken now t run kept))

  -- ---- what is kept

  numbers_gone : KnowsNumbers now.handles (gone (seen before) actor own)
  numbers_gone =
      subst (λ (n : Numbers). KnowsNumbers n (gone (seen before) actor own)) (sym (ap (λ (x : Parts). x.handles) t.rest))
      (known_gone before.handles (seen before) actor own run allowed there (no_end (seen before) own goes_on) kept.numbers)

  pub kept_gone : IsKept Behind
  kept_gone =
      let tied = tied_now before actor u taken now t run kept in
      let limits : now.limits ≡ before.limits = ap (λ (x : Parts). x.limits) t.rest in
      record {
        tied = record { held = tied.held; pins = tied.pins };
        seats = subst (λ (l : Bounds). AreSeated l.hash now.actors.items) (sym limits) (seats_now before actor u taken now t run kept);
        noted = record {
          marks = marks_now before actor u taken now t run kept ∙ kept.noted.marks ∙ ap (λ (l : Bounds). l.actors + 1) (sym limits);
          offerers = offerers_length before actor u taken now t run kept ∙ kept.noted.offerers;
          carried = refl;
        };
        offerers = offerers_now before actor u taken now t run kept;
        numbers = subst (KnowsNumbers now.handles) gone_now numbers_gone;
      }

-- ---- an end

module _ (before after : Parts) (actor : ℕ) (own : Operation) (there : operation_of (seen before) actor ≡ Some own) (end : Ended) (tells_reply : answer_of own.line ≡ Some end.reply)
    (entrant : end.entrant ≡ entrant_of own) (is : seen after ≡ ended (seen before) actor) where
  action_ends : action_of (seen before) own ≡ act.End end.reply
  action_ends = ends_so (seen before) own own.line end.reply tells_reply

  pub ends : (operation : Operation) → operation_of (seen before) actor ≡ Some operation →
      went (seen before) actor operation (action_of (seen before) operation) ≡ (outcome.Ended end.entrant.id end.reply, seen after)
  ends operation found =
      ap (λ (o : Operation). went (seen before) actor o (action_of (seen before) o)) (same_Some operation own (sym found ∙ there))
      ∙ ap (went (seen before) actor own) action_ends
      ∙ ap (λ (e : Entrant). (outcome.Ended e.id end.reply, ended (seen before) actor)) (sym entrant)
      ∙ ap (λ (s : State). (outcome.Ended end.entrant.id end.reply, s)) (sym is)

  pub end_told : TellsEnd (seen before) actor end
  end_told =
      ap (told_of (seen before) actor) there ∙ ap (told_by (seen before) actor own) action_ends ∙ ap (λ (e : Entrant). told.Ended actor e end.reply) (sym entrant)
