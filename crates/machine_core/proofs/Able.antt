-- An operation's programs can take its next step.
use Rattle.std.proofs.Common.{arith, length, ◌≡◌, ℕ, ◌+◌, ◌-◌, ◌<◌, ◌^◌, Some, None, sym, ap, subst, ◌∙◌}
use Rattle.machine_core.specs.Vocabulary.{Call, IsLive, Action, Line, Operation, Descriptor, ReadLine, handle_of, action_of, line_action, State, birth_limit, with_read, action_wants, line_wants}
use Rattle.machine_core.specs.Vocabulary.{ReadAt, line_of, IsAskingLine, KeyCall, CanAbortOn, Table, Asking, Unasked, Met, abort_of, operation_for as as_key, IsReadyBeside, Program, Key, Copy}
use Rattle.machine_core.specs.Vocabulary.{Programs, ProgramAt, Swapped, Walked, IsBegun, IsSound, IsWaiting, ReadsIn, asking_line, line_for, met_at, program_line, program_line_at, CanProgram}
use Rattle.machine_core.specs.Vocabulary.{CanProgramAt, CanStep, at_scene, scene, LineHasRoom}
use Rattle.epochs.specs.Memories.{Memory}
use Rattle.machine_model.specs.declared.reading.ReadLine.TheVariants as read
use Rattle.machine_core.specs.Beneath.trie_parts.specs.Tasks.{call_of as key_call}
use Rattle.machine_core.specs.Beneath.rdcss_root.specs.Holding.{IsReady}
use Rattle.machine_core.specs.Beneath.root_asking.specs.declared.asking.Asking.TheVariants.{Told}
use Rattle.machine_model.proofs.Embedding.{each_embeds}
use Rattle.running.specs.declared.job.Program.TheVariants.{Walk, Close}
use Rattle.running.specs.declared.programs.ProgramAt.TheVariants.{Runs, Answered, Impossible}
use Rattle.running.specs.Places.{ReadsOn}
use Rattle.running.proofs.Asks.{Asks, asked, asks, key_handle}
use Rattle.running.proofs.Lasting.{tells}
use Rattle.machine_core.specs.declared.parts.UnderWay.{UnderWay}
use Rattle.machine_core.specs.Seen.{operation_at}
use Rattle.machine_core.specs.Beneath.proof_operations.specs.Laws.{MakesNode}
use Rattle.machine_core.specs.Beneath.proof_memory.proofs.Claims.Reads.{read_claims}
use Rattle.proof_core.proofs.Claims.{Lives, root_live}
use Rattle.machine_core.proofs.Conditions.{Finds, IsLineOf, can_key, can_copy, can_walk, met, told}

-- ---- the line of a program that runs

-- it is the program's, with its READ on the line on which that stands
record Within (p : Programs) (program : Program) (l : Line) : Type 0 where
  here : ReadLine
  stands : IsLineOf p.key.work.swap.read here
  is : l ≡ with_read here (program_line p None program)

within : (p : Programs) (program : Program) (asking : Asking) → IsWaiting asking (program_line p None program) → Within p program (asking_line p program Runs asking)
within p program Unasked waits = record { here = line_of p.key.work.swap.read None; stands = told None; is = tells p None program }
within p program (Met offer) waits =
    let h : Asks p.key.work.swap.read (program_line p None program) = asks p program waits in
    record {
      here = read.Abort h.main h.previous offer;
      stands = met h.main h.previous offer h.decides;
      is = ap (λ (place : ReadAt). with_read (met_at place offer) (program_line p None program)) h.decides;
    }
within p program (Told generation) waits = record { here = line_of p.key.work.swap.read (Some generation); stands = told (Some generation); is = tells p (Some generation) program }

-- the state, whatever else it has, in which all this stands
abbrev pub There : State → Memory → Table → ℕ → Programs → State
There state memory table generation p = at_scene state (scene memory table generation p)

-- the operation under way, with this program
abbrev pub Own : Table → Programs → UnderWay → Program → Operation
Own table p u program = operation_at table p (record u { program = program })

own_call : (table : Table) (p : Programs) (u : UnderWay) (call : KeyCall) → p.key.task.call ≡ call → as_key p.key (Own table p u (Key call)) ≡ Own table p u (Key call)
own_call table p u call begun =
    ap (λ (c : Call). record (Own table p u (Key call)) { call = c })
    (ap (key_call (handle_of (key_call u.job.handle call))) begun ∙ ap (λ n. key_call n call) (key_handle u.job.handle call))

-- ---- its program

module _ (state : State) (memory : Memory) (table : Table) (generation : ℕ) (p : Programs) (u : UnderWay) (ready : IsReady memory table.roots 8) where
  can_program : (program : Program) (l : Line) → Within p program l → IsBegun program p → ReadsOn program p →
      Finds memory.heap p.key.work.private (There state memory table generation p) (Own table p u program) l → CanProgram (scene memory table generation p) program
  can_program (Key call) l w begun reads finds =
      can_key memory table (record state { roots = table.roots }) (Own table p u (Key call)) ready p.key w.here w.stands p.key.at reads
      (subst (λ (o : Operation). Finds memory.heap p.key.work.private (There state memory table generation p) o (with_read w.here (program_line p None (Key call))))
      (sym (own_call table p u call begun))
      (subst (Finds memory.heap p.key.work.private (There state memory table generation p) (Own table p u (Key call))) w.is finds))
  can_program (Copy call) l w begun reads finds =
      can_copy memory table p.key.work (There state memory table generation p) (Own table p u (Copy call)) ready w.here w.stands p.copy.root generation p.copy.at reads
      (subst (Finds memory.heap p.key.work.private (There state memory table generation p) (Own table p u (Copy call))) w.is finds)
  can_program (Walk call) l w begun reads finds =
      can_walk memory table p.key.work.private (There state memory table generation p) (Own table p u (Walk call)) ready p.key.work.swap.read w.here w.stands p.walk.todo.items p.walk.pairs.items
      p.walk.at (subst (Finds memory.heap p.key.work.private (There state memory table generation p) (Own table p u (Walk call))) w.is finds)
  can_program Close l w begun reads finds = tt

  can_program_at : (program : Program) (at : ProgramAt) → IsBegun program p → IsWaiting p.asking (program_line_at p None program at) → ReadsIn at program p →
      Finds memory.heap p.key.work.private (There state memory table generation p) (Own table p u program) (asking_line p program at p.asking) →
      CanProgramAt (scene memory table generation p) program at
  can_program_at program Runs begun waits reads finds = can_program program (asking_line p program Runs p.asking) (within p program p.asking waits) begun reads finds
  can_program_at program (Answered answer) begun waits reads finds = tt
  can_program_at program (Swapped answer) begun waits reads finds = tt
  can_program_at program (Walked call) begun waits reads finds = tt
  can_program_at program Impossible begun waits reads finds = tt

  -- ---- ABORT in its place

  takes_back : (program : Program) (offer : Descriptor) → IsAskingLine (program_line p None program) →
      Finds memory.heap p.key.work.private (There state memory table generation p) (Own table p u program) (asking_line p program Runs (Met offer)) → CanAbortOn memory table (abort_of (Met offer))
  takes_back program offer asking finds =
      let l : Line = program_line p None program in
      let h : Asks p.key.work.swap.read l = asks p program asking in
      let acts = ap (line_action (There state memory table generation p) (Own table p u program)) (asked p program (Met offer) h)
      ∙ (each_embeds l _ h.reads).embedded.acts (There state memory table generation p) (Own table p u program) (read.Abort h.main h.previous offer) in (
        root_live memory.heap offer (subst (λ (a : Action). Lives memory.heap (action_wants a)) acts finds.does),
        record { held = ready.held; room = λ r. omega (arith, ready.room r) },
      )

  can_abort : (program : Program) (at : ProgramAt) (asking : Asking) → IsWaiting asking (program_line_at p None program at) →
      Finds memory.heap p.key.work.private (There state memory table generation p) (Own table p u program) (asking_line p program at asking) → CanAbortOn memory table (abort_of asking)
  can_abort program at Unasked waits finds = tt
  can_abort program at (Told g) waits finds = tt
  can_abort program Runs (Met offer) waits finds = takes_back program offer waits finds
  can_abort program (Answered answer) (Met offer) waits finds = absurd waits
  can_abort program (Swapped answer) (Met offer) waits finds = absurd waits
  can_abort program (Walked call) (Met offer) waits finds = absurd waits
  can_abort program Impossible (Met offer) waits finds = absurd waits

-- ---- all

-- the claims of its line and of its action are true, and what is held can be counted
pub can_step : (state : State) (memory : Memory) (table : Table) (generation : ℕ) (p : Programs) (u : UnderWay) →
    let there = at_scene state (scene memory table generation p) in
    let operation = operation_at table p u in
    Lives memory.heap (line_wants there.limits.hash operation.call operation.access operation.line) → Lives memory.heap (action_wants (action_of there operation)) →
    LineHasRoom operation.line → (MakesNode (action_of there operation) → length operation.private < 33) →
    IsSound u.program p → IsReadyBeside memory table.roots p.key.work.private → memory.heap.births + 1 < birth_limit → p.copy.attempt < 2 ^ 64 - 1 → generation < 2 ^ 64 - 1 →
    CanStep (scene memory table generation p) u.program
can_step state memory table generation p u line action room makes sound ready births attempts generations =
    let there : State = at_scene state (scene memory table generation p) in
    let operation : Operation = operation_at table p u in
    let root_ready : IsReady memory table.roots 8 = record { held = λ r. omega (arith, ready.held r); room = ready.room } in
    let finds : Finds memory.heap p.key.work.private there operation (line_for u.program p) =
    record {
      reads = λ r is. read_claims (IsLive memory.heap) memory.heap r there.limits.hash operation.call operation.access (line_for u.program p) is line;
      does = action;
      births = births;
      room = room;
      makes = makes;
    } in
    record {
      runs = can_program_at state memory table generation p u root_ready u.program p.at sound.begun sound.waits sound.reads finds;
      abort = can_abort state memory table generation p u root_ready u.program p.at p.asking sound.waits finds;
      ready = ready;
      attempts = attempts;
      generations = generations;
    }
