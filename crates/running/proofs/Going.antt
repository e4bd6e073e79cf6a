-- Steps of the programs, with all that they do.
use Rattle.std.specs.Prelude.{◌≡◌, ℕ, Bool, is_some, List, [], ◌∷◌, Option, Some, None, refl}
use Rattle.std.proofs.Common.{sym, ap, subst, ◌∙◌}
use Rattle.running.specs.Vocabulary.{Kind, Call, Access, Writable, ReadOnly, Ref, Heap, Action, Line, Operation, RootWord, attempt_after, handle_of, generation_from, line_action, read_of}
use Rattle.running.specs.Vocabulary.{read_action, State, word_at, walked_reply, ReadAt, Work, KeyCall, Task, at_heap, no_state, ActsInAll, Table, acted_table, word_in, Unasked, KeyOp, key_line}
use Rattle.running.specs.Vocabulary.{IsOfKey, SwapsNoRoot, operation_for as as_key, table_after, CopyOp as ACopyOp, CopyCall, WalkCall, WalkAt, action_on, copy_line, at_roots, drawn_by, mark_of}
use Rattle.running.specs.Vocabulary.{with_generation, on_call, walk_line, walk_line_at}
use Rattle.running.specs.Beneath.epochs.specs.Memories.{Memory}
use Rattle.running.specs.Beneath.machine_model.specs.declared.actions.Action.TheVariants as act
use Rattle.running.specs.Beneath.gcas.specs.declared.read.Read.{Read}
use Rattle.running.specs.Beneath.gcas.specs.declared.read.ReadAt.TheVariants as read
use Rattle.running.specs.Beneath.gcas.specs.Reads.{line_at}
use Rattle.running.specs.Beneath.trie_parts.specs.Holding.{Acts}
use Rattle.running.specs.Beneath.trie_parts.specs.Steps.{Leads}
use Rattle.running.specs.Beneath.trie_parts.specs.Tasks.{call_of as key_call}
use Rattle.running.specs.Beneath.rdcss_root.proofs.Together.{by_parts}
use Rattle.operate.proofs.Wherever.{acts as key_acts}
use Rattle.snapshot.specs.declared.tasks.WalkCall.TheVariants.{Entries, Count}
use Rattle.snapshot.specs.declared.walk.Walk.{Walk as AWalk}
use Rattle.snapshot.specs.declared.walk.WalkAt.TheVariants as walk
use Rattle.snapshot.specs.Tasks.{for_task}
use Rattle.snapshot.specs.Walks.{call_of as walk_call}
use Rattle.running.specs.declared.job.Job.{Job}
use Rattle.running.specs.declared.job.Program.TheVariants.{Key, Copy, Walk}
use Rattle.running.specs.declared.programs.Programs.{Programs}
use Rattle.running.specs.declared.programs.ProgramAt.{ProgramAt}
use Rattle.running.specs.Places.{ReadsIn, program_line_at, task_for}
use Rattle.running.specs.Steps.{Changes, Does, Scene, at_scene, operation_in, taken_in, taken_so}
use Rattle.running.proofs.Asks.{key_handle}
use Rattle.running.proofs.Giving.{SwapsNone, same_action, takes, takes_reading}
use Rattle.running.proofs.Lasting.{copy_swaps_none, walk_swaps_none}

-- ---- a snapshot, a freeze or a clear

pub copies : (job : Job) (call : CopyCall) (told : Option ℕ) (before : Scene) (memory : Memory) (table : Table) (generation : ℕ) (work : Work) (copy : ACopyOp) (k : Kind) (at : ProgramAt) →
    let p = before.programs in
    let l = copy_line p.key.work.swap.read told p.copy in
    let task = task_for job call in
    let after : Programs = record p { at = at; asking = Unasked; key = record p.key { work = work }; copy = copy } in
    let as_task : Operation → Operation = λ operation. for_task task p.copy.attempt (mark_of before.table task) p.key.work.swap.read.access operation in
    ((state : State) (operation : Operation) →
    Leads (at_roots state before.memory.heap before.table) (as_task operation) l k (program_line_at after None (Copy call) at) work.swap.read.at) →
    ActsInAll before.memory before.table.roots p.key.work.private (with_generation before.generation (action_on l)) memory table.roots work.private →
    table ≡ acted_table before.table job.handle job.actor (action_on l) →
    generation ≡ drawn_by before.memory.heap before.generation (action_on l) →
    copy.attempt ≡ attempt_after p.copy.attempt (action_on l) →
    ((state : State) (operation : Operation) →
    copy.generation ≡ generation_from (at_roots state before.memory.heap before.table) (record (as_task operation) { generation = p.copy.generation }) l) →
    work.swap.read.access ≡ p.key.work.swap.read.access →
    ReadsIn at (Copy call) after →
    Does job (Copy call) l before (taken_so k work.swap.read.at) (record { memory = memory; table = table; generation = generation; programs = after })
copies job call told before memory table generation work copy k at leads acts acted drawn attempt kept access stands =
    let p : Programs = before.programs in
    let l : Line = copy_line p.key.work.swap.read told p.copy in
    let after : Scene = record { memory = memory; table = table; generation = generation; programs = record p { at = at; asking = Unasked; key = record p.key { work = work }; copy = copy } } in
    let does : Changes job before (action_on l) after = record { acts = acts; table = acted; drawn = drawn; attempt = attempt } in
    let none : SwapsNone l = copy_swaps_none p.key.work.swap.read told p.copy in
    record {
      takes = λ state operation.
          let o : Operation = operation_in job (Copy call) before operation in
          takes (at_scene state before) o l _ k work.swap.read.at none (leads (at_scene state before) o);
      changes = λ state operation.
          subst (λ (a : Action). Changes job before a after) (sym (same_action (at_scene state before) (operation_in job (Copy call) before operation) l none)) does;
      generation = λ state operation. kept (at_scene state before) (operation_in job (Copy call) before operation);
      access = access;
      hashes = refl;
      sound = record { begun = tt; waits = tt; reads = stands };
    }

-- ---- a walk

-- the action changes no root word, draws no generation and offers nothing
pub record Calm (action : Action) : Type 0 where
  pub table : (table : Table) (handle actor : ℕ) → acted_table table handle actor action ≡ table
  pub draws : (heap : Heap) (generation : ℕ) → drawn_by heap generation action ≡ generation
  pub plain : (generation : ℕ) → with_generation generation action ≡ action
  pub offers : (attempt : ℕ) → attempt_after attempt action ≡ attempt

read_calm : (indirection : Ref) (access : Access) (told : Option ℕ) (place : ReadAt) → Calm (read_action indirection (line_at access told place))
read_calm indirection access told read.Main = record { table = λ t h a. refl; draws = λ h g. refl; plain = λ g. refl; offers = λ n. refl }
read_calm indirection access told (read.Prev main) = record { table = λ t h a. refl; draws = λ h g. refl; plain = λ g. refl; offers = λ n. refl }
read_calm indirection ReadOnly told (read.Decide main previous) = record { table = λ t h a. refl; draws = λ h g. refl; plain = λ g. refl; offers = λ n. refl }
read_calm indirection Writable None (read.Decide main previous) = record { table = λ t h a. refl; draws = λ h g. refl; plain = λ g. refl; offers = λ n. refl }
read_calm indirection Writable (Some g) (read.Decide main previous) = record { table = λ t h a. refl; draws = λ h g. refl; plain = λ g. refl; offers = λ n. refl }
read_calm indirection access told (read.Restore main previous) = record { table = λ t h a. refl; draws = λ h g. refl; plain = λ g. refl; offers = λ n. refl }
read_calm indirection access told (read.Given main) = record { table = λ t h a. refl; draws = λ h g. refl; plain = λ g. refl; offers = λ n. refl }

walk_calm_at : (q : Read) (told : Option ℕ) (todo : List Ref) (pairs : List (ℕ × ℕ)) (place : WalkAt) → Calm (action_on (walk_line_at q told todo pairs place))
walk_calm_at q told todo pairs walk.Root = record { table = λ t h a. refl; draws = λ h g. refl; plain = λ g. refl; offers = λ n. refl }
walk_calm_at q told todo pairs walk.Read = read_calm q.indirection q.access told q.at
walk_calm_at q told todo pairs (walk.Main main) = record { table = λ t h a. refl; draws = λ h g. refl; plain = λ g. refl; offers = λ n. refl }
walk_calm_at q told todo pairs walk.Entry = record { table = λ t h a. refl; draws = λ h g. refl; plain = λ g. refl; offers = λ n. refl }

pub walk_calm : (q : Read) (told : Option ℕ) (w : AWalk) → Calm (action_on (walk_line q told w))
walk_calm q told w = walk_calm_at q told w.todo.items w.pairs.items w.at

walk_keeps : (state : State) (operation : Operation) (q : Read) (told : Option ℕ) (todo : List Ref) (pairs : List (ℕ × ℕ)) (place : WalkAt) →
    generation_from state operation (walk_line_at q told todo pairs place) ≡ operation.generation
walk_keeps state operation q told todo pairs walk.Root = refl
walk_keeps state operation q told todo pairs walk.Read = refl
walk_keeps state operation q told todo pairs (walk.Main main) = refl
walk_keeps state operation q told todo pairs walk.Entry = refl

-- the reply to a walk is the same on each handle
pub walked_same : (handle : ℕ) (call : WalkCall) (pairs : List (ℕ × ℕ)) → walked_reply (walk_call handle call) pairs ≡ walked_reply (walk_call 0 call) pairs
walked_same handle Entries pairs = refl
walked_same handle Count pairs = refl

pub walks : (job : Job) (call : WalkCall) (told : Option ℕ) (before : Scene) (memory : Memory) (work : Work) (w : AWalk) (k : Kind) (at : ProgramAt) →
    let p = before.programs in
    let l = walk_line p.key.work.swap.read told p.walk in
    let after : Programs = record p { at = at; asking = Unasked; key = record p.key { work = work }; walk = w } in
    ((state : State) (operation : Operation) →
    Leads (at_roots state before.memory.heap before.table) (on_call (walk_call job.handle call) p.key.work.swap.read.access operation) l k (program_line_at after None (Walk call) at)
    work.swap.read.at) →
    Acts before.memory p.key.work.private (action_on l) memory work.private →
    work.swap.read.access ≡ p.key.work.swap.read.access →
    ReadsIn at (Walk call) after →
    Does job (Walk call) l before (taken_so k work.swap.read.at) (record { memory = memory; table = before.table; generation = before.generation; programs = after })
walks job call told before memory work w k at leads acts access stands =
    let p : Programs = before.programs in
    let q : Read = p.key.work.swap.read in
    let l : Line = walk_line q told p.walk in
    let calm : Calm (action_on l) = walk_calm q told p.walk in
    let none : SwapsNone l = walk_swaps_none q told p.walk in
    let after : Scene =
    record {
      memory = memory;
      table = before.table;
      generation = before.generation;
      programs = record p { at = at; asking = Unasked; key = record p.key { work = work }; walk = w };
    } in
    let does : Changes job before (action_on l) after =
    record {
      acts = subst (λ (a : Action). ActsInAll before.memory before.table.roots p.key.work.private a memory before.table.roots work.private)
          (sym (calm.plain before.generation)) (by_parts before.table.roots acts);
      table = sym (calm.table before.table job.handle job.actor);
      drawn = sym (calm.draws before.memory.heap before.generation);
      attempt = sym (calm.offers p.copy.attempt);
    } in
    record {
      takes = λ state operation.
          let o : Operation = operation_in job (Walk call) before operation in
          takes (at_scene state before) o l _ k work.swap.read.at none (leads (at_scene state before) o);
      changes = λ state operation.
          subst (λ (a : Action). Changes job before a after) (sym (same_action (at_scene state before) (operation_in job (Walk call) before operation) l none)) does;
      generation = λ state operation.
          sym (walk_keeps (at_scene state before) (operation_in job (Walk call) before operation) q told p.walk.todo.items p.walk.pairs.items p.walk.at);
      access = access;
      hashes = refl;
      sound = record { begun = tt; waits = tt; reads = stands };
    }

-- ---- a call on one key

-- a state in which this is the root word of handle 0
unfoldable pub with_word : RootWord → State
with_word word = record no_state { roots = Some (record { access = Writable; word = word }) ∷ [] }

key_operation : (job : Job) (call : KeyCall) (before : Scene) (operation : Operation) → before.programs.key.task.call ≡ call →
    as_key before.programs.key (operation_in job (Key call) before operation) ≡ operation_in job (Key call) before operation
key_operation job call before operation begun =
    let o : Operation = operation_in job (Key call) before operation in
    ap (λ (c : Call). record o { call = c }) (ap (key_call (handle_of (key_call job.handle call))) begun ∙ ap (λ n. key_call n call) (key_handle job.handle call))

plain_action : (heap : Heap) (generation : ℕ) (action : Action) → SwapsNoRoot action → (with_generation generation action ≡ action) × (drawn_by heap generation action ≡ generation)
plain_action heap generation (act.MakeRoot main) none = absurd none
plain_action heap generation action none = (refl, refl)

-- such a call took a step of its program
pub keys : (job : Job) (call : KeyCall) (told : Option ℕ) (before : Scene) (memory : Memory) (table : Table) (key : KeyOp) (reading : Bool) (k : Kind) (at : ProgramAt) →
    let p = before.programs in
    let l = key_line p.key told in
    let after : Programs = record p { at = at; asking = Unasked; key = key } in
    p.key.task.call ≡ call →
    reading ≡ is_some (read_of l) →
    ((state : State) (operation : Operation) → word_at state (handle_of operation.call) ≡ word_in before.table job.handle →
    Leads (at_heap state before.memory.heap p.key.task.hashes) (as_key p.key operation) l k (program_line_at after None (Key call) at) key.work.swap.read.at) →
    ((state : State) (operation : Operation) →
    ActsInAll before.memory before.table.roots p.key.work.private (line_action (at_heap state before.memory.heap p.key.task.hashes) (as_key p.key operation) l)
    memory table.roots key.work.private) →
    table ≡ table_after before.table job.handle p.key →
    ((state : State) (operation : Operation) → word_at state (handle_of operation.call) ≡ word_in before.table job.handle →
    key.task.generation ≡ generation_from (at_heap state before.memory.heap p.key.task.hashes) (as_key p.key operation) l) →
    key.work.swap.read.access ≡ p.key.work.swap.read.access →
    key.task ≡ record p.key.task { generation = key.task.generation } →
    ReadsIn at (Key call) after →
    Does job (Key call) l before (taken_in reading k key.work.swap.read.at)
    (record { memory = memory; table = table; generation = before.generation; programs = after })
keys job call told before memory table key reading k at begun reads leads acts acted kept access task stands =
    let p : Programs = before.programs in
    let l : Line = key_line p.key told in
    let then : Scene = record { memory = memory; table = table; generation = before.generation; programs = record p { at = at; asking = Unasked; key = key } } in
    let word : (state : State) (operation : Operation) → word_at (at_scene state before) (handle_of (key_call job.handle call)) ≡ word_in before.table job.handle =
    λ state operation. ap (word_in before.table) (key_handle job.handle call) in
    record {
      takes = λ state operation.
          let o : Operation = operation_in job (Key call) before operation in
          let led =
          subst (λ (x : Operation). Leads (at_scene state before) x l k (program_line_at then.programs None (Key call) at) key.work.swap.read.at)
          (key_operation job call before operation begun) (leads (at_scene state before) o (word state operation)) in
          takes_reading (at_scene state before) o l _ k key.work.swap.read.at reading reads led;
      changes = λ state operation.
          let o : Operation = operation_in job (Key call) before operation in
          let a : Action = line_action (at_scene state before) o l in
          let of : IsOfKey before.table job.handle (table_after before.table job.handle p.key) a = key_acts (at_scene state before) o before.table job.handle p.key told in
          let plain = plain_action before.memory.heap before.generation a of.beside in
          record {
            acts = subst (λ (x : Action). ActsInAll before.memory before.table.roots p.key.work.private x memory table.roots key.work.private) (sym plain.0)
                (subst (λ (x : Operation). ActsInAll before.memory before.table.roots p.key.work.private (line_action (at_scene state before) x l) memory table.roots key.work.private)
                (key_operation job call before operation begun) (acts (at_scene state before) o));
            table = acted ∙ sym (of.words job.actor);
            drawn = sym plain.1;
            attempt = sym (of.tries p.copy.attempt);
          };
      generation = λ state operation.
          let o : Operation = operation_in job (Key call) before operation in
          kept (at_scene state before) o (word state operation) ∙ ap (λ (x : Operation). generation_from (at_scene state before) x l) (key_operation job call before operation begun);
      access = access;
      hashes = ap (λ (t : Task). t.hashes) task;
      sound = record { begun = ap (λ (t : Task). t.call) task ∙ begun; waits = tt; reads = stands };
    }
