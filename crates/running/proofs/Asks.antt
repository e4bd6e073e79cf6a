-- ABORT's steps inside of any program whose READ asks for the generation of the root.
use Rattle.std.specs.Prelude.{◌≡◌, ℕ, false, Option, Some, None, refl}
use Rattle.std.proofs.Common.{sym, ap, subst, ◌∙◌}
use Rattle.std.proofs.lemmas.Option.{none-some, same_Some}
use Rattle.running.specs.Vocabulary.{Kind, Access, Writable, ReadOnly, Ref, Heap, Action, Line, Operation, Read, ReadLine, CompleteLine, Descriptor, RootWord, Plain, Offer, attempt_after, handle_of}
use Rattle.running.specs.Vocabulary.{generation_from, given_root, kind_of, line_action, line_after, read_of, rooting_read, State, word_at, committed_in, counts_from, given_in, root_after}
use Rattle.running.specs.Vocabulary.{rooting_at, with_read, ReadAt, IsAsking, line_of, IsAskingLine, IsAskingRead, KeyCall, ActsInAll, Table, acted_table, table_after_abort, Asking, Unasked, Met}
use Rattle.running.specs.Vocabulary.{AsksOn, IsUntold, abort_of, ask_action, asked_at, asked_line, asked_read, drawn_by, with_generation}
use Rattle.ctrie_base.specs.declared.kinds.Kind.TheVariants as kind
use Rattle.running.specs.Beneath.epochs.specs.Memories.{Memory}
use Rattle.running.specs.Beneath.machine_model.specs.declared.lines.Line.TheVariants as line
use Rattle.running.specs.Beneath.machine_model.specs.declared.reading.ReadLine.TheVariants as read
use Rattle.running.specs.Beneath.machine_model.specs.declared.roots.CompleteLine.TheVariants as complete
use Rattle.running.specs.Beneath.machine_model.specs.declared.roots.RootLine.TheVariants as root
use Rattle.running.specs.Beneath.gcas.specs.declared.read.Read.{Read as Running}
use Rattle.running.specs.Beneath.gcas.specs.declared.read.ReadAt.TheVariants as at
use Rattle.running.specs.Beneath.gcas.specs.Reads.{line_at}
use Rattle.running.specs.Beneath.trie_parts.specs.Tasks.{call_of as key_call}
use Rattle.running.specs.Beneath.trie_parts.specs.declared.calls.KeyCall.TheVariants.{Get, Put, PutIfAbsent, Replace, ReplaceIf, Remove, RemoveIf}
use Rattle.running.specs.Beneath.root_asking.specs.declared.asking.Asking.TheVariants.{Told}
use Rattle.running.specs.Beneath.machine_model.proofs.Embedding.{each_embeds}
use Rattle.snapshot.specs.declared.tasks.WalkCall.TheVariants.{Entries, Count}
use Rattle.running.specs.declared.job.Job.{Job}
use Rattle.running.specs.declared.job.Program.{Program}
use Rattle.running.specs.declared.job.Program.TheVariants.{Key, Copy, Walk, Close}
use Rattle.running.specs.declared.programs.Programs.{Programs}
use Rattle.running.specs.declared.programs.ProgramAt.TheVariants.{Runs}
use Rattle.running.specs.Places.{IsBegun, IsWaiting, ReadsOn, generation_in, asking_line, call_for, met_at, program_line}
use Rattle.running.specs.Steps.{Changes, Does, Scene, at_scene, operation_in}
use Rattle.running.proofs.Lasting.{tells}
use Rattle.running.proofs.Giving.{asked_gives}
use Rattle.running.specs.Beneath.root_asking.proofs.Aborting.{same_action}
use Rattle.snapshot.specs.declared.tasks.CopyCall.TheVariants.{Snapshot, Freeze, Clear}

-- ---- that a program's READ asks

-- the READ asks on a writable handle, about this main node pending over that one, and its program's line holds it
pub record Asks (r : Running) (l : Line) : Type 0 where
  pub indirection : Ref
  pub main : Ref
  pub previous : Ref
  pub writable : r.access ≡ Writable
  pub decides : r.at ≡ at.Decide main previous
  pub reads : read_of l ≡ Some (asked_read indirection main previous Unasked)

asks_by : (r : Running) (l : Line) (indirection : Ref) (access : Access) (place : ReadAt) → r.access ≡ access → r.at ≡ place →
    read_of l ≡ Some (record { indirection = indirection; line = line_at access None place }) → IsAsking (line_at access None place) → Asks r l
asks_by r l indirection Writable (at.Decide main previous) writable decides reads asks =
    record { indirection = indirection; main = main; previous = previous; writable = writable; decides = decides; reads = reads }
asks_by r l indirection Writable at.Main writable decides reads asks = absurd asks
asks_by r l indirection Writable (at.Prev main) writable decides reads asks = absurd asks
asks_by r l indirection Writable (at.Restore main previous) writable decides reads asks = absurd asks
asks_by r l indirection Writable (at.Given main) writable decides reads asks = absurd asks
asks_by r l indirection ReadOnly at.Main writable decides reads asks = absurd asks
asks_by r l indirection ReadOnly (at.Prev main) writable decides reads asks = absurd asks
asks_by r l indirection ReadOnly (at.Decide main previous) writable decides reads asks = absurd asks
asks_by r l indirection ReadOnly (at.Restore main previous) writable decides reads asks = absurd asks
asks_by r l indirection ReadOnly (at.Given main) writable decides reads asks = absurd asks

-- the line of a program that was told this has the READ on the line that it was told
told_read : (l told : Line) (here : ReadLine) (q : Read) → told ≡ with_read here l → read_of l ≡ Some q → read_of told ≡ Some (record q { line = here })
told_read l told here q is reads = ap read_of is ∙ (each_embeds l q reads).embedded.reads here

asks_read : (r : Running) (l : Line) (o : Option Read) → l ≡ with_read (line_of r None) l → read_of l ≡ o → IsAskingRead o → Asks r l
asks_read r l None same reads asks = absurd asks
asks_read r l (Some q) same reads asks =
    let here = told_read l l (line_of r None) q same reads in
    let is = same_Some q (record q { line = line_of r None }) (sym reads ∙ here) in
    asks_by r l q.indirection r.access r.at refl refl here (subst (λ (x : Read). IsAsking x.line) is asks)

pub asks : (p : Programs) (program : Program) → IsAskingLine (program_line p None program) → Asks p.key.work.swap.read (program_line p None program)
asks p program ask = asks_read p.key.work.swap.read (program_line p None program) (read_of (program_line p None program)) (tells p None program) refl ask

-- ---- the line while it asks

told_here : (access : Access) (generation : ℕ) (main previous : Ref) (place : ReadAt) → access ≡ Writable → place ≡ at.Decide main previous →
    line_at access (Some generation) place ≡ read.Decide main previous (Some generation)
told_here access generation main previous place writable decides =
    ap (λ a. line_at a (Some generation) place) writable ∙ ap (λ x. line_at Writable (Some generation) x) decides

-- it is that of the program with its READ on ABORT's line
pub asked : (p : Programs) (program : Program) (asking : Asking) → (h : Asks p.key.work.swap.read (program_line p None program)) →
    asking_line p program Runs asking ≡ asked_line h.main h.previous asking (program_line p None program)
asked p program Unasked h = sym (each_embeds (program_line p None program) _ h.reads).here
asked p program (Met offer) h = ap (λ (x : ReadAt). with_read (met_at x offer) (program_line p None program)) h.decides
asked p program (Told generation) h =
    tells p (Some generation) program
    ∙ ap (λ at. with_read at (program_line p None program)) (told_here p.key.work.swap.read.access generation h.main h.previous p.key.work.swap.read.at h.writable h.decides)

-- ---- what ABORT's steps come to

pub key_handle : (handle : ℕ) (call : KeyCall) → handle_of (key_call handle call) ≡ handle
key_handle handle (Get k) = refl
key_handle handle (Put k v) = refl
key_handle handle (PutIfAbsent k v) = refl
key_handle handle (Replace k v) = refl
key_handle handle (ReplaceIf k a b) = refl
key_handle handle (Remove k) = refl
key_handle handle (RemoveIf k v) = refl

-- a program's call is on its handle
pub handle_named : (handle : ℕ) (program : Program) → handle_of (call_for handle program) ≡ handle
handle_named handle (Key call) = key_handle handle call
handle_named handle (Copy Snapshot) = refl
handle_named handle (Copy Freeze) = refl
handle_named handle (Copy Clear) = refl
handle_named handle (Walk Entries) = refl
handle_named handle (Walk Count) = refl
handle_named handle Close = refl

commits_none : (state : State) (indirection main previous : Ref) (asking : Asking) → IsUntold asking → committed_in state (Some (asked_read indirection main previous asking)) ≡ None
commits_none state indirection main previous Unasked untold = refl
commits_none state indirection main previous (Met offer) untold = refl
commits_none state indirection main previous (Told generation) untold = absurd untold

gives_none : (state : State) (operation : Operation) (indirection main previous : Ref) (asking : Asking) → IsUntold asking →
    given_in state operation (Some (asked_read indirection main previous asking)) ≡ None
gives_none state operation indirection main previous Unasked untold = asked_gives state.heap indirection main previous (word_at state (handle_of operation.call))
gives_none state operation indirection main previous (Met offer) untold = refl
gives_none state operation indirection main previous (Told generation) untold = absurd untold

-- a READ that asks gives no root to a ROOT in which it runs
asks_rooting : (heap : Heap) (access : Access) (word : RootWord) (offer : Descriptor) (l : CompleteLine) (r : Read) (asking : Asking) (state : State) (generation : Option ℕ)
    (main previous : Ref) → IsUntold asking →
    rooting_read (root.Completing (record { offer = offer; line = l })) ≡ Some r →
    given_root state (root_after heap access word (rooting_at (asked_at main previous asking) (root.Completing (record { offer = offer; line = l })))) generation ≡ generation
asks_rooting heap access (Plain w) offer (complete.Reading q) r Unasked state generation main previous untold is = refl
asks_rooting heap access (Offer w) offer (complete.Reading q) r Unasked state generation main previous untold is = refl
asks_rooting heap access word offer (complete.Reading q) r (Met other) state generation main previous untold is = refl
asks_rooting heap access word offer (complete.Reading q) r (Told g) state generation main previous untold is = absurd untold
asks_rooting heap access word offer (complete.Swap m) r asking state generation main previous untold is = absurd (none-some r is)

-- so the generation of the root stays
keeps_generation : (state : State) (operation : Operation) (l : Line) (r : Read) (main previous : Ref) (asking : Asking) → IsUntold asking → read_of l ≡ Some r →
    generation_from state operation (asked_line main previous asking l) ≡ operation.generation
keeps_generation state operation (line.Root root.Read) r main previous asking untold is = absurd (none-some r is)
keeps_generation state operation (line.Root (root.Completing c)) r main previous asking untold is =
    asks_rooting state.heap operation.access (word_at state (handle_of operation.call)) c.offer c.line r asking state operation.generation main previous untold is
keeps_generation state operation (line.Key l) r main previous asking untold is = refl
keeps_generation state operation (line.Build l) r main previous asking untold is = refl
keeps_generation state operation (line.Swap why s) r main previous asking untold is = refl
keeps_generation state operation (line.Renew l) r main previous asking untold is = refl
keeps_generation state operation (line.Clean l) r main previous asking untold is = refl
keeps_generation state operation (line.Climb l) r main previous asking untold is = refl
keeps_generation state operation (line.Copy l) r main previous asking untold is = refl
keeps_generation state operation (line.Walk l) r main previous asking untold is = refl
keeps_generation state operation (line.End answer) r main previous asking untold is = refl
keeps_generation state operation line.Impossible r main previous asking untold is = refl

-- what a step of ABORT does, whatever the state
acts_so : (state : State) (operation : Operation) (l : Line) (r : Read) (main previous : Ref) (asking : Asking) → IsUntold asking → read_of l ≡ Some r →
    line_action state operation (asked_line main previous asking l) ≡ ask_action asking
acts_so state operation l r main previous asking untold is =
    (each_embeds l r is).embedded.acts state operation (asked_at main previous asking) ∙ same_action r.indirection main previous asking untold

-- a READ that has met an offer takes it back
pub met_kind : (p : Programs) (program : Program) (offer : Descriptor) (state : State) (operation : Operation) → IsAskingLine (program_line p None program) →
    kind_of (line_action state operation (asking_line p program Runs (Met offer))) ≡ kind.SwapRoot
met_kind p program offer state operation ask =
    let h = asks p program ask in
    ap (λ l. kind_of (line_action state operation l)) (asked p program (Met offer) h)
    ∙ ap kind_of (acts_so state operation (program_line p None program) _ h.main h.previous (Met offer) tt h.reads)

draws_none : (heap : Heap) (generation : ℕ) (asking : Asking) → (drawn_by heap generation (ask_action asking) ≡ generation) × (with_generation generation (ask_action asking) ≡ ask_action asking)
draws_none heap generation Unasked = (refl, refl)
draws_none heap generation (Met offer) = (refl, refl)
draws_none heap generation (Told g) = (refl, refl)

counts_none : (asking : Asking) → counts_from (ask_action asking) ≡ false
counts_none Unasked = refl
counts_none (Met offer) = refl
counts_none (Told g) = refl

offers_none : (attempt : ℕ) (asking : Asking) → attempt_after attempt (ask_action asking) ≡ attempt
offers_none attempt Unasked = refl
offers_none attempt (Met offer) = refl
offers_none attempt (Told g) = refl

table_so : (table : Table) (handle actor : ℕ) (asking : Asking) → IsUntold asking → table_after_abort table handle (abort_of asking) ≡ acted_table table handle actor (ask_action asking)
table_so table handle actor Unasked untold = refl
table_so table handle actor (Met offer) untold = refl
table_so table handle actor (Told g) untold = absurd untold

waits : (asking : Asking) (l : Line) → IsAskingLine l → IsWaiting asking l
waits Unasked l ask = tt
waits (Met offer) l ask = ask
waits (Told g) l ask = ask

-- where it stands matters neither to the generation that it was told nor to its call
same_generation : (program : Program) (p : Programs) (asking : Asking) → generation_in program (record p { at = Runs; asking = asking }) ≡ generation_in program p
same_generation (Key call) p asking = refl
same_generation (Copy call) p asking = refl
same_generation (Walk call) p asking = refl
same_generation Close p asking = refl

same_call : (program : Program) (p : Programs) (asking : Asking) → IsBegun program p → IsBegun program (record p { at = Runs; asking = asking })
same_call (Key call) p asking begun = begun
same_call (Copy call) p asking begun = tt
same_call (Walk call) p asking begun = tt
same_call Close p asking begun = tt

same_reads : (program : Program) (p : Programs) (asking : Asking) → ReadsOn program p → ReadsOn program (record p { at = Runs; asking = asking })
same_reads (Key call) p asking stands = stands
same_reads (Copy call) p asking stands = stands
same_reads (Walk call) p asking stands = tt
same_reads Close p asking stands = tt

-- A step of ABORT in the place of one of the program.
pub steps : (job : Job) (program : Program) (before : Scene) (asking asking' : Asking) (memory' : Memory) (table' : Table) (k : Kind) →
    IsAskingLine (program_line before.programs None program) → IsUntold asking → IsBegun program before.programs → ReadsOn program before.programs →
    AsksOn before.memory.heap before.table job.handle asking asking' k →
    table' ≡ table_after_abort before.table job.handle (abort_of asking) →
    ActsInAll before.memory before.table.roots before.programs.key.work.private (ask_action asking) memory' table'.roots before.programs.key.work.private →
    Does job program (asking_line before.programs program Runs asking) before (record { kind = k; committed = None; given = None; counts = false })
    (record { memory = memory'; table = table'; generation = before.generation; programs = record before.programs { at = Runs; asking = asking' } })
steps job program before asking asking' memory' table' k ask untold begun stands on table acts =
    let p : Programs = before.programs in
    let l : Line = program_line p None program in
    let h : Asks p.key.work.swap.read l = asks p program ask in
    let from : asking_line p program Runs asking ≡ asked_line h.main h.previous asking l = asked p program asking h in
    let after : Scene = record { memory = memory'; table = table'; generation = before.generation; programs = record p { at = Runs; asking = asking' } } in
    let does : Changes job before (ask_action asking) after =
    record {
      acts = subst (λ (a : Action). ActsInAll before.memory before.table.roots p.key.work.private a memory' table'.roots p.key.work.private)
          (sym (draws_none before.memory.heap before.generation asking).1) acts;
      table = table ∙ table_so before.table job.handle job.actor asking untold;
      drawn = sym ((draws_none before.memory.heap before.generation asking).0);
      attempt = sym (offers_none p.copy.attempt asking);
    } in
    record {
      takes = λ state operation.
          let there : State = at_scene state before in
          let o : Operation = operation_in job program before operation in
          let step = on there o l h.indirection h.main h.previous h.reads h.writable (handle_named job.handle program) in
          record {
            kind = ap (λ m. kind_of (line_action there o m)) from ∙ ap kind_of step.0 ∙ step.1;
            line = ap (λ m. line_after there o m) from ∙ step.2 ∙ sym (asked p program asking' h);
            committed = ap (λ m. committed_in there (read_of m)) from ∙ ap (committed_in there) step.3
                ∙ commits_none there h.indirection h.main h.previous asking untold;
            given = ap (λ m. given_in there o (read_of m)) from ∙ ap (given_in there o) step.3 ∙ gives_none there o h.indirection h.main h.previous asking untold;
            counts = ap (λ m. counts_from (line_action there o m)) from ∙ ap counts_from step.0 ∙ counts_none asking;
          };
      changes = λ state operation.
          let there : State = at_scene state before in
          let o : Operation = operation_in job program before operation in
          subst (λ (a : Action). Changes job before a after)
          (sym (ap (line_action there o) from ∙ acts_so there o l _ h.main h.previous asking untold h.reads)) does;
      generation = λ state operation.
          same_generation program p asking' ∙ sym (ap (generation_from (at_scene state before) (operation_in job program before operation)) from
          ∙ keeps_generation (at_scene state before) (operation_in job program before operation) l _ h.main h.previous asking untold h.reads);
      access = refl;
      hashes = refl;
      sound = record { begun = same_call program p asking' begun; waits = waits asking' l ask; reads = same_reads program p asking' stands };
    }
