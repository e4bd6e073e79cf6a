use Rattle.std.specs.Prelude.{◌≡◌, ℕ, Option, None, refl}
use Rattle.std.proofs.Common.{sym, subst}
use Rattle.running.specs.Beneath.epochs.specs.Memories.{Memory}
use Rattle.running.specs.Vocabulary.{Table, word_in, KeyCall, no_operation, IsAskingLine, KeyOp, key_line}
use Rattle.operate.proofs.Wherever.{untold}
use Rattle.running.specs.declared.job.Job.{Job}
use Rattle.running.specs.declared.job.Program.TheVariants.{Key}
use Rattle.running.specs.declared.programs.Programs.{Programs}
use Rattle.running.specs.declared.programs.ProgramAt.TheVariants.{Runs, Answered}
use Rattle.running.specs.Steps.{Does, Scene, scene, taken_beside}
use Rattle.running.specs.Taking.{Taken}
use Rattle.running.proofs.Going.{keys, with_word}
use Rattle.running.proofs.programs.Programs.step_key.Goals as goal

-- where the call asks nothing has changed
asked : (job : Job) (call : KeyCall) (told : Option ℕ) (generation : ℕ) (p : Programs) (key : KeyOp) (heap heap' : Memory) (roots roots' : Table) (taken : Taken) (after : Scene) →
    key ≡ p.key → roots' ≡ roots → heap' ≡ heap → told ≡ None →
    Does job (Key call) (key_line key None) (scene heap' roots' generation (record p { key = key })) taken after →
    Does job (Key call) (key_line p.key told) (scene heap roots generation p) taken after
asked job call told generation p key heap heap' roots roots' taken after same words memory none does =
    subst (λ (t : Option ℕ). Does job (Key call) (key_line p.key t) (scene heap roots generation p) taken after) (sym none)
    (subst (λ (m : Memory). Does job (Key call) (key_line p.key None) (scene m roots generation p) taken after) memory
    (subst (λ (t : Table). Does job (Key call) (key_line p.key None) (scene heap' t generation p) taken after) words
    (subst (λ (k : KeyOp). Does job (Key call) (key_line k None) (scene heap' roots' generation (record p { key = k })) taken after) same does)))

pub ask_for_key-kind-requires-clause-asks : goal.ask_for_key-kind-requires-clause-asks
unfolding with_word
ask_for_key-kind-requires-clause-asks c =
    let p = c.args.self.now in
    let asking : IsAskingLine (key_line p.key c.args.root_seen) =
    c.in-AskRoot.ensures.follows (with_word (word_in c.args.roots.now c.args.job.now.handle)) no_operation refl in
    let same = c.in-AskRoot.ensures.asks (tt {0}) in
    let none : c.args.root_seen ≡ None = untold p.key c.args.root_seen asking in
    subst (λ (k : KeyOp). IsAskingLine (key_line k None)) (sym same.0) (subst (λ (t : Option ℕ). IsAskingLine (key_line p.key t)) none asking)

pub returns-in-AskRoot : goal.returns-in-AskRoot
unfolding with_word
returns-in-AskRoot c =
    let p = c.args.self.now in
    let asking : IsAskingLine (key_line p.key c.args.root_seen) =
    c.in-AskRoot.ensures.follows (with_word (word_in c.args.roots.now c.args.job.now.handle)) no_operation refl in
    let same = c.in-AskRoot.ensures.asks (tt {0}) in
    rw c.of_kind.ensures (
    asked c.args.job.now c.args.call.now c.args.root_seen c.args.generation p c.step.new.self c.args.heap.now c.step.new.heap c.args.roots.now c.step.new.roots (taken_beside c.ask_for_key-kind.result)
    (record { memory = c.ask_for_key-kind.new.heap; table = c.ask_for_key-kind.new.roots; generation = c.args.generation; programs = c.ask_for_key-kind.new.self })
    same.0 same.1 same.2 (untold p.key c.args.root_seen asking) c.ask_for_key-kind.ensures)

pub returns-in-More : goal.returns-in-More
returns-in-More c =
    rw (c.go_by_key.ensures.same, c.go_by_key.ensures.taken) (
    keys
    c.args.job.now
    c.args.call.now
    c.args.root_seen
    (record { memory = c.args.heap.now; table = c.args.roots.now; generation = c.args.generation; programs = c.args.self.now })
    c.step.new.heap
    c.step.new.roots
    c.step.new.self
    c.is_reading-is_reading.result
    c.in-More.kind
    Runs
    c.requires.begun
    (c.is_reading-is_reading.ensures c.args.root_seen)
    c.in-More.ensures.follows
    c.step.ensures.acts
    c.step.ensures.table
    c.in-More.ensures.generation
    c.step.ensures.access
    c.step.ensures.task
    c.step.ensures.stands
    )

pub returns-in-Done : goal.returns-in-Done
returns-in-Done c =
    rw (c.come_by_key.ensures.same, c.come_by_key.ensures.taken) (
    keys
    c.args.job.now
    c.args.call.now
    c.args.root_seen
    (record { memory = c.args.heap.now; table = c.args.roots.now; generation = c.args.generation; programs = c.args.self.now })
    c.step.new.heap
    c.step.new.roots
    c.step.new.self
    c.is_reading-is_reading.result
    c.in-Done.kind
    (Answered c.in-Done.reply)
    c.requires.begun
    (c.is_reading-is_reading.ensures c.args.root_seen)
    c.in-Done.ensures.follows
    c.step.ensures.acts
    c.step.ensures.table
    c.in-Done.ensures.generation
    c.step.ensures.access
    c.step.ensures.task
    tt
    )
