-- Steps of an operation whose program has come to its end.
use Rattle.std.specs.Prelude.{◌≡◌, ℕ, false, Option, Some, None, refl}
use Rattle.std.proofs.Common.{arith, sym, ap, subst, ◌∙◌}
use Rattle.running.specs.Vocabulary.{Kind, Reply, Action, Line, Operation, ReadLine, generation_from, kind_of, line_action, line_after, read_of, State, committed_in, counts_from, given_in}
use Rattle.running.specs.Vocabulary.{with_read, Asking, Unasked, Met}
use Rattle.ctrie_base.specs.declared.kinds.Kind.TheVariants as kind
use Rattle.running.specs.Beneath.machine_model.specs.declared.actions.Action.TheVariants as act
use Rattle.running.specs.Beneath.machine_model.specs.declared.lines.Line.TheVariants as line
use Rattle.running.specs.Beneath.root_asking.specs.declared.asking.Asking.TheVariants.{Told}
use Rattle.running.specs.declared.job.Job.{Job}
use Rattle.running.specs.declared.job.Program.{Program}
use Rattle.running.specs.declared.programs.Programs.{Programs}
use Rattle.running.specs.declared.programs.ProgramAt.{ProgramAt}
use Rattle.running.specs.declared.programs.ProgramAt.TheVariants.{Impossible}
use Rattle.running.specs.Places.{IsSound, asking_line, line_for, met_at, program_line_at}
use Rattle.running.specs.Steps.{Changes, Does, Scene, at_scene, operation_in}

-- it changes nothing
abbrev IsIdle : Action → Type 0
IsIdle act.ReadRoot = Unit {0}
IsIdle (act.End answer) = Unit {0}
IsIdle action = ⊥

-- where no READ stands in the line it doesn't matter what is asked
pub stays : (p : Programs) (program : Program) (at : ProgramAt) (asking : Asking) (l : Line) → ((told : Option ℕ) → program_line_at p told program at ≡ l) →
    ((here : ReadLine) → with_read here l ≡ l) → asking_line p program at asking ≡ l
stays p program at Unasked l is none = is None
stays p program at (Met offer) l is none = ap (with_read (met_at p.key.work.swap.read.at offer)) (is None) ∙ none (met_at p.key.work.swap.read.at offer)
stays p program at (Told generation) l is none = is (Some generation)

-- an action that leaves all as it is
idle : (job : Job) (scene : Scene) (action : Action) → IsIdle action → Changes job scene action scene
idle job scene (act.End answer) none = record {
  acts = record {
    heap = refl;
    made = refl;
    others = λ r. refl;
    stay = λ q live. live;
    epochs = (refl, refl, refl, refl);
    few = omega arith;
    ticks = (omega arith, omega arith);
  };
  table = refl;
  drawn = refl;
  attempt = refl;
}
idle job scene act.ReadRoot none = record {
  acts = record {
    heap = refl;
    made = refl;
    others = λ r. refl;
    stay = λ q live. live;
    epochs = (refl, refl, refl, refl);
    few = omega arith;
    ticks = (omega arith, omega arith);
  };
  table = refl;
  drawn = refl;
  attempt = refl;
}
idle job scene action none = absurd none

-- a step from this line, of this kind, leaves the operation there
record Rests (state : State) (operation : Operation) (l : Line) (k : Kind) (action : Action) : Type 0 where
  does : line_action state operation l ≡ action
  kind_is : kind_of action ≡ k
  line_is : line_after state operation l ≡ l
  reads : read_of l ≡ None
  keeps : generation_from state operation l ≡ operation.generation
  counts : counts_from action ≡ false

rests : (job : Job) (program : Program) (scene : Scene) (l : Line) (k : Kind) (action : Action) → line_for program scene.programs ≡ l → IsSound program scene.programs →
    IsIdle action → ((state : State) (operation : Operation) → Rests state operation l k action) →
    Does job program (line_for program scene.programs) scene (record { kind = k; committed = None; given = None; counts = false }) scene
rests job program scene l k action from sound none each = record {
  takes = λ state operation.
      let there : State = at_scene state scene in
      let o : Operation = operation_in job program scene operation in
      let step : Rests there o l k action = each there o in
      record {
        kind = ap (λ m. kind_of (line_action there o m)) from ∙ ap kind_of step.does ∙ step.kind_is;
        line = ap (line_after there o) from ∙ step.line_is ∙ sym from;
        committed = ap (λ m. committed_in there (read_of m)) from ∙ ap (committed_in there) step.reads;
        given = ap (λ m. given_in there o (read_of m)) from ∙ ap (given_in there o) step.reads;
        counts = ap (λ m. counts_from (line_action there o m)) from ∙ ap counts_from step.does ∙ step.counts;
      };
  changes = λ state operation.
      let there : State = at_scene state scene in
      let o : Operation = operation_in job program scene operation in
      subst (λ (a : Action). Changes job scene a scene) (sym (ap (line_action there o) from ∙ (each there o).does)) (idle job scene action none);
  generation = λ state operation.
      let there : State = at_scene state scene in
      let o : Operation = operation_in job program scene operation in
      sym (ap (generation_from there o) from ∙ (each there o).keeps);
  access = refl;
  hashes = refl;
  sound = sound;
}

-- the last step of an operation, which tells it where it stands
pub ended : (job : Job) (program : Program) (scene : Scene) (at : ProgramAt) (answer : Reply) → scene.programs.at ≡ at →
    ((told : Option ℕ) → program_line_at scene.programs told program at ≡ line.End answer) → IsSound program scene.programs →
    Does job program (line_for program scene.programs) scene (record { kind = kind.End; committed = None; given = None; counts = false }) scene
ended job program scene at answer stands is sound =
    rests job program scene (line.End answer) kind.End (act.End answer)
    (ap (λ s. asking_line scene.programs program s scene.programs.asking) stands
    ∙ stays scene.programs program at scene.programs.asking (line.End answer) is (λ here. refl))
    sound tt (λ state operation. record { does = refl; kind_is = refl; line_is = refl; reads = refl; keeps = refl; counts = refl })

-- a step to which no machine comes
pub stuck : (job : Job) (program : Program) (scene : Scene) → scene.programs.at ≡ Impossible → IsSound program scene.programs →
    Does job program (line_for program scene.programs) scene (record { kind = kind.ReadRoot; committed = None; given = None; counts = false }) scene
stuck job program scene at sound =
    rests job program scene line.Impossible kind.ReadRoot act.ReadRoot
    (ap (λ s. asking_line scene.programs program s scene.programs.asking) at
    ∙ stays scene.programs program Impossible scene.programs.asking line.Impossible (λ told. refl) (λ here. refl))
    sound tt (λ state operation. record { does = refl; kind_is = refl; line_is = refl; reads = refl; keeps = refl; counts = refl })
