-- While a main node is being decided, the record knows whose change of its key it is.
use Rattle.std.proofs.Common.{◌≡◌, ℕ, suc, ◌≤◌, ◌<◌, ◌==◌, ◌⊎◌, ◌++◌, ◌∷◌, Bool, true, false, cond, List, find, Option, Some, None, option_to_list, inl, inr, refl, sym, ap, subst, ◌∙◌, arith}
use Rattle.std.specs.Prelude.{option_and_then}
use Rattle.std.proofs.lemmas.Bool.{cases_eq, eq-eqb}
use Rattle.std.proofs.Common.{ne_eqb}
use Rattle.std.proofs.lemmas.Option.{none-some, same_Some}
use Rattle.proof_commits.specs.Vocabulary.{Ref, Call, node_at, Line, Purpose, SwapLine, Operation, After, Gives, ReadLine, Swap, Entrant, Publication, Bounds, Outcome, State, operation_of, word_at}
use Rattle.proof_commits.specs.Vocabulary.{handle_of, swap_after, action_of, line_after, generation_from, first_line, operation_after, GoesOn, begun_operation, Record, changer_of, noted_progress}
use Rattle.proof_commits.specs.Vocabulary.{changer_for, progress_of, published_at, published_by, Reply}
use Rattle.proof_commits.specs.Beneath.machine_model.specs.declared.lines.Line.TheVariants as line
use Rattle.proof_commits.specs.Beneath.machine_model.specs.declared.lines.Purpose.TheVariants as purpose
use Rattle.proof_commits.specs.Beneath.machine_model.specs.declared.reading.After.TheVariants.{Goes}
use Rattle.proof_commits.specs.Beneath.machine_model.specs.declared.reading.SwapLine.TheVariants as swap
use Rattle.proof_commits.specs.Beneath.machine_model.specs.declared.steps.Step.TheVariants as step
use Rattle.proof_commits.specs.Beneath.machine_model.specs.Operations.{after_swap}
use Rattle.proof_commits.specs.Beneath.machine_model.specs.Moves as Machine
use Rattle.proof_commits.specs.Beneath.machine_model.proofs.Times.{along_run}
use Rattle.proof_commits.specs.Beneath.machine_model.proofs.Actors.{begin_counts, marks_by}
use Rattle.proof_commits.specs.Protocol.{Words, Stage, Publishes, Decides, Moves, Idles, MakesNode, SwapsNode, ReadsOn, DecidesOn, IsAtRest, MayHave}
use Rattle.proof_commits.specs.Stages.{stage_of, stage_of_actor, stage_of_swap}
use Rattle.proof_commits.specs.Words.{words_of}
use Rattle.proof_commits.proofs.Known.Given.{Known}
use Rattle.proof_commits.proofs.Known.Owners.{HasFresh}
use Rattle.proof_commits.proofs.Known.Sounds.{sound_at}
use Rattle.proof_commits.proofs.Known.StepsAt.{NotedAt, NotesBegin, NotesGo, NotesEnd, NotesSweep, noted_at, after_mark, go_others}
use Rattle.proof_commits.proofs.Known.StepsAt.{go_own, end_others, end_own, begin_others, begin_own, actor_counts, NotesGivingUp, give_up_own, give_up_others}
use Rattle.proof_commits.proofs.Lines.Resting.{swapped_rest}
use Rattle.proof_commits.proofs.Lines.Swap.{line_decides, line_publishes}
use Rattle.proof_commits.proofs.Lines.Turns.{line_turn}
use Rattle.proof_commits.proofs.Words.Along.{line_facts, protocol, remembers_at}
use Rattle.proof_commits.proofs.Words.First.{idle_at_first}
use Rattle.proof_commits.proofs.Lines.Stages.{first_rests}

-- ---- whence an actor comes to decide its node

-- by publishing it, or it went on deciding
Before : Stage → Ref → Ref → Ref → Type 0
Before s i a f = (s ≡ Publishes i a f) ⊎ ((x : ReadLine) × (s ≡ Decides i a f x))

at_rest : (s : Stage) (i a f : Ref) (l : ReadLine) → IsAtRest s → s ≡ Decides i a f l → ⊥
at_rest s i a f l r e = subst IsAtRest e r

before_deciding : (w : Words) (t k : ℕ) (s after : Stage) → Moves w t k s after → (i a f : Ref) (l : ReadLine) → after ≡ Decides i a f l → Before s i a f
unfolding Before
before_deciding w t k s after (Idles leaves free rests) i a f l e = absurd (at_rest after i a f l rests e)
before_deciding w t k s after (MakesNode n makes free name have) i a f l e = absurd (subst (MayHave w t k n) e have)
before_deciding w t k s after (SwapsNode {i = j} {a = b} {f = g} link swaps) i a f l e =
    let one : j ≡ i = cc e in
    let two : b ≡ a = cc e in
    let three : g ≡ f = cc e in
    inl (ap (λ x. Publishes x b g) one ∙ ap (λ x. Publishes i x g) two ∙ ap (Publishes i a) three)
before_deciding w t k s after (ReadsOn {out = Goes x} turn) i a f l e = let wrong : ⊥ = cc e in absurd wrong
before_deciding w t k s after (ReadsOn {out = Gives m} turn) i a f l e = let wrong : ⊥ = cc e in absurd wrong
before_deciding w t k s after (DecidesOn {i = j} {a = b} {f = g} {l = x} {out = Goes y} turn) i a f l e =
    let one : j ≡ i = cc e in
    let two : b ≡ a = cc e in
    let three : g ≡ f = cc e in
    inr (x, ap (λ y. Decides y b g x) one ∙ ap (λ y. Decides i y g x) two ∙ ap (λ y. Decides i a y x) three)
before_deciding w t k s after (DecidesOn {out = Gives m} turn) i a f l e = let wrong : ⊥ = cc e in absurd wrong

-- ---- by the lines

-- the SWAP with its place
abbrev pub in_swap : Ref → Ref → Ref → ReadLine → Swap
in_swap i a f l = record { indirection = i; replaced = a; fresh = f; line = swap.Deciding l }

-- an operation that decides in its SWAP
pub record Deciding (operation : Operation) : Type 0 where
  pub why : Purpose
  pub indirection : Ref
  pub replaced : Ref
  pub fresh : Ref
  pub at : ReadLine
  pub is : operation.line ≡ line.Swap why (in_swap indirection replaced fresh at)

-- one that runs on the same line
abbrev moved : {before after : Operation} → before.line ≡ after.line → Deciding after → Deciding before
moved e d = record { why = d.why; indirection = d.indirection; replaced = d.replaced; fresh = d.fresh; at = d.at; is = e ∙ d.is }

-- a SWAP that goes on is for what it was
same_why : (state : State) (operation : Operation) (why : Purpose) (s : Swap) (out : After Swap Bool) (because : Purpose) (i a f : Ref) (l : ReadLine) →
    after_swap state operation why s out ≡ line.Swap because (in_swap i a f l) → why ≡ because
same_why state operation why s (Goes next) because i a f l e = cc e
same_why state operation why s (Gives done) because i a f l e =
    absurd (at_rest _ i a f l (swapped_rest (λ x y. Unit {0}) (Unit {0}) operation (node_at state.heap s.fresh) why done).0 (ap stage_of e))

-- ---- what was published

-- the latest that was published of this node
abbrev Finds : Ref → List Publication → Option Entrant → Type 0
Finds f published c = option_and_then (λ (p : Publication). p.changer) (find (λ (p : Publication). p.main == f) published) ≡ c

find_here : (past : List Publication) (f : Ref) (c : Option Entrant) →
    option_and_then (λ (p : Publication). p.changer) (find (λ (p : Publication). p.main == f) (record { main = f; changer = c } ∷ past)) ≡ c
find_here past f c = ap (λ b. option_and_then (λ (p : Publication). p.changer) (cond b (Some (record { main = f; changer = c })) (find (λ (p : Publication). p.main == f) past))) (eq-eqb f f refl)

find_elsewhere : (past : List Publication) (g f : Ref) (c : Option Entrant) → (g ≡ f → ⊥) →
    option_and_then (λ (p : Publication). p.changer) (find (λ (p : Publication). p.main == f) (record { main = g; changer = c } ∷ past))
    ≡ option_and_then (λ (p : Publication). p.changer) (find (λ (p : Publication). p.main == f) past)
find_elsewhere past g f c apart =
    ap (λ b. option_and_then (λ (p : Publication). p.changer) (cond b (Some (record { main = g; changer = c })) (find (λ (p : Publication). p.main == f) past))) (ne_eqb g f apart)

-- ---- at each time

-- whose change a node is that is being decided: its owner's, if the SWAP is for a change of its key
abbrev pub ChangersKnown : (ℕ → State) → (ℕ → Record) → ℕ → Type 0
ChangersKnown states records t =
    (k : ℕ) (operation : Operation) → operation_of (states t) k ≡ Some operation → (d : Deciding operation) → changer_of (records t) d.fresh ≡ changer_for operation d.why

-- a mark changes neither the line nor whose change it is
marked_so : (m : Option ℕ) (operation found : Operation) → after_mark m (Some operation) ≡ Some found → (operation.line ≡ found.line)
    × ((why : Purpose) → changer_for operation why ≡ changer_for found why)
marked_so None operation found e = let same : operation ≡ found = same_Some _ _ e in (ap (λ (o : Operation). o.line) same, λ why. ap (λ o. changer_for o why) same)
marked_so (Some id) operation found e = by (operation.id == id) (same_Some _ _ e)
  where
    by : (b : Bool) → cond b (record operation { is_marked = true }) operation ≡ found → (operation.line ≡ found.line) × ((why : Purpose) → changer_for operation why ≡ changer_for found why)
    by true same = (ap (λ (o : Operation). o.line) same, λ why. changed why ∙ ap (λ o. changer_for o why) same)
      where
        changed : (why : Purpose) → changer_for operation why ≡ changer_for (record operation { is_marked = true }) why
        changed (purpose.Update path former) = refl
        changed (purpose.Renew path) = refl
        changed purpose.Clean = refl
        changed (purpose.Climb c) = refl
    by false same = (ap (λ (o : Operation). o.line) same, λ why. ap (λ o. changer_for o why) same)

-- who runs the same but for a mark ran so before
ran_so : (m : Option ℕ) (before : Option Operation) (found : Operation) → after_mark m before ≡ Some found →
    (was : Operation) × (before ≡ Some was) × (was.line ≡ found.line) × ((why : Purpose) → changer_for was why ≡ changer_for found why)
ran_so None None found e = absurd (none-some found e)
ran_so (Some id) None found e = absurd (none-some found e)
ran_so m (Some was) found e = let same = marked_so m was found e in (was, refl, same.0, same.1)

-- a call's first line is no SWAP
first_at_rest : (call : Call) → IsAtRest (stage_of (first_line call))
first_at_rest call = subst IsAtRest (sym (first_rests call)) tt

-- a step of a SWAP doesn't change who the operation is, in the order
changer_kept : (state : State) (operation : Operation) (why because : Purpose) (s : Swap) → operation.line ≡ line.Swap because s →
    changer_for operation why ≡ changer_for (operation_after state operation) why
changer_kept state operation (purpose.Update path former) because s at =
    ap (λ g. Some (record { id = operation.id; access = operation.access; generation = g })) (sym (ap (generation_from state operation) at))
changer_kept state operation (purpose.Renew path) because s at = refl
changer_kept state operation purpose.Clean because s at = refl
changer_kept state operation (purpose.Climb c) because s at = refl

module _ (limits : Bounds) (states : ℕ → State) (last : ℕ) (known : Known limits states last) where
  abbrev w : Words
  w = words_of states known.run.records last known.closing

  abbrev All : ℕ → Type 0
  All t = ChangersKnown states known.run.records t

  -- nothing was published, and the actor runs what it ran
  rests : (t : ℕ) → All t → (k : ℕ) (m : Option ℕ) → operation_of (states (suc t)) k ≡ after_mark m (operation_of (states t) k) →
      (past : Record) → ((f : Ref) → changer_of past f ≡ changer_of (known.run.records t) f) → (operation : Operation) → operation_of (states (suc t)) k ≡ Some operation →
      (d : Deciding operation) → changer_of past d.fresh ≡ changer_for operation d.why
  rests t all k m same past kept operation runs d =
      let (was, ran, line_is, changer_is) = ran_so m (operation_of (states t) k) operation (sym same ∙ runs) in
      kept d.fresh ∙ all k was ran (moved line_is d) ∙ changer_is d.why

  -- what a step of another operation leaves: two actors have two nodes
  others_by : (t : ℕ) → t ≤ last → All t → (actor k : ℕ) → (k ≡ actor → ⊥) → (mover : Operation) → operation_of (states t) actor ≡ Some mover →
      (found : Operation) → operation_of (states t) k ≡ Some found → (d : Deciding found) →
      Finds d.fresh (option_to_list (published_by mover mover.line) ++ (known.run.records t).published) (changer_for found d.why)
  others_by t h all actor k differ mover moves found runs d = by mover.line refl
    where
      by : (l : Line) → mover.line ≡ l → Finds d.fresh (option_to_list (published_by mover l) ++ (known.run.records t).published) (changer_for found d.why)
      by (line.Swap because s) at = by_line s.line refl
        where
          apart : s.line ≡ swap.Publish → s.fresh ≡ d.fresh → ⊥
          apart e same =
              (sound_at (protocol limits states last known) t h).apart actor k d.fresh (λ e. differ (sym e))
              (subst (λ x. HasFresh x d.fresh) (sym (ap stage_of_actor moves ∙ ap stage_of at ∙ ap (stage_of_swap s.indirection s.replaced s.fresh) e)) same)
              (subst (λ x. HasFresh x d.fresh) (sym (ap stage_of_actor runs ∙ ap stage_of d.is)) refl)

          by_line : (x : SwapLine) → s.line ≡ x → Finds d.fresh (option_to_list (published_at (changer_for mover because) s.fresh x) ++ (known.run.records t).published) (changer_for found d.why)
          by_line swap.Publish e = find_elsewhere (known.run.records t).published s.fresh d.fresh (changer_for mover because) (apart e) ∙ all k found runs d
          by_line (swap.Deciding y) e = all k found runs d
          by_line swap.Check e = all k found runs d
      by l at = all k found runs d

  -- a step of its own
  own_by : (t : ℕ) (h : t < last) → All t → (actor : ℕ) (operation : Operation) (o : Outcome) → Machine.Moves (states t) (step.Go actor) o (states (suc t)) →
      operation_of (states t) actor ≡ Some operation → GoesOn (action_of (states t) operation) →
      known.run.records (suc t) ≡ noted_progress (known.run.records t) (states t).steps actor (progress_of (states t) operation) →
      (d : Deciding (operation_after (states t) operation)) → changer_of (known.run.records (suc t)) d.fresh ≡ changer_for (operation_after (states t) operation) d.why
  unfolding Before
  own_by t h all actor operation o m is g notes d =
      ap (λ past. changer_of past d.fresh) notes
      ∙ by_stage (before_deciding w t actor (stage_of operation.line) _ turn d.indirection d.replaced d.fresh d.at (ap stage_of d.is))
    where
      turn : Moves w t actor (stage_of operation.line) (stage_of (line_after (states t) operation operation.line))
      turn = line_turn limits states last known t h actor operation operation.line g (record {
        facts = line_facts limits states last known t h actor operation o m is notes;
        remembers = remembers_at limits states last known t (omega arith) actor operation is;
      })

      because : (x : Line) → operation.line ≡ x → (why' : Purpose) (s : Swap) → x ≡ line.Swap why' s → why' ≡ d.why
      because x e why' s same =
          same_why (states t) operation why' s (swap_after (states t).heap operation.access (word_at (states t) (handle_of operation.call)) s) d.why
          d.indirection d.replaced d.fresh d.at (ap (λ y. line_after (states t) operation y) (sym same ∙ sym e) ∙ d.is)

      by_stage : Before (stage_of operation.line) d.indirection d.replaced d.fresh → Finds d.fresh (option_to_list (published_by operation operation.line) ++ (known.run.records t).published)
          (changer_for (operation_after (states t) operation) d.why)
      by_stage (inl e) =
          let (why', same) = line_publishes operation.line d.indirection d.replaced d.fresh e in
          ap (λ x. option_and_then (λ (p : Publication). p.changer) (find (λ (p : Publication). p.main == d.fresh) (option_to_list (published_by operation x) ++ (known.run.records t).published))) same
          ∙ find_here (known.run.records t).published d.fresh (changer_for operation why') ∙ ap (changer_for operation) (because _ refl why' _ same)
          ∙ changer_kept (states t) operation d.why why' _ same
      by_stage (inr (x, e)) =
          let (why', same) = line_decides operation.line d.indirection d.replaced d.fresh x e in
          ap (λ y. option_and_then (λ (p : Publication). p.changer) (find (λ (p : Publication). p.main == d.fresh) (option_to_list (published_by operation y) ++ (known.run.records t).published))) same
          ∙ all actor operation is (record { why = why'; indirection = d.indirection; replaced = d.replaced; fresh = d.fresh; at = x; is = same })
          ∙ ap (changer_for operation) (because _ refl why' _ same) ∙ changer_kept (states t) operation d.why why' _ same

  at_next : (t : ℕ) → t < last → All t → NotedAt (states t) (known.run.records t) (states (suc t)) (known.run.records (suc t)) → All (suc t)
  at_next t h all (NotesBegin actor call number o m d e notes) k operation runs its = elim (cases_eq k actor) [
    | inl same ↦
        let found = subst (λ (s : State). (operation_of s actor ≡ None) ⊎ (operation_of s actor ≡ Some (begun_operation (states t) call number))) (sym e)
        (begin_own (states t) actor call (begun_operation (states t) call number)) in
        absurd (not_begun call number (subst (λ j. operation_of (states (suc t)) j ≡ Some operation) same runs) found)
    | inr other ↦
        rests t all k None (ap (λ (s : State). operation_of s k) e ∙ begin_others (states t) actor call (begun_operation (states t) call number) (begin_counts (states t) actor call number d) k other)
        (known.run.records (suc t)) (λ g. ap (λ past. changer_of past g) notes) operation runs its
  ]
    where
      not_begun : (c : Call) (number : Option ℕ) → operation_of (states (suc t)) actor ≡ Some operation →
          (operation_of (states (suc t)) actor ≡ None) ⊎ (operation_of (states (suc t)) actor ≡ Some (begun_operation (states t) c number)) → ⊥
      not_begun c number at (inl none) = none-some operation (sym none ∙ at)
      not_begun c number at (inr begun) = at_rest _ its.indirection its.replaced its.fresh its.at (first_at_rest c)
          (ap stage_of (ap (λ (x : Operation). x.line) (same_Some _ _ (sym begun ∙ at))) ∙ ap stage_of its.is)
  at_next t h all (NotesGo actor mover o m d ran g e notes) k operation runs its = elim (cases_eq k actor) [
    | inl same ↦
        let own = ap (λ (s : State). operation_of s actor) e ∙ go_own (states t) actor mover ran in
        let so = marked_so (marks_by (states t) (Some mover)) (operation_after (states t) mover) operation (sym own ∙ subst (λ j. operation_of (states (suc t)) j ≡ Some operation) same runs) in
        own_by t h all actor mover o m ran g notes (moved so.0 its) ∙ so.1 its.why
    | inr other ↦
        let others = ap (λ (s : State). operation_of s k) e ∙ go_others (states t) actor mover (actor_counts (states t) actor mover ran) k other in
        let (was, before, line_is, changer_is) = ran_so (marks_by (states t) (Some mover)) (operation_of (states t) k) operation (sym others ∙ runs) in
        ap (λ past. changer_of past its.fresh) notes ∙ others_by t (omega arith) all actor k other mover ran was before (moved line_is its) ∙ changer_is its.why
  ]
  at_next t h all (NotesEnd actor ending answer o m ran action e notes) k operation runs its = elim (cases_eq k actor) [
    | inl same ↦
        absurd (none-some operation (sym (ap (λ (s : State). operation_of s actor) e ∙ end_own (states t) actor ending answer)
        ∙ subst (λ j. operation_of (states (suc t)) j ≡ Some operation) same runs))
    | inr other ↦
        rests t all k None (ap (λ (s : State). operation_of s k) e ∙ end_others (states t) actor ending answer (actor_counts (states t) actor ending ran) k other)
        (known.run.records (suc t)) (λ g. ap (λ past. changer_of past g) notes) operation runs its
  ]
  at_next t h all (NotesGivingUp actor was answer o m ran may e notes) k operation runs its = elim (cases_eq k actor) [
    | inl same ↦
        let own = ap (λ (s : State). operation_of s actor) e ∙ give_up_own (states t) actor was answer ran in
        absurd (not_ending answer (ap (λ (x : Operation). x.line) (same_Some _ _ (sym own ∙ subst (λ j. operation_of (states (suc t)) j ≡ Some operation) same runs)) ∙ its.is))
    | inr other ↦
        rests t all k None (ap (λ (s : State). operation_of s k) e ∙ give_up_others (states t) actor was answer (actor_counts (states t) actor was ran) k other)
        (known.run.records (suc t)) (λ g. ap (λ past. changer_of past g) notes) operation runs its
  ]
    where
      not_ending : (x : Reply) → line.End x ≡ line.Swap its.why (in_swap its.indirection its.replaced its.fresh its.at) → ⊥
      not_ending x same = cc same
  at_next t h all (NotesSweep o m e notes) k operation runs its =
      rests t all k None (ap (λ (s : State). operation_of s k) e) (known.run.records (suc t)) (λ g. ap (λ past. changer_of past g) notes) operation runs its

  pub changers_known : (t : ℕ) → t ≤ last → All t
  changers_known =
      along_run known.run All
      (λ k operation runs. absurd (none-some operation (sym (idle_at_first limits known.run.limits_ok states known.run.first k) ∙ runs)))
      (λ t h turn all. at_next t h all (noted_at (known.run.turn t h) (known.run.recorded t h)))
