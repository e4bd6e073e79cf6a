-- Who puts a node back does so in the place of one that failed over it; who decides one, one that stood in the indirection's word.
use Rattle.std.proofs.Common.{◌≡◌, ℕ, Bool, true, false, List, Option, Some, refl, sym, ap, subst, ◌∙◌, arith}
use Rattle.std.proofs.lemmas.Bool.{false≢true}
use Rattle.std.proofs.lemmas.Option.{none-some, same_Some}
use Rattle.proof_garbage.specs.Beneath.slot_arena.specs.declared.refs.Ref.{Ref}
use Rattle.proof_garbage.specs.Beneath.machine_model.specs.declared.reading.Read.{Read}
use Rattle.proof_garbage.specs.Beneath.machine_model.specs.declared.reading.ReadLine.{ReadLine}
use Rattle.proof_garbage.specs.Beneath.machine_model.specs.declared.reading.ReadLine.TheVariants as read
use Rattle.proof_garbage.specs.Beneath.machine_model.specs.declared.reading.SwapLine.{SwapLine}
use Rattle.proof_garbage.specs.Beneath.machine_model.specs.declared.reading.SwapLine.TheVariants as swap
use Rattle.proof_garbage.specs.Beneath.machine_model.specs.declared.lines.Line.{Line}
use Rattle.proof_garbage.specs.Beneath.machine_model.specs.declared.lines.Line.TheVariants as line
use Rattle.proof_garbage.specs.Beneath.machine_model.specs.declared.operations.Operation.{Operation}
use Rattle.proof_garbage.specs.Beneath.machine_model.specs.declared.steps.Bounds.{Bounds}
use Rattle.proof_garbage.specs.Beneath.machine_model.specs.declared.steps.Step.{Step}
use Rattle.proof_garbage.specs.Beneath.machine_model.specs.States.{State, operation_of}
use Rattle.proof_garbage.specs.Beneath.machine_model.specs.Operations.{read_of, swapping_read}
use Rattle.proof_garbage.specs.Beneath.machine_model.specs.Machine.{AreBounds, run}
use Rattle.proof_garbage.specs.Beneath.machine_model.specs.Times.{states_of, last_of}
use Rattle.proof_garbage.specs.Beneath.machine_model.proofs.Times.{run_ends}
use Rattle.proof_garbage.specs.Beneath.machine_model.proofs.Grown.{prev_grown}
use Rattle.proof_garbage.specs.Beneath.proof_memory.specs.Laws.{IsInUse}
use Rattle.proof_garbage.specs.Beneath.slot_arena.specs.Heaps.{prev_at}
use Rattle.proof_garbage.specs.Beneath.slot_arena.specs.declared.nodes.Prev.TheVariants as prev
use Rattle.proof_garbage.specs.Beneath.proof_commits.specs.Protocol.{Words, Reads}
use Rattle.proof_garbage.specs.Beneath.proof_commits.specs.Stages.{stage_of, stage_of_swap, stage_of_actor}
use Rattle.proof_garbage.specs.Beneath.proof_commits.specs.Words.{words_of}
use Rattle.proof_garbage.specs.Beneath.proof_commits.proofs.Words.Along.{protocol}
use Rattle.proof_garbage.specs.Beneath.proof_commits.proofs.Words.Stood.{Stood}
use Rattle.proof_garbage.specs.Beneath.proof_commits.proofs.Known.Owners.{OnLine, Staged}
use Rattle.proof_garbage.specs.Beneath.proof_commits.proofs.Known.Sounds.{sound_at}
use Rattle.proof_garbage.specs.Beneath.proof_commits.proofs.Known.Given.{Known}
use Rattle.proof_garbage.specs.Beneath.proof_commits.proofs.Course.OfLists.{known_from}
use Rattle.proof_garbage.specs.Beneath.proof_commits.proofs.Lines.Swap.{reads_stage}
use Rattle.proof_garbage.specs.Beneath.machine_model.specs.declared.actions.Action.{Action}
use Rattle.proof_garbage.specs.Beneath.machine_model.specs.declared.actions.Action.TheVariants as act
use Rattle.proof_garbage.specs.Beneath.machine_model.specs.declared.building.BuildLine.{BuildLine}
use Rattle.proof_garbage.specs.Beneath.machine_model.specs.declared.building.BuildLine.TheVariants as build
use Rattle.proof_garbage.specs.Beneath.machine_model.specs.declared.copying.CopyLine.{CopyLine}
use Rattle.proof_garbage.specs.Beneath.machine_model.specs.declared.copying.CopyLine.TheVariants as copy
use Rattle.proof_garbage.specs.Beneath.machine_model.specs.declared.finding.KeyLine.{KeyLine}
use Rattle.proof_garbage.specs.Beneath.machine_model.specs.declared.finding.KeyLine.TheVariants as key
use Rattle.proof_garbage.specs.Beneath.machine_model.specs.declared.repairs.ClimbLine.{ClimbLine}
use Rattle.proof_garbage.specs.Beneath.machine_model.specs.declared.repairs.ClimbLine.TheVariants as climb
use Rattle.proof_garbage.specs.Beneath.machine_model.specs.declared.repairs.CleanLine.{CleanLine}
use Rattle.proof_garbage.specs.Beneath.machine_model.specs.declared.repairs.CleanLine.TheVariants as clean
use Rattle.proof_garbage.specs.Beneath.machine_model.specs.declared.repairs.RenewLine.{RenewLine}
use Rattle.proof_garbage.specs.Beneath.machine_model.specs.declared.repairs.RenewLine.TheVariants as renew
use Rattle.proof_garbage.specs.Beneath.machine_model.specs.declared.roots.CompleteLine.{CompleteLine}
use Rattle.proof_garbage.specs.Beneath.machine_model.specs.declared.roots.CompleteLine.TheVariants as complete
use Rattle.proof_garbage.specs.Beneath.machine_model.specs.declared.roots.Descriptor.{Descriptor}
use Rattle.proof_garbage.specs.Beneath.machine_model.specs.declared.roots.RootLine.{RootLine}
use Rattle.proof_garbage.specs.Beneath.machine_model.specs.declared.roots.RootLine.TheVariants as root
use Rattle.proof_garbage.specs.Beneath.machine_model.specs.declared.walking.WalkLine.{WalkLine}
use Rattle.proof_garbage.specs.Beneath.machine_model.specs.declared.walking.WalkLine.TheVariants as walk
use Rattle.proof_garbage.specs.Beneath.machine_model.specs.Reading.{read_action}
use Rattle.proof_garbage.specs.Beneath.machine_model.specs.Swapping.{complete_action_at, root_action, action_at}
use Rattle.proof_garbage.specs.Beneath.machine_model.specs.Operations.{line_action, action_of, completing_read, rooting_read, keying_read, renewing_read, cleaning_read, climbing_read, copying_read}
use Rattle.proof_garbage.specs.Beneath.machine_model.specs.Operations.{walking_read}
use Rattle.proof_garbage.specs.Beneath.machine_model.specs.Finding.{key_action}
use Rattle.proof_garbage.specs.Beneath.machine_model.specs.Building.{build_action}
use Rattle.proof_garbage.specs.Beneath.machine_model.specs.Renewing.{renew_action}
use Rattle.proof_garbage.specs.Beneath.machine_model.specs.Cleaning.{clean_action}
use Rattle.proof_garbage.specs.Beneath.machine_model.specs.Climbing.{climb_action}
use Rattle.proof_garbage.specs.Beneath.machine_model.specs.Copying.{copy_action}
use Rattle.proof_garbage.specs.Beneath.machine_model.specs.Walking.{walk_action}

-- the action is a READ's alone
abbrev of_read : Action → Bool
of_read (act.ReadMain i) = true
of_read (act.Abort offer) = true
of_read (act.Decide i main previous told) = true
of_read (act.Restore i main previous) = true
of_read action = false

-- it is that of the READ in which the operation is
abbrev ReadsIt : Option Read → Action → Type 0
ReadsIt o action = (r : Read) × (o ≡ Some r) × (action ≡ read_action r.indirection r.line)

this_read : (r : Read) → ReadsIt (Some r) (read_action r.indirection r.line)
this_read r = (r, refl, refl)

complete_reads : (offer : Descriptor) (l : CompleteLine) → of_read (complete_action_at offer l) ≡ true → ReadsIt (completing_read offer l) (complete_action_at offer l)
complete_reads offer (complete.Reading l) e = this_read (record { indirection = offer.root; line = l })
complete_reads offer (complete.Swap main) e = absurd (false≢true e)

root_reads : (l : RootLine) → of_read (root_action l) ≡ true → ReadsIt (rooting_read l) (root_action l)
root_reads root.Read e = absurd (false≢true e)
root_reads (root.Completing c) e = complete_reads c.offer c.line e

swap_reads : (i a f : Ref) (l : SwapLine) → of_read (action_at i a f l) ≡ true → ReadsIt (swapping_read i l) (action_at i a f l)
swap_reads i a f swap.Publish e = absurd (false≢true e)
swap_reads i a f (swap.Deciding l) e = this_read (record { indirection = i; line = l })
swap_reads i a f swap.Check e = absurd (false≢true e)

key_reads : (state : State) (l : KeyLine) → of_read (key_action state l) ≡ true → ReadsIt (keying_read l) (key_action state l)
key_reads state (key.Read path r) e = this_read r
key_reads state l e = absurd (false≢true e)

build_reads : (state : State) (operation : Operation) (l : BuildLine) → of_read (build_action state operation l) ≡ true → ⊥
build_reads state operation (build.Single path main s former) e = false≢true e
build_reads state operation l e = false≢true e

renew_reads : (state : State) (operation : Operation) (l : RenewLine) → of_read (renew_action state operation l) ≡ true → ReadsIt (renewing_read l) (renew_action state operation l)
renew_reads state operation (renew.Read path main done r) e = this_read r
renew_reads state operation l e = absurd (false≢true e)

clean_reads : (state : State) (l : CleanLine) → of_read (clean_action state l) ≡ true → ReadsIt (cleaning_read l) (clean_action state l)
clean_reads state (clean.Read path r) e = this_read r
clean_reads state (clean.Child path main done r) e = this_read r
clean_reads state l e = absurd (false≢true e)

climb_reads : (state : State) (operation : Operation) (l : ClimbLine) → of_read (climb_action state operation l) ≡ true → ReadsIt (climbing_read l) (climb_action state operation l)
climb_reads state operation (climb.Read c r) e = this_read r
climb_reads state operation (climb.Root c l) e = root_reads l e
climb_reads state operation l e = absurd (false≢true e)

copy_reads : (l : CopyLine) → of_read (copy_action l) ≡ true → ReadsIt (copying_read l) (copy_action l)
copy_reads (copy.Read r read) e = this_read read
copy_reads (copy.Complete c) e = complete_reads c.offer c.line e
copy_reads l e = absurd (false≢true e)

walk_reads : (l : WalkLine) → of_read (walk_action l) ≡ true → ReadsIt (walking_read l) (walk_action l)
walk_reads (walk.Read r todo taken) e = this_read r
walk_reads l e = absurd (false≢true e)

line_reads : (state : State) (operation : Operation) (l : Line) → of_read (line_action state operation l) ≡ true → ReadsIt (read_of l) (line_action state operation l)
line_reads state operation (line.Root l) e = root_reads l e
line_reads state operation (line.Key l) e = key_reads state l e
line_reads state operation (line.Build l) e = absurd (build_reads state operation l e)
line_reads state operation (line.Swap why s) e = swap_reads s.indirection s.replaced s.fresh s.line e
line_reads state operation (line.Renew l) e = renew_reads state operation l e
line_reads state operation (line.Clean l) e = clean_reads state l e
line_reads state operation (line.Climb l) e = climb_reads state operation l e
line_reads state operation (line.Copy l) e = copy_reads l e
line_reads state operation (line.Walk l) e = walk_reads l e
line_reads state operation (line.End answer) e = absurd (false≢true e)
line_reads state operation line.Impossible e = absurd (false≢true e)

-- which READ, and on which line
restores_by : (j : Ref) (l : ReadLine) (i main previous : Ref) → read_action j l ≡ act.Restore i main previous → (j ≡ i) × (l ≡ read.Restore main previous)
restores_by j (read.Restore m p) i main previous e = (cc e, cc e)
restores_by j read.Main i main previous e = let wrong : ⊥ = cc e in absurd wrong
restores_by j (read.Prev m) i main previous e = let wrong : ⊥ = cc e in absurd wrong
restores_by j (read.AskRoot m p) i main previous e = let wrong : ⊥ = cc e in absurd wrong
restores_by j (read.Abort m p offer) i main previous e = let wrong : ⊥ = cc e in absurd wrong
restores_by j (read.Decide m p told) i main previous e = let wrong : ⊥ = cc e in absurd wrong

decides_by : (j : Ref) (l : ReadLine) (i main previous : Ref) (told : Option ℕ) → read_action j l ≡ act.Decide i main previous told → (j ≡ i) × (l ≡ read.Decide main previous told)
decides_by j (read.Decide m p t) i main previous told e = (cc e, cc e)
decides_by j read.Main i main previous told e = let wrong : ⊥ = cc e in absurd wrong
decides_by j (read.Prev m) i main previous told e = let wrong : ⊥ = cc e in absurd wrong
decides_by j (read.AskRoot m p) i main previous told e = let wrong : ⊥ = cc e in absurd wrong
decides_by j (read.Abort m p offer) i main previous told e = let wrong : ⊥ = cc e in absurd wrong
decides_by j (read.Restore m p) i main previous told e = let wrong : ⊥ = cc e in absurd wrong

same_read : (r : Read) (i : Ref) (l : ReadLine) → r.indirection ≡ i → r.line ≡ l → r ≡ record { indirection = i; line = l }
same_read r i l at on = ap (λ j. record { indirection = j; line = r.line }) at ∙ ap (λ m. record { indirection = i; line = m }) on

-- what is known of a stage on which an operation reads
module _ (w : Words) (t k : ℕ) where
  swap_on_line : (i a f : Ref) (l : SwapLine) (r : Read) → swapping_read i l ≡ Some r → Staged w t k (stage_of_swap i a f l) → OnLine w t r.indirection r.line
  swap_on_line i a f (swap.Deciding x) r is st = subst (λ (q : Read). OnLine w t q.indirection q.line) (same_Some (record { indirection = i; line = x }) r is) st.0
  swap_on_line i a f swap.Publish r is st = absurd (none-some r is)
  swap_on_line i a f swap.Check r is st = absurd (none-some r is)

  by_stage : (l : Line) (r : Read) → stage_of l ≡ Reads r.indirection r.line → Staged w t k (stage_of l) → OnLine w t r.indirection r.line
  by_stage l r e st = subst (λ s. Staged w t k s) e st

  pub on_line : (l : Line) (r : Read) → read_of l ≡ Some r → Staged w t k (stage_of l) → OnLine w t r.indirection r.line
  on_line (line.Swap why s) r is st = swap_on_line s.indirection s.replaced s.fresh s.line r is st
  on_line l r is st = by_stage l r (reads_stage l r tt is) st

-- in a run
module _ (limits : Bounds) (steps : List Step) (ok : AreBounds limits) where
  abbrev pub states : ℕ → State
  states = states_of limits steps

  abbrev pub last : ℕ
  last = last_of limits steps

  abbrev pub known : Known limits states last
  known = known_from limits steps ok

  abbrev pub w : Words
  w = words_of states known.run.records last known.closing

  pub staged : (actor : ℕ) (operation : Operation) → operation_of (run limits steps) actor ≡ Some operation → Staged w last actor (stage_of operation.line)
  staged actor operation is =
      subst (λ x. Staged w last actor (stage_of_actor x)) (ap (λ (s : State). operation_of s actor) (run_ends limits steps) ∙ is)
      ((sound_at (protocol limits states last known) last (omega arith)).staged actor)

  -- what is known of the READ whose action this is
  reading : (actor : ℕ) (operation : Operation) → operation_of (run limits steps) actor ≡ Some operation → of_read (action_of (run limits steps) operation) ≡ true →
      (r : Read) × (read_of operation.line ≡ Some r) × (action_of (run limits steps) operation ≡ read_action r.indirection r.line) × OnLine w last r.indirection r.line
  reading actor operation is e =
      let (r, reads, acts) = line_reads (run limits steps) operation operation.line e in (r, reads, acts, on_line w last actor operation.line r reads (staged actor operation is))

  pub failed_over : (actor : ℕ) (operation : Operation) (i main previous : Ref) → operation_of (run limits steps) actor ≡ Some operation →
      action_of (run limits steps) operation ≡ act.Restore i main previous →
      IsInUse (run limits steps).heap main → prev_at (run limits steps).heap main ≡ prev.Failed previous
  failed_over actor operation i main previous is a used =
      let (r, reads, acts, known) = reading actor operation is (ap of_read a) in
      let (at, on) = restores_by r.indirection r.line i main previous (sym acts ∙ a) in
      let there : IsInUse (states last).heap main = subst (λ (s : State). IsInUse s.heap main) (sym (run_ends limits steps)) used in
      let so = subst (λ l. OnLine w last r.indirection l) on known in
      ap (λ (s : State). prev_at s.heap main) (sym (run_ends limits steps)) ∙ prev_grown states last main there.0 there.1 ∙ so.1

  -- the READ on whose line a node is decided
  pub deciding : (actor : ℕ) (operation : Operation) (i main previous : Ref) (told : Option ℕ) → operation_of (run limits steps) actor ≡ Some operation →
      action_of (run limits steps) operation ≡ act.Decide i main previous told → read_of operation.line ≡ Some (record { indirection = i; line = read.Decide main previous told })
  deciding actor operation i main previous told is a =
      let (r, reads, acts, known) = reading actor operation is (ap of_read a) in
      let (at, on) = decides_by r.indirection r.line i main previous told (sym acts ∙ a) in
      reads ∙ ap Some (same_read r i (read.Decide main previous told) at on)

  pub stood_deciding : (actor : ℕ) (operation : Operation) (i main previous : Ref) (told : Option ℕ) → operation_of (run limits steps) actor ≡ Some operation →
      action_of (run limits steps) operation ≡ act.Decide i main previous told → Stood w last i main
  stood_deciding actor operation i main previous told is a = on_line w last actor operation.line _ (deciding actor operation i main previous told is a) (staged actor operation is)
