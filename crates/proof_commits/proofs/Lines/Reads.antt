-- On which lines an operation reads, and on which it ends.
use Rattle.std.proofs.Common.{◌≡◌, ℕ, Some, refl, ◌∙◌, ap, subst, arith}
use Rattle.proof_commits.specs.Vocabulary.{Reply, Ref, Operation, ReadLine, Swap, SwapLine, Descriptor, CompleteLine, KeyLine, BuildLine, RenewLine, CleanLine, Climb, ClimbLine, CopyLine, WalkLine}
use Rattle.proof_commits.specs.Vocabulary.{Purpose, Line, State, read_action, line_action, read_of, read_at_after, counts_from}
use Rattle.proof_commits.specs.Beneath.machine_model.specs.declared.actions.Action.TheVariants as act
use Rattle.proof_commits.specs.Beneath.machine_model.specs.declared.reading.ReadLine.TheVariants as read
use Rattle.proof_commits.specs.Beneath.machine_model.specs.declared.reading.SwapLine.TheVariants as swap
use Rattle.proof_commits.specs.Beneath.machine_model.specs.declared.roots.CompleteLine.TheVariants as complete
use Rattle.proof_commits.specs.Beneath.machine_model.specs.declared.roots.RootLine.TheVariants as root
use Rattle.proof_commits.specs.Beneath.machine_model.specs.declared.finding.KeyLine.TheVariants as key
use Rattle.proof_commits.specs.Beneath.machine_model.specs.declared.building.BuildLine.TheVariants as build
use Rattle.proof_commits.specs.Beneath.machine_model.specs.declared.repairs.RenewLine.TheVariants as renew
use Rattle.proof_commits.specs.Beneath.machine_model.specs.declared.repairs.CleanLine.TheVariants as clean
use Rattle.proof_commits.specs.Beneath.machine_model.specs.declared.repairs.ClimbLine.TheVariants as climb
use Rattle.proof_commits.specs.Beneath.machine_model.specs.declared.copying.CopyLine.TheVariants as copy
use Rattle.proof_commits.specs.Beneath.machine_model.specs.declared.walking.WalkLine.TheVariants as walk
use Rattle.proof_commits.specs.Beneath.machine_model.specs.declared.lines.Line.TheVariants as line
use Rattle.proof_commits.specs.Protocol.{Stage, Rests, Reads, counts_at}
use Rattle.proof_commits.proofs.Lines.Stages.{ReadRemembers, Remembers}
use Rattle.proof_commits.specs.Stages.{stage_of}

-- ---- lines on which an operation reads

-- what is so of a line on a stage with a READ: its action is that READ's, and the READ is the operation's
abbrev pub ReadsSo : State → Operation → (Ref → Ref → Type 0) → Type 0 → Line → Stage → Type 0
ReadsSo state operation G W l (Reads i x) =
    (line_action state operation l ≡ read_action i x) × (read_of l ≡ Some (record { indirection = i; line = x })) × (Remembers G W l → ReadRemembers W x)
ReadsSo state operation G W l s = Unit {0}

module _ (state : State) (operation : Operation) (G : Ref → Ref → Type 0) (W : Type 0) where
  abbrev So : Line → Type 0
  So l = ReadsSo state operation G W l (stage_of l)

  root_reads : (offer : Descriptor) (x : CompleteLine) → So (line.Root (root.Completing (record { offer = offer; line = x })))
  root_reads offer (complete.Reading x) = (refl, refl, λ r. r)
  root_reads offer (complete.Swap main) = tt

  climb_root_reads : (c : Climb) (offer : Descriptor) (x : CompleteLine) → So (line.Climb (climb.Root c (root.Completing (record { offer = offer; line = x }))))
  climb_root_reads c offer (complete.Reading x) = (refl, refl, λ r. r)
  climb_root_reads c offer (complete.Swap main) = tt

  copy_complete_reads : (offer : Descriptor) (x : CompleteLine) → So (line.Copy (copy.Complete (record { offer = offer; line = x })))
  copy_complete_reads offer (complete.Reading x) = (refl, refl, λ r. r)
  copy_complete_reads offer (complete.Swap main) = tt

  key_reads : (l : KeyLine) → So (line.Key l)
  key_reads (key.Read path r) = (refl, refl, λ x. x.0)
  key_reads l = tt

  build_reads : (l : BuildLine) → So (line.Build l)
  build_reads (build.Single path main site former) = tt
  build_reads l = tt

  swap_reads : (why : Purpose) (i a f : Ref) (x : SwapLine) → let s : Swap = record { indirection = i; replaced = a; fresh = f; line = x } in So (line.Swap why s)
  swap_reads why i a f swap.Publish = tt
  swap_reads why i a f x = tt

  renew_reads : (l : RenewLine) → So (line.Renew l)
  renew_reads (renew.Read path main done r) = (refl, refl, λ x. x.0)
  renew_reads l = tt

  clean_reads : (l : CleanLine) → So (line.Clean l)
  clean_reads (clean.Read path r) = (refl, refl, λ x. x.0)
  clean_reads (clean.Child path main done r) = (refl, refl, λ x. x.0)
  clean_reads l = tt

  climb_reads : (l : ClimbLine) → So (line.Climb l)
  climb_reads (climb.Read c r) = (refl, refl, λ x. x.0)
  climb_reads (climb.Root c (root.Completing x)) = climb_root_reads c x.offer x.line
  climb_reads l = tt

  copy_reads : (l : CopyLine) → So (line.Copy l)
  copy_reads (copy.Read at r) = (refl, refl, λ x. x.0)
  copy_reads (copy.Complete x) = copy_complete_reads x.offer x.line
  copy_reads l = tt

  walk_reads : (l : WalkLine) → So (line.Walk l)
  walk_reads (walk.Read r todo pairs) = (refl, refl, λ x. x)
  walk_reads l = tt

  pub line_reads : (l : Line) → So l
  line_reads (line.Root root.Read) = tt
  line_reads (line.Root (root.Completing x)) = root_reads x.offer x.line
  line_reads (line.Key l) = key_reads l
  line_reads (line.Build l) = build_reads l
  line_reads (line.Swap why s) = swap_reads why s.indirection s.replaced s.fresh s.line
  line_reads (line.Renew l) = renew_reads l
  line_reads (line.Clean l) = clean_reads l
  line_reads (line.Climb l) = climb_reads l
  line_reads (line.Copy l) = copy_reads l
  line_reads (line.Walk l) = walk_reads l
  line_reads (line.End answer) = tt
  line_reads line.Impossible = tt

  pub on_stage : (l : Line) (i : Ref) (x : ReadLine) → stage_of l ≡ Reads i x → ReadsSo state operation G W l (Reads i x)
  on_stage l i x e = subst (λ s. ReadsSo state operation G W l s) e (line_reads l)

-- ---- whence a READ counts

pub read_counts : (i : Ref) (l : ReadLine) (t before : ℕ) → read_at_after t (counts_from (read_action i l)) before ≡ counts_at l t before
read_counts i read.Main t before = refl
read_counts i (read.Prev m) t before = refl
read_counts i (read.AskRoot m p) t before = refl
read_counts i (read.Abort m p offer) t before = refl
read_counts i (read.Decide m p told) t before = refl
read_counts i (read.Restore m p) t before = refl

abbrev pub CountsTo : Stage → ℕ → ℕ → ℕ → Type 0
CountsTo (Reads i l) t before after = after ≡ counts_at l t before
CountsTo s t before after = Unit {0}

counts_by : (state : State) (operation : Operation) (l : Line) (t before : ℕ) (s : Stage) → ReadsSo state operation (λ i m. ⊥) ⊥ l s →
    CountsTo s t before (read_at_after t (counts_from (line_action state operation l)) before)
counts_by state operation l t before (Reads i x) r = ap (λ a. read_at_after t (counts_from a) before) r.0 ∙ read_counts i x t before
counts_by state operation l t before Rests r = tt
counts_by state operation l t before s r = tt

pub line_counts : (state : State) (operation : Operation) (l : Line) (t before : ℕ) → CountsTo (stage_of l) t before (read_at_after t (counts_from (line_action state operation l)) before)
line_counts state operation l t before = counts_by state operation l t before (stage_of l) (line_reads state operation (λ i m. ⊥) ⊥ l)

-- ---- which line ends

module _ (state : State) (operation : Operation) where
  pub only_end : (l : Line) (answer : Reply) → line_action state operation l ≡ act.End answer → l ≡ line.End answer
  only_end l answer e = grind arith

  pub ends_at_end : (l : Line) (answer : Reply) → line_action state operation l ≡ act.End answer → stage_of l ≡ Rests
  ends_at_end l answer e = ap stage_of (only_end l answer e)
