-- From which steps a READ counts.
use Rattle.std.specs.Prelude.{◌≡◌, false, Some, None, refl}
use Rattle.std.proofs.Common.{sym}
use Rattle.std.proofs.lemmas.Option.{none-some}
use Rattle.running.specs.Vocabulary.{Kind, Ref, BuildLine, Line, Operation, ReadLine, SwapLine, CompleteLine, Descriptor, completing_read, kind_of, line_action, read_of, swapping_read, read_action}
use Rattle.running.specs.Vocabulary.{State, action_at, complete_action_at, counts_from}
use Rattle.ctrie_base.specs.declared.kinds.Kind.TheVariants as kind
use Rattle.running.specs.Beneath.machine_model.specs.declared.building.BuildLine.TheVariants as build
use Rattle.running.specs.Beneath.machine_model.specs.declared.copying.CopyLine.TheVariants as copy
use Rattle.running.specs.Beneath.machine_model.specs.declared.finding.KeyLine.TheVariants as key
use Rattle.running.specs.Beneath.machine_model.specs.declared.lines.Line.TheVariants as line
use Rattle.running.specs.Beneath.machine_model.specs.declared.reading.ReadLine.TheVariants as read
use Rattle.running.specs.Beneath.machine_model.specs.declared.reading.SwapLine.TheVariants as swap
use Rattle.running.specs.Beneath.machine_model.specs.declared.repairs.CleanLine.TheVariants as clean
use Rattle.running.specs.Beneath.machine_model.specs.declared.repairs.ClimbLine.TheVariants as climb
use Rattle.running.specs.Beneath.machine_model.specs.declared.repairs.RenewLine.TheVariants as renew
use Rattle.running.specs.Beneath.machine_model.specs.declared.roots.CompleteLine.TheVariants as complete
use Rattle.running.specs.Beneath.machine_model.specs.declared.roots.RootLine.TheVariants as root
use Rattle.running.specs.Beneath.machine_model.specs.declared.walking.WalkLine.TheVariants as walk
use Rattle.running.specs.Taking.{counts_if, given_if}

-- ---- in a READ

pub in_read : (indirection : Ref) (l : ReadLine) → counts_from (read_action indirection l) ≡ counts_if (kind_of (read_action indirection l))
in_read indirection read.Main = refl
in_read indirection (read.Prev main) = refl
in_read indirection (read.AskRoot main previous) = refl
in_read indirection (read.Abort main previous offer) = refl
in_read indirection (read.Decide main previous told) = refl
in_read indirection (read.Restore main previous) = refl

-- ---- outside of it

completing_counts : (offer : Descriptor) (l : CompleteLine) → completing_read offer l ≡ None → counts_from (complete_action_at offer l) ≡ false
completing_counts offer (complete.Reading l) none = absurd (none-some _ (sym none))
completing_counts offer (complete.Swap main) none = refl

swapping_counts : (indirection replaced fresh : Ref) (l : SwapLine) → swapping_read indirection l ≡ None → counts_from (action_at indirection replaced fresh l) ≡ false
swapping_counts indirection replaced fresh swap.Publish none = refl
swapping_counts indirection replaced fresh (swap.Deciding l) none = absurd (none-some _ (sym none))
swapping_counts indirection replaced fresh swap.Check none = refl

building_counts : (state : State) (operation : Operation) (l : BuildLine) → counts_from (line_action state operation (line.Build l)) ≡ false
building_counts state operation (build.Single path main site former) = refl
building_counts state operation (build.Pair path main position single depth) = refl
building_counts state operation (build.Link path main position below depth) = refl
building_counts state operation (build.Rung path main position below depth) = refl
building_counts state operation (build.Main path main c former) = refl

-- no other program counts
pub outside : (state : State) (operation : Operation) (l : Line) → read_of l ≡ None → counts_from (line_action state operation l) ≡ false
outside state operation (line.Root root.Read) none = refl
outside state operation (line.Root (root.Completing c)) none = completing_counts c.offer c.line none
outside state operation (line.Key (key.Read path r)) none = absurd (none-some r (sym none))
outside state operation (line.Key (key.Main path main)) none = refl
outside state operation (line.Key (key.Entry path main position)) none = refl
outside state operation (line.Key (key.Listed path main position)) none = refl
outside state operation (line.Key (key.Sibling path main position former)) none = refl
outside state operation (line.Build l) none = building_counts state operation l
outside state operation (line.Swap why s) none = swapping_counts s.indirection s.replaced s.fresh s.line none
outside state operation (line.Renew (renew.Entry path main done)) none = refl
outside state operation (line.Renew (renew.Read path main done r)) none = absurd (none-some r (sym none))
outside state operation (line.Renew (renew.Link path main done child)) none = refl
outside state operation (line.Renew (renew.Branch path main done)) none = refl
outside state operation (line.Clean (clean.Read path r)) none = absurd (none-some r (sym none))
outside state operation (line.Clean (clean.Main path main)) none = refl
outside state operation (line.Clean (clean.Entry path main done)) none = refl
outside state operation (line.Clean (clean.Child path main done r)) none = absurd (none-some r (sym none))
outside state operation (line.Clean (clean.Tomb path main done child)) none = refl
outside state operation (line.Clean (clean.Contracted path main done)) none = refl
outside state operation (line.Climb (climb.Read c r)) none = absurd (none-some r (sym none))
outside state operation (line.Climb (climb.Main c main)) none = refl
outside state operation (line.Climb (climb.Contracted c main)) none = refl
outside state operation (line.Climb (climb.Root c root.Read)) none = refl
outside state operation (line.Climb (climb.Root c (root.Completing x))) none = completing_counts x.offer x.line none
outside state operation (line.Copy (copy.Read r q)) none = absurd (none-some q (sym none))
outside state operation (line.Copy (copy.Successor r main)) none = refl
outside state operation (line.Copy (copy.Second r main successor)) none = refl
outside state operation (line.Copy (copy.Empty r main)) none = refl
outside state operation (line.Copy (copy.Cleared r main branch)) none = refl
outside state operation (line.Copy (copy.Offer offer)) none = refl
outside state operation (line.Copy (copy.Complete c)) none = completing_counts c.offer c.line none
outside state operation (line.Walk walk.Root) none = refl
outside state operation (line.Walk (walk.Read q todo pairs)) none = absurd (none-some q (sym none))
outside state operation (line.Walk (walk.Main main todo pairs)) none = refl
outside state operation (line.Walk (walk.Entry todo pairs)) none = refl
outside state operation (line.End answer) none = refl
outside state operation line.Impossible none = refl

-- a kind by which no READ gives anything doesn't count
pub gives_nothing : (k : Kind) (main : Ref) → given_if k (Some main) ≡ None → counts_if k ≡ false
gives_nothing kind.ReadMain main none = absurd (none-some main (sym none))
gives_nothing kind.SwapMain main none = absurd (none-some main (sym none))
gives_nothing k main none = refl
