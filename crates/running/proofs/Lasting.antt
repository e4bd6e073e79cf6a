-- Lines of the programs: what is told comes to them by their READ alone, and they swap no main node of their own.
use Rattle.std.specs.Prelude.{◌≡◌, ℕ, List, Option, Some, None, refl}
use Rattle.running.specs.Vocabulary.{Ref, Descriptor, with_read, line_of, IsAskingLine, CompleteAt, CopyOp as ACopyOp, CopyAt, WalkAt, copy_line, copy_line_at, walk_line, walk_line_at}
use Rattle.running.specs.Beneath.gcas.specs.declared.read.Read.{Read}
use Rattle.running.specs.Beneath.rdcss_root.specs.declared.complete.CompleteAt.TheVariants as complete
use Rattle.running.specs.Beneath.rdcss_root.specs.declared.root.ReadRoot.TheVariants as rooting
use Rattle.snapshot.specs.declared.copy_op.Making.TheVariants as making
use Rattle.snapshot.specs.declared.copy_op.CopyAt.TheVariants as at
use Rattle.snapshot.specs.declared.walk.Walk.{Walk as AWalk}
use Rattle.snapshot.specs.declared.walk.WalkAt.TheVariants as walk
use Rattle.operate.proofs.Wherever.{tells as key_tells}
use Rattle.operate.proofs.Going.{told_on}
use Rattle.snapshot.proofs.Told.{tells_copy, tells_walk}
use Rattle.running.specs.declared.job.Program.{Program}
use Rattle.running.specs.declared.job.Program.TheVariants.{Key, Copy, Walk, Close}
use Rattle.running.specs.declared.programs.Programs.{Programs}
use Rattle.running.specs.Places.{program_line}
use Rattle.running.proofs.Giving.{SwapsNone}

pub tells : (p : Programs) (told : Option ℕ) (program : Program) → program_line p told program ≡ with_read (line_of p.key.work.swap.read told) (program_line p None program)
tells p told (Key call) = key_tells p.key told
tells p told (Copy call) = tells_copy p.key.work.swap.read told p.copy
tells p told (Walk call) = tells_walk p.key.work.swap.read told p.walk
tells p told Close = refl

copies_at : (r : Ref) (q : Read) (told : Option ℕ) (place : CopyAt) → SwapsNone (copy_line_at r q told place)
copies_at r q told (at.Root l) = tt
copies_at r q told at.Read = tt
copies_at r q told (at.Make (making.Successor main)) = tt
copies_at r q told (at.Make (making.Second main successor)) = tt
copies_at r q told (at.Make (making.Empty main)) = tt
copies_at r q told (at.Make (making.Cleared main branch)) = tt
copies_at r q told (at.Offer offer) = tt
copies_at r q told (at.Complete c) = tt

pub copy_swaps_none : (q : Read) (told : Option ℕ) (s : ACopyOp) → SwapsNone (copy_line q told s)
copy_swaps_none q told s = copies_at s.root q told s.at

walks_at : (q : Read) (told : Option ℕ) (todo : List Ref) (pairs : List (ℕ × ℕ)) (place : WalkAt) → SwapsNone (walk_line_at q told todo pairs place)
walks_at q told todo pairs walk.Root = tt
walks_at q told todo pairs walk.Read = tt
walks_at q told todo pairs (walk.Main main) = tt
walks_at q told todo pairs walk.Entry = tt

pub walk_swaps_none : (q : Read) (told : Option ℕ) (w : AWalk) → SwapsNone (walk_line q told w)
walk_swaps_none q told w = walks_at q told w.todo.items w.pairs.items w.at

-- ---- a program that was told the generation doesn't ask for it

copy_told : (r : Ref) (q : Read) (generation : ℕ) (place : CopyAt) → IsAskingLine (copy_line_at r q (Some generation) place) → ⊥
copy_told r q generation (at.Root rooting.Read) asks = asks
copy_told r q generation (at.Root (rooting.Completing c)) asks = rooted c.offer c.at asks
  where
    rooted : (offer : Descriptor) (place : CompleteAt) → IsAskingLine (copy_line_at r q (Some generation) (at.Root (rooting.Completing (record { offer = offer; at = place })))) → ⊥
    rooted offer complete.Reading h = told_on q.access generation q.at h
    rooted offer (complete.Swap main) h = h
copy_told r q generation at.Read asks = told_on q.access generation q.at asks
copy_told r q generation (at.Make (making.Successor main)) asks = asks
copy_told r q generation (at.Make (making.Second main successor)) asks = asks
copy_told r q generation (at.Make (making.Empty main)) asks = asks
copy_told r q generation (at.Make (making.Cleared main branch)) asks = asks
copy_told r q generation (at.Offer offer) asks = asks
copy_told r q generation (at.Complete c) asks = completed c.offer c.at asks
  where
    completed : (offer : Descriptor) (place : CompleteAt) → IsAskingLine (copy_line_at r q (Some generation) (at.Complete (record { offer = offer; at = place }))) → ⊥
    completed offer complete.Reading h = told_on q.access generation q.at h
    completed offer (complete.Swap main) h = h

walk_told : (q : Read) (generation : ℕ) (todo : List Ref) (pairs : List (ℕ × ℕ)) (place : WalkAt) → IsAskingLine (walk_line_at q (Some generation) todo pairs place) → ⊥
walk_told q generation todo pairs walk.Root asks = asks
walk_told q generation todo pairs walk.Read asks = told_on q.access generation q.at asks
walk_told q generation todo pairs (walk.Main main) asks = asks
walk_told q generation todo pairs walk.Entry asks = asks

pub copy_untold : (q : Read) (told : Option ℕ) (s : ACopyOp) → IsAskingLine (copy_line q told s) → told ≡ None
copy_untold q None s asks = refl
copy_untold q (Some generation) s asks = absurd (copy_told s.root q generation s.at asks)

pub walk_untold : (q : Read) (told : Option ℕ) (w : AWalk) → IsAskingLine (walk_line q told w) → told ≡ None
walk_untold q None w asks = refl
walk_untold q (Some generation) w asks = absurd (walk_told q generation w.todo.items w.pairs.items w.at asks)
