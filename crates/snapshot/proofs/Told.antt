-- What is told comes to a program by its READ, case by case.
use Rattle.std.specs.Prelude.{◌≡◌, ℕ, List, Option, None, refl}
use Rattle.snapshot.specs.Vocabulary.{Ref, Descriptor, with_read}
use Rattle.snapshot.specs.Beneath.gcas.specs.declared.read.Read.{Read}
use Rattle.snapshot.specs.Beneath.gcas.specs.Reads.{line_of}
use Rattle.snapshot.specs.Beneath.rdcss_root.specs.declared.complete.CompleteAt.{CompleteAt}
use Rattle.snapshot.specs.Beneath.rdcss_root.specs.declared.complete.CompleteAt.TheVariants as complete
use Rattle.snapshot.specs.Beneath.rdcss_root.specs.declared.root.ReadRoot.TheVariants as rooting
use Rattle.snapshot.specs.declared.copy_op.Making.TheVariants as making
use Rattle.snapshot.specs.declared.copy_op.CopyAt.{CopyAt}
use Rattle.snapshot.specs.declared.copy_op.CopyAt.TheVariants as at
use Rattle.snapshot.specs.declared.walk.WalkAt.{WalkAt}
use Rattle.snapshot.specs.declared.walk.WalkAt.TheVariants as walk
use Rattle.snapshot.specs.Copies.{copy_line_at}
use Rattle.snapshot.specs.Telling.{TellsCopy, TellsWalk}
use Rattle.snapshot.specs.Walks.{walk_line_at}

rooted : (root : Ref) (r : Read) (told : Option ℕ) (offer : Descriptor) (c : CompleteAt) →
    copy_line_at root r told (at.Root (rooting.Completing (record { offer = offer; at = c })))
    ≡ with_read (line_of r told) (copy_line_at root r None (at.Root (rooting.Completing (record { offer = offer; at = c }))))
rooted root r told offer complete.Reading = refl
rooted root r told offer (complete.Swap main) = refl

completed : (root : Ref) (r : Read) (told : Option ℕ) (offer : Descriptor) (c : CompleteAt) →
    copy_line_at root r told (at.Complete (record { offer = offer; at = c })) ≡ with_read (line_of r told) (copy_line_at root r None (at.Complete (record { offer = offer; at = c })))
completed root r told offer complete.Reading = refl
completed root r told offer (complete.Swap main) = refl

copies : (root : Ref) (r : Read) (told : Option ℕ) (place : CopyAt) → copy_line_at root r told place ≡ with_read (line_of r told) (copy_line_at root r None place)
copies root r told (at.Root rooting.Read) = refl
copies root r told (at.Root (rooting.Completing c)) = rooted root r told c.offer c.at
copies root r told at.Read = refl
copies root r told (at.Make (making.Successor main)) = refl
copies root r told (at.Make (making.Second main successor)) = refl
copies root r told (at.Make (making.Empty main)) = refl
copies root r told (at.Make (making.Cleared main branch)) = refl
copies root r told (at.Offer offer) = refl
copies root r told (at.Complete c) = completed root r told c.offer c.at

walks : (r : Read) (told : Option ℕ) (todo : List Ref) (pairs : List (ℕ × ℕ)) (place : WalkAt) →
    walk_line_at r told todo pairs place ≡ with_read (line_of r told) (walk_line_at r None todo pairs place)
walks r told todo pairs walk.Root = refl
walks r told todo pairs walk.Read = refl
walks r told todo pairs (walk.Main main) = refl
walks r told todo pairs walk.Entry = refl

pub tells_copy : TellsCopy
tells_copy r told s = copies s.root r told s.at

pub tells_walk : TellsWalk
tells_walk r told w = walks r told w.todo.items w.pairs.items w.at
