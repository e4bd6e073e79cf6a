-- What a call on one key is told, asks and does, wherever it stands.
use Rattle.std.specs.Prelude.{◌≡◌, ℕ, Option, Some, None, refl}
use Rattle.operate.specs.Vocabulary.{Operation, Climb, Descriptor, line_action, above, State, root_action, line_of, CompleteAt, rooted_at, Table, IsAskingLine, with_read, climb_of, reply_of}
use Rattle.operate.specs.Beneath.machine_model.specs.declared.repairs.ClimbLine.TheVariants as climbing
use Rattle.operate.specs.Beneath.machine_model.specs.declared.lines.Line.TheVariants as line
use Rattle.operate.specs.Beneath.gcas.specs.declared.read.Read.{Read}
use Rattle.operate.specs.Beneath.rdcss_root.specs.declared.complete.CompleteAt.TheVariants as complete
use Rattle.operate.specs.Beneath.rdcss_root.specs.declared.root.ReadRoot.{ReadRoot}
use Rattle.operate.specs.Beneath.rdcss_root.specs.declared.root.ReadRoot.TheVariants as rooting
use Rattle.operate.specs.Beneath.rdcss_root.specs.Programs.{root_of}
use Rattle.operate.specs.declared.key_op.BelowAt.{BelowAt}
use Rattle.operate.specs.declared.key_op.BelowAt.TheVariants as at
use Rattle.operate.specs.declared.key_op.KeyAt.{KeyAt}
use Rattle.operate.specs.declared.key_op.KeyAt.TheVariants as key
use Rattle.operate.specs.declared.key_op.KeyOp.{KeyOp}
use Rattle.operate.specs.Places.{below_line, key_line_at}
use Rattle.operate.specs.Reach.{ActsOfKey, IsOfKey}
use Rattle.operate.specs.Steps.{table_at}
use Rattle.operate.specs.Telling.{AsksUntold, TellsKey}
use Rattle.operate.proofs.Going.{IsCalm, looks, ends, reads_root, reads, told_on, changes, renews, cleans, climbs}

-- ---- below the root

tells_below : (op : KeyOp) (told : Option ℕ) (place : BelowAt) → below_line op told place ≡ with_read (line_of op.work.swap.read told) (below_line op None place)
tells_below op told at.Read = refl
tells_below op told (at.Main main) = refl
tells_below op told (at.Entry main position) = refl
tells_below op told (at.Listed main position) = refl
tells_below op told at.Change = (changes op.path op.work.swap op.change.main op.change.at).tells told
tells_below op told at.Renew = (renews op.path op.work.swap op.renew.main op.renew.done.items op.renew.at).tells told
tells_below op told at.Clean = (cleans (above op.path) op.work.swap op.clean.main op.clean.done.items op.clean.at).tells told
tells_below op told at.Climb = (climbs op.work.swap (climb_of op.path op.climb) op.climb.at).tells told
tells_below op told at.End = refl
tells_below op told at.Impossible = refl

untold_below : (op : KeyOp) (generation : ℕ) (place : BelowAt) → IsAskingLine (below_line op (Some generation) place) → ⊥
untold_below op generation at.Read asks = told_on op.work.swap.read.access generation op.work.swap.read.at asks
untold_below op generation (at.Main main) asks = asks
untold_below op generation (at.Entry main position) asks = asks
untold_below op generation (at.Listed main position) asks = asks
untold_below op generation at.Change asks = (changes op.path op.work.swap op.change.main op.change.at).untold generation asks
untold_below op generation at.Renew asks = (renews op.path op.work.swap op.renew.main op.renew.done.items op.renew.at).untold generation asks
untold_below op generation at.Clean asks = (cleans (above op.path) op.work.swap op.clean.main op.clean.done.items op.clean.at).untold generation asks
untold_below op generation at.Climb asks = (climbs op.work.swap (climb_of op.path op.climb) op.climb.at).untold generation asks
untold_below op generation at.End asks = asks
untold_below op generation at.Impossible asks = asks

pub calm_below : (state : State) (operation : Operation) (op : KeyOp) (told : Option ℕ) (place : BelowAt) → IsCalm (line_action state operation (below_line op told place))
calm_below state operation op told at.Read = reads op.work.swap.read.indirection op.work.swap.read.access told op.work.swap.read.at
calm_below state operation op told (at.Main main) = looks _
calm_below state operation op told (at.Entry main position) = looks _
calm_below state operation op told (at.Listed main position) = looks _
calm_below state operation op told at.Change = (changes op.path op.work.swap op.change.main op.change.at).calm state operation told
calm_below state operation op told at.Renew = (renews op.path op.work.swap op.renew.main op.renew.done.items op.renew.at).calm state operation told
calm_below state operation op told at.Clean = (cleans (above op.path) op.work.swap op.clean.main op.clean.done.items op.clean.at).calm state operation told
calm_below state operation op told at.Climb = (climbs op.work.swap (climb_of op.path op.climb) op.climb.at).calm state operation told
calm_below state operation op told at.End = ends (reply_of op.reply)
calm_below state operation op told at.Impossible = reads_root

-- ---- ROOT

completing : (r : Read) (told : Option ℕ) (offer : Descriptor) (place : CompleteAt) →
    line.Root (root_of (rooting.Completing (record { offer = offer; at = place })) r told)
    ≡ with_read (line_of r told) (line.Root (root_of (rooting.Completing (record { offer = offer; at = place })) r None))
completing r told offer complete.Reading = refl
completing r told offer (complete.Swap main) = refl

tells_root : (r : Read) (told : Option ℕ) (root : ReadRoot) → line.Root (root_of root r told) ≡ with_read (line_of r told) (line.Root (root_of root r None))
tells_root r told rooting.Read = refl
tells_root r told (rooting.Completing c) = completing r told c.offer c.at

completing_again : (climb : Climb) (r : Read) (told : Option ℕ) (offer : Descriptor) (place : CompleteAt) →
    line.Climb (climbing.Root climb (root_of (rooting.Completing (record { offer = offer; at = place })) r told))
    ≡ with_read (line_of r told) (line.Climb (climbing.Root climb (root_of (rooting.Completing (record { offer = offer; at = place })) r None)))
completing_again climb r told offer complete.Reading = refl
completing_again climb r told offer (complete.Swap main) = refl

tells_again : (climb : Climb) (r : Read) (told : Option ℕ) (root : ReadRoot) →
    line.Climb (climbing.Root climb (root_of root r told)) ≡ with_read (line_of r told) (line.Climb (climbing.Root climb (root_of root r None)))
tells_again climb r told rooting.Read = refl
tells_again climb r told (rooting.Completing c) = completing_again climb r told c.offer c.at

untold_completing : (r : Read) (generation : ℕ) (offer : Descriptor) (place : CompleteAt) →
    IsAskingLine (line.Root (root_of (rooting.Completing (record { offer = offer; at = place })) r (Some generation))) → ⊥
untold_completing r generation offer complete.Reading asks = told_on r.access generation r.at asks
untold_completing r generation offer (complete.Swap main) asks = asks

untold_root : (r : Read) (generation : ℕ) (root : ReadRoot) → IsAskingLine (line.Root (root_of root r (Some generation))) → ⊥
untold_root r generation rooting.Read asks = asks
untold_root r generation (rooting.Completing c) asks = untold_completing r generation c.offer c.at asks

-- where it changes a root word, it completes an offer
completes : (roots : Table) (handle : ℕ) (r : Read) (told : Option ℕ) (offer : Descriptor) (place : CompleteAt) →
    IsOfKey roots handle (rooted_at roots handle (rooting.Completing (record { offer = offer; at = place }))) (root_action (root_of (rooting.Completing (record { offer = offer; at = place })) r told))
completes roots handle r told offer complete.Reading =
    let calm = reads offer.root r.access told r.at in
    record { words = λ actor. calm.words roots handle actor; tries = calm.tries; beside = calm.beside }
completes roots handle r told offer (complete.Swap main) = record { words = λ actor. refl; tries = λ attempt. refl; beside = tt }

acts_root : (roots : Table) (handle : ℕ) (r : Read) (told : Option ℕ) (root : ReadRoot) → IsOfKey roots handle (rooted_at roots handle root) (root_action (root_of root r told))
acts_root roots handle r told rooting.Read = record { words = λ actor. refl; tries = λ attempt. refl; beside = tt }
acts_root roots handle r told (rooting.Completing c) = completes roots handle r told c.offer c.at

-- ---- wherever it stands

tells_at : (op : KeyOp) (told : Option ℕ) (place : KeyAt) → key_line_at op told place ≡ with_read (line_of op.work.swap.read told) (key_line_at op None place)
tells_at op told key.Root = tells_root op.work.swap.read told op.root
tells_at op told key.RootAgain = tells_again (climb_of op.path op.climb) op.work.swap.read told op.root
tells_at op told (key.Down place) = tells_below op told place

pub tells : TellsKey
tells op told = tells_at op told op.at

untold_at : (op : KeyOp) (generation : ℕ) (place : KeyAt) → IsAskingLine (key_line_at op (Some generation) place) → ⊥
untold_at op generation key.Root asks = untold_root op.work.swap.read generation op.root asks
untold_at op generation key.RootAgain asks = untold_root op.work.swap.read generation op.root asks
untold_at op generation (key.Down place) asks = untold_below op generation place asks

pub untold : AsksUntold
untold op None asks = refl
untold op (Some generation) asks = absurd (untold_at op generation op.at asks)

acts_at : (state : State) (operation : Operation) (roots : Table) (handle : ℕ) (op : KeyOp) (told : Option ℕ) (place : KeyAt) →
    IsOfKey roots handle (table_at roots handle op.root place) (line_action state operation (key_line_at op told place))
acts_at state operation roots handle op told key.Root = acts_root roots handle op.work.swap.read told op.root
acts_at state operation roots handle op told key.RootAgain =
    let acts = acts_root roots handle op.work.swap.read told op.root in
    record { words = acts.words; tries = acts.tries; beside = acts.beside }
acts_at state operation roots handle op told (key.Down place) =
    let calm = calm_below state operation op told place in
    record { words = λ actor. calm.words roots handle actor; tries = calm.tries; beside = calm.beside }

pub acts : ActsOfKey
acts state operation roots handle op told = acts_at state operation roots handle op told op.at
