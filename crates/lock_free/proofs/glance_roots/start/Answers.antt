use Rattle.std.proofs.Common.{◌<◌, refl, sym, subst}
use Rattle.history.specs.declared.calls.Call.TheVariants.{Get}
use Rattle.trie_words.specs.Codes.{root_of}
use mathlib.Core.Option.{none}
use Rattle.atomic_table.specs.Table.{Allows, step}
use Rattle.lock_free.specs.Calling.{has_started}
use Rattle.lock_free.specs.Glancing.{has_glanced}
use Rattle.lock_free.specs.Places.{root_word}
use Rattle.lock_free.specs.Shadows.{inner, IsShadowed}
use Rattle.lock_free.proofs.BeginStep.{begin_step_ruled}
use Rattle.lock_free.proofs.OneGlance.Starts.{started_hidden}
use Rattle.lock_free.proofs.OneGlance.Steps.{glance_allowed}
use Rattle.lock_free.proofs.SeenRoots.{root_inside}
use Rattle.lock_free.proofs.glance_roots.start.Goals as goal

pub load-requires : goal.load-requires
load-requires c =
    let me = c.args.actor.now.me in
    let v = me.0 in
    let it = c.requires.glances in
    let sizes = c.args.words.now.key in
    let slots = c.args.words.now.table_id.slots in
    let id = c.args.actor.now.id in
    let handle = c.args.handle in
    let key = c.args.key in
    let w = inner v it.glance in (
      c.requires.table,
      subst (λ n. n < c.args.words.now.table_id.words) (sym c.root_word_of.ensures) (root_inside c.args.words.now.table_id.words w it.sound handle c.requires.low),
      subst (λ n. Allows (IsShadowed sizes) slots id me n (λ x. x) (has_glanced has_started (step slots n 0 0 none) me)) (sym c.root_word_of.ensures)
          (glance_allowed v it.glance it.is sizes id slots me.1 (root_word handle) has_started (step slots (root_word handle) 0 0 none)
          (λ known. begin_step_ruled sizes slots id (w, me.1) it.sound.bounds.1 (Get handle key) (c.requires.starts it.glance it.is known) c.requires.low c.key_fits.ensures)
          (λ known hidden found x d told. started_hidden w hidden handle key x (root_of found) (told.0 (Get handle key) (c.requires.starts it.glance it.is known).asks refl))),
    )

pub returns-clause-started : goal.returns-clause-started
returns-clause-started c =
    subst (λ n. has_glanced has_started (step c.args.words.now.table_id.slots n 0 0 none) c.args.actor.now.me c.load.result c.load.new.seat.me) c.root_word_of.ensures c.load.ensures.2
