use Rattle.std.proofs.Common.{◌<◌, refl, sym, subst, ap, ◌∙◌}
use mathlib.Core.Option.{none}
use Rattle.atomic_table.specs.Table.{Allows, step}
use Rattle.trie_words.specs.Codes.{root_of}
use Rattle.machine_model.specs.Lines.{new_try}
use Rattle.lock_free.specs.GlanceGets.{GlancesOn}
use Rattle.lock_free.specs.Glancing.{has_glanced}
use Rattle.lock_free.specs.Holding.{IsOn}
use Rattle.lock_free.specs.Places.{root_word}
use Rattle.lock_free.specs.RootWords.{AsksAt, HasAskedRoot, LoadedAs, has_asked, named_by}
use Rattle.lock_free.specs.Shadows.{inner, IsShadowed}
use Rattle.lock_free.proofs.OneGlance.Asks.{asked_hides, asked_on}
use Rattle.lock_free.proofs.OneGlance.Together.{glance_sound, on_as}
use Rattle.lock_free.proofs.OneGlance.Loads.{glanced_on}
use Rattle.lock_free.proofs.OneGlance.Steps.{glance_allowed}
use Rattle.lock_free.proofs.RootAsked.{ask_ruled, ask_told}
use Rattle.lock_free.proofs.SeenRoots.{root_inside}
use Rattle.lock_free.proofs.glance_roots.ask_word.Goals as goal

pub load-found-requires : goal.load-found-requires
load-found-requires c =
    let me = c.args.actor.now.me in
    let v = me.0 in
    let n = c.args.words.now.table_id.words in
    let at = c.requires.glances in
    let it = at.3 in
    let sizes = c.args.words.now.key in
    let slots = c.args.words.now.table_id.slots in
    let id = c.args.actor.now.id in
    let handle = c.args.handle in
    let w = inner v it.glance in (
      c.requires.table,
      subst (λ k. k < n) (sym c.root_word_of.ensures) (root_inside n w it.its.sound handle c.requires.low),
      subst (λ k. Allows (IsShadowed sizes) slots id me k (λ x. x) (has_glanced has_asked (step slots k 0 0 none) me)) (sym c.root_word_of.ensures)
          (glance_allowed v it.glance it.is sizes id slots me.1 (root_word handle) has_asked (step slots (root_word handle) 0 0 none)
          (λ known. ask_ruled sizes slots id (w, me.1) it.its.sound.bounds.1 handle (c.requires.asking it.glance it.is known).0)
          (λ known hidden found x d told. (
          let asking = c.requires.asking it.glance it.is known in
          asked_hides n w it.its.sound refl handle (root_word handle) found x asking.0 asking.1 hidden at.0 at.1 at.2 it.its (named_by (root_of found)) told.0 told.1))),
    )

pub returns-clause-asked : goal.returns-clause-asked
returns-clause-asked c =
    let n = c.args.words.now.table_id.words in
    let u = c.args.actor.now.me.0 in
    let b = c.args.actor.now.me.1 in
    let v = c.load-found.new.seat.me.0 in
    let handle = c.args.handle in
    let found = c.load-found.result in
    let st = step c.args.words.now.table_id.slots (root_word handle) 0 0 none in
    let told = subst (λ k. has_glanced has_asked (step c.args.words.now.table_id.slots k 0 0 none) (u, b) found (v, c.load-found.new.seat.me.1)) c.root_word_of.ensures c.load-found.ensures.2 in
    let name = named_by (root_of found) in
    let on = glanced_on n (λ x y. LoadedAs name x (root_word handle) found y) u v b c.load-found.new.seat.me.1 (λ x y. has_asked st x found y) told
    (λ g is known w so. (
    let asking = c.requires.asking g is known in
    asked_on n (inner u g) (glance_sound n u c.requires.glances g is) refl handle (root_word handle) found w.0 asking.0 asking.1 name so.0 so.1)) in
    subst (λ k. GlancesOn n (λ x y. HasAskedRoot x handle k y) u v) (sym (c.named_of.ensures ∙ ap named_by c.of_word.ensures))
    (on_as n u v c.requires.glances (λ x y. LoadedAs name x (root_word handle) found y) on (λ x. AsksAt x handle × IsOn x new_try) (λ x y. HasAskedRoot x handle name y) c.requires.asking
    (λ x y s p t h. ask_told x handle c.requires.low p.0 found y h))
