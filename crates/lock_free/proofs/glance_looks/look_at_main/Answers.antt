use Rattle.std.proofs.Common.{◌*◌, refl, sym, subst}
use Rattle.trie_words.specs.Codes.{header_of}
use Rattle.machine_model.specs.declared.actions.Action.TheVariants as act
use Rattle.lock_free.specs.GlanceGets.{GlancesOn, LooksAt}
use Rattle.lock_free.specs.Loading.{HasGone, HasLookedAtMain}
use Rattle.lock_free.proofs.OneGlance.Together.{on_as}
use Rattle.lock_free.proofs.OneGlance.Turns.{looking}
use Rattle.lock_free.proofs.Looking.{went, looked_main}
use Rattle.lock_free.proofs.glance_looks.look_at_main.Goals as goal

pub go-requires-clause-looks : goal.go-requires-clause-looks
go-requires-clause-looks c g is known = looking _ act.Look c.args.main (λ r. tt) (c.requires.looking g is known)

pub returns-clause-read : goal.returns-clause-read
returns-clause-read c =
    let n = c.args.words.now.table_id.words in
    let u = c.args.actor.now.me.0 in
    let v = c.go.new.actor.me.0 in
    let word = 2 * c.args.main in
    let found = c.go.result in
    subst (λ k. GlancesOn n (λ x y. HasLookedAtMain x k y) u v) (sym c.of_word.ensures)
    (on_as n u v c.requires.glances (λ x y. HasGone x word found y) c.go.ensures.on (λ x. LooksAt x act.Look c.args.main) (λ x y. HasLookedAtMain x (header_of c.go.result) y) c.requires.looking
    (λ x y s p t gone. (went x c.args.main word found y gone, looked_main x c.args.main word found y gone p.0 refl)))
