use Rattle.std.proofs.Common.{◌*◌, ◌<◌, ◌^◌, sym, subst, ap, arith}
use Rattle.trie_words.specs.Codes.{link_of}
use Rattle.trie_words.specs.declared.links.Link.{Link}
use Rattle.lock_free.specs.GlanceGets.{GlancesOn}
use Rattle.lock_free.specs.Loading.{HasSeen}
use Rattle.lock_free.specs.RootWords.{HasSeenGeneration}
use Rattle.lock_free.proofs.FormerRoots.{generation_told}
use Rattle.lock_free.proofs.OneGlance.Together.{on_as}
use Rattle.lock_free.proofs.glance_roots.see_generation.Goals as goal

pub returns-clause-seen : goal.returns-clause-seen
returns-clause-seen c =
    let n = c.args.words.now.table_id.words in
    let u = c.args.actor.now.me.0 in
    let v = c.see.new.actor.me.0 in
    let found = c.see.result in
    subst (λ k. GlancesOn n (λ x y. HasSeenGeneration x c.args.root k y) u v) (sym (ap (λ (l : Link). l.generation) c.of_word.ensures))
    (on_as n u v c.requires.glances (λ x y. HasSeen x (2 * c.args.root) found y) c.see.ensures.on (λ x. Unit {0})
    (λ x y. HasSeenGeneration x c.args.root (link_of found).generation y) (λ g is known. tt) (λ x y s p t seen. generation_told x c.args.root found y seen))

pub returns-clause-small : goal.returns-clause-small
returns-clause-small c =
    let fits = c.see.type_inv in subst (λ k. k < 2 ^ 36) (sym (ap (λ (l : Link). l.generation) c.of_word.ensures)) (omega (arith, fits))
