use Rattle.std.proofs.Common.{◌+◌, ◌*◌, ◌/◌, ◌%◌, Bool, if◌then◌else◌, refl, sym, ap, ◌∙◌, eq-eqb, ne_eqb}
use Rattle.trie_words.specs.Codes.{entry_of, pair_of}
use Rattle.trie_words.specs.declared.entries.Pair.{Pair}
use Rattle.lock_free.specs.Entries.{HasSeenEntry}
use Rattle.lock_free.specs.Loading.{HasSeen}
use Rattle.lock_free.proofs.EntryLooks.{sees}
use Rattle.lock_free.proofs.OneGlance.Together.{on_as}
use Rattle.lock_free.proofs.Looking.{saw, seen_pair}
use Rattle.lock_free.proofs.glance_looks.see_entry.Goals as goal

pub returns-then-position-eq0-clause-seen : goal.returns-then-position-eq0-clause-seen
returns-then-position-eq0-clause-seen c =
    let n = c.args.words.now.table_id.words in
    let word = 2 * c.args.main + 1 + c.args.position / 2 in
    let found = c.see.result in
    let entry = c.of_half.result in
    on_as n c.args.actor.now.me.0 c.see.new.actor.me.0 c.requires.glances (λ x y. HasSeen x word found y) c.see.ensures.on (λ x. Unit {0})
    (λ x y. HasSeenEntry x c.args.main c.args.position entry y) (λ g is known. tt)
    (λ x y s p t seen.
    sees n x y s c.args.main c.args.position (pair_of found) (saw x c.args.main word found y seen, seen_pair x c.args.main word found y seen c.args.position refl) entry
    (c.of_half.ensures ∙ ap (λ (p : Pair). entry_of p.low) c.of_word-pair.ensures ∙ ap (λ (b : Bool). entry_of (if b then (pair_of found).low else (pair_of found).high)) (sym (eq-eqb
    (c.args.position % 2) 0 c.if-position-eq0.true))))

pub returns-else-position-eq0-clause-seen : goal.returns-else-position-eq0-clause-seen
returns-else-position-eq0-clause-seen c =
    let n = c.args.words.now.table_id.words in
    let word = 2 * c.args.main + 1 + c.args.position / 2 in
    let found = c.see.result in
    let entry = c.of_half-else-position-eq0.result in
    on_as n c.args.actor.now.me.0 c.see.new.actor.me.0 c.requires.glances (λ x y. HasSeen x word found y) c.see.ensures.on (λ x. Unit {0})
    (λ x y. HasSeenEntry x c.args.main c.args.position entry y) (λ g is known. tt)
    (λ x y s p t seen.
    sees n x y s c.args.main c.args.position (pair_of found) (saw x c.args.main word found y seen, seen_pair x c.args.main word found y seen c.args.position refl) entry
    (c.of_half-else-position-eq0.ensures ∙ ap (λ (p : Pair). entry_of p.high) c.of_word-pair.ensures ∙ ap (λ (b : Bool). entry_of (if b then (pair_of found).low else (pair_of found).high)) (sym
    (ne_eqb (c.args.position % 2) 0 c.if-position-eq0.false))))
