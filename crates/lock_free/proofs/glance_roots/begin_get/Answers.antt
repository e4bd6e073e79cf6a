use Rattle.std.proofs.Common.{◌≡◌, ◌+◌, ◌^◌, false, refl, sym, ap, subst, ◌∙◌, arith, ne_eqb}
use mathlib.Core.Option.{none}
use Rattle.atomic_table.specs.Table.{step}
use Rattle.lock_free.specs.GlanceGets.{plain_access, HasBegunToGlance}
use Rattle.lock_free.specs.Glances.{is_last}
use Rattle.lock_free.specs.Places.{root_word}
use Rattle.lock_free.proofs.OneGlance.Starts.{begun_glancing, begun_starts, begun_told}
use Rattle.lock_free.proofs.glance_roots.begin_get.Goals as goal

pub start-found-requires-clause-glances : goal.start-found-requires-clause-glances
start-found-requires-clause-glances c =
    let count = c.begin-count.result in
    let more : is_last count ≡ false = ne_eqb (count + 1) (2 ^ 64) (λ e. c.if-count.false (omega (arith, e))) in
    begun_glancing c.args.words.now.table_id.words c.args.actor.now.me.0 c.requires.sound c.requires.rests c.args.handle c.args.key count c.begin-count.new.actor.me.0
    (c.begin-count.ensures.begun.0 more)

pub start-found-requires-clause-starts : goal.start-found-requires-clause-starts
start-found-requires-clause-starts c =
    let count = c.begin-count.result in
    let more : is_last count ≡ false = ne_eqb (count + 1) (2 ^ 64) (λ e. c.if-count.false (omega (arith, e))) in
    begun_starts c.args.words.now.table_id.words c.args.actor.now.me.0 c.requires.sound c.requires.rests c.args.handle c.args.key count c.begin-count.new.actor.me.0
    (c.begin-count.ensures.begun.0 more)

pub returns-clause-begun : goal.returns-clause-begun
returns-clause-begun c =
    let n = c.args.words.now.table_id.words in
    let v = c.args.actor.now.me.0 in
    let count = c.begin-count.result in
    let mid = c.begin-count.new.actor.me in
    let after = c.start-found.new.actor.me in
    let more : is_last count ≡ false = ne_eqb (count + 1) (2 ^ 64) (λ e. c.if-count.false (omega (arith, e))) in
    subst (λ a. HasBegunToGlance n v c.args.handle c.args.key (record { count = count; access = a }) after.0) (sym (c.access_of-access.ensures ∙ ap plain_access c.of_word.ensures))
    (begun_told n v c.requires.sound c.requires.rests c.args.handle c.args.key count mid.0 (c.begin-count.ensures.begun.0 more) mid.1 after.1
    (step c.args.words.now.table_id.slots (root_word c.args.handle) 0 0 none) refl c.start-found.result after.0 c.start-found.ensures.started)
