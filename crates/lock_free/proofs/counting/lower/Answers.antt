use Rattle.std.proofs.Common.{◌≡◌, ◌∙◌, ◌==◌, true, false, sym, ap, subst, arith, eq-eqb, ne_eqb}
use Rattle.lock_free.specs.Counting.{HasLoweredBy}
use Rattle.lock_free.specs.Counts.{references_in, without_one}
use Rattle.lock_free.specs.Loading.{IsSound}
use Rattle.lock_free.specs.Places.{count_word}
use Rattle.lock_free.proofs.CountSteps.{count_in, count_is, held_sound}
use Rattle.lock_free.proofs.Lowered.{lower_by, retiring_sound}
use Rattle.lock_free.proofs.counting.lower.Goals as goal

pub fetch_add-requires : goal.fetch_add-requires
fetch_add-requires c =
    let me = c.args.actor.now.me in
    let (k, owes) = c.requires.owed in
    let is = count_is me.0 c.args.sizes.now c.requires.sizes c.args.class c.args.slot c.count_word.result c.requires.class c.requires.slot c.count_word.ensures in (
      c.requires.table,
      count_in c.args.words.now.table_id.words me.0 c.requires.sound c.count_word.result is,
      lower_by c.args.words.now.key c.args.words.now.table_id.slots c.args.actor.now.id me c.requires.sound.bounds.1 k c.args.class c.args.slot owes c.count_word.result
          (c.count_word.ensures ∙ ap (λ z. count_word z c.args.class c.args.slot) (sym c.requires.sizes)),
    )

-- it was the last one
pub returns-then-fetch_add-lt-ONE-clause-sound : goal.returns-then-fetch_add-lt-ONE-clause-sound
returns-then-fetch_add-lt-ONE-clause-sound c =
    let n = c.args.words.now.table_id.words in
    let v = c.args.actor.now.me.0 in
    let (k, owes) = c.requires.owed in
    let word = c.count_word.ensures ∙ ap (λ z. count_word z c.args.class c.args.slot) (sym c.requires.sizes) in
    let is = (c.fetch_add.ensures.2.0 k c.args.class c.args.slot owes word).0 (eq-eqb (references_in c.fetch_add.result) 1 (omega (arith, c.if-fetch_add-lt-ONE.true))) in
    subst (IsSound n) (sym is.is) (retiring_sound n v (without_one k v.owed) is.item c.requires.sound)

pub returns-then-fetch_add-lt-ONE-clause-lowered : goal.returns-then-fetch_add-lt-ONE-clause-lowered
returns-then-fetch_add-lt-ONE-clause-lowered c k owes =
    let word = c.count_word.ensures ∙ ap (λ z. count_word z c.args.class c.args.slot) (sym c.requires.sizes) in
    let last : (references_in c.fetch_add.result == 1) ≡ true = eq-eqb (references_in c.fetch_add.result) 1 (omega (arith, c.if-fetch_add-lt-ONE.true)) in
    subst (λ b. HasLoweredBy c.args.actor.now.me.0 k b c.fetch_add.new.seat.me.0) last (c.fetch_add.ensures.2.0 k c.args.class c.args.slot owes word)

-- there are others
pub returns-else-fetch_add-lt-ONE-clause-sound : goal.returns-else-fetch_add-lt-ONE-clause-sound
returns-else-fetch_add-lt-ONE-clause-sound c =
    let n = c.args.words.now.table_id.words in
    let v = c.args.actor.now.me.0 in
    let (k, owes) = c.requires.owed in
    let word = c.count_word.ensures ∙ ap (λ z. count_word z c.args.class c.args.slot) (sym c.requires.sizes) in
    let is = (c.fetch_add.ensures.2.0 k c.args.class c.args.slot owes word).1
    (ne_eqb (references_in c.fetch_add.result) 1 (λ e. omega (arith, e, c.if-fetch_add-lt-ONE.false, c.fetch_add.type_inv))) in
    subst (IsSound n) (sym is) (held_sound n v (without_one k v.owed) c.requires.sound)

pub returns-else-fetch_add-lt-ONE-clause-lowered : goal.returns-else-fetch_add-lt-ONE-clause-lowered
returns-else-fetch_add-lt-ONE-clause-lowered c k owes =
    let word = c.count_word.ensures ∙ ap (λ z. count_word z c.args.class c.args.slot) (sym c.requires.sizes) in
    let more : (references_in c.fetch_add.result == 1) ≡ false =
    ne_eqb (references_in c.fetch_add.result) 1 (λ e. omega (arith, e, c.if-fetch_add-lt-ONE.false, c.fetch_add.type_inv)) in
    subst (λ b. HasLoweredBy c.args.actor.now.me.0 k b c.fetch_add.new.seat.me.0) more (c.fetch_add.ensures.2.0 k c.args.class c.args.slot owes word)
