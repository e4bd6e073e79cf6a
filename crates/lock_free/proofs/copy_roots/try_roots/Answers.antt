use Rattle.std.proofs.Common.{◌*◌, ◌∙◌, subst, refl, sym, ap, arith}
use Rattle.std.proofs.lemmas.Bool.{false≢true}
use Rattle.lock_free.specs.declared.rules.View.{View}
use Rattle.lock_free.specs.Owing.{HoldsRaised}
use Rattle.lock_free.specs.Storing.{HasMadeRoot}
use Rattle.lock_free.proofs.RootMakes.{own_root_word, root_fits, root_ready, still_drafted}
use Rattle.lock_free.proofs.copy_roots.try_roots.Goals as goal

pub loop-init : goal.loop-init
loop-init c = (refl, c.requires.sound, refl, refl)

pub returns-then-generation-ge-GENERATIONS-clause-table : goal.returns-then-generation-ge-GENERATIONS-clause-table
returns-then-generation-ge-GENERATIONS-clause-table c = c.loop.invariant.0

pub returns-then-generation-ge-GENERATIONS-clause-sound : goal.returns-then-generation-ge-GENERATIONS-clause-sound
returns-then-generation-ge-GENERATIONS-clause-sound c = c.loop.invariant.1

pub returns-then-generation-ge-GENERATIONS-clause-tried : goal.returns-then-generation-ge-GENERATIONS-clause-tried
returns-then-generation-ge-GENERATIONS-clause-tried c = (c.loop.actor.me.0, c.loop.invariant.2, (0, ((λ e. absurd (false≢true e)), (λ e. refl))))

pub to_word-requires : goal.to_word-requires
to_word-requires c =
    root_fits c.args.words.now.table_id.words c.args.actor.now.me.0 c.requires.sound c.args.slot c.requires.last c.args.main c.requires.making c.peek-generation.result
    (let few = c.if-generation-ge-GENERATIONS.false in omega (arith, few))

pub draft-requires-clause-table : goal.draft-requires-clause-table
draft-requires-clause-table c = c.loop.invariant.0 ∙ c.requires.table

pub draft-requires-clause-sound : goal.draft-requires-clause-sound
draft-requires-clause-sound c = c.loop.invariant.1

pub draft-requires-clause-own : goal.draft-requires-clause-own
draft-requires-clause-own c =
    own_root_word c.args.words.now.table_id.words c.args.actor.now.me.0 c.requires.sound c.args.slot c.requires.last c.args.main c.requires.making c.loop.actor.me.0 c.loop.invariant.2

pub make_root-requires-clause-table : goal.make_root-requires-clause-table
make_root-requires-clause-table c = c.draft.ensures.table ∙ c.loop.invariant.0 ∙ c.requires.table

pub make_root-requires-clause-raised : goal.make_root-requires-clause-raised
make_root-requires-clause-raised c =
    subst HoldsRaised
    (sym (still_drafted c.args.words.now.table_id.words c.args.actor.now.me.0 c.requires.sound c.args.slot c.requires.last c.args.main c.requires.making c.loop.actor.me.0 c.loop.invariant.2
    (2 * c.args.slot) c.to_word.result c.draft.new.actor.me.0 (ap (λ me. me.0) c.draft.ensures.drafted))) c.requires.raised

pub make_root-requires-clause-making : goal.make_root-requires-clause-making
make_root-requires-clause-making c =
    root_ready c.args.words.now.table_id.words c.args.actor.now.me.0 c.requires.sound c.args.slot c.requires.last c.args.main c.requires.making c.loop.actor.me.0 c.loop.invariant.2
    c.peek-generation.result
    (let few = c.if-generation-ge-GENERATIONS.false in omega (arith, few)) c.to_word.result c.to_word.ensures c.draft.new.actor.me.0 (ap (λ me. me.0) c.draft.ensures.drafted)

pub returns-then-make_root-clause-table : goal.returns-then-make_root-clause-table
returns-then-make_root-clause-table c = c.make_root.ensures.table ∙ c.draft.ensures.table ∙ c.loop.invariant.0

pub returns-then-make_root-clause-tried : goal.returns-then-make_root-clause-tried
returns-then-make_root-clause-tried c = (
  c.draft.new.actor.me.0,
  still_drafted c.args.words.now.table_id.words c.args.actor.now.me.0 c.requires.sound c.args.slot c.requires.last c.args.main c.requires.making c.loop.actor.me.0 c.loop.invariant.2
      (2 * c.args.slot) c.to_word.result c.draft.new.actor.me.0 (ap (λ me. me.0) c.draft.ensures.drafted),
  (c.peek-generation.result, subst (λ b. HasMadeRoot c.draft.new.actor.me.0 c.peek-generation.result b c.make_root.new.actor.me.0) c.if-make_root.true c.make_root.ensures.made),
)

pub loop-preserved : goal.loop-preserved
loop-preserved c =
    let drafted = still_drafted c.args.words.now.table_id.words c.args.actor.now.me.0 c.requires.sound c.args.slot c.requires.last c.args.main c.requires.making c.loop.actor.me.0 c.loop.invariant.2
    (2 * c.args.slot) c.to_word.result c.draft.new.actor.me.0 (ap (λ me. me.0) c.draft.ensures.drafted) in
    let same = c.make_root.ensures.made.1 c.if-make_root.false in (
      c.make_root.ensures.table ∙ c.draft.ensures.table ∙ c.loop.invariant.0,
      c.make_root.ensures.sound,
      same ∙ drafted ∙ ap (λ (x : View). record c.args.actor.now.me.0 { drafts = x.drafts }) (sym same),
      c.loop.invariant.3,
    )

pub returns-clause-tried : goal.returns-clause-tried
returns-clause-tried c = (c.loop.actor.me.0, c.loop.invariant.2, (0, ((λ e. absurd (false≢true e)), (λ e. refl))))

pub returns-then-generation-ge-GENERATIONS-clause-stock : goal.returns-then-generation-ge-GENERATIONS-clause-stock
returns-then-generation-ge-GENERATIONS-clause-stock c = c.wear_out.ensures ∙ c.loop.invariant.3

pub returns-then-make_root-clause-stock : goal.returns-then-make_root-clause-stock
returns-then-make_root-clause-stock c = c.loop.invariant.3

pub returns-clause-stock : goal.returns-clause-stock
returns-clause-stock c = c.loop.invariant.3
