use Rattle.std.proofs.Common.{◌≡◌, ◌%◌, ◌+◌, ◌-◌, ◌^◌, ℕ, Contains, sym, ap, subst, ◌∙◌}
use Rattle.lock_free.specs.Linking.{linking}
use Rattle.lock_free.specs.Links.{link_in}
use Rattle.lock_free.specs.Loading.{IsSound}
use Rattle.lock_free.proofs.CountSteps.{count_in, count_is}
use Rattle.lock_free.proofs.LinkSteps.{link_allowed, linking_sound, new_link}
use Rattle.lock_free.proofs.links.link.Goals as goal

abbrev by_change : ℕ → ℕ → ℕ
by_change new known = (new + (2 ^ 64 - known)) % 2 ^ 64

same_change : (a b new known : ℕ) → a ≡ new → b ≡ known → by_change a b ≡ by_change new known
same_change a b new known is was = ap (λ n. by_change n b) is ∙ ap (by_change new) was

pub fetch_add-requires : goal.fetch_add-requires
fetch_add-requires c =
    let me = c.args.actor.now.me in
    let is = count_is me.0 c.args.sizes.now c.requires.sizes c.args.class c.args.slot c.count_word.result c.requires.class c.requires.slot c.count_word.ensures in (
      c.requires.table,
      count_in c.args.words.now.table_id.words me.0 c.requires.sound c.count_word.result is,
      link_allowed c.args.words.now.key c.args.words.now.table_id.slots c.args.actor.now.id me c.requires.sound.bounds.1 c.count_word.result is c.args.known
          (subst (λ n. Contains me.0.links (n, c.args.known)) (sym c.count_word.ensures) c.requires.known) c.args.new (by_change c.from.result c.from-2.result) c.ranges.known.fits c.requires.new
          (same_change c.from.result c.from-2.result c.args.new c.args.known c.from.ensures c.from-2.ensures),
    )

pub returns-clause-sound : goal.returns-clause-sound
returns-clause-sound c =
    let n = c.args.words.now.table_id.words in
    subst (λ (me : _). IsSound n me.0) (sym c.fetch_add.ensures.2.1) (linking_sound n c.args.actor.now.me.0 c.count_word.result _ c.requires.sound)

pub returns-clause-linked : goal.returns-clause-linked
returns-clause-linked c =
    let v = c.args.actor.now.me.0 in
    let old = c.fetch_add.ensures.2.0 c.args.known (subst (λ n. Contains v.links (n, c.args.known)) (sym c.count_word.ensures) c.requires.known) in
    let is : link_in ((c.fetch_add.result + by_change c.from.result c.from-2.result) % 2 ^ 64) ≡ c.args.new =
    new_link c.fetch_add.result c.args.known c.args.new (by_change c.from.result c.from-2.result) c.ranges.known.fits c.ranges.new.fits old
    (same_change c.from.result c.from-2.result c.args.new c.args.known c.from.ensures c.from-2.ensures) in
    ap (λ (me : _). me.0) c.fetch_add.ensures.2.1 ∙ ap (linking v c.count_word.result) is ∙ ap (λ n. linking v n c.args.new) c.count_word.ensures
