use Rattle.std.proofs.Common.{◌∷◌, [], refl, sym, ap, subst, ◌∙◌, arith, length, length-append}
use Rattle.std.proofs.lemmas.List.{length-map}
use Rattle.trie_words.specs.Codes.{entry_of}
use Rattle.lock_free.specs.LeftNodes.{HasSeenHalf, LeavesPosition}
use Rattle.lock_free.specs.Halves.{entries_of_halves}
use Rattle.lock_free.specs.Loading.{IsSound}
use Rattle.lock_free.proofs.EntryHalves.{entries_more}
use Rattle.lock_free.proofs.LeftEntries.{SeenSome, next_left, seen_all, seen_more, seen_none}
use Rattle.lock_free.proofs.freeing.see_left_halves.Goals as goal

pub loop-position-init : goal.loop-position-init
loop-position-init c =
    let none = c.requires.none in (
      refl,
      refl,
      subst (λ hs. SeenSome c.args.actor.now.me.0 c.args.slot c.args.count (entries_of_halves hs)) (sym none) (seen_none c.args.actor.now.me.0 c.args.slot c.args.count),
      omega (arith, ap length none),
      omega arith,
    )

pub see_left_half-requires-clause-sound : goal.see_left_half-requires-clause-sound
see_left_half-requires-clause-sound c = subst (λ (me : _). IsSound c.args.words.now.table_id.words me.0) (sym c.loop-position.invariant.1) c.requires.sound

pub see_left_half-requires-clause-left : goal.see_left_half-requires-clause-left
see_left_half-requires-clause-left c =
    subst (λ (me : _). LeavesPosition me.0 c.args.slot c.loop-position.position) (sym c.loop-position.invariant.1)
    (next_left c.args.actor.now.me.0 c.args.slot c.args.count c.loop-position.position c.requires.left c.loop-position-test.true)

pub loop-position-preserved : goal.loop-position-preserved
loop-position-preserved c =
    let (t, same, s, size, low) = c.loop-position.invariant in
    let n = c.loop-position-test.true in
    let v = c.args.actor.now.me.0 in
    let hs = c.loop-position.halves.items in
    let h = c.see_left_half.result in
    let pushed = c.push.ensures.items in
    let here = length-map hs entry_of ∙ size in (
      c.see_left_half.ensures.table ∙ t,
      c.see_left_half.ensures.same ∙ same,
      subst (SeenSome v c.args.slot c.args.count) (sym (ap entries_of_halves pushed ∙ entries_more hs h))
          (seen_more v c.args.slot c.args.count (entries_of_halves hs) (entry_of h) s (omega (arith, here, n))
          (subst (λ k. HasSeenHalf v c.args.slot k h) (sym here) (subst (λ (me : _). HasSeenHalf me.0 c.args.slot c.loop-position.position h) same c.see_left_half.ensures.seen))),
      ap length pushed ∙ length-append hs (h ∷ []) ∙ omega (arith, size),
      omega (arith, n),
    )

pub returns-clause-seen : goal.returns-clause-seen
returns-clause-seen c =
    let (t, same, s, size, low) = c.loop-position.invariant in
    let n = c.loop-position-test.false in
    let hs = c.loop-position.halves.items in
    seen_all c.args.actor.now.me.0 c.args.slot c.args.count (entries_of_halves hs) s (omega (arith, length-map hs entry_of, size, n, low))
