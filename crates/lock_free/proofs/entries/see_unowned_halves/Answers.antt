use Rattle.std.proofs.Common.{◌+◌, ◌*◌, ◌/◌, ◌++◌, ◌∷◌, [], refl, sym, ap, subst, ◌∙◌, arith, length, length-append}
use Rattle.std.proofs.lemmas.List.{length-map}
use Rattle.std.proofs.lemmas.List.Elements.{All-nil}
use Rattle.trie_words.specs.Codes.{entry_of}
use Rattle.lock_free.specs.Halves.{entries_of_halves, AreHalves, IsHalf}
use Rattle.lock_free.specs.SeenEntries.{HasSeenEntries}
use Rattle.lock_free.proofs.AllEntries.{SeenSome, seen_none, position_there, low_seen, high_seen, all_seen}
use Rattle.lock_free.proofs.EntryHalves.{entries_more, halves_more}
use Rattle.lock_free.proofs.entries.see_unowned_halves.Goals as goal

pub loop-n-init : goal.loop-n-init
loop-n-init c =
    let none = c.requires.none in (
      refl,
      c.requires.sound,
      subst (λ hs. SeenSome c.args.actor.now.me.0 c.args.main c.args.count c.args.actor.now.me.0 (entries_of_halves hs)) (sym none) (seen_none c.args.actor.now.me.0 c.args.main c.args.count),
      subst AreHalves (sym none) (All-nil IsHalf),
      omega (arith, ap length none),
      omega arith,
    )

pub see_pair-pair-requires-clause-held : goal.see_pair-pair-requires-clause-held
see_pair-pair-requires-clause-held c =
    let (t, sound, s, small, size, low) = c.loop-n.invariant in
    let n = c.loop-n-test.true in
    position_there c.args.words.now.table_id.words c.args.actor.now.me.0 c.requires.sound c.args.main c.args.count c.loop-n.actor.me.0 sound (entries_of_halves c.loop-n.halves.items) s
    (2 * c.loop-n.n) (omega (arith, n)) c.requires.held

pub loop-n-preserved : goal.loop-n-preserved
loop-n-preserved c =
    let (t, sound, s, small, size, low) = c.loop-n.invariant in
    let n = c.loop-n-test.true in
    let v = c.args.actor.now.me.0 in
    let hs = c.loop-n.halves.items in
    let h = c.unowned_half.result in
    let other = c.unowned_half-in-loop-n.result in
    let first = c.push.ensures.items in
    let both = c.push-in-loop-n.ensures.items ∙ ap (λ xs. xs ++ other ∷ []) first in
    let here = length-map hs entry_of ∙ size in (
      c.see_pair-pair.ensures.table ∙ t,
      c.see_pair-pair.ensures.sound,
      subst (SeenSome v c.args.main c.args.count c.see_pair-pair.new.actor.me.0)
          (sym (ap entries_of_halves both ∙ entries_more (hs ++ h ∷ []) other ∙ ap (λ xs. xs ++ entry_of other ∷ []) (entries_more hs h)))
          (high_seen c.args.words.now.table_id.words v c.requires.sound c.args.main c.args.count c.loop-n.actor.me.0 sound (entries_of_halves hs) s c.see_pair-pair.new.actor.me.0
          c.see_pair-pair.ensures.sound c.loop-n.n c.see_pair-pair.result c.see_pair-pair.ensures.seen (omega (arith, n)) (omega (arith, here, n)) (entry_of h) (entry_of other)
          c.unowned_half.ensures.same c.unowned_half-in-loop-n.ensures.same (omega (arith, n))),
      subst AreHalves (sym both) (halves_more (hs ++ h ∷ []) other (halves_more hs h small c.unowned_half.ensures.small) c.unowned_half-in-loop-n.ensures.small),
      ap length both ∙ length-append (hs ++ h ∷ []) (other ∷ []) ∙ ap (λ k. k + 1) (length-append hs (h ∷ [])) ∙ omega (arith, size),
      omega (arith, n),
    )

pub see_pair-pair-requires-then-count-eq1-clause-held : goal.see_pair-pair-requires-then-count-eq1-clause-held
see_pair-pair-requires-then-count-eq1-clause-held c =
    let (t, sound, s, small, size, low) = c.loop-n.invariant in
    let odd = c.if-count-eq1.true in
    position_there c.args.words.now.table_id.words c.args.actor.now.me.0 c.requires.sound c.args.main c.args.count c.loop-n.actor.me.0 sound (entries_of_halves c.loop-n.halves.items) s
    (2 * (c.args.count / 2)) (omega (arith, odd)) c.requires.held

pub returns-then-count-eq1-clause-halves : goal.returns-then-count-eq1-clause-halves
returns-then-count-eq1-clause-halves c =
    let (t, sound, s, small, size, low) = c.loop-n.invariant in
    subst AreHalves (sym c.push-then-count-eq1.ensures.items)
    (halves_more c.loop-n.halves.items c.unowned_half-then-count-eq1.result small c.unowned_half-then-count-eq1.ensures.small)

pub returns-then-count-eq1-clause-seen : goal.returns-then-count-eq1-clause-seen
returns-then-count-eq1-clause-seen c =
    let (t, sound, s, small, size, low) = c.loop-n.invariant in
    let n = c.loop-n-test.false in
    let odd = c.if-count-eq1.true in
    let hs = c.loop-n.halves.items in
    let h = c.unowned_half-then-count-eq1.result in
    let pushed = c.push-then-count-eq1.ensures.items in
    let here = length-map hs entry_of ∙ size in
    let more = length-map (hs ++ h ∷ []) entry_of ∙ length-append hs (h ∷ []) in
    let w = c.see_pair-pair-then-count-eq1.new.actor.me.0 in
    subst (λ xs. HasSeenEntries c.args.actor.now.me.0 c.args.main c.args.count (entries_of_halves xs) w) (sym pushed)
    (all_seen c.args.words.now.table_id.words c.args.actor.now.me.0 c.requires.sound c.args.main c.args.count w (entries_of_halves (hs ++ h ∷ []))
    (subst (SeenSome c.args.actor.now.me.0 c.args.main c.args.count w) (sym (entries_more hs h))
    (low_seen c.args.words.now.table_id.words c.args.actor.now.me.0 c.requires.sound c.args.main c.args.count c.loop-n.actor.me.0 sound (entries_of_halves hs) s w
    c.see_pair-pair-then-count-eq1.ensures.sound (c.args.count / 2) c.see_pair-pair-then-count-eq1.result c.see_pair-pair-then-count-eq1.ensures.seen (omega (arith, odd))
    (omega (arith, here, n, low)) (entry_of h) c.unowned_half-then-count-eq1.ensures.same))
    (omega (arith, more, size, n, low, odd)))

pub returns-else-count-eq1-clause-seen : goal.returns-else-count-eq1-clause-seen
returns-else-count-eq1-clause-seen c =
    let (t, sound, s, small, size, low) = c.loop-n.invariant in
    let n = c.loop-n-test.false in
    let even = c.if-count-eq1.false in
    let same = length-map c.loop-n.halves.items entry_of in
    all_seen c.args.words.now.table_id.words c.args.actor.now.me.0 c.requires.sound c.args.main c.args.count c.loop-n.actor.me.0 (entries_of_halves c.loop-n.halves.items) s
    (omega (arith, same, size, n, low, even))
