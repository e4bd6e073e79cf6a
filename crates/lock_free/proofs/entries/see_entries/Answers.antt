use Rattle.std.proofs.Common.{◌<◌, ◌+◌, ◌*◌, ◌++◌, ◌∷◌, [], refl, sym, ap, subst, ◌∙◌, arith, length, length-append}
use Rattle.arrayvec.specs.ArrayVec.{ArrayVec}
use Rattle.trie_words.specs.declared.entries.Entry.{Entry}
use Rattle.lock_free.proofs.AllEntries.{SeenSome, seen_none, position_there, low_seen, high_seen, all_seen}
use Rattle.lock_free.proofs.entries.see_entries.Goals.{then-n-count, else-n-count}
use Rattle.lock_free.proofs.entries.see_entries.Goals as goal

pub loop-n-init : goal.loop-n-init
loop-n-init c =
    let none = c.new-entries.ensures in
    let all = c.div_ceil-n-end.ensures in (
      refl,
      c.requires.sound,
      subst (SeenSome c.args.actor.now.me.0 c.args.main c.args.count c.args.actor.now.me.0) (sym none) (seen_none c.args.actor.now.me.0 c.args.main c.args.count),
      omega (arith, ap length none),
      omega (arith, all),
      omega (arith, all),
      omega arith,
    )

pub see_pair-pair-requires-clause-held : goal.see_pair-pair-requires-clause-held
see_pair-pair-requires-clause-held c =
    let (t, sound, s, size, most, least, low) = c.loop-n.invariant in
    let n = c.loop-n-test.true in
    position_there c.args.words.now.table_id.words c.args.actor.now.me.0 c.requires.sound c.args.main c.args.count c.loop-n.actor.me.0 sound c.loop-n.entries.items s (2 * c.loop-n.n)
    (omega (arith, n, least)) c.requires.held

pub loop-n-preserved : goal.loop-n-preserved
loop-n-preserved c =
    let (t, sound, s, size, most, least, low) = c.loop-n.invariant in
    let n = c.loop-n-test.true in
    let few : 2 * c.loop-n.n < c.args.count = omega (arith, n, least) in
    let v = c.args.actor.now.me.0 in
    let w = c.see_pair-pair.new.actor.me.0 in
    let pushed = c.push.ensures.items in (
      c.see_pair-pair.ensures.table ∙ t,
      c.see_pair-pair.ensures.sound,
      elim c.if-n-count.branch [
        | then-n-count b ↦
            subst (SeenSome v c.args.main c.args.count w)
            (sym (ap (λ (x : ArrayVec Entry). x.items) b.entries-is ∙ b.push-then-n-count.ensures.items ∙ ap (λ xs. xs ++ b.entry_in-then-n-count.result ∷ []) pushed))
            (high_seen c.args.words.now.table_id.words v c.requires.sound c.args.main c.args.count c.loop-n.actor.me.0 sound c.loop-n.entries.items s w c.see_pair-pair.ensures.sound c.loop-n.n
            c.see_pair-pair.result c.see_pair-pair.ensures.seen few size c.entry_in.result b.entry_in-then-n-count.result c.entry_in.ensures b.entry_in-then-n-count.ensures b.if-n-count.true)
        | else-n-count b ↦
            subst (SeenSome v c.args.main c.args.count w) (sym (ap (λ (x : ArrayVec Entry). x.items) b.entries-is ∙ pushed))
            (low_seen c.args.words.now.table_id.words v c.requires.sound c.args.main c.args.count c.loop-n.actor.me.0 sound c.loop-n.entries.items s w c.see_pair-pair.ensures.sound c.loop-n.n
            c.see_pair-pair.result c.see_pair-pair.ensures.seen few size c.entry_in.result c.entry_in.ensures)
      ],
      elim c.if-n-count.branch [
        | then-n-count b ↦
            (let more = b.if-n-count.true in
            let one = ap length pushed ∙ length-append c.loop-n.entries.items (c.entry_in.result ∷ []) in
            ap (λ (x : ArrayVec Entry). length x.items) b.entries-is ∙ ap length b.push-then-n-count.ensures.items
            ∙ length-append c.push.new.self.items (b.entry_in-then-n-count.result ∷ []) ∙ ap (λ k. k + 1) one ∙ omega (arith, more, size, few))
        | else-n-count b ↦
            (let last = b.if-n-count.false in
            ap (λ (x : ArrayVec Entry). length x.items) b.entries-is ∙ ap length pushed ∙ length-append c.loop-n.entries.items (c.entry_in.result ∷ []) ∙ omega (arith, last, size, few))
      ],
      most,
      least,
      omega (arith, n),
    )

pub returns-clause-seen : goal.returns-clause-seen
returns-clause-seen c =
    let (t, sound, s, size, most, least, low) = c.loop-n.invariant in
    let n = c.loop-n-test.false in
    all_seen c.args.words.now.table_id.words c.args.actor.now.me.0 c.requires.sound c.args.main c.args.count c.loop-n.actor.me.0 c.loop-n.entries.items s (omega (arith, size, most, n, low))
