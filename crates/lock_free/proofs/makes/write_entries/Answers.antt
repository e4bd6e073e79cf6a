use Rattle.std.proofs.Common.{◌≡◌, ◌+◌, ◌*◌, ◌/◌, arith, sym, ap, subst, ◌∙◌, length}
use Rattle.std.proofs.lemmas.List.{length-map}
use Rattle.trie_words.specs.Codes.{entry_of}
use Rattle.lock_free.specs.Halves.{entries_of_halves}
use Rattle.lock_free.specs.SeenEntries.{half_at, HasWritten, IsOwnSlot}
use Rattle.lock_free.specs.Storing.{drafted, IsOwnWord}
use Rattle.lock_free.proofs.WrittenEntries.{all_written, entry_word_own, nothing_after, one_written}
use Rattle.lock_free.proofs.makes.write_entries.Goals as goal

pub draft-requires-clause-own : goal.draft-requires-clause-own
draft-requires-clause-own c =
    let (t, s, h, low) = c.loop-n.invariant in
    let n = c.loop-n-test.true in
    entry_word_own c.args.actor.now.me.0 c.args.slot (entries_of_halves c.args.halves.now) c.loop-n.n c.loop-n.actor.me.0 h (subst (λ k. IsOwnSlot c.args.actor.now.me.0 c.args.slot k) (sym
    (length-map c.args.halves.now entry_of)) c.requires.own)
    (let same = length-map c.args.halves.now entry_of in omega (arith, n, same))

pub loop-n-preserved : goal.loop-n-preserved
loop-n-preserved c =
    let (t, s, h, low) = c.loop-n.invariant in
    let n = c.loop-n-test.true in (
      c.draft.ensures.table ∙ t,
      c.draft.ensures.sound,
      one_written c.args.actor.now.me.0 c.args.slot (entries_of_halves c.args.halves.now) c.loop-n.n c.loop-n.actor.me.0 h c.draft.new.actor.me.0
          (record { low = c.half_at.result; high = c.half_at-in-loop-n.result })
          (ap (λ k. record { low = k; high = c.half_at-in-loop-n.result }) c.half_at.ensures
          ∙ ap (λ k. record { low = half_at (entries_of_halves c.args.halves.now) (2 * c.loop-n.n); high = k }) c.half_at-in-loop-n.ensures)
          (ap (λ (x : _ × _). x.0) c.draft.ensures.drafted ∙ ap (drafted c.loop-n.actor.me.0 (2 * c.args.slot + 1 + c.loop-n.n)) c.to_word.ensures),
      omega (arith, n),
    )

pub draft-requires-then-halves-eq1-clause-own : goal.draft-requires-then-halves-eq1-clause-own
draft-requires-then-halves-eq1-clause-own c =
    let (t, s, h, low) = c.loop-n.invariant in
    let n = c.loop-n-test.false in
    let odd = c.if-halves-eq1.true in
    subst (λ k. IsOwnWord c.loop-n.actor.me.0 (2 * c.args.slot + 1 + k)) (omega (arith, n, low))
    (entry_word_own c.args.actor.now.me.0 c.args.slot (entries_of_halves c.args.halves.now) c.loop-n.n c.loop-n.actor.me.0 h (subst (λ k. IsOwnSlot c.args.actor.now.me.0 c.args.slot k) (sym
    (length-map c.args.halves.now entry_of)) c.requires.own)
    (let same = length-map c.args.halves.now entry_of in omega (arith, n, low, odd, same)))

pub returns-then-halves-eq1-clause-written : goal.returns-then-halves-eq1-clause-written
returns-then-halves-eq1-clause-written c =
    let (t, s, h, low) = c.loop-n.invariant in
    let n = c.loop-n-test.false in
    let odd = c.if-halves-eq1.true in
    let last = length c.args.halves.now / 2 in
    let at : c.loop-n.n ≡ last = omega (arith, n, low) in
    let es = entries_of_halves c.args.halves.now in
    let same = length-map c.args.halves.now entry_of in
    all_written c.args.actor.now.me.0 c.args.slot es (last + 1) c.draft-then-halves-eq1.new.actor.me.0
    (one_written c.args.actor.now.me.0 c.args.slot es last c.loop-n.actor.me.0 (subst (λ k. HasWritten c.args.actor.now.me.0 c.args.slot es k c.loop-n.actor.me.0) at h)
    c.draft-then-halves-eq1.new.actor.me.0 (record { low = c.half_at-then-halves-eq1.result; high = 0 })
    (ap (λ k. record { low = k; high = 0 }) c.half_at-then-halves-eq1.ensures
    ∙ ap (λ k. record { low = half_at es (2 * last); high = k }) (sym (nothing_after es (2 * last + 1) (omega (arith, odd, same)))))
    (ap (λ (x : _ × _). x.0) c.draft-then-halves-eq1.ensures.drafted ∙ ap (drafted c.loop-n.actor.me.0 (2 * c.args.slot + 1 + last)) c.to_word-then-halves-eq1.ensures))
    (length c.args.halves.now) (omega (arith, odd, same))
