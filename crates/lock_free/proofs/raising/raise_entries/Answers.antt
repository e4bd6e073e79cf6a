use Rattle.std.proofs.Common.{◌≡◌, ◌≢◌, ◌∙◌, Some, take, ap, sym, subst, arith}
use Rattle.std.proofs.lemmas.Bool.{true≢false}
use Rattle.trie_words.specs.declared.entries.Entry.{Entry}
use Rattle.lock_free.specs.declared.rules.View.{View}
use Rattle.lock_free.specs.Counting.{HasAtHand}
use Rattle.lock_free.specs.Halves.{entries_of_halves}
use Rattle.lock_free.specs.Limbos.{IsLimbo}
use Rattle.lock_free.specs.Raising.{all_but, HasReleasedAll, MayRelease}
use Rattle.lock_free.specs.Stocks.{Stocked}
use Rattle.lock_free.proofs.EntryRaises.{all_raised, back_done, back_ready, it, raise_next, raise_passes, raise_ready, raised_hangs, raised_sizes}
use Rattle.lock_free.proofs.raising.raise_entries.Goals as goal

pub loop-n-preserved-then-is_left_out : goal.loop-n-preserved-then-is_left_out
loop-n-preserved-then-is_left_out c =
    let (t, sound, same, done, few) = c.loop-n.invariant in (
      t,
      sound,
      same,
      λ refs may. raise_passes c.args.actor.now.me.0 c.args.halves.now c.args.but refs may.lead c.loop-n.n c.loop-n-test.true (c.is_left_out.ensures.0 c.if-is_left_out.true) c.loop-n.actor.me.0
          (done refs may),
      omega (arith, c.loop-n-test.true),
    )

pub raise-requires-clause-at_hand : goal.raise-requires-clause-at_hand
raise-requires-clause-at_hand c =
    let (t, sound, same, done, few) = c.loop-n.invariant in
    let (refs, may) = c.requires.at_hand in
    let k = it c.args.actor.now.me.0 c.args.halves.now c.args.but refs may.lead c.loop-n.n c.loop-n-test.true in (
      k,
      subst (λ (e : Entry). HasAtHand c.loop-n.actor.me.0 k 0 e.slot) (sym c.of_half-slot.ensures)
          (raise_ready c.args.actor.now.me.0 c.args.halves.now c.args.but refs may.lead c.loop-n.n c.loop-n-test.true (λ e. true≢false (sym (c.is_left_out.ensures.1 e) ∙ c.if-is_left_out.false))
          c.loop-n.actor.me.0 (done refs may) may.held),
    )

-- it couldn't: the seat is where it was before this one
pub release_entries-requires-clause-sizes : goal.release_entries-requires-clause-sizes
release_entries-requires-clause-sizes c =
    let (t, sound, same, done, few) = c.loop-n.invariant in
    let v = c.args.actor.now.me.0 in
    let w = c.loop-n.actor.me.0 in
    let (refs, may) = c.requires.at_hand in
    let n = c.loop-n.n in
    let low = c.loop-n-test.true in
    let k = it v c.args.halves.now c.args.but refs may.lead n low in
    let hand = raise_ready v c.args.halves.now c.args.but refs may.lead n low (λ e. true≢false (sym (c.is_left_out.ensures.1 e) ∙ c.if-is_left_out.false)) w (done refs may) may.held in
    let still : c.raise.new.actor.me.0 ≡ w = c.if-not-raise.ensures.raised k (subst (λ (e : Entry). HasAtHand w k 0 e.slot) (sym c.of_half-slot.ensures) hand) in
    ap (λ (s : Stocked). s.sizes) same ∙ c.requires.sizes ∙ sym (ap (λ (u : View). u.sizes) still ∙ raised_sizes v (all_but c.args.but (take n refs)) w (done refs may))

pub release_entries-requires-clause-limbo : goal.release_entries-requires-clause-limbo
release_entries-requires-clause-limbo c =
    let (t, sound, same, done, few) = c.loop-n.invariant in
    let v = c.args.actor.now.me.0 in
    let w = c.loop-n.actor.me.0 in
    let (refs, may) = c.requires.at_hand in
    let n = c.loop-n.n in
    let low = c.loop-n-test.true in
    let k = it v c.args.halves.now c.args.but refs may.lead n low in
    let hand = raise_ready v c.args.halves.now c.args.but refs may.lead n low (λ e. true≢false (sym (c.is_left_out.ensures.1 e) ∙ c.if-is_left_out.false)) w (done refs may) may.held in
    let still : c.raise.new.actor.me.0 ≡ w = c.if-not-raise.ensures.raised k (subst (λ (e : Entry). HasAtHand w k 0 e.slot) (sym c.of_half-slot.ensures) hand) in
    subst (IsLimbo c.loop-n.stock.limbo) (sym still)
    (subst (λ (s : Stocked). IsLimbo s.limbo w) (sym same) (raised_hangs c.args.stock.now.limbo v (all_but c.args.but (take n refs)) w c.requires.limbo (done refs may)))

pub release_entries-requires-clause-owed : goal.release_entries-requires-clause-owed
release_entries-requires-clause-owed c =
    let (t, sound, same, done, few) = c.loop-n.invariant in
    let v = c.args.actor.now.me.0 in
    let w = c.loop-n.actor.me.0 in
    let (refs, may) = c.requires.at_hand in
    let n = c.loop-n.n in
    let low = c.loop-n-test.true in
    let k = it v c.args.halves.now c.args.but refs may.lead n low in
    let hand = raise_ready v c.args.halves.now c.args.but refs may.lead n low (λ e. true≢false (sym (c.is_left_out.ensures.1 e) ∙ c.if-is_left_out.false)) w (done refs may) may.held in
    let still : c.raise.new.actor.me.0 ≡ w = c.if-not-raise.ensures.raised k (subst (λ (e : Entry). HasAtHand w k 0 e.slot) (sym c.of_half-slot.ensures) hand) in (
      take n refs,
      subst (λ u. MayRelease u (entries_of_halves (take n c.args.halves.now)) c.args.but (take n refs)) (sym still) (back_ready v c.args.halves.now c.args.but refs may.lead n w (done refs may)),
    )

pub returns-then-not-raise-clause-raised : goal.returns-then-not-raise-clause-raised
returns-then-not-raise-clause-raised c refs may =
    let (t, sound, same, done, few) = c.loop-n.invariant in
    let v = c.args.actor.now.me.0 in
    let w = c.loop-n.actor.me.0 in
    let n = c.loop-n.n in
    let low = c.loop-n-test.true in
    let k = it v c.args.halves.now c.args.but refs may.lead n low in
    let hand = raise_ready v c.args.halves.now c.args.but refs may.lead n low (λ e. true≢false (sym (c.is_left_out.ensures.1 e) ∙ c.if-is_left_out.false)) w (done refs may) may.held in
    let still : c.raise.new.actor.me.0 ≡ w = c.if-not-raise.ensures.raised k (subst (λ (e : Entry). HasAtHand w k 0 e.slot) (sym c.of_half-slot.ensures) hand) in
    back_done v c.args.halves.now c.args.but refs may.lead n w (done refs may) c.release_entries.new.actor.me.0
    (subst (λ u. HasReleasedAll u (all_but c.args.but (take n refs)) c.release_entries.new.actor.me.0) still
    (c.release_entries.ensures.released (take n refs)
    (subst (λ u. MayRelease u (entries_of_halves (take n c.args.halves.now)) c.args.but (take n refs)) (sym still) (back_ready v c.args.halves.now c.args.but refs may.lead n w (done refs may)))))

pub loop-n-preserved : goal.loop-n-preserved
loop-n-preserved c =
    let (t, sound, same, done, few) = c.loop-n.invariant in
    let v = c.args.actor.now.me.0 in
    let w = c.loop-n.actor.me.0 in
    let n = c.loop-n.n in
    let low = c.loop-n-test.true in (
      c.raise.ensures.table ∙ t,
      c.raise.ensures.sound,
      same,
      λ refs may.
          (let other : c.args.but ≢ Some n = λ e. true≢false (sym (c.is_left_out.ensures.1 e) ∙ c.if-is_left_out.false) in
          let k = it v c.args.halves.now c.args.but refs may.lead n low in
          let hand = raise_ready v c.args.halves.now c.args.but refs may.lead n low other w (done refs may) may.held in
          raise_next v c.args.halves.now c.args.but refs may.lead n low other w (done refs may) c.raise.new.actor.me.0
          (c.if-not-raise.ensures.raised k (subst (λ (e : Entry). HasAtHand w k 0 e.slot) (sym c.of_half-slot.ensures) hand))),
      omega (arith, low),
    )

pub returns-clause-limbo : goal.returns-clause-limbo
returns-clause-limbo c =
    let (t, sound, same, done, few) = c.loop-n.invariant in
    let v = c.args.actor.now.me.0 in
    let (refs, may) = c.requires.at_hand in
    subst (λ (s : Stocked). IsLimbo s.limbo c.loop-n.actor.me.0) (sym same)
    (raised_hangs c.args.stock.now.limbo v (all_but c.args.but (take c.loop-n.n refs)) c.loop-n.actor.me.0 c.requires.limbo (done refs may))

pub returns-clause-raised : goal.returns-clause-raised
returns-clause-raised c refs may =
    let (t, sound, same, done, few) = c.loop-n.invariant in
    all_raised c.args.actor.now.me.0 c.args.halves.now c.args.but refs may.lead c.loop-n.n (omega (arith, c.loop-n-test.false)) c.loop-n.actor.me.0 (done refs may)
