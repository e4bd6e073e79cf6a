use Rattle.std.proofs.Common.{◌≡◌, ◌+◌, ◌∙◌, take, ap, sym, subst, arith}
use Rattle.std.proofs.lemmas.Bool.{true≢false}
use Rattle.lock_free.specs.Limbos.{IsLimbo}
use Rattle.lock_free.specs.Loading.{IsSound}
use Rattle.lock_free.specs.Raising.{all_but, HasReleasedAll}
use Rattle.lock_free.specs.Stocks.{Stocked}
use Rattle.lock_free.proofs.EntryRaises.{all_released, it, release_next, release_passes, release_ready}
use Rattle.lock_free.proofs.raising.release_entries.Goals.{then-not-is_left_out, else-not-is_left_out}
use Rattle.lock_free.proofs.raising.release_entries.Goals as goal

pub release_entry-requires-clause-owed : goal.release_entry-requires-clause-owed
release_entry-requires-clause-owed c =
    let (t, sound, same, hangs, done, few) = c.loop-n.invariant in
    let (refs, may) = c.requires.owed in (
      it c.args.actor.now.me.0 c.args.halves.now c.args.but refs may.lead c.loop-n.n c.loop-n-test.true,
      release_ready c.args.actor.now.me.0 c.args.halves.now c.args.but refs may.lead c.loop-n.n c.loop-n-test.true (λ e. true≢false (sym (c.is_left_out.ensures.1 e) ∙ c.if-not-is_left_out.true))
          c.loop-n.actor.me.0 may.owed (done refs may),
    )

pub loop-n-preserved : goal.loop-n-preserved
loop-n-preserved c =
    let (t, sound, same, hangs, done, few) = c.loop-n.invariant in
    let v = c.args.actor.now.me.0 in
    let n = c.loop-n.n in
    let low = c.loop-n-test.true in
    elim c.if-not-is_left_out.branch [
      | then-not-is_left_out b ↦
          (let after = b.release_entry.ensures in (
            ap (λ (a : _). a.table_id) b.actor-is ∙ after.table ∙ t,
            subst (λ (a : _). IsSound c.args.words.now.table_id.words a.me.0) (sym b.actor-is) after.sound,
            subst (λ (s : Stocked). s ≡ record c.args.stock.now { limbo = s.limbo }) (sym b.stock-is)
                (after.same ∙ ap (λ (s : Stocked). record s { limbo = b.release_entry.new.stock.limbo }) same),
            subst (λ (a : _). IsLimbo c.if-not-is_left_out.stock.limbo a.me.0) (sym b.actor-is)
                (subst (λ (s : Stocked). IsLimbo s.limbo b.release_entry.new.actor.me.0) (sym b.stock-is) after.limbo),
            λ refs may.
                subst (λ (a : _). HasReleasedAll v (all_but c.args.but (take (n + 1) refs)) a.me.0) (sym b.actor-is)
                (release_next v c.args.halves.now c.args.but refs may.lead n low (λ e. true≢false (sym (c.is_left_out.ensures.1 e) ∙ b.if-not-is_left_out.true)) c.loop-n.actor.me.0 may.owed
                (done refs may)
                b.release_entry.new.actor.me.0
                (after.released (it v c.args.halves.now c.args.but refs may.lead n low)
                (release_ready v c.args.halves.now c.args.but refs may.lead n low (λ e. true≢false (sym (c.is_left_out.ensures.1 e) ∙ b.if-not-is_left_out.true)) c.loop-n.actor.me.0 may.owed
                (done refs may)))),
            omega (arith, low),
          ))
      | else-not-is_left_out b ↦ (
        ap (λ (a : _). a.table_id) b.actor-is ∙ t,
        subst (λ (a : _). IsSound c.args.words.now.table_id.words a.me.0) (sym b.actor-is) sound,
        subst (λ (s : Stocked). s ≡ record c.args.stock.now { limbo = s.limbo }) (sym b.stock-is) same,
        subst (λ (a : _). IsLimbo c.if-not-is_left_out.stock.limbo a.me.0) (sym b.actor-is) (subst (λ (s : Stocked). IsLimbo s.limbo c.loop-n.actor.me.0) (sym b.stock-is) hangs),
        λ refs may.
            subst (λ (a : _). HasReleasedAll v (all_but c.args.but (take (n + 1) refs)) a.me.0) (sym b.actor-is)
            (release_passes v c.args.halves.now c.args.but refs may.lead n low (c.is_left_out.ensures.0 b.if-not-is_left_out.false) c.loop-n.actor.me.0 (done refs may)),
        omega (arith, low),
      )
    ]

pub returns-clause-released : goal.returns-clause-released
returns-clause-released c refs may =
    let (t, sound, same, hangs, done, few) = c.loop-n.invariant in
    all_released c.args.actor.now.me.0 c.args.halves.now c.args.but refs may.lead c.loop-n.n (omega (arith, c.loop-n-test.false)) c.loop-n.actor.me.0 (done refs may)
