use Rattle.std.proofs.Common.{◌≡◌, [], ◌∷◌, subst}
use Rattle.std.proofs.lemmas.List.{nil_from_length}
use Rattle.std.proofs.lemmas.Option.{MatchOption-at_none}
use Rattle.std.proofs.lemmas.Result.{err_from_is_err_and}
use Rattle.ctrie_map.specs.Batches.{IsChanging}
use Rattle.ctrie_map.proofs.Batched.{begins, changes_each, changing_has, goes_on, lives, lives_at_first, stops_at, stops_within, took, took_all}
use Rattle.ctrie_map.proofs.batches.change_each.Goals as goal

pub loop-pair-init : goal.loop-pair-init
loop-pair-init c =
    let (m, has) = c.requires.writable in (
      c.requires.calm,
      lives_at_first c.args.batch c.args.handle m c.args.pairs.now c.args.core.now.state c.requires.life,
      c.requires.writable,
      λ m has. begins c.args.batch c.args.handle m c.args.pairs.now c.args.core.now.state has,
    )

pub returns-in_err-change_key-clause-stops : goal.returns-in_err-change_key-clause-stops
returns-in_err-change_key-clause-stops c =
    let p = err_from_is_err_and c.from_residual.result c.from_residual.ensures.1 in
    let split : c.loop-pair.left.now ≡ c.in-Some.pair.now ∷ c.in-Some.rest.now = c.in-Some.ensures.cases.0 in
    rw (p.1, p.2) (λ m has.
    let changing = subst (λ xs. IsChanging c.args.batch c.args.handle m c.args.pairs.now c.args.core.now.state xs c.loop-pair.core.state) split (c.loop-pair.invariant.3 m has) in
    stops_at c.args.batch c.args.handle m c.args.pairs.now c.args.core.now.state c.in-Some.pair.now c.in-Some.rest.now c.loop-pair.core.state changing c.change_key.new.core.state
    c.in_err-change_key.field-0.0 c.in_err-change_key.ensures.refused)

pub returns-in_err-change_key-clause-work : goal.returns-in_err-change_key-clause-work
returns-in_err-change_key-clause-work c =
    let (m, has) = c.requires.writable in
    let split : c.loop-pair.left.now ≡ c.in-Some.pair.now ∷ c.in-Some.rest.now = c.in-Some.ensures.cases.0 in
    let changing = subst (λ xs. IsChanging c.args.batch c.args.handle m c.args.pairs.now c.args.core.now.state xs c.loop-pair.core.state) split (c.loop-pair.invariant.3 m has) in
    took c.args.batch c.args.handle m c.args.pairs.now c.args.core.now.state c.in-Some.pair.now c.in-Some.rest.now c.loop-pair.core.state changing c.change_key.new.core.state
    c.change_key.ensures.work

pub returns-in_err-change_key-clause-life : goal.returns-in_err-change_key-clause-life
returns-in_err-change_key-clause-life c =
    let (m, has) = c.requires.writable in
    let split : c.loop-pair.left.now ≡ c.in-Some.pair.now ∷ c.in-Some.rest.now = c.in-Some.ensures.cases.0 in
    let changing = subst (λ xs. IsChanging c.args.batch c.args.handle m c.args.pairs.now c.args.core.now.state xs c.loop-pair.core.state) split (c.loop-pair.invariant.3 m has) in
    let stops = stops_at c.args.batch c.args.handle m c.args.pairs.now c.args.core.now.state c.in-Some.pair.now c.in-Some.rest.now c.loop-pair.core.state changing
    c.change_key.new.core.state c.in_err-change_key.field-0.0 c.in_err-change_key.ensures.refused in
    lives c.args.batch c.args.handle m c.args.pairs.now c.args.core.now.state c.change_key.new.core.state c.requires.life
    (took c.args.batch c.args.handle m c.args.pairs.now c.args.core.now.state c.in-Some.pair.now c.in-Some.rest.now c.loop-pair.core.state changing
    c.change_key.new.core.state c.change_key.ensures.work)
    (stops_within c.args.batch c.args.handle m c.args.pairs.now c.args.core.now.state c.change_key.new.core.state c.in_err-change_key.field-0.0 stops) c.change_key.ensures.few

pub loop-pair-preserved : goal.loop-pair-preserved
loop-pair-preserved c =
    let (m, has) = c.requires.writable in
    let split : c.loop-pair.left.now ≡ c.in-Some.pair.now ∷ c.in-Some.rest.now = c.in-Some.ensures.cases.0 in
    let changing = subst (λ xs. IsChanging c.args.batch c.args.handle m c.args.pairs.now c.args.core.now.state xs c.loop-pair.core.state) split (c.loop-pair.invariant.3 m has) in
    let next = goes_on c.args.batch c.args.handle m c.args.pairs.now c.args.core.now.state c.in-Some.pair.now c.in-Some.rest.now c.loop-pair.core.state changing
    c.change_key.new.core.state c.in_ok-change_key.ensures.changes c.change_key.ensures.work c.change_key.ensures.slots in (
      c.change_key.ensures.calm,
      lives c.args.batch c.args.handle m c.args.pairs.now c.args.core.now.state c.change_key.new.core.state c.requires.life
          (took c.args.batch c.args.handle m c.args.pairs.now c.args.core.now.state c.in-Some.pair.now c.in-Some.rest.now c.loop-pair.core.state changing
          c.change_key.new.core.state c.change_key.ensures.work) next.turns.0 c.change_key.ensures.few,
      (next.so_far, changing_has c.args.batch c.args.handle m c.args.pairs.now c.args.core.now.state c.in-Some.rest.now c.change_key.new.core.state next),
      λ m has.
          goes_on c.args.batch c.args.handle m c.args.pairs.now c.args.core.now.state c.in-Some.pair.now c.in-Some.rest.now c.loop-pair.core.state
          (subst (λ xs. IsChanging c.args.batch c.args.handle m c.args.pairs.now c.args.core.now.state xs c.loop-pair.core.state) split (c.loop-pair.invariant.3 m has)) c.change_key.new.core.state
          c.in_ok-change_key.ensures.changes c.change_key.ensures.work c.change_key.ensures.slots,
    )

pub returns-clause-changes : goal.returns-clause-changes
returns-clause-changes c = λ m has.
    let none : c.loop-pair.left.now ≡ [] = nil_from_length c.loop-pair.left.now (MatchOption-at_none _ _ c.in_default.is c.split_first.ensures.cases) in
    changes_each c.args.batch c.args.handle m c.args.pairs.now c.args.core.now.state c.loop-pair.core.state
    (subst (λ xs. IsChanging c.args.batch c.args.handle m c.args.pairs.now c.args.core.now.state xs c.loop-pair.core.state) none (c.loop-pair.invariant.3 m has))

pub returns-clause-work : goal.returns-clause-work
returns-clause-work c =
    let (m, has) = c.requires.writable in
    let none : c.loop-pair.left.now ≡ [] = nil_from_length c.loop-pair.left.now (MatchOption-at_none _ _ c.in_default.is c.split_first.ensures.cases) in
    took_all c.args.batch c.args.handle m c.args.pairs.now c.args.core.now.state c.loop-pair.core.state
    (subst (λ xs. IsChanging c.args.batch c.args.handle m c.args.pairs.now c.args.core.now.state xs c.loop-pair.core.state) none (c.loop-pair.invariant.3 m has))
