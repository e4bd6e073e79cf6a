use Rattle.std.proofs.Common.{All, ◌++◌, sym, ap, subst, ◌∙◌, append-nil}
use Rattle.lock_free.specs.Finishing.{HasHeard}
use Rattle.lock_free.specs.Seated.{Seated}
use Rattle.lock_free.proofs.Gathering.{none_rest, moved_on, all_heard}
use Rattle.lock_free.proofs.Hearing.{heard_both, heard_sound}
use Rattle.lock_free.proofs.finishing.gather.Goals as goal

pub loop-other-preserved : goal.loop-other-preserved
loop-other-preserved c =
    let inv = c.loop-other.invariant in
    let before = c.loop-other.actor.me.0 in
    let after = c.hear.new.actor.me.0 in (
      c.hear.ensures.table ∙ inv.0,
      heard_sound c.args.words.now.table_id.words before after c.hear.ensures.more inv.1,
      heard_both c.args.actor.now.me.0 before after inv.2 c.hear.ensures.more,
      all_heard (λ (other : Seated). other.view) before after c.loop-other.yielded c.in-Some.other inv.3 c.hear.ensures.more
          (subst (HasHeard after) c.into_actor.ensures.same c.hear.ensures.heard),
      moved_on _ _ _ _ c.in-Some.other inv.4 c.in-Some.ensures.steps.0,
    )

pub returns-clause-all : goal.returns-clause-all
returns-clause-all c =
    let inv = c.loop-other.invariant in
    let none = none_rest _ _ c.loop-other.other-iterator.rest.ok.0 c.in-None.ensures.steps.0 in
    let whole = inv.4 ∙ ap (λ xs. c.loop-other.yielded ++ xs) none ∙ append-nil _ in
    subst (λ xs. All (λ (other : Seated). HasHeard c.loop-other.actor.me.0 other.view) xs) (sym whole) inv.3
