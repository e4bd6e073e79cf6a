-- What a seat owns in plain memory once its operation has ended or given up.
use Rattle.std.proofs.Common.{◌≡◌, ℕ, List, [], None, map, refl, sym, ap, ◌∙◌, subst}
use Rattle.std.proofs.lemmas.Option.{none-some}
use Rattle.history.specs.declared.replies.Reply.{Reply}
use Rattle.machine_model.specs.declared.actions.Action.TheVariants as act
use Rattle.machine_model.specs.declared.lines.Line.TheVariants as line
use Rattle.machine_model.specs.GivingUp.{gave_up}
use Rattle.machine_model.specs.declared.operations.Operation.{Operation}
use Rattle.lock_free.specs.declared.rules.View.{View}
use Rattle.lock_free.specs.Attempts.{HasEndedWith}
use Rattle.lock_free.specs.Calling.{GaveUp, IsCancelled}
use Rattle.lock_free.specs.Holding.{IsOn}
use Rattle.lock_free.specs.declared.stock.OwnNode.{OwnNode}
use Rattle.lock_free.specs.LettingMadeGo.{GivesAllUp, HasGivenAllUp, MayLetMadeGo}
use Rattle.lock_free.specs.Loading.{seen, IsAt, IsSound, Runs}
use Rattle.lock_free.specs.RunningOn.{MayAnswer}
use Rattle.lock_free.specs.SeatWords.{HasEnded}
use Rattle.lock_free.specs.Stocks.{Stocked, IsStock, made_of, own_of, put_back}
use Rattle.lock_free.specs.Limbos.{hanging_of, IsLimbo}
use Rattle.lock_free.proofs.LimboStays.{limbo_so, limbo_stays}
use Rattle.lock_free.proofs.CallsRunOn.{at_end}
use Rattle.lock_free.proofs.Followings.{follows_later}
use Rattle.lock_free.proofs.FreesOn.{let_go_becomes}
use Rattle.lock_free.proofs.Laters.{waited_later}
use Rattle.lock_free.proofs.NewNodes.{all_made_same, own_used}
use Rattle.lock_free.proofs.RunningOn.{runs_on_become, runs_on_both, runs_on_given_up, runs_on_self}
use Rattle.lock_free.proofs.SwapsMade.{back_is}

-- it has ended: nothing is its operation's any more
pub ended_stock : (v after : View) (answer : Reply) → HasEnded v answer after → (stock next : Stocked) → stock.sizes ≡ v.sizes → stock.pool ≡ v.pool → IsLimbo stock.limbo v → next.sizes ≡ stock.sizes
    → next.pool ≡ stock.pool → next.made ≡ [] → next.limbo ≡ stock.limbo → IsStock next after
ended_stock v after answer e stock next sizes_is pool_is limbo_is sizes pool none limbo = record {
  sizes = sizes ∙ sizes_is ∙ ap (λ (x : View). x.sizes) (sym e.after_is);
  pool = pool ∙ pool_is ∙ ap (λ (x : View). x.pool) (sym e.after_is);
  made = none ∙ ap (λ o. map (made_of after) (own_of o)) (sym e.idle);
  limbo = subst (λ l. IsLimbo l after) (sym limbo) (limbo_stays stock.limbo v after (ap hanging_of e.after_is) limbo_is);
}

-- it has given up: what it made is free again
module _ (n : ℕ) (v : View) (sound : IsSound n v) (o : Operation) (runs : Runs v o) (answer : Reply) (at : View) (g : GaveUp v o answer at) (stock next : Stocked) (is : IsStock stock v)
    (sizes : next.sizes ≡ stock.sizes) (pool : next.pool ≡ put_back stock.made stock.pool) (none : next.made ≡ []) (limbo : next.limbo ≡ stock.limbo) where
  abbrev there : View
  there = seen v g.account

  same_made : map (made_of there) o.private ≡ map (made_of v) o.private
  same_made = all_made_same v there (follows_later v there (waited_later n v sound g.account g.waited)) o.private (own_used n v sound (record o { is_marked = runs.0 }) runs.1)

  pub left_pool : next.pool ≡ at.pool
  left_pool =
      pool ∙ ap (put_back stock.made) is.pool ∙ ap (λ ms. put_back ms v.pool) (is.made ∙ ap (λ x. map (made_of v) (own_of x)) runs.1 ∙ sym same_made) ∙ back_is v g.account o.private v.pool
      ∙ ap (λ (x : View). x.pool) (sym g.after_is)

  pub left_sizes : next.sizes ≡ at.sizes
  left_sizes = sizes ∙ is.sizes ∙ ap (λ (x : View). x.sizes) (sym g.after_is)

  pub left_limbo : IsLimbo next.limbo at
  left_limbo = limbo_so stock next v at is limbo (ap hanging_of g.after_is)

  -- what it held of others by that may be let go of
  pub left_may : (made : List OwnNode) → made ≡ stock.made → MayLetMadeGo at made None []
  left_may made same = record {
    before = there;
    private = o.private;
    on = o.line;
    made_is = same ∙ is.made ∙ ap (λ x. map (made_of v) (own_of x)) runs.1 ∙ sym same_made;
    dropped = g.dropped;
    covers = λ x k c e named apart. absurd (none-some _ e);
  }

  pub left_stock : IsStock next at
  left_stock = record {
    sizes = left_sizes;
    pool = left_pool;
    made = none ∙ ap (λ x. map (made_of at) (own_of x)) (sym g.runs.1);
    limbo = left_limbo;
  }

-- ---- and has ended, once its seat has let go of what it held by that

module _ (v u after : View) (answer : Reply) (may : MayAnswer v answer) (gave : GivesAllUp v u) where
  given : HasGivenAllUp v may.0 answer u
  given = gave may.0 answer may.1 may.2

  runs_given : Runs u (gave_up may.0 answer)
  runs_given = (let_go_becomes given.at u given.let_go).comes (gave_up may.0 answer) given.gave.runs

  pub given_end : IsAt u (act.End answer)
  given_end = record { operation = record (gave_up may.0 answer) { is_marked = runs_given.0 }; runs = runs_given.1; acts = refl }

  pub given_same : (u.actor ≡ v.actor) × (u.sizes ≡ v.sizes)
  given_same = (
    ap (λ (z : View). z.actor) given.let_go.is ∙ ap (λ (z : View). z.actor) given.gave.after_is,
    ap (λ (z : View). z.sizes) given.let_go.is ∙ ap (λ (z : View). z.sizes) given.gave.after_is,
  )

  pub refused_stock : HasEnded u answer after → (stock : Stocked) → IsStock stock u → IsStock stock after
  refused_stock e stock is =
      ended_stock u after answer e stock stock is.sizes is.pool is.limbo refl refl (is.made ∙ ap (λ x. map (made_of u) (own_of x)) runs_given.1) refl

  pub refused_so : ((other : Reply) → IsAt u (act.End other) → HasEnded u other after) → IsCancelled v after
  refused_so ended o other runs its =
      let x = gave o other runs its in
      let rests = let_go_becomes x.at u x.let_go in
      let r = rests.comes (gave_up o other) x.gave.runs in
      (x.at, u, x.gave, x.let_go, ended other (record { operation = record (gave_up o other) { is_marked = r.0 }; runs = r.1; acts = refl }))

-- ---- its reply

pub ended_with : (v after : View) (answer : Reply) → IsOn v (line.End answer) → ((other : Reply) → IsAt v (act.End other) → HasEnded v other after) → HasEndedWith v answer after
ended_with v after answer on ends = record { late = v; on = runs_on_self v; ends = on; ended = ends answer (at_end v answer on) }

pub cancelled_with : (v after : View) (answer : Reply) → MayAnswer v answer → IsCancelled v after → HasEndedWith v answer after
cancelled_with v after answer (o, runs, may) cancelled =
    let (at, left, g, let_go, e) = cancelled o answer runs may in
    let rests = let_go_becomes at left let_go in
    record {
      late = left;
      on = runs_on_both v at left (runs_on_given_up v at o answer runs g) (runs_on_become at left (λ z. z) (λ z. refl) rests);
      ends = (gave_up o answer, rests.comes (gave_up o answer) g.runs, refl);
      ended = e;
    }
