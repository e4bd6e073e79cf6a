-- Seats that were just made rest.
use Rattle.std.proofs.Common.{◌≡◌, ◌<◌, ◌≤◌, ◌-◌, ℕ, [], map, None, refl, sym, ap, subst, ◌∙◌, arith}
use Rattle.atomic_table.specs.Seated.{TableId}
use Rattle.machine_model.specs.States.{operation_of}
use Rattle.lock_free.specs.declared.rules.Pool.{Pool}
use Rattle.lock_free.specs.declared.rules.View.{View}
use Rattle.lock_free.specs.declared.sizes.Sizes.{Sizes}
use Rattle.lock_free.specs.Accounts.{HasWaited}
use Rattle.lock_free.specs.Answers.{silent, talk_at}
use Rattle.lock_free.specs.Loading.{now, HasSeen, IsSound}
use Rattle.lock_free.specs.Places.{AreSizes}
use Rattle.lock_free.specs.FirstViews.{first_view}
use Rattle.lock_free.specs.Rules.{no_slots}
use Rattle.lock_free.specs.Seated.{HasActors, HasSplit, IsResting, IsSeated, Seated}
use Rattle.lock_free.specs.SeatWords.{IsIdle}
use Rattle.lock_free.specs.Splitting.{of_last, without_last}
use Rattle.lock_free.specs.Stocks.{Stocked, IsStock, made_of, own_of}
use Rattle.lock_free.specs.Telling.{GoesOn}
use Rattle.lock_free.specs.Limbos.{hanging_of, IsLimbo}
use Rattle.lock_free.proofs.LimboStays.{limbo_so}
use Rattle.lock_free.proofs.AnswersTold.{never_told}
use Rattle.lock_free.proofs.FirstState.{nobody_runs}
use Rattle.lock_free.proofs.OneStep.Idle.{idle_stays}

-- ---- a stock that has nothing

pub record IsEmpty (stock : Stocked) : Type 0 where
  pub small : stock.pool.small ≡ []
  pub medium : stock.pool.medium ≡ []
  pub wide : stock.pool.wide ≡ []
  pub parted : stock.pool.parted ≡ []
  pub made : stock.made ≡ []
  pub limbo : (v : View) → v.retired ≡ [] → IsLimbo stock.limbo v

no_pool : (pool : Pool) → pool.small ≡ [] → pool.medium ≡ [] → pool.wide ≡ [] → pool.parted ≡ [] → pool ≡ no_slots
no_pool pool small medium wide parted =
    ap (λ x. record { small = x; medium = pool.medium; wide = pool.wide; parted = pool.parted }) small
    ∙ ap (λ y. record { small = []; medium = y; wide = pool.wide; parted = pool.parted }) medium
    ∙ ap (λ z. record { small = []; medium = []; wide = z; parted = pool.parted }) wide ∙ ap (λ w. record { small = []; medium = []; wide = []; parted = w }) parted

new_stock : (stock : Stocked) → IsEmpty stock → (v : View) → stock.sizes ≡ v.sizes → v.pool ≡ no_slots → operation_of (now v) v.actor ≡ None →
    v.retired ≡ [] → IsStock stock v
new_stock stock empty v sizes pool idle none = record {
  sizes = sizes;
  pool = no_pool stock.pool empty.small empty.medium empty.wide empty.parted ∙ sym pool;
  made = empty.made ∙ sym (ap (λ o. map (made_of v) (own_of o)) idle);
  limbo = empty.limbo v none;
}

-- ---- the first seat

pub first_seated : (sizes : Sizes) → AreSizes sizes → (words : ℕ) (v : View) → v ≡ first_view sizes → IsSound words v → (stock : Stocked) → stock.sizes ≡ sizes → IsEmpty stock →
    IsSeated words v 1 sizes.seats stock
first_seated sizes range words v is sound stock same empty =
    let idle : operation_of (now v) v.actor ≡ None = subst (λ (x : View). operation_of (now x) x.actor ≡ None) (sym is) (nobody_runs sizes 1) in
    let some = range.some in
    record {
      sound = sound;
      rests = record { idle = idle; pin = ap (λ (x : View). x.pin) is; entered = ap (λ (x : View). x.entered) is; opens = ap (λ (x : View). x.opens) is };
      actors = subst HasActors (sym is) (record { low = omega arith; top = some; most = omega arith });
      its = ap (λ (x : View). x.actor) is;
      its_last = ap (λ (x : View). x.last) is;
      owns = new_stock stock empty v (same ∙ sym (ap (λ (x : View). x.sizes) is)) (ap (λ (x : View). x.pool) is) idle (ap (λ (x : View). x.retired) is);
    }

-- ---- a seat that is split

module _ (words : ℕ) (v : View) (word found : ℕ) (at : View) (h : HasSeen v word found at) where
  -- the actors after it run nothing
  pub others_idle : (a : ℕ) → v.actor < a → a ≤ v.last → operation_of (now at) a ≡ None
  others_idle a low top = let (m, is) = h in subst (λ (x : View). operation_of (now x) a ≡ None) (sym is) ((m.kept.seats m.id v m.at).rests a low top).0

  seen_idle : IsIdle v → IsIdle at
  seen_idle idle =
      let (m, is) = h in
      subst IsIdle (sym is) (idle_stays v.sizes v.actor v.account m.kept.account (m.kept.seats m.id v m.at).waited m.kept.bounds idle)

  pub seen_is : at ≡ record v { account = at.account }
  seen_is = let (m, is) = h in is ∙ ap (λ a. record v { account = a }) (sym (ap (λ (x : View). x.account) is))

  pub seen_goes_on : GoesOn v.account.steps at.account.steps
  seen_goes_on =
      let (m, is) = h in
      let waited = (m.kept.seats m.id v m.at).waited in
      (waited.steps, ap (λ (x : View). x.account.steps) is ∙ waited.goes_on)

  seen_waited : HasWaited v.actor v.account at.account
  seen_waited = let (m, is) = h in subst (λ (x : View). HasWaited v.actor v.account x.account) (sym is) (m.kept.seats m.id v m.at).waited

  module _ (rests : IsResting v) (actors : HasActors v) (more : v.actor < v.last) where
    -- the last of its actors has never taken a step
    last_silent : talk_at (of_last at) at.last ≡ silent
    last_silent =
        let (m, is) = h in
        subst (λ (x : View). talk_at (of_last x) x.last ≡ silent) (sym is)
        (never_told v.last v.sizes m.kept.account (omega arith, m.kept.range.some, m.kept.range.many) ((m.kept.seats m.id v m.at).rested v.last more (omega arith)))

    pub left_seated : (left : View) → left ≡ without_last at → IsSound words left → (number last : ℕ) → v.actor ≡ number → v.last - 1 ≡ last → (stock : Stocked) → IsStock stock v →
        IsSeated words left number last stock
    left_seated left is sound number last its its_last stock owns = record {
      sound = sound;
      rests = record {
        idle = idle;
        pin = ap (λ (x : View). x.pin) left_is ∙ rests.pin;
        entered = ap (λ (x : View). x.entered) left_is ∙ rests.entered;
        opens = ap (λ (x : View). x.opens) left_is ∙ rests.opens;
      };
      actors = record {
        low = subst (λ k. 1 ≤ k) (sym (ap (λ (x : View). x.actor) left_is)) actors.low;
        top = (let a = ap (λ (x : View). x.actor) left_is in let l = last_is in omega (arith, a, l, more));
        most = (let z = ap (λ (y : Sizes). y.seats) (ap (λ (x : View). x.sizes) left_is) in let l = last_is in let m = actors.most in omega (arith, z, l, m));
      };
      its = ap (λ (x : View). x.actor) left_is ∙ its;
      its_last = last_is ∙ its_last;
      owns = record {
        sizes = owns.sizes ∙ sym (ap (λ (x : View). x.sizes) left_is);
        pool = owns.pool ∙ sym (ap (λ (x : View). x.pool) left_is);
        made = owns.made ∙ ap (λ o. map (made_of v) (own_of o)) rests.idle ∙ sym (ap (λ o. map (made_of left) (own_of o)) idle);
        limbo = limbo_so stock stock v left owns refl (ap hanging_of left_is);
      };
    }
      where
        idle : IsIdle left
        idle = subst IsIdle (sym is) (seen_idle rests.idle)

        left_is : left ≡ record v { last = v.last - 1; account = at.account }
        left_is = is ∙ ap without_last seen_is

        last_is : left.last ≡ v.last - 1
        last_is = ap (λ (x : View). x.last) left_is

    pub right_seated : (right : View) → right ≡ of_last at → IsSound words right → (number : ℕ) → v.last ≡ number → (stock : Stocked) → stock.sizes ≡ v.sizes → IsEmpty stock →
        IsSeated words right number number stock
    right_seated right is sound number its stock same empty = record {
      sound = sound;
      rests = record { idle = idle; pin = ap (λ (x : View). x.pin) is; entered = ap (λ (x : View). x.entered) is; opens = ap (λ (x : View). x.opens) is };
      actors = record {
        low = (let a = actor_is in let low = actors.low in omega (arith, a, low, more));
        top = (let a = actor_is in let l = last_is in omega (arith, a, l));
        most = (let z = ap (λ (y : Sizes). y.seats) sizes_is in let l = last_is in let m = actors.most in omega (arith, z, l, m));
      };
      its = actor_is ∙ its;
      its_last = last_is ∙ its;
      owns = new_stock stock empty right (same ∙ sym sizes_is) (ap (λ (x : View). x.pool) is) idle (ap (λ (x : View). x.retired) is);
    }
      where
        actor_is : right.actor ≡ v.last
        actor_is = ap (λ (x : View). x.actor) is ∙ ap (λ (x : View). x.last) seen_is

        last_is : right.last ≡ v.last
        last_is = ap (λ (x : View). x.last) is ∙ ap (λ (x : View). x.last) seen_is

        sizes_is : right.sizes ≡ v.sizes
        sizes_is = ap (λ (x : View). x.sizes) is ∙ ap (λ (x : View). x.sizes) seen_is

        idle : IsIdle right
        idle = subst IsIdle (sym is) (subst (λ k. operation_of (now at) k ≡ None) (sym (ap (λ (x : View). x.last) seen_is)) (others_idle v.last more (omega arith)))

    pub splits_so : (table : TableId) (left right : Seated) → left.table ≡ table → right.table ≡ table → left.view ≡ without_last at → right.view ≡ of_last at →
        HasSplit (record { table = table; view = v }) left right
    splits_so table left right left_table right_table left_is right_is =
        let last : at.last ≡ v.last = ap (λ (x : View). x.last) seen_is in
        record {
          table = left_table;
          sizes = ap (λ (x : View). x.sizes) left_is ∙ ap (λ (x : View). x.sizes) seen_is;
          actor = ap (λ (x : View). x.actor) left_is ∙ ap (λ (x : View). x.actor) seen_is;
          last = (let l = ap (λ (x : View). x.last) left_is in omega (arith, l, last, more));
          goes_on = subst (GoesOn v.account.steps) (sym (ap (λ (x : View). x.account.steps) left_is)) seen_goes_on;
          waited = subst (HasWaited v.actor v.account) (sym (ap (λ (x : View). x.account) left_is)) seen_waited;
          other_table = right_table;
          other_sizes = ap (λ (x : View). x.sizes) right_is ∙ ap (λ (x : View). x.sizes) seen_is;
          other_actor = ap (λ (x : View). x.actor) right_is ∙ last;
          other_last = ap (λ (x : View). x.last) right_is ∙ last;
          other_goes_on = subst (GoesOn v.account.steps) (sym (ap (λ (x : View). x.account.steps) right_is)) seen_goes_on;
          other_silent = subst (λ (x : View). talk_at x x.actor ≡ silent) (sym right_is) last_silent;
        }
