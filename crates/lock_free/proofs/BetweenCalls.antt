-- A seat between its calls: what it is after one, by what it was before.
use Rattle.std.proofs.Common.{◌≡◌, ◌≤◌, ℕ, [], None, map, refl, sym, ap, subst, ◌∙◌}
use Rattle.atomic_table.specs.Seated.{TableId}
use Rattle.lock_free.specs.declared.rules.View.{View}
use Rattle.lock_free.specs.Limbos.{Hanging, hanging_of}
use Rattle.lock_free.specs.Loading.{IsSound, Saw}
use Rattle.lock_free.specs.Seated.{HasGoneOn, IsResting, IsSeated}
use Rattle.lock_free.specs.SeatWords.{IsIdle}
use Rattle.lock_free.specs.Stocks.{made_of, own_nodes, own_of, IsStock, Stocked}
use Rattle.lock_free.specs.WholeCalls.{HasLeft, RestsWith, SameSeat}
use Rattle.lock_free.proofs.Followings.{goes_both, goes_self}
use Rattle.lock_free.proofs.LimboStays.{limbo_stays}

-- ---- the same seat

pub same_seat : (v : View) → SameSeat v v
same_seat v = record { sizes = refl; actor = refl; last = refl; goes_on = goes_self v.account.steps }

pub same_seats : (u v w : View) → SameSeat u v → SameSeat v w → SameSeat u w
same_seats u v w p q = record {
  sizes = q.sizes ∙ p.sizes;
  actor = q.actor ∙ p.actor;
  last = q.last ∙ p.last;
  goes_on = goes_both u.account.steps v.account.steps w.account.steps p.goes_on q.goes_on;
}

pub same_saw : (v w : View) → Saw v w → SameSeat v w
same_saw v w s = subst (λ x. SameSeat v x) (sym s.after_is) (record { sizes = refl; actor = refl; last = refl; goes_on = (s.waited.waited.steps, s.waited.waited.goes_on) })

pub gone_on : (table after : TableId) (v w : View) → after ≡ table → SameSeat v w → HasGoneOn (record { table = table; view = v }) (record { table = after; view = w })
gone_on table after v w e s = record { table = e; sizes = s.sizes; actor = s.actor; last = s.last; goes_on = s.goes_on }

-- ---- at rest

pub resting : (v : View) → RestsWith v None → IsResting v
resting v r = record { idle = r.idle; pin = r.pin; entered = r.entered; opens = r.opens_it }

-- of a seat that runs nothing nothing is its own
pub none_own : (v : View) → IsIdle v → own_nodes v ≡ []
none_own v idle = ap own_of idle

pub idle_stock : (stock : Stocked) (v w : View) → IsIdle v → IsIdle w → hanging_of w ≡ hanging_of v → w.pool ≡ v.pool → IsStock stock v → IsStock stock w
idle_stock stock v w idle then hangs pool is = record {
  sizes = is.sizes ∙ ap (λ (z : Hanging). z.0) (sym hangs);
  pool = is.pool ∙ sym pool;
  made = is.made ∙ ap (map (made_of v)) (none_own v idle) ∙ ap (map (made_of w)) (sym (none_own w then));
  limbo = limbo_stays stock.limbo v w hangs is.limbo;
}

-- so it is a seat after its call
pub seat_after : (n m number last : ℕ) (stock next : Stocked) (v w : View) → IsSeated n v number last stock → m ≡ n → IsSound n w → HasLeft v w → IsStock next w →
    IsSeated m w number last next
seat_after n m number last stock next v w h e sound left owns = record {
  sound = subst (λ k. IsSound k w) (sym e) sound;
  rests = resting w left.rests;
  actors = record {
    low = subst (λ a. 1 ≤ a) (sym left.same.actor) h.actors.low;
    top = subst (λ a. a ≤ w.last) (sym left.same.actor) (subst (λ l. v.actor ≤ l) (sym left.same.last) h.actors.top);
    most = subst (λ z. w.last ≤ z.seats) (sym left.same.sizes) (subst (λ l. l ≤ v.sizes.seats) (sym left.same.last) h.actors.most);
  };
  its = left.same.actor ∙ h.its;
  its_last = left.same.last ∙ h.its_last;
  owns = owns;
}
