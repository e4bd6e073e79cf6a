-- The first slot of an aged chain of nodes that had no reference any more is free for its seat; the rest hangs still, and the seat's operation goes on.
use Rattle.std.proofs.Common.{◌≡◌, ◌≢◌, ◌+◌, ◌<◌, ◌≤◌, inl, inr, ℕ, true, Option, Some, None, map, refl, sym, ap, subst, ◌∙◌, arith, List, [], ◌∷◌}
use Rattle.std.proofs.lemmas.Bool.{cases_Bool}
use Rattle.history.specs.declared.replies.Reply.{Reply}
use Rattle.machine_model.specs.Beneath.slot_arena.specs.declared.refs.Ref.{Ref}
use Rattle.machine_model.specs.Beneath.slot_arena.specs.Heaps.{refs_of_node}
use Rattle.lock_free.specs.declared.limbo.Limbo.{Limbo}
use Rattle.lock_free.specs.declared.reclaiming.Kind.{Kind}
use Rattle.lock_free.specs.declared.reclaiming.Kind.TheVariants as kinds
use Rattle.lock_free.specs.declared.rules.View.{View}
use Rattle.lock_free.specs.Attempts.{HasEndedWith, IsEnding}
use Rattle.lock_free.specs.Becoming.{Follows}
use Rattle.lock_free.specs.Calling.{IsRunning}
use Rattle.lock_free.specs.Epochs.{KnowsMore}
use Rattle.lock_free.specs.Freeing.{freeing, HasFreed, HasFreedSome, HasLetGo, IsRipeDeep}
use Rattle.lock_free.specs.Claims.{HoldsAll}
use Rattle.lock_free.specs.LeftNodes.{beside, MayLetGo}
use Rattle.lock_free.specs.Limbos.{chains_of, led_on, turned_in, IsLimbo}
use Rattle.lock_free.specs.Loading.{IsSound, Runs}
use Rattle.lock_free.specs.Making.{with_slot}
use Rattle.lock_free.specs.Reclaiming.{reclaiming}
use Rattle.lock_free.specs.Stocks.{Stocked, IsStock, made_of, own_nodes, own_of}
use Rattle.lock_free.proofs.Followings.{become_both, follows_self, goes_self, same_self}
use Rattle.lock_free.proofs.KindsApart.{shallow_kind}
use Rattle.lock_free.proofs.Laters.{waited_later}
use Rattle.lock_free.proofs.LetGo.{item, item_class, item_held, item_kind, item_late, its_name, knowing_limbo, limbo_let_go, turned_limbo}
use Rattle.lock_free.proofs.LimboStays.{limbo_stays}
use Rattle.lock_free.proofs.NewNodes.{all_made_same, own_used}
use Rattle.lock_free.proofs.RunningOn.{runs_on_become, runs_on_both}

pub freed_none : (v : View) → HasFreedSome v v
freed_none v = record { follows = follows_self v; comes = λ o r. r }

pub freed_more : (u v w : View) → HasFreedSome u v → HasFreedSome v w → HasFreedSome u w
freed_more u v w first second = become_both u v w (λ o. o) (λ o. o) first second

pub running_on : (v w : View) → HasFreedSome v w → IsRunning v → IsRunning w
running_on v w h running = (running.0, h.comes running.0 running.1)

-- ---- the slot was retired deep

module _ (limbo : Limbo) (v : View) (h : IsLimbo limbo v) (kind : Kind) (deep : kind ≢ kinds.Replaced) (class : ℕ) (low : class < 3) (slot : ℕ) (first :
    (chains_of limbo kind class).aged.first ≡ Some slot) where
  is_deep : (item limbo v h kind class low slot first).deep ≡ true
  is_deep = elim (cases_Bool (item limbo v h kind class low slot first).deep) [
    | inl is_so ↦ is_so
    | inr shallow ↦ absurd (deep (sym (item_kind limbo v h kind class low slot first) ∙ shallow_kind v.sizes (item limbo v h kind class low slot first) shallow))
  ]

  pub ripe_deep : (chains_of limbo kind class).aged.stamp + 3 ≤ v.epoch → IsRipeDeep v class slot
  ripe_deep late = (
    item limbo v h kind class low slot first,
    item_held limbo v h kind class low slot first,
    item_class limbo v h kind class low slot first,
    its_name limbo v h kind class low slot first,
    item_late limbo v h kind class low slot first late,
    is_deep,
  )

-- none is left out
all_beside : (v : View) (ks : List Ref) → beside v [] ks ≡ ks
all_beside v [] = refl
all_beside v (k ∷ ks) = ap (λ xs. k ∷ xs) (all_beside v ks)

-- ---- after the access

module _ (n : ℕ) (v : View) (sound : IsSound n v) (running : IsRunning v) (stock : Stocked) (is : IsStock stock v) (kind : Kind) (class : ℕ) (low : class < 3) (slot : ℕ) (first :
    (chains_of stock.limbo kind class).aged.first ≡ Some slot)
    (link : ℕ) (w : View) (freed : HasFreed v class slot link w) where
  pub freed_limbo : IsLimbo (led_on stock.limbo kind class link) w
  freed_limbo =
      subst (IsLimbo (led_on stock.limbo kind class link)) (sym freed.is)
      (limbo_stays (led_on stock.limbo kind class link) (reclaiming v class slot) (freeing v freed.account class slot freed.node freed.known) refl
      (limbo_let_go stock.limbo v is.limbo kind class low slot first link (reclaiming v class slot) (freed.its_link, refl)))

  pub freed_left : MayLetGo w slot kind []
  freed_left = record {
    node = freed.node;
    slot = freed.slot;
    left = freed.left.left;
    its_kind =
        sym (freed.kind (item stock.limbo v is.limbo kind class low slot first) (item_held stock.limbo v is.limbo kind class low slot first)
        (item_class stock.limbo v is.limbo kind class low slot first) (its_name stock.limbo v is.limbo kind class low slot first))
        ∙ item_kind stock.limbo v is.limbo kind class low slot first;
    holds = subst (λ ks. HoldsAll ks w.owed) (sym (all_beside w (refs_of_node freed.slot.node))) freed.left.holds;
  }

  follows_now : Follows v w
  follows_now =
      let later = waited_later n v sound freed.account freed.waited in
      subst (Follows v) (sym freed.is) (record { is = refl; places = later.places; owns = later.owns; nodes = later.nodes; goes_on = later.goes_on })

  pub becomes_now : HasFreedSome v w
  becomes_now = record {
    follows = follows_now;
    comes = λ o r. (let there = freed.waited.stays (record o { is_marked = r.0 }) r.1 in subst (λ u. Runs u o) (sym freed.is) (there.0, there.1));
  }

  pub freed_sizes : w.sizes ≡ v.sizes
  freed_sizes = ap (λ (u : View). u.sizes) freed.is

  pub stock_now : (next : Stocked) → next.sizes ≡ stock.sizes → next.pool ≡ with_slot stock.pool class slot → next.made ≡ stock.made → next.limbo ≡ led_on stock.limbo kind class link → IsStock next w
  stock_now next sizes pool made limbo =
      let o = running.0 in
      let r = running.1 in
      let runs_w = becomes_now.comes o r in
      record {
        sizes = sizes ∙ is.sizes ∙ sym freed_sizes;
        pool = pool ∙ ap (λ p. with_slot p class slot) is.pool ∙ sym (ap (λ (u : View). u.pool) freed.is);
        made = made ∙ is.made ∙ ap (λ x. map (made_of v) (own_of x)) r.1 ∙ sym (all_made_same v w follows_now o.private (own_used n v sound (record o { is_marked = r.0 }) r.1))
            ∙ ap (λ x. map (made_of w) (own_of x)) (sym runs_w.1);
        limbo = subst (λ l. IsLimbo l w) (sym limbo) freed_limbo;
      }

  pub stock_led : (led next : Stocked) → led ≡ record stock { limbo = led_on stock.limbo kind class link } → next.sizes ≡ led.sizes → next.pool ≡ with_slot led.pool class slot → next.made ≡ led.made →
      next.limbo ≡ led.limbo → IsStock next w
  stock_led led next same sizes pool made limbo =
      stock_now next (sizes ∙ ap (λ (s : Stocked). s.sizes) same) (pool ∙ ap (λ (s : Stocked). with_slot s.pool class slot) same) (made ∙ ap (λ (s : Stocked). s.made) same)
      (limbo ∙ ap (λ (s : Stocked). s.limbo) same)

-- ---- once the seat has let go of what the node named

pub let_go_becomes : (w u : View) → HasLetGo w u → HasFreedSome w u
let_go_becomes w u h =
    subst (HasFreedSome w) (sym h.is) (record {
      follows = record { is = refl; places = λ r slot used. refl; owns = λ a b c own. own; nodes = λ r slot used. (slot, used, same_self slot.node); goes_on = goes_self w.account.steps };
      comes = λ o r. r;
    })

pub let_go_stock : (w u : View) (stock next : Stocked) → IsStock stock w → HasLetGo w u → next ≡ record stock { limbo = next.limbo } → IsLimbo next.limbo u → IsStock next u
let_go_stock w u stock next is h same limbo = record {
  sizes = ap (λ (s : Stocked). s.sizes) same ∙ is.sizes ∙ sym (ap (λ (x : View). x.sizes) h.is);
  pool = ap (λ (s : Stocked). s.pool) same ∙ is.pool ∙ sym (ap (λ (x : View). x.pool) h.is);
  made = ap (λ (s : Stocked). s.made) same ∙ is.made ∙ sym (ap (λ (x : View). map (made_of x) (own_nodes x)) h.is);
  limbo = limbo;
}

-- ---- the young chain is the aged one

pub turned_stock : (v : View) (stock next : Stocked) (kind : Kind) (class : ℕ) → class < 3 → IsStock stock v → next ≡ record stock { limbo = turned_in stock.limbo kind class } → IsStock next v
turned_stock v stock next kind class low is same =
    subst (λ s. IsStock s v) (sym same) (record { sizes = is.sizes; pool = is.pool; made = is.made; limbo = turned_limbo stock.limbo v is.limbo kind class low })

pub has_late : (v : View) (stock : Stocked) (kind : Kind) (class : ℕ) → IsStock stock v → (chains_of stock.limbo kind class).aged.stamp + 3 ≤ stock.limbo.seen →
    (chains_of stock.limbo kind class).aged.stamp + 3 ≤ v.epoch
has_late v stock kind class is low = let seen = is.limbo.seen in omega (arith, seen, low)

-- ---- the seat has seen another epoch

pub knowing_stock : (stock next : Stocked) (u v : View) → KnowsMore u v → IsStock stock u → (seen : ℕ) → seen ≤ v.epoch → next ≡ record stock { limbo = record stock.limbo { seen = seen } } →
    IsStock next v
knowing_stock stock next u v more is seen low same =
    subst (λ s. IsStock s v) (sym same)
    (record {
      sizes = is.sizes ∙ sym (ap (λ (x : View). x.sizes) more.is);
      pool = is.pool ∙ sym (ap (λ (x : View). x.pool) more.is);
      made = is.made ∙ sym (ap (λ (x : View). map (made_of x) (own_nodes x)) more.is);
      limbo = knowing_limbo stock.limbo u v more is.limbo seen low;
    })

-- ---- where the operation is to end

pub ending_runs : (v : View) (answered : Option Reply) → IsEnding v answered → IsRunning v
ending_runs v (Some reply) on = (on.0, on.1)
ending_runs v None may = (may.0, may.1)

pub ending_on : (v w : View) → HasFreedSome v w → (answered : Option Reply) → IsEnding v answered → IsEnding w answered
ending_on v w h (Some reply) on = (on.0, h.comes on.0 on.1, on.2)
ending_on v w h None may = (may.0, h.comes may.0 may.1, may.2)

pub ended_on : (v w : View) → HasFreedSome v w → (answer : Reply) (after : View) → HasEndedWith w answer after → HasEndedWith v answer after
ended_on v w h answer after e = record { late = e.late; on = runs_on_both v w e.late (runs_on_become v w (λ o. o) (λ o. refl) h) e.on; ends = e.ends; ended = e.ended }
