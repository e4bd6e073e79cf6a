-- Slots of replaced nodes of one class are free again, whatever hangs of the others.
use Rattle.std.proofs.Common.{◌≡◌, ◌≢◌, ◌<◌, ◌≤◌, inl, inr, ℕ, zero, suc, Contains, length, refl, sym, ap, subst, ◌∙◌, arith}
use Rattle.lock_free.specs.declared.limbo.Chain.{Chain}
use Rattle.lock_free.specs.declared.limbo.Chains.{Chains}
use Rattle.lock_free.specs.declared.limbo.Limbo.{Limbo}
use Rattle.lock_free.specs.declared.reclaiming.Kind.TheVariants.{Replaced}
use Rattle.lock_free.specs.declared.rules.View.{View}
use Rattle.lock_free.specs.Freed.{kept_free, next_chain, FreesFirst, FreesRipe, KeepsOthers}
use Rattle.lock_free.specs.Limbos.{chains_of, turned, turned_in, with_chains, HasReclaimedSome}
use Rattle.lock_free.specs.Making.{with_slot}
use Rattle.lock_free.specs.Rules.{pool_of}
use Rattle.lock_free.specs.Stocks.{HasRoomFor, Stocked}
use Rattle.lock_free.proofs.KindsApart.{with_here, with_other, with_seen}
use Rattle.lock_free.proofs.LetGo.{more_reclaimed}
use Rattle.lock_free.proofs.Pools.{pool_else}

-- ---- the others stay

pub none_others : (class : ℕ) (limbo : Limbo) (stock : Stocked) → KeepsOthers class limbo stock limbo stock
none_others class limbo stock = (refl, refl, λ other small differs. (refl, refl))

pub others_both : (class : ℕ) (a : Limbo) (s : Stocked) (b : Limbo) (t : Stocked) (c : Limbo) (u : Stocked) → KeepsOthers class a s b t → KeepsOthers class b t c u → KeepsOthers class a s c u
others_both class a s b t c u first second = (
  second.0 ∙ first.0,
  second.1 ∙ first.1,
  λ other small differs. ((second.2 other small differs).0 ∙ (first.2 other small differs).0, (second.2 other small differs).1 ∙ (first.2 other small differs).1),
)

pub chains_others : (class : ℕ) → class < 3 → (limbo : Limbo) (chains : Chains) (stock : Stocked) → KeepsOthers class limbo stock (with_chains limbo Replaced class chains) stock
chains_others class low limbo chains stock = (
  with_seen limbo Replaced class chains,
  refl,
  λ other small differs. (with_other limbo Replaced Replaced class other chains low small (λ both. differs both.1), refl),
)

-- the young chain is the aged one, once that has none
pub turned_others : (class : ℕ) → class < 3 → (limbo : Limbo) (stock : Stocked) → KeepsOthers class limbo stock (turned_in limbo Replaced class) stock
turned_others class low limbo stock = chains_others class low limbo (turned (chains_of limbo Replaced class).aged.first (chains_of limbo Replaced class)) stock

pub turned_chain : (class : ℕ) → class < 3 → (limbo : Limbo) → (chains_of (turned_in limbo Replaced class) Replaced class).aged ≡ next_chain limbo class
turned_chain class low limbo =
    ap (λ (c : Chains). c.aged) (with_here limbo Replaced class (turned (chains_of limbo Replaced class).aged.first (chains_of limbo Replaced class)) low)

pub slot_others : (class slot : ℕ) → class < 3 → (limbo : Limbo) (stock next : Stocked) → next.pool ≡ with_slot stock.pool class slot → next.made ≡ stock.made →
    KeepsOthers class limbo stock limbo next
slot_others class slot low limbo stock next pool made = (
  refl,
  made,
  λ other small differs. (refl, ap (λ p. pool_of p other) pool ∙ pool_else stock.pool class other _ low small differs),
)

-- ---- the first one at least

-- after so many of them the first one is free, if there was room; after none nothing has changed
abbrev pub FreedSoFar : ℕ → ℕ → Limbo → Stocked → View → Limbo → Stocked → View → Type 0
FreedSoFar class done limbo stock v limbo_now stock_now w =
    (done ≡ 0 → (limbo_now ≡ limbo) × (stock_now ≡ stock) × (w ≡ v)) × (1 ≤ done → HasRoomFor stock class kept_free → FreesFirst (chains_of limbo Replaced class).aged v w)

pub none_freed : (class : ℕ) (limbo : Limbo) (stock : Stocked) (v : View) → FreedSoFar class 0 limbo stock v limbo stock v
none_freed class limbo stock v = ((λ e. (refl, refl, refl)), (λ some. absurd (omega (arith, some))))

pub freed_after : (class done : ℕ) (limbo : Limbo) (stock : Stocked) (v : View) (limbo_now : Limbo) (stock_now : Stocked) (w x : View) →
    FreedSoFar class done limbo stock v limbo_now stock_now w → (HasRoomFor stock_now class kept_free → FreesFirst (chains_of limbo_now Replaced class).aged w x) → HasReclaimedSome w x →
    HasRoomFor stock class kept_free → FreesFirst (chains_of limbo Replaced class).aged v x
freed_after class zero limbo stock v limbo_now stock_now w x so one some room y there named =
    let (limbo_is, stock_is, same) = so.0 refl in
    (subst (λ z. FreesFirst (chains_of limbo Replaced class).aged z x) same
    (subst (λ z. FreesFirst (chains_of z Replaced class).aged w x) limbo_is (one (subst (λ z. HasRoomFor z class kept_free) (sym stock_is) room)))) y there named
freed_after class (suc done) limbo stock v limbo_now stock_now w x so one some room y there named =
    some.free y.class y.name (so.1 (let fewer : 1 ≤ suc done = omega (arith) in fewer) room y there named)

-- ---- one class after the other

pub freed_before : (chain : Chain) (epoch : ℕ) (u v w : View) → FreesRipe chain epoch u v → HasReclaimedSome v w → FreesRipe chain epoch u w
freed_before chain epoch u v w h later ripe x c named = later.free x.class x.name (h ripe x c named)

freed_then : (chain : Chain) (epoch : ℕ) (u v w : View) → HasReclaimedSome u v → FreesRipe chain epoch v w → HasReclaimedSome v w → FreesRipe chain epoch u w
freed_then chain epoch u v w first h second ripe x c named = elim (first.each x c) [
  | inl still ↦ h ripe x still named
  | inr free ↦ second.free x.class x.name free
]

-- the seat has seen an epoch first
pub freed_after_seen : (chain : Chain) (epoch later : ℕ) (u v w : View) → epoch ≤ later → v ≡ record u { epoch = v.epoch; passed = v.passed } → FreesRipe chain later v w →
    FreesRipe chain epoch u w
freed_after_seen chain epoch later u v w low is h ripe x c named =
    h (omega (arith, low, ripe)) x (subst (λ xs. Contains xs x) (sym (ap (λ (y : View). y.retired) is)) c) named

-- what frees some of a class here frees them too where others were freed before
module _ (class other : ℕ) (small : other < 3) (differs : other ≢ class) (a : Limbo) (s : Stocked) (b : Limbo) (t : Stocked) (keeps : KeepsOthers class a s b t) where
  room_kept : HasRoomFor s other kept_free → HasRoomFor t other kept_free
  room_kept room =
      let pool = ap length (keeps.2 other small differs).1 in
      let made = ap length keeps.1 in
      omega (arith, pool, made, room)

  ripe_kept : (v w : View) → (HasRoomFor t other kept_free → FreesRipe (next_chain b other) b.seen v w) → HasRoomFor s other kept_free → FreesRipe (next_chain a other) a.seen v w
  ripe_kept v w h room =
      subst (λ n. FreesRipe (next_chain a other) n v w) keeps.0
      (subst (λ (c : Chains). FreesRipe (turned c.aged.first c).aged b.seen v w) (keeps.2 other small differs).0 (h (room_kept room)))

module _ (a : Limbo) (s : Stocked) (u : View) (b : Limbo) (t : Stocked) (v : View) (c : Limbo) (r : Stocked) (w x : View) (keeps_small : KeepsOthers 0 a s b t) (keeps_medium :
    KeepsOthers 1 b t c r)
    (first : HasReclaimedSome u v) (second : HasReclaimedSome v w) (third : HasReclaimedSome w x)
    (small : HasRoomFor s 0 kept_free → FreesRipe (next_chain a 0) a.seen u v)
    (medium : HasRoomFor t 1 kept_free → FreesRipe (next_chain b 1) b.seen v w)
    (wide : HasRoomFor r 2 kept_free → FreesRipe (next_chain c 2) c.seen w x) where
  pub each_class_freed : (class : ℕ) → class < 3 → HasRoomFor s class kept_free → FreesRipe (next_chain a class) a.seen u x
  each_class_freed zero low room =
      freed_before (next_chain a 0) a.seen u w x (freed_before (next_chain a 0) a.seen u v w (small room) second) third
  each_class_freed (suc zero) low room =
      freed_before (next_chain a 1) a.seen u w x
      (freed_then (next_chain a 1) a.seen u v w first (ripe_kept 0 1 low (λ e. omega (arith, e)) a s b t keeps_small v w medium room) second) third
  each_class_freed (suc (suc zero)) low room =
      let once = ripe_kept 1 2 low (λ e. omega (arith, e)) b t c r keeps_medium w x wide in
      freed_then (next_chain a 2) a.seen u w x (more_reclaimed u v w first second) (ripe_kept 0 2 low (λ e. omega (arith, e)) a s b t keeps_small w x once room) third
  each_class_freed (suc (suc (suc class))) low room = absurd (omega (arith, low))
