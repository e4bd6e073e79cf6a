-- A step of the sweep.
use Rattle.std.proofs.Common.{◌≡◌, ℕ, ◌+◌, ◌-◌, ◌<◌, ◌≤◌, nat_le, Bool, true, false, cond, List, [], ◌∷◌, ◌++◌, length, drop, Option, Some, None, refl, sym, ap, ◌∙◌, subst, not, arith, eq-eqb}
use Rattle.slot_arena.specs.declared.nodes.Slot.{Slot}
use Rattle.std.proofs.lemmas.Bool.{le-leb, lt-leb}
use Rattle.std.proofs.lemmas.Option.{none-some}
use Rattle.std.proofs.lemmas.List.{append-nil, length-replicate}
use Rattle.std.specs.Prelude.{slice_index_or}
use Rattle.slot_arena.specs.declared.refs.Ref.{Ref}
use Rattle.slot_arena.specs.Refs.{slot_of}
use Rattle.slot_arena.specs.Heaps.{Heap}
use Rattle.slot_arena.specs.Times.{times, other_slots}
use Rattle.slot_arena.specs.Tallies.{naming}
use Rattle.slot_arena.specs.Arenas.{Contents, AreLive, waiting, waiting_in, new_arena}
use Rattle.slot_arena.proofs.Times.{once_same, times-cons, times-append}
use Rattle.slot_arena.proofs.Namings.{naming-cons, naming-append}
use Rattle.slot_arena.proofs.Starts.{none_at}
use Rattle.epochs.specs.declared.limbo.Zeroed.{Zeroed}
use Rattle.epochs.specs.declared.limbo.Swept.{Swept}
use Rattle.epochs.specs.Sweeping.{Reclaimer, ripe, is_passed, scanned, advanced, sweep_by, swept_once}
use Rattle.epochs.specs.Rings.{Bags, all_of, turned}
use Rattle.epochs.specs.Memories.{Lists, limbo_of, zeroed_at}
use Rattle.epochs.specs.Settling.{bags_after}
use Rattle.epochs.proofs.Bags.{other_slots-none}

-- a test that fails
not_ripe : (a b : ℕ) → b < a → nat_le a b ≡ false
not_ripe a b h = lt-leb a b h

-- where the oldest bag is empty no slot may be freed
pub ripe_none : (epoch : ℕ) (bags : Bags) → bags.oldest ≡ [] → (0 < length bags.middle → 1 ≤ epoch) → ripe epoch (limbo_of epoch bags) ≡ None
ripe_none epoch bags empty first =
    ap (λ rs. ripe epoch (zeroed_at (epoch - 2) rs ++ zeroed_at (epoch - 1) bags.middle ++ zeroed_at epoch bags.present)) empty ∙ by_middle bags.middle first bags.present
  where
    by_present : (qs : List Ref) → ripe epoch (zeroed_at epoch qs) ≡ None
    by_present [] = refl
    by_present (q ∷ qs) = ap (λ b. cond b (Some q) None) (not_ripe (epoch + 2) epoch (omega arith))

    by_middle : (rs : List Ref) → (0 < length rs → 1 ≤ epoch) → (qs : List Ref) → ripe epoch (zeroed_at (epoch - 1) rs ++ zeroed_at epoch qs) ≡ None
    by_middle [] some qs = by_present qs
    by_middle (r ∷ rs) some qs = let one = some (omega arith) in ap (λ b. cond b (Some r) None) (not_ripe (epoch - 1 + 2) epoch (omega arith))

module _ (pins : List (Option ℕ)) (r : Reclaimer) (none : ripe r.epoch r.limbo ≡ None) where
  -- the record of the actor at the cursor is read
  pub scans : r.cursor ≤ length pins → swept_once pins r ≡ scanned r (is_passed r.epoch (slice_index_or pins (r.cursor - 1) None))
  scans within = ap (sweep_by pins r) none ∙ ap (λ b. cond b (scanned r (is_passed r.epoch (slice_index_or pins (r.cursor - 1) None))) (advanced r)) (le-leb r.cursor (length pins) within)

  -- the epoch grows
  pub advances : length pins < r.cursor → swept_once pins r ≡ advanced r
  advances past = ap (sweep_by pins r) none ∙ ap (λ b. cond b (scanned r (is_passed r.epoch (slice_index_or pins (r.cursor - 1) None))) (advanced r)) (not_ripe r.cursor (length pins) past)

-- the bags one epoch later
pub lists_turned : (arena : Contents) (bags : Bags) → bags.oldest ≡ [] → Lists arena bags → Lists arena (turned bags)
lists_turned arena bags empty lists = record {
  sizes = lists.sizes;
  live = subst (AreLive arena.heap) same lists.live;
  single = λ k. subst (λ rs. naming k rs ≤ 1) same (lists.single k);
  waits = λ r some none. lists.waits r (subst (λ rs. 0 < times r rs) (sym same) some) none;
  listed = λ r is none. subst (λ rs. 0 < times r rs) same (lists.listed r is none);
}
  where
    same : all_of bags ≡ all_of (turned bags)
    same = ap (λ (rs : List Ref). rs ++ bags.middle ++ bags.present) empty ∙ sym (append-nil (bags.middle ++ bags.present))

-- the first slot of the oldest bag is freed
module _ (arena : Contents) (bags : Bags) (lists : Lists arena bags) (r : Ref) (rest : List Ref) (first : bags.oldest ≡ r ∷ rest) (settled : arena.noted ≡ []) where
  pub first_member : 0 < times r (all_of bags)
  first_member = omega (arith, times-append r (bags.oldest ++ bags.middle) bags.present, times-append r bags.oldest bags.middle, ap (times r) first, times-cons r r rest, once_same r)

  pub first_waits : waiting arena (slot_of r) ≡ Some r
  first_waits = lists.waits r first_member (ap (times (slot_of r)) settled)

  -- limbo is without it then
  pub limbo_rest : (epoch : ℕ) → limbo_of epoch (bags_after None (slot_of r) bags) ≡ drop 1 (limbo_of epoch bags)
  limbo_rest epoch =
      let k : ℕ = slot_of r in
      let sum = naming-append k (bags.oldest ++ bags.middle) bags.present in
      let sum_2 = naming-append k bags.oldest bags.middle in
      let head = ap (naming k) first in
      let cons = naming-cons k r rest in
      let one = once_same k in
      let single = lists.single k in
      let oldest : other_slots k bags.oldest ≡ rest = ap (other_slots k) first ∙ ap (λ b. cond b (r ∷ other_slots k rest) (other_slots k rest)) (ap not (eq-eqb k k refl))
      ∙ other_slots-none k rest (omega arith) in
      ap (λ rs. zeroed_at (epoch - 2) rs ++ zeroed_at (epoch - 1) (other_slots k bags.middle) ++ zeroed_at epoch (other_slots k bags.present)) oldest
      ∙ ap (λ rs. zeroed_at (epoch - 2) rest ++ zeroed_at (epoch - 1) rs ++ zeroed_at epoch (other_slots k bags.present)) (other_slots-none k bags.middle (omega arith))
      ∙ ap (λ rs. zeroed_at (epoch - 2) rest ++ zeroed_at (epoch - 1) bags.middle ++ zeroed_at epoch rs) (other_slots-none k bags.present (omega arith))
      ∙ sym (ap (λ rs. drop 1 (zeroed_at (epoch - 2) rs ++ zeroed_at (epoch - 1) bags.middle ++ zeroed_at epoch bags.present)) first)

-- an empty arena and three empty bags
pub lists_new : (n : ℕ) → Lists (new_arena n) (record { oldest = []; middle = []; present = []; size = n })
lists_new n = record {
  sizes = sym (length-replicate {A = Option Slot} n None);
  live = λ k d within. absurd (omega arith);
  single = λ k. omega arith;
  waits = λ r some none. absurd (omega arith);
  listed = λ r is none. absurd (none-some r (sym (ap (waiting_in (new_arena n).heap [] (slot_of r)) (none_at n (slot_of r))) ∙ is));
}

-- what the sweep did, and what it works on then
abbrev pub outcome : Swept → Heap → List Zeroed → ℕ → ℕ → Swept × Reclaimer
outcome did heap limbo epoch cursor = (did, record { heap = heap; limbo = limbo; epoch = epoch; cursor = cursor })

pub one_step : (b : Bool) → cond {A = ℕ} b 1 0 ≤ 1
one_step true = omega arith
one_step false = omega arith
