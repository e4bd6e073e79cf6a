-- A machine that has taken no step.
use Rattle.std.proofs.Common.{◌≡◌, ℕ, zero, suc, ◌+◌, ◌*◌, ◌==◌, ◌<◌, ◌≤◌, ◌&&◌, Bool, true, false, not, List, [], ◌∷◌}
use Rattle.std.proofs.Common.{◌++◌, map, filter, set, get_or, replicate, flat_map, count_by, length, All, Option, Some, None, refl, sym, ap, ◌∙◌, arith, subst}
use Rattle.std.specs.Prelude.{option_map, slice_get}
use Rattle.std.proofs.lemmas.List.{length-append, length-replicate}
use Rattle.std.proofs.lemmas.List.Concat.{flat_map-cons}
use Rattle.std.proofs.lemmas.List.Elements.{All-get_or, All-head, All-push, All-tail}
use Rattle.std.proofs.lemmas.Option.{get_or_from_slice_get, none-some, slice_get_within}
use Rattle.machine_core.specs.Vocabulary.{HashKind, Writable, Ref, Slot, ref_to, Heap, taken, empty_branch, next_ref, named_from, in_use, heap_refs, refs_of_slot, count_of, times, without, Settles}
use Rattle.machine_core.specs.Vocabulary.{is_zero, is_in, limbo_after, by_birth, Operation, Root, Plain, Bounds, refs_of_root, refs_of_operation, pin_of, State, empty_heap, first_heap, first_state}
use Rattle.machine_core.specs.Vocabulary.{operation_of, root_refs, Table, new_table, with_root_in, KnowsNumbers, crossing}
use Rattle.handle_table.specs.Numbers.{Numbers, no_numbers, with_taken}
use Rattle.slot_arena.proofs.Times.{once_same, times-cons, times-without, times_le}
use Rattle.epochs.specs.Memories.{Memory}
use Rattle.machine_core.specs.Beneath.rdcss_root.specs.Holding.{IsReady, Moves}
use Rattle.machine_core.specs.declared.parts.Actor.{Actor}
use Rattle.machine_core.specs.declared.parts.Parts.{Parts}
use Rattle.machine_core.specs.Keeping.{AreSeated, IsKept}
use Rattle.proof_core.proofs.Crossing.{settling_pays}
use Rattle.machine_core.specs.Seen.{actors_seen, operation_at, seen}
use Rattle.machine_core.specs.Starting.{AreIdle, IsIdle}
use Rattle.machine_core.specs.Ties.{private_refs}
use Rattle.proof_core.proofs.Reserved.{known_first}

-- ---- the first two references

pub next_first : (slots : ℕ) → 2 ≤ slots → next_ref (empty_heap slots) ≡ Some (ref_to 1 0)
next_first zero low = absurd (omega (arith, low))
next_first (suc n) low = refl

pub next_second : (slots : ℕ) → 2 ≤ slots → next_ref (taken (empty_heap slots) empty_branch) ≡ Some (ref_to 2 1)
unfolding taken
next_second zero low = absurd (omega (arith, low))
next_second (suc zero) low = absurd (omega (arith, low))
next_second (suc (suc n)) low = refl

-- ---- limbo

none_named : (k n : ℕ) → named_from k (replicate {A = Option Slot} n None) ≡ []
none_named k zero = refl
none_named k (suc n) = none_named (k + 1) n

none_flat : {X : Type 0} (f : X → List Ref) (x : X) (n : ℕ) → f x ≡ [] → flat_map f (replicate n x) ≡ []
none_flat f x zero e = refl
none_flat f x (suc n) e = flat_map-cons f x (replicate n x) ∙ ap (λ rs. rs ++ flat_map f (replicate n x)) e ∙ none_flat f x n e

first_used : (n : ℕ) → in_use (first_heap (suc (suc n))) ≡ ref_to 1 0 ∷ ref_to 2 1 ∷ []
unfolding taken
first_used n = ap (λ rs. ref_to 1 0 ∷ ref_to 2 1 ∷ rs) (none_named 2 n)

first_refs : (n : ℕ) → heap_refs (first_heap (suc (suc n))) ≡ ref_to 1 0 ∷ []
unfolding taken
first_refs n = ap (λ rs. ref_to 1 0 ∷ rs) (none_flat refs_of_slot None n refl)

both_out : (p : Ref → Bool) (a b : Ref) → p a ≡ false → p b ≡ false → filter p (a ∷ b ∷ []) ≡ []
both_out p a b out out_too = rw (out, out_too) refl

-- nothing is in limbo: the branch is referred to, and the root is held
limbo_of : (heap : Heap) → in_use heap ≡ ref_to 1 0 ∷ ref_to 2 1 ∷ [] → heap_refs heap ≡ ref_to 1 0 ∷ [] → limbo_after heap (ref_to 2 1 ∷ []) 0 [] ≡ []
unfolding count_of
limbo_of heap used refs =
    let test : Ref → Bool = λ r. is_zero heap (ref_to 2 1 ∷ []) r && not (is_in [] r) in
    let counted : (r : Ref) → test r ≡ (count_by (λ q. q == r) (ref_to 1 0 ∷ ref_to 2 1 ∷ []) == 0 && true) = λ r. ap (λ rs. count_by (λ q. q == r) (rs ++ ref_to 2 1 ∷ []) == 0 && true) refs in
    ap (λ rs. map (λ r. record { at = r; epoch = 0 }) (by_birth (filter test rs))) used
    ∙ ap (λ rs. map (λ r. record { at = r; epoch = 0 }) (by_birth rs)) (both_out test (ref_to 1 0) (ref_to 2 1) (counted (ref_to 1 0)) (counted (ref_to 2 1)))

pub first_limbo : (slots : ℕ) → 2 ≤ slots → limbo_after (first_heap slots) (ref_to 2 1 ∷ []) 0 [] ≡ []
first_limbo zero low = absurd (omega (arith, low))
first_limbo (suc zero) low = absurd (omega (arith, low))
first_limbo (suc (suc n)) low = limbo_of (first_heap (suc (suc n))) (first_used n) (first_refs n)

-- ---- ticks

-- what settling takes where nothing is in limbo, before it or after it
pub settled_first : (before after : Memory) → Settles before after → before.limbo ≡ [] → after.limbo ≡ [] → after.ticks ≤ before.ticks + 3 * length before.noted
settled_first before after settles none still = omega (
  arith,
  settling_pays before.heap before.outside before.epoch before.limbo after.limbo before.ticks after.ticks (length before.noted) settles.limbo settles.ticks,
  ap (λ l. crossing l after.limbo) none,
  ap (crossing []) still,
)

-- ---- what is held

first_root_refs : (root : Option Root) (r : Ref) → refs_of_root root ≡ r ∷ [] → root_refs (set (replicate 256 None) 0 root) ≡ r ∷ []
first_root_refs root r e =
    flat_map-cons refs_of_root root (replicate 255 None) ∙ ap (λ rs. rs ++ flat_map refs_of_root (replicate 255 None)) e
    ∙ ap (λ rs. r ∷ rs) (none_flat refs_of_root None 255 refl)

-- before any handle is open nothing has to be held
pub none_ready : (memory : Memory) (table : Table) (actors : ℕ) → table ≡ new_table actors → memory.outside ≡ ref_to 2 1 ∷ [] → IsReady memory table.roots 4
none_ready memory table actors new outside = record {
  held = λ r. omega (arith, ap (λ (t : Table). times r (root_refs t.roots)) new, ap (times r) (none_flat refs_of_root None 256 refl));
  room = λ r. omega (arith, ap (times r) outside, times_le r (ref_to 2 1 ∷ []));
}

-- once the first root stands in a root word it is held once more
pub first_held : (before mid : Memory) (table now : Table) (actors : ℕ) (root : Ref) → table ≡ new_table actors →
    now ≡ with_root_in table 0 (Some (record { access = Writable; word = Plain root })) → Moves before mid table.roots now.roots 4 → (r : Ref) →
    times r mid.outside ≡ times r before.outside + times r (root ∷ [])
first_held before mid table now actors root new put moves r =
    let first : Option Root = Some (record { access = Writable; word = Plain root }) in
    omega (
      arith,
      moves.outside r,
      ap (λ (t : Table). times r (root_refs t.roots)) new,
      ap (times r) (none_flat refs_of_root None 256 refl),
      ap (λ (t : Table). times r (root_refs t.roots)) put,
      ap (λ (t : Table). times r (root_refs (set t.roots 0 first))) new,
      ap (times r) (first_root_refs first root refl),
    )

-- and may be released once
pub first_there : (held mid : List Ref) (root : Ref) → times root mid ≡ times root held + times root (root ∷ []) → 0 < times root mid
first_there held mid root more = omega (arith, more, times-cons root root [], once_same root)

pub first_released : (held mid : List Ref) (root : Ref) → ((r : Ref) → times r mid ≡ times r held + times r (root ∷ [])) → (r : Ref) → times r (without root mid) ≡ times r held
first_released held mid root more r = omega (arith, more r, times-without r root mid (first_there held mid root (more root)), times-cons r root [])

none_pinned : (n : ℕ) → map pin_of (replicate {A = Option Operation} n None) ≡ replicate n None
none_pinned zero = refl
none_pinned (suc n) = ap (λ ps. None ∷ ps) (none_pinned n)

-- ---- actors

none_seen : (table : Table) (hashes : HashKind) (actors : List Actor) → All (IsIdle hashes) actors → actors_seen table actors ≡ replicate (length actors) None
none_seen table hashes [] idle = refl
none_seen table hashes (actor ∷ actors) idle =
    ap (λ o. o ∷ actors_seen table actors) (ap (option_map (operation_at table actor.programs)) (All-head (IsIdle hashes) actor actors idle).under_way)
    ∙ ap (λ os. None ∷ os) (none_seen table hashes actors (All-tail (IsIdle hashes) actor actors idle))

pub one_more_idle : (hashes : HashKind) (n : ℕ) (actors : List Actor) (actor : Actor) → AreIdle hashes n actors → IsIdle hashes actor → AreIdle hashes (n + 1) (actors ++ actor ∷ [])
one_more_idle hashes n actors actor h idle = record {
  many = omega (arith, h.many, length-append actors (actor ∷ []));
  idle = All-push (IsIdle hashes) actors actor h.idle idle;
}

idle_at : (hashes : HashKind) (n : ℕ) (actors : List Actor) → AreIdle hashes n actors → (i : ℕ) (actor : Actor) → slice_get actors i ≡ Some actor → IsIdle hashes actor
idle_at hashes n actors h i actor found =
    subst (IsIdle hashes) (get_or_from_slice_get actors i actor actor found) (All-get_or (IsIdle hashes) actors i actor (slice_get_within actors i actor found) h.idle)

seated_at_first : (hashes : HashKind) (n : ℕ) (actors : List Actor) → AreIdle hashes n actors → AreSeated hashes actors
seated_at_first hashes n actors h i actor found =
    let idle = idle_at hashes n actors h i actor found in
    record {
      hashes_are = idle.hashes_are;
      number = λ u e. absurd (none-some u (sym idle.under_way ∙ e));
      sound = λ u e. absurd (none-some u (sym idle.under_way ∙ e));
      idle = λ e. idle.private;
    }

none_runs : (n i : ℕ) (operation : Operation) → get_or (replicate n None) i None ≡ Some operation → ⊥
none_runs zero i operation e = none-some operation e
none_runs (suc n) zero operation e = none-some operation e
none_runs (suc n) (suc i) operation e = none_runs n i operation e

nobody_runs : (state : State) (n actor : ℕ) (operation : Operation) → state.actors ≡ replicate n None → operation_of state actor ≡ Some operation → ⊥
nobody_runs state n zero operation is e = none-some operation e
nobody_runs state n (suc i) operation is e = none_runs n i operation (ap (λ os. get_or os i None) (sym is) ∙ e)

-- ---- the first state

abbrev pub first_root : Option Root
first_root = Some (record { access = Writable; word = Plain (ref_to 2 1) })

-- the parts of a machine at first
pub record AreFirst (limits : Bounds) (parts : Parts) : Type 0 where
  pub limits_are : parts.limits ≡ limits
  pub heap : parts.heap.heap ≡ first_heap limits.slots
  pub limbo : parts.heap.limbo ≡ []
  pub epoch : parts.heap.epoch ≡ 0
  pub cursor : parts.heap.cursor ≡ 1
  pub pins : parts.heap.pins ≡ replicate limits.actors None
  pub held : (r : Ref) → times r parts.heap.outside ≡ times r (ref_to 2 1 ∷ [])
  pub generations : parts.generations ≡ 1
  pub table : parts.table ≡ with_root_in (new_table limits.actors) 0 first_root
  pub actors : AreIdle limits.hash limits.actors parts.actors.items
  pub handles : parts.handles ≡ with_taken no_numbers 0 true
  pub steps : parts.steps ≡ 0
  pub begun : parts.begun ≡ 0

none_at_first : (limits : Bounds) (parts : Parts) → AreFirst limits parts → (seen parts).actors ≡ replicate limits.actors None
none_at_first limits parts h = none_seen parts.table limits.hash parts.actors.items h.actors.idle ∙ ap (λ n. replicate n None) h.actors.many

pub seen_first : (limits : Bounds) (parts : Parts) → AreFirst limits parts → seen parts ≡ first_state limits
unfolding first_state
seen_first limits parts h =
    rw (none_at_first limits parts h, h.limits_are, h.heap, h.limbo, h.epoch, h.cursor, h.generations, h.table, h.begun, h.steps) refl

pub kept_first : (limits : Bounds) (parts : Parts) → AreFirst limits parts → IsKept parts
kept_first limits parts h =
    let none = none_at_first limits parts h in
    record {
      tied = record {
        held = λ r. omega (
          arith,
          h.held r,
          ap (λ (t : Table). times r (root_refs t.roots)) h.table,
          ap (times r) (first_root_refs first_root (ref_to 2 1) refl),
          ap (λ os. times r (private_refs os)) none,
          ap (times r) (none_flat refs_of_operation None limits.actors refl),
        );
        pins = h.pins ∙ sym (none_pinned limits.actors) ∙ ap (map pin_of) (sym none);
      };
      seats = subst (λ (x : Bounds). AreSeated x.hash parts.actors.items) (sym h.limits_are) (seated_at_first limits.hash limits.actors parts.actors.items h.actors);
      noted = record {
        marks = ap (λ (t : Table). length t.marks) h.table ∙ length-replicate (limits.actors + 1) false ∙ ap (λ (x : Bounds). x.actors + 1) (sym h.limits_are);
        offerers = ap (λ (t : Table). length t.offerers) h.table ∙ length-replicate {A = ℕ} 256 0;
        carried = ap (λ (t : Table). t.carried) h.table;
      };
      offerers = λ handle offer stands actor operation found same. absurd (nobody_runs (seen parts) limits.actors actor operation none found);
      numbers = subst (λ (n : Numbers). KnowsNumbers n (seen parts)) (sym h.handles)
          (subst (KnowsNumbers (with_taken no_numbers 0 true)) (sym (seen_first limits parts h)) (known_first limits));
    }
