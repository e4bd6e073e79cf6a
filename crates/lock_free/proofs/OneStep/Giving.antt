-- The nodes that an operation gives up, by their numbers.
use Rattle.std.proofs.Common.{◌≡◌, ◌==◌, ◌<◌, ◌≤◌, ℕ, zero, suc, true, false, List, [], ◌∷◌, All, Contains, length, map, get_or, sym, ap, subst, ◌∙◌, eq-eqb, arith}
use Rattle.std.specs.List.{list_any}
use Rattle.std.proofs.lemmas.Bool.{ne_eqb}
use Rattle.std.proofs.lemmas.List.Elements.{All-contains, All-tail, Contains-get_or}
use Rattle.std.proofs.Math.ListN.{get_or-map}
use Rattle.std.proofs.lemmas.List.{length-map}
use Rattle.std.proofs.lemmas.List.Folds.{list_any_none, list_any_at}
use Rattle.machine_model.specs.Beneath.slot_arena.specs.declared.refs.Ref.{Ref}
use Rattle.machine_model.specs.Beneath.slot_arena.specs.Heaps.{Heap}
use Rattle.machine_model.specs.Beneath.slot_arena.specs.Refs.{slot_of}
use Rattle.machine_model.specs.Beneath.slot_arena.specs.Times.{times}
use Rattle.machine_model.specs.Beneath.slot_arena.proofs.Times.{times-cons, once, once_same}
use Rattle.machine_model.specs.declared.operations.Operation.{Operation}
use Rattle.machine_model.specs.Machine.{AreBounds}
use Rattle.machine_model.proofs.Fates.{place_of_actor}
use Rattle.proof_memory.specs.Laws.{IsInUse}
use Rattle.proof_memory.proofs.Holding.Privates.{privates_once}
use Rattle.proof_memory.proofs.Safety.AtEachTime.{safe_along}
use Rattle.proof_waiting.specs.Beneath.proof_slots.proofs.Unswept.Kept.{one_ref}
use Rattle.lock_free.specs.declared.accounts.Account.{Account}
use Rattle.lock_free.specs.declared.sizes.Sizes.{Sizes}
use Rattle.lock_free.specs.Accounts.{bounds_for, state_of, running}
use Rattle.lock_free.specs.Rules.{Once}
use Rattle.lock_free.specs.Steps.{Dropped}

-- the nodes in the slots of these
abbrev pub is_one_of : List Ref → Dropped
is_one_of rs k = list_any (λ r. slot_of r == k) rs

pub one_of_them : (rs : List Ref) (r : Ref) → Contains rs r → is_one_of rs (slot_of r) ≡ true
one_of_them rs r (k, within, at_k) = list_any_at (λ x. slot_of x == slot_of r) rs k r within (eq-eqb (slot_of (get_or rs k r)) (slot_of r) (ap slot_of at_k))

-- what is in use and none of these, which are in use too, has another number
pub none_of_them : (heap : Heap) (rs : List Ref) → All (IsInUse heap) rs → (r : Ref) → IsInUse heap r → (Contains rs r → ⊥) → is_one_of rs (slot_of r) ≡ false
none_of_them heap rs all r used apart =
    list_any_none (λ x. slot_of x == slot_of r) rs
    (λ k d within.
    ne_eqb (slot_of (get_or rs k d)) (slot_of r)
    (λ same.
    let has = Contains-get_or rs k d within in
    apart (subst (Contains rs) (one_ref heap (get_or rs k d) r (All-contains (IsInUse heap) rs (get_or rs k d) all has) used same) has)))

-- ---- no two of an operation's have one number

stands_once : (rs : List Ref) (k : ℕ) (r : Ref) → k < length rs → get_or rs k r ≡ r → 1 ≤ times r rs
stands_once [] k r within at_k = absurd (omega (arith, within))
stands_once (q ∷ rs) zero r within at_k = omega (arith, times-cons r q rs, ap (once r) at_k, once_same r)
stands_once (q ∷ rs) (suc k) r within at_k = let rest = stands_once rs k r (omega (arith, within)) at_k in omega (arith, times-cons r q rs, rest)

apart_by : (heap : Heap) (rs : List Ref) → All (IsInUse heap) rs → ((r : Ref) → times r rs ≤ 1) → Once (map slot_of rs)
apart_by heap [] used few = tt
apart_by heap (r ∷ rs) used few = (
  λ (k, within, at_k).
      let low : k < length rs = omega (arith, within, length-map rs slot_of) in
      let same : slot_of (get_or rs k r) ≡ slot_of r = sym (get_or-map slot_of rs k r) ∙ at_k in
      let is = one_ref heap (get_or rs k r) r (used (suc k) r (omega (arith, low))) (used 0 r (omega arith)) same in
      let more = stands_once rs k r low is in
      omega (arith, few r, times-cons r r rs, once_same r, more),
  apart_by heap rs (All-tail (IsInUse heap) r rs used) (λ q. let all = few q in omega (arith, all, times-cons q r rs)),
)

pub private_apart : (sizes : Sizes) (account : Account) → AreBounds (bounds_for sizes account.steps) → (actor : ℕ) (operation : Operation) → running sizes account actor operation →
    Once (map slot_of operation.private)
private_apart sizes account bounds actor operation runs =
    let (k, own, at_k) = place_of_actor (state_of sizes account) actor operation runs in
    apart_by (state_of sizes account).heap operation.private ((safe_along (bounds_for sizes account.steps) bounds account.steps).privates k operation at_k)
    (λ r. privates_once (bounds_for sizes account.steps) account.steps actor operation r bounds runs)
