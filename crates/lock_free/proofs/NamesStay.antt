-- Main nodes name what they named, and so what a seat holds of them is the same, said later.
use Rattle.history.specs.declared.calls.Call.{Call}
use Rattle.std.proofs.Common.{◌≡◌, ◌<◌, ℕ, Bool, true, false, List, Contains, length, slice_index_or, sym, ap, subst, ◌∙◌, refl}
use Rattle.std.proofs.lemmas.Bool.{true≢false}
use mathlib.Core.Option.{some}
use lib.ListN.{get_elem?}
use Rattle.atomic_table.specs.Table as Table
use Rattle.machine_model.specs.Beneath.slot_arena.specs.declared.nodes.Node.{Node}
use Rattle.machine_model.specs.Beneath.slot_arena.specs.declared.nodes.Node.TheVariants.{Indirection, Branch, Single, Tomb, List as Listed}
use Rattle.machine_model.specs.Beneath.slot_arena.specs.declared.nodes.Slot.{Slot}
use Rattle.machine_model.specs.Beneath.slot_arena.specs.declared.refs.Ref.{Ref}
use Rattle.machine_model.specs.Beneath.slot_arena.specs.Heaps.{entries_of, entry_at, no_ref, node_at, refs_of_node, with_main_word}
use Rattle.machine_model.specs.Beneath.slot_arena.specs.Refs.{slot_of}
use Rattle.machine_model.specs.declared.lines.Line.TheVariants as line
use Rattle.machine_model.specs.declared.lines.Purpose.{Purpose}
use Rattle.machine_model.specs.declared.operations.Operation.{Operation}
use Rattle.machine_model.specs.declared.reading.Swap.{Swap}
use Rattle.machine_model.specs.Machine.{AreBounds}
use Rattle.proof_memory.specs.Wants.{AllHold, is_branch_or_list, is_main_node, line_wants, purpose_wants, swap_wants}
use Rattle.proof_memory.proofs.Claims.Uses.{first_hold, meets_of, safe_of}
use Rattle.lock_free.specs.declared.accounts.Account.{Account}
use Rattle.lock_free.specs.declared.leaving.Drops.{Drops}
use Rattle.lock_free.specs.declared.leaving.Drops.TheVariants as drops
use Rattle.lock_free.specs.declared.rules.View.{View}
use Rattle.lock_free.specs.declared.sizes.Sizes.{Sizes}
use Rattle.lock_free.specs.Accounts.{bounds_for, running, state_of}
use Rattle.lock_free.specs.Becoming.{Follows}
use Rattle.lock_free.specs.Dropping.{AreDropped}
use Rattle.lock_free.specs.LettingGo.{names_of, taken_over, HoldsLeft}
use Rattle.lock_free.specs.Live.{IsLive}
use Rattle.lock_free.specs.Loading.{now, IsUsed}
use Rattle.lock_free.specs.Rules.{IsKept}
use Rattle.lock_free.proofs.Asked.{line_stands, live_in_use, nodes_stay}
use Rattle.lock_free.proofs.GivenBack.{node_is}
use Rattle.lock_free.proofs.Moments.{before, seat}

main_stays : (r : Ref) (n : Node) → is_main_node n ≡ true → with_main_word r n ≡ n
main_stays r (Indirection generation main) e = absurd (true≢false (sym e))
main_stays r (Branch bitmap entries) e = refl
main_stays r (Single key value) e = absurd (true≢false (sym e))
main_stays r (Tomb single) e = refl
main_stays r (Listed singles) e = refl

-- the nodes of a SWAP are live
pub swap_live : (sizes : Sizes) (account : Account) → AreBounds (bounds_for sizes account.steps) → (actor : ℕ) (o : Operation) → running sizes account actor o → (why : Purpose) (w : Swap) →
    o.line ≡ line.Swap why w → AllHold (IsLive (state_of sizes account)) (state_of sizes account).heap (swap_wants w)
swap_live sizes account bounds actor o runs why w on =
    let state = state_of sizes account in
    first_hold (IsLive state) state.heap (swap_wants w) (purpose_wants why)
    (subst (λ l. AllHold (IsLive state) state.heap (line_wants state.limits.hash o.call o.access l)) on (line_stands sizes account bounds actor o runs))

-- ---- where more has happened

module _ (v w : View) (f : Follows v w) where
  node_on : (r : Ref) → (slot : Slot) × IsUsed v r slot → is_main_node (node_at (now v).heap r) ≡ true → node_at (now w).heap r ≡ node_at (now v).heap r
  node_on r (slot, used) main =
      let y = f.nodes r slot used in
      node_is (now w) r y.0 y.1 ∙ y.2.1 ∙ ap (with_main_word y.2.0) (sym (node_is (now v) r slot used)) ∙ main_stays y.2.0 (node_at (now v).heap r) main

  pub names_on : (r : Ref) → (slot : Slot) × IsUsed v r slot → is_main_node (node_at (now v).heap r) ≡ true → names_of w r ≡ names_of v r
  names_on r used main = ap refs_of_node (node_on r used main)

  module _ (m n : Ref) (same_m : names_of w m ≡ names_of v m) (same_n : names_of w n ≡ names_of v n) (owed : List Ref) where
    over_on : (own : Bool) (k : Ref) → Contains (taken_over w own m) k → Contains (taken_over v own m) k
    over_on true k c = subst (λ ks. Contains ks k) same_m c
    over_on false k c = c

    pub left_on : (own committed : Bool) → HoldsLeft w own m n committed owed → HoldsLeft v own m n committed owed
    left_on true true h = λ k c apart. h k (subst (λ ks. Contains ks k) (sym same_m) c) (λ d. apart (subst (λ ks. Contains ks k) same_n d))
    left_on false true h = h
    left_on own false h = λ k c apart. h k (subst (λ ks. Contains ks k) (sym same_n) c) (λ d. apart (over_on own k d))

-- what is said to be dropped
dropped_same : (v w : View) (m n : Ref) (d : Drops) → node_at (now w).heap m ≡ node_at (now v).heap m → names_of w n ≡ names_of v n → AreDropped v m n d → AreDropped w m n d
dropped_same v w m n drops.Nothing same_m same_n h = λ k c. subst (λ ks. Contains ks k) (sym same_n) (h k (subst (λ ks. Contains ks k) (ap refs_of_node same_m) c))
dropped_same v w m n drops.Others same_m same_n h = tt
dropped_same v w m n (drops.At position) same_m same_n h = record {
  kind = ap is_branch_or_list same_m ∙ h.kind;
  inside = subst (λ x. position < length (entries_of x)) (sym same_m) h.inside;
  low = h.low;
  out = λ c. h.out (subst (Contains (names_of v n)) (ap (λ x. slice_index_or (entries_of x) position no_ref) same_m) (subst (λ ks. Contains ks (entry_at (now w).heap m position)) same_n c));
  rest = λ k c apart. subst (λ ks. Contains ks k) (sym same_n)
      (h.rest k (subst (λ ks. Contains ks k) (ap refs_of_node same_m) c) (λ e. apart (e ∙ sym (ap (λ x. slice_index_or (entries_of x) position no_ref) same_m))));
}

-- the nodes of its SWAP
module _ (v w : View) (f : Follows v w) (bounds : AreBounds (bounds_for v.sizes v.account.steps)) (o : Operation) (runs : running v.sizes v.account v.actor o) (why : Purpose) (s : Swap)
    (on : o.line ≡ line.Swap why s) where
  pub swap_names : (r : Ref) → IsLive (now v) r → is_main_node (node_at (now v).heap r) ≡ true → names_of w r ≡ names_of v r
  swap_names r lives main = let used = live_in_use v.sizes v.account bounds r lives in names_on v w f r (used.0, used.1) main

  pub swap_left : (own committed : Bool) (owed : List Ref) → HoldsLeft w own s.replaced s.fresh committed owed → HoldsLeft v own s.replaced s.fresh committed owed
  swap_left own committed owed =
      let lives = swap_live v.sizes v.account bounds v.actor o runs why s on in
      left_on v w f s.replaced s.fresh (swap_names s.replaced (safe_of lives.1.0) (meets_of lives.1.0)) (swap_names s.fresh (safe_of lives.1.1.0) (meets_of lives.1.1.0)) owed own committed

  pub swap_dropped : (d : Drops) → AreDropped v s.replaced s.fresh d → AreDropped w s.replaced s.fresh d
  swap_dropped d =
      let lives = swap_live v.sizes v.account bounds v.actor o runs why s on in
      let used = live_in_use v.sizes v.account bounds s.replaced (safe_of lives.1.0) in
      dropped_same v w s.replaced s.fresh d (node_on v w f s.replaced (used.0, used.1) (meets_of lives.1.0)) (swap_names s.fresh (safe_of lives.1.1.0) (meets_of lives.1.1.0))

-- ---- since the seat looked last

module _ (v : View) (s : Table.State Call View) (kept : IsKept v.sizes s) (id : ℕ) (at : get_elem? s.views id ≡ some v) where
  pub names_same : (x : Ref) → IsLive (now v) x → is_main_node (node_at (now v).heap x) ≡ true → names_of v x ≡ refs_of_node (node_at (state_of v.sizes kept.account).heap x)
  names_same x lives main =
      let was = live_in_use v.sizes v.account (before v s kept id at) x lives in
      let later = nodes_stay v.sizes v.actor v.account kept.account (seat v s kept id at).waited kept.bounds (slot_of x) was.0 was.1 in
      ap refs_of_node
      (sym (main_stays later.2.0 (node_at (now v).heap x) main) ∙ ap (with_main_word later.2.0) (node_is (now v) x was.0 was.1) ∙ sym later.2.1
      ∙ sym (node_is (state_of v.sizes kept.account) x later.0 later.1))
