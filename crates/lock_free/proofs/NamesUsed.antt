-- What a main node names that is live: it is in use, and nothing stands there twice.
use Rattle.std.proofs.Common.{◌≡◌, ◌≤◌, ℕ, Bool, true, false, List, Contains, refl, sym, ap, subst, ◌∙◌, arith}
use Rattle.std.proofs.lemmas.Bool.{true≢false}
use Rattle.std.proofs.lemmas.List.Elements.{All-contains_itself, All-weaker}
use Rattle.trie_words.specs.declared.entries.Entry.{Entry}
use Rattle.machine_model.specs.Beneath.slot_arena.specs.declared.refs.Ref.{Ref}
use Rattle.machine_model.specs.Beneath.slot_arena.specs.declared.nodes.Node.{Node}
use Rattle.machine_model.specs.Beneath.slot_arena.specs.declared.nodes.Node.TheVariants.{Indirection, Branch, Single, Tomb, List as Listed}
use Rattle.machine_model.specs.Beneath.slot_arena.specs.declared.nodes.Slot.{Slot}
use Rattle.machine_model.specs.Beneath.slot_arena.specs.Heaps.{entries_of, node_at, refs_of_node}
use Rattle.proof_claims.proofs.NamesOnce.{names_once}
use Rattle.proof_memory.specs.Laws.{IsInUse, SameNode}
use Rattle.proof_memory.specs.Wants.{is_entry, is_main_node, node_wants, prev_wants}
use Rattle.proof_memory.proofs.Claims.Uses.{first_hold}
use Rattle.proof_memory.proofs.Safety.AtEachTime.{safe_along}
use Rattle.lock_free.specs.declared.rules.View.{View}
use Rattle.lock_free.specs.Accounts.{bounds_for}
use Rattle.lock_free.specs.Becoming.{Follows}
use Rattle.lock_free.specs.Counts.{how_often}
use Rattle.lock_free.specs.LettingGo.{names_of, taken_over}
use Rattle.lock_free.specs.Live.{IsLive}
use Rattle.lock_free.specs.Loading.{now, IsSound, IsUsed}
use Rattle.lock_free.specs.SeenEntries.{AreEntriesTo}
use Rattle.lock_free.proofs.EntriesTo.{Used, entries_on}
use Rattle.lock_free.proofs.Followings.{used_on}
use Rattle.lock_free.proofs.GivenBack.{node_is}
use Rattle.lock_free.proofs.Idle.{empty_has}
use Rattle.lock_free.proofs.MainNames.{entries_by}
use Rattle.lock_free.proofs.OneStep.Found.{live_used, slot_at}
use Rattle.lock_free.proofs.TakenItems.{once_in}

pub entry_stays : (a b : Node) → SameNode a b → is_entry a ≡ true → is_entry b ≡ true
entry_stays (Indirection generation main) b same e = ap is_entry same.1
entry_stays (Single key value) b same e = ap is_entry same.1
entry_stays (Branch bitmap entries) b same e = absurd (true≢false (sym e))
entry_stays (Tomb single) b same e = absurd (true≢false (sym e))
entry_stays (Listed singles) b same e = absurd (true≢false (sym e))

-- a main node names its entries, or its single
named_all : (node : Node) → is_main_node node ≡ true → refs_of_node node ≡ entries_of node
named_all (Branch bitmap entries) e = refl
named_all (Tomb single) e = refl
named_all (Listed singles) e = refl
named_all (Indirection generation main) e = absurd (true≢false (sym e))
named_all (Single key value) e = absurd (true≢false (sym e))

-- ---- what a main node names that is live

module _ (n : ℕ) (v : View) (sound : IsSound n v) (r : Ref) (lives : IsLive (now v) r) (main : is_main_node (node_at (now v).heap r) ≡ true) where
  there : IsInUse (now v).heap r
  there = live_used v.sizes v.account sound.bounds r lives

  used : (slot : Slot) × IsUsed v r slot
  used = (there.0, slot_at (now v).heap r there.0 there.1)

  pub names_used : (k : Ref) → Contains (names_of v r) k → (slot : Slot) × IsUsed v k slot × (is_entry slot.node ≡ true)
  unfolding there used
  names_used k c =
      let heap = (now v).heap in
      let node = node_is (now v) r used.0 used.1 in
      let wants = ((safe_along (bounds_for v.sizes v.account.steps) sound.bounds v.account.steps).nodes r there.0 there.1).0 in
      let its = entries_by heap there.0.node (first_hold (IsInUse heap) heap (node_wants there.0.node) (prev_wants there.0.prev) wants) k
      (subst (λ ks. Contains ks k) (ap refs_of_node node ∙ named_all there.0.node (sym (ap is_main_node node) ∙ main)) c) in
      let found = slot_at heap k its.0.0 its.0.1 in
      (its.0.0, found, subst (λ x. is_entry x ≡ true) (node_is (now v) k its.0.0 found) its.1)

  pub names_differ : (k : Ref) → how_often k (names_of v r) ≤ 1
  names_differ k = once_in k (names_of v r) (names_once (bounds_for v.sizes v.account.steps) sound.bounds v.account.steps sound.keys r there)

  pub over_used : (own : Bool) (k : Ref) → Contains (taken_over v own r) k → (slot : Slot) × IsUsed v k slot × (is_entry slot.node ≡ true)
  over_used true k c = names_used k c
  over_used false k c = absurd (empty_has k c)

  pub over_differs : (own : Bool) (k : Ref) → how_often k (taken_over v own r) ≤ 1
  over_differs true k = names_differ k
  over_differs false k = omega arith

  pub named_over : (own : Bool) (k : Ref) → Contains (taken_over v own r) k → Contains (names_of v r) k
  named_over true k c = c
  named_over false k c = absurd (empty_has k c)

-- these lead there still
pub still_lead : (v w y : View) → Follows v w → Follows w y → (entries : List Entry) (refs : List Ref) → ((k : Ref) → Contains refs k → (slot : Slot) × IsUsed v k slot × (is_entry slot.node ≡ true)) →
    AreEntriesTo w entries refs → AreEntriesTo y entries refs
still_lead v w y f g entries refs used h =
    entries_on w y g entries refs (All-weaker (Contains refs) (Used w) (λ k c. used_on v w f k (let u = used k c in (u.0, u.1))) refs (All-contains_itself refs)) h
