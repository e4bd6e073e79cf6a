-- What a main node names that BUILD makes from another: what its operation has made, or entries of that one, which the new one takes over, or which are shared.
use Rattle.std.proofs.Common.{◌≡◌, ◌⊎◌, ◌<◌, ◌≤◌, ◌==◌, ◌∷◌, if◌then◌else◌, [], inl, inr, ℕ, Bool, true, false, List, Contains, drop, length, take, refl, sym, ap, subst, ◌∙◌}
use Rattle.std.proofs.lemmas.List.{take-append-drop}
use Rattle.std.proofs.lemmas.List.Elements.{All-contains, Contains-append_left}
use Rattle.std.proofs.lemmas.Bool.{true≢false}
use Rattle.std.proofs.lemmas.Option.{same_Some}
use Rattle.trie_words.specs.declared.entries.Entry.{Entry}
use Rattle.trie_words.specs.declared.headers.Shape.{Shape}
use Rattle.trie_words.specs.declared.names.Name.{Name}
use Rattle.machine_model.specs.Beneath.slot_arena.specs.declared.nodes.Node.{Node}
use Rattle.machine_model.specs.Beneath.slot_arena.specs.declared.nodes.Node.TheVariants.{Indirection, Branch, Single, Tomb, List as Listed}
use Rattle.machine_model.specs.Beneath.slot_arena.specs.declared.nodes.Slot.{Slot}
use Rattle.machine_model.specs.Beneath.slot_arena.specs.declared.refs.Ref.{Ref}
use Rattle.machine_model.specs.Beneath.slot_arena.specs.Heaps.{Heap, entries_from, entries_of, node_at, refs_of_node}
use Rattle.machine_model.specs.declared.building.BuildLine.{BuildLine}
use Rattle.machine_model.specs.declared.building.BuildLine.TheVariants as build
use Rattle.machine_model.specs.declared.lines.Line.TheVariants as line
use Rattle.machine_model.specs.declared.operations.Operation.{Operation}
use Rattle.machine_model.specs.Operations.{action_of}
use Rattle.machine_model.specs.Paths.{current}
use Rattle.machine_model.specs.Beneath.ctrie_base.specs.declared.hashes.HashKind.{HashKind}
use Rattle.nodes.specs.Builders.{by_index, pair}
use Rattle.nodes.specs.Levels.{flag_of, index_in, list_depth}
use Rattle.std.specs.Prelude.{bit_or}
use Rattle.proof_claims.specs.Changes.{goal_of}
use Rattle.proof_memory.specs.Laws.{IsInUse}
use Rattle.proof_memory.specs.Wants.{AllHold, ASingle, is_branch_or_list, is_entry, meets, node_wants, prev_wants}
use Rattle.proof_memory.proofs.Claims.Uses.{all_of, first_hold, meets_of, safe_of}
use Rattle.proof_memory.proofs.Safety.AtEachTime.{safe_along}
use Rattle.lock_free.specs.declared.changing.Edit.{Edit}
use Rattle.lock_free.specs.declared.changing.Edit.TheVariants as edit
use Rattle.lock_free.specs.declared.rules.View.{View}
use Rattle.lock_free.specs.Accounts.{bounds_for, running, IsOwn}
use Rattle.lock_free.specs.Changing.{brought, count_in, edited, CanEdit, IsChanging}
use Rattle.lock_free.specs.Holding.{IsOn}
use Rattle.lock_free.specs.Live.{IsLive}
use Rattle.lock_free.specs.Loading.{now, Holds, IsSound, IsUsed}
use Rattle.lock_free.specs.OwesAt.{owes_at, owes_on}
use Rattle.lock_free.specs.Owing.{names_made, HoldsRaised, IsTakenOver}
use Rattle.lock_free.specs.Raising.{all_but, IsShared, MayHold, MayReplace}
use Rattle.lock_free.specs.SeenEntries.{HasSeenEntries}
use Rattle.lock_free.proofs.ApartEntries.{entries_apart, main_of_build}
use Rattle.lock_free.proofs.ChangedMains.{changing_on, edited_there, holds_main, its_node, kind, known_node, main_at_hand, main_still, make_there, o, size}
use Rattle.lock_free.proofs.EditedRefs.{new_or_other, other_before}
use Rattle.lock_free.proofs.GivenBack.{node_is}
use Rattle.lock_free.proofs.LeftWords.{single_entry}
use Rattle.lock_free.proofs.MainChanges.{refs_edited}
use Rattle.lock_free.proofs.Idle.{empty_has}
use Rattle.lock_free.proofs.OneStep.Found.{live_used, slot_at}
use Rattle.lock_free.proofs.OnLines.{line_is}
use Rattle.lock_free.proofs.Pools.{one_there}
use Rattle.lock_free.proofs.TombSingles.{same_kind}
use Rattle.lock_free.proofs.Within.{held_lives}

-- ---- two singles

-- a pair names its entries
pub pair_named : (kind : HashKind) (d a b : ℕ) (x y k : Ref) → Contains (refs_of_node (pair kind d a b x y)) k → Contains (entries_of (pair kind d a b x y)) k
pair_named kind d a b x y k = by (d == list_depth kind)
  where
    by : (o : Bool) → Contains (refs_of_node (if o then Listed (entries_from (x ∷ y ∷ []))
        else Branch (bit_or (flag_of a d) (flag_of b d)) (entries_from (by_index (index_in a d) (index_in b d) x y)))) k →
        Contains (entries_of (if o then Listed (entries_from (x ∷ y ∷ [])) else Branch (bit_or (flag_of a d) (flag_of b d)) (entries_from (by_index (index_in a d) (index_in b d) x y)))) k
    by true c = c
    by false c = c

-- ---- the entries of a main node

pub entry_named : (node : Node) → is_branch_or_list node ≡ true → (k : Ref) → Contains (entries_of node) k → Contains (refs_of_node node) k
entry_named (Branch bitmap entries) is k c = c
entry_named (Listed singles) is k c = c
entry_named (Indirection generation main) is k c = absurd (true≢false (sym is))
entry_named (Single key value) is k c = absurd (true≢false (sym is))
entry_named (Tomb single) is k c = absurd (true≢false (sym is))

-- a node has room for so many
pub taken_in : (rs : List Ref) (k : Ref) → Contains (take 32 rs) k → Contains rs k
taken_in rs k c = subst (λ xs. Contains xs k) (take-append-drop 32 rs) (Contains-append_left (take 32 rs) (drop 32 rs) k c)

-- what it wants of each
pub entries_by : (heap : Heap) (node : Node) → AllHold (IsInUse heap) heap (node_wants node) → (k : Ref) → Contains (entries_of node) k → IsInUse heap k × (is_entry (node_at heap k) ≡ true)
entries_by heap (Branch bitmap entries) all k c = All-contains (λ q. IsInUse heap q × (is_entry (node_at heap q) ≡ true)) entries.items k (all_of all.0) c
entries_by heap (Listed singles) all k c =
    let h = All-contains (λ q. IsInUse heap q × (meets ASingle (node_at heap q) ≡ true)) singles.items k (all_of all.0) c in (h.0, single_entry (node_at heap k) (same_kind (node_at heap k) h.1))
entries_by heap (Indirection generation main) all k c = absurd (empty_has k c)
entries_by heap (Single key value) all k c = absurd (empty_has k c)
entries_by heap (Tomb single) all k c =
    let same = one_there single k c in (
      subst (IsInUse heap) (sym same) (safe_of all.0),
      subst (λ q. is_entry (node_at heap q) ≡ true) (sym same) (single_entry (node_at heap single) (same_kind (node_at heap single) (meets_of all.0))),
    )

-- each is in use, and a single or an indirection
pub entry_there : (n : ℕ) (v : View) → IsSound n v → (main : Ref) (slot : Slot) → IsUsed v main slot → is_branch_or_list slot.node ≡ true → (k : Ref) → Contains (entries_of slot.node) k →
    IsLive (now v) main → (other : Slot) × IsUsed v k other × (is_entry other.node ≡ true)
entry_there n v sound main slot used is k c lives =
    let heap = (now v).heap in
    let there = live_used v.sizes v.account sound.bounds main lives in
    let same = same_Some there.0 slot (sym (slot_at heap main there.0 there.1) ∙ used) in
    let wants = ((safe_along (bounds_for v.sizes v.account.steps) sound.bounds v.account.steps).nodes main there.0 there.1).0 in
    let its = entries_by heap there.0.node (first_hold (IsInUse heap) heap (node_wants there.0.node) (prev_wants there.0.prev) wants) k
    (subst (λ (s : Slot). Contains (entries_of s.node) k) (sym same) c) in
    let found = slot_at heap k its.0.0 its.0.1 in
    (its.0.0, found, subst (λ x. is_entry x ≡ true) (node_is (now v) k its.0.0 found) its.1)

can_same : (entries : List Entry) (refs : List Ref) (place : ℕ) → length entries ≡ length refs → (e : Edit) → CanEdit entries place e → CanEdit refs place e
can_same entries refs place same (edit.Insert entry) (low, room) = (subst (λ k. place ≤ k) same low, subst (λ k. k < 32) same room)
can_same entries refs place same (edit.Update position entry) low = subst (λ k. position < k) same low
can_same entries refs place same (edit.Remove position) low = subst (λ k. position < k) same low
can_same entries refs place same (edit.Entomb single) can = tt

-- on a line of BUILD none is private
pub build_shared : (n : ℕ) (v : View) → IsSound n v → (b : BuildLine) → IsOn v (line.Build b) → (k : Ref) → Contains (entries_of (node_at (now v).heap (main_of_build b))) k → IsShared v k
build_shared n v sound b on k c operation runs =
    entries_apart (bounds_for v.sizes v.account.steps) sound.bounds v.account.steps v.actor operation runs b (line_is v (line.Build b) on operation (operation.is_marked, runs)) k c

-- ---- the node that comes of it

module _ (n : ℕ) (v : View) (sound : IsSound n v) (name : Name) (what : Shape) (flag : ℕ) (e : Edit) (h : IsChanging v name what flag e) (refs : List Ref)
    (refs_are : entries_of h.known.slot.node ≡ refs) (counted : count_in what ≡ length refs) (few : length refs ≤ 32) (w : View) (entries : List Entry)
    (g : HasSeenEntries v name.slot (count_in what) entries w) (sound_w : IsSound n w) (place : ℕ) (can_entries : CanEdit entries place e) (node : Node)
    (is_node : its_node n v sound name what flag e h ≡ node) (names : (k : Ref) → Contains (refs_of_node node) k → Contains (refs_edited refs place h.its) k) where
  abbrev h_w : IsChanging w name what flag e
  h_w = changing_on n v sound name what flag e h w g.0

  can : CanEdit refs place e
  can = can_same entries refs place (size n v sound name what flag e h refs refs_are counted few w entries g) e can_entries

  abbrev edited_refs : List Ref
  edited_refs = refs_edited refs place h.its

  its_line : (operation : Operation) → running w.sizes w.account w.actor operation → operation.line ≡ line.Build (build.Main h.path h.main h.its h.former)
  its_line operation runs = line_is w (line.Build (build.Main h.path h.main h.its h.former)) h_w.on operation (operation.is_marked, runs)

  named : (operation : Operation) → running w.sizes w.account w.actor operation → (k : Ref) → Contains (names_made (action_of (now w) operation)) k → Contains edited_refs k
  named operation runs k c =
      let at = make_there n v sound name what flag e h refs refs_are counted few w entries g sound_w in
      let same = same_Some at.operation operation (sym at.runs ∙ runs) in
      names k (subst (λ ks. Contains ks k) (ap names_made (ap (action_of (now w)) (sym same) ∙ at.acts) ∙ ap refs_of_node is_node) c)

  owed : (operation : Operation) → running w.sizes w.account w.actor operation → (k : Ref) → Contains (names_made (action_of (now w) operation)) k →
      Contains (owes_at operation) k ⊎ Contains (all_but (brought place e) edited_refs) k
  owed operation runs k c = elim (new_or_other k v refs place e h.its h.is_change can (named operation runs k c)) [
    | inl new ↦ inl (subst (λ l. Contains (owes_on operation.private l) k) (sym (its_line operation runs)) new)
    | inr other ↦ inr other
  ]

  before : (k : Ref) → Contains (all_but (brought place e) edited_refs) k → Contains refs k
  before k c = other_before k v refs place e h.its h.is_change can c

  -- the main node has it
  its_entry : (k : Ref) → Contains refs k → Contains (entries_of (node_at (now w).heap h.main)) k
  its_entry k c =
      subst (λ x. Contains (entries_of x) k) (sym (main_still n v sound name what flag e h w g.0 ∙ known_node n v sound name what flag e h)) (subst (λ ks. Contains ks k) (sym refs_are) c)

  slot_entry : (k : Ref) → Contains refs k → Contains (entries_of h_w.known.slot.node) k
  slot_entry k c = subst (λ x. Contains (entries_of x) k) (known_node n w sound_w name what flag e h_w) (its_entry k c)

  taken_over : name.own ≡ true → (operation : Operation) → running w.sizes w.account w.actor operation → (k : Ref) → Contains refs k → IsTakenOver w operation.line k
  taken_over own operation runs k c = (
    current h.path,
    h.main,
    ap goal_of (its_line operation runs),
    subst (λ b. IsOwn w.account (current h.path) h.main b) own h_w.names.is_own,
    subst (λ x. Contains (refs_of_node x) k) (sym (known_node n w sound_w name what flag e h_w))
        (entry_named h_w.known.slot.node (kind n w sound_w name what flag e h_w) k (slot_entry k c)),
  )

  pub own_holds : name.own ≡ true → HoldsRaised w
  own_holds own operation runs k c = elim (owed operation runs k c) [
    | inl new ↦ inl new
    | inr other ↦ inr (inr (taken_over own operation runs k (before k other)))
  ]

  held : (k : Ref) → Contains refs k → Holds w k
  held k c = (o n w sound_w name what flag e h_w, h_w.on.1.1, inr (h.main, h_w.known.slot, main_at_hand n w sound_w name what flag e h_w, h_w.known.used, slot_entry k c))

  pub shared_holds : MayHold w (edited entries place e) (brought place e)
  shared_holds = record {
    refs = edited_refs;
    may = record {
      lead = record {
        named = edited_there n v sound name what flag e h refs refs_are counted few w entries g place;
        used = λ k c. entry_there n w sound_w h.main h_w.known.slot h_w.known.used (kind n w sound_w name what flag e h_w) k (slot_entry k (before k c))
            (held_lives w h.main (holds_main n w sound_w name what flag e h_w));
        shared = λ k c. build_shared n w sound_w (build.Main h.path h.main h.its h.former) h_w.on k (its_entry k (before k c));
      };
      held = λ k c. held k (before k c);
    };
    names = λ operation runs k c. elim (owed operation runs k c) [
      | inl new ↦ inl new
      | inr other ↦ inr (inl other)
    ];
  }

  pub may_replace : MayReplace w name.own (edited entries place e) (brought place e)
  may_replace = by name.own refl
    where
      by : (own : Bool) → name.own ≡ own → MayReplace w own (edited entries place e) (brought place e)
      by true is = own_holds is
      by false is = shared_holds
