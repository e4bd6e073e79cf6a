-- BUILD beside another single: what is made first, for both.
use Rattle.std.proofs.Common.{◌≡◌, ◌<◌, ◌≤◌, ◌+◌, ◌-◌, ◌==◌, ◌∷◌, inl, inr, ℕ, zero, suc, Bool, true, false}
use Rattle.std.proofs.Common.{List, [], Option, Some, None, refl, sym, ap, ap₂, subst, ◌∙◌, length, Contains, get_or, if◌then◌else◌, arith}
use Rattle.std.proofs.lemmas.Bool.{true≢false}
use Rattle.std.proofs.lemmas.Option.{same_Some}
use Rattle.std.proofs.lemmas.List.Elements.{Contains-get_or, Contains-append_left, Contains-append_right}
use Rattle.arrayvec.specs.ArrayVec.{ArrayVec}
use Rattle.trie_words.specs.declared.entries.Entry.{Entry}
use Rattle.machine_model.specs.Beneath.ctrie_base.specs.Hashes.{hash_of}
use Rattle.machine_model.specs.Beneath.slot_arena.specs.declared.refs.Ref.{Ref}
use Rattle.machine_model.specs.Beneath.slot_arena.specs.declared.nodes.Node.{Node}
use Rattle.machine_model.specs.Beneath.slot_arena.specs.declared.nodes.Node.TheVariants.{Indirection, Branch, Single, Tomb, List as Listed}
use Rattle.machine_model.specs.Beneath.slot_arena.specs.declared.nodes.Slot.{Slot}
use Rattle.machine_model.specs.Beneath.slot_arena.specs.Heaps.{no_ref, with_main_word, node_at, entry_at, entries_of}
use Rattle.machine_model.specs.declared.actions.Action.TheVariants as act
use Rattle.machine_model.specs.declared.building.BuildLine.TheVariants as build
use Rattle.machine_model.specs.declared.building.Change.TheVariants as change
use Rattle.machine_model.specs.declared.lines.Line.{Line}
use Rattle.machine_model.specs.declared.lines.Line.TheVariants as line
use Rattle.machine_model.specs.declared.operations.Operation.{Operation}
use Rattle.machine_model.specs.Building.{key_in, old_hash}
use Rattle.machine_model.specs.Calls.{key_of}
use Rattle.machine_model.specs.Operations.{action_of, line_action}
use Rattle.machine_model.specs.Paths.{depth_of, hash_in}
use Rattle.nodes.specs.Builders.{pair}
use Rattle.nodes.specs.Levels.{index_in, list_depth, parting}
use Rattle.proof_linearizable.specs.Beneath.proof_contents.specs.Lines.Changes.{Known, KnowsBuild, KnowsLine, Neighbour}
use Rattle.proof_linearizable.specs.Beneath.proof_shape.proofs.Runs.Entries.{pair_entries}
use Rattle.proof_memory.specs.Laws.{IsInUse}
use Rattle.proof_memory.specs.Wants.{AllHold, Holds as Claimed, EntryIs, ASingle, entry_is, is_branch, is_branch_or_list, line_wants}
use Rattle.proof_memory.proofs.Claims.Uses.{safe_of, meets_of}
use Rattle.lock_free.specs.declared.building.Builder.{Builder}
use Rattle.lock_free.specs.declared.reading.Given.{Given}
use Rattle.lock_free.specs.declared.reclaiming.Kind.TheVariants as kinds
use Rattle.lock_free.specs.declared.rules.View.{View}
use Rattle.lock_free.specs.Accounts.{place_of}
use Rattle.lock_free.specs.Becoming.{HasNew}
use Rattle.lock_free.specs.BuildingUp.{HasLedOrNone, HasLinked, HasPaired, HasReached, IsAtLink, IsAtPair, IsBuilder, IsMain, MakesPair}
use Rattle.lock_free.specs.Changing.{HasBuilt}
use Rattle.lock_free.specs.Entries.{HasStayed, entry_in, IsEntryIn, HoldsEntry, HasSeenEntry}
use Rattle.lock_free.specs.Holding.{IsOn}
use Rattle.lock_free.specs.Live.{IsLive, at_hand, line_claims, refs_of_claims}
use Rattle.lock_free.specs.Loading.{now, IsAt, IsSound, IsUsed, Holds, HoldsSlot, HasSeenKey, HasPosition}
use Rattle.lock_free.specs.Nodes.{class_of}
use Rattle.lock_free.specs.OwesAt.{owes_on}
use Rattle.lock_free.specs.Owing.{names_made}
use Rattle.lock_free.specs.Raising.{MayHoldOne}
use Rattle.lock_free.specs.Reclaiming.{kind_of_node}
use Rattle.lock_free.specs.SeenEntries.{entry_to, unowned}
use Rattle.lock_free.specs.Stocks.{Stocked, IsStock}
use Rattle.lock_free.proofs.StockStays.{stock_stayed}
use Rattle.lock_free.proofs.AllEntries.{entry_same, holds_on}
use Rattle.lock_free.proofs.Asked.{live_in_use}
use Rattle.lock_free.proofs.Comings.{saw_runs}
use Rattle.lock_free.proofs.Counts.{entries_few}
use Rattle.lock_free.proofs.Followings.{follows_later, main_node_on}
use Rattle.lock_free.proofs.GivenBack.{node_is}
use Rattle.lock_free.proofs.KeyMoves.{hash_is}
use Rattle.lock_free.proofs.KnownLines.{known, knows, claimed, under}
use Rattle.lock_free.proofs.Laters.{later_both, saw_later}
use Rattle.lock_free.proofs.Leads.{over_none}
use Rattle.lock_free.proofs.OnLines.{line_is, finds_now, stays_on}
use Rattle.lock_free.proofs.Pools.{first_there}
use Rattle.lock_free.proofs.Reachings.{reached_both, reached_on, reached_new, reached_stayed, stopped_then, builder_then}
use Rattle.lock_free.proofs.Resting.{reached_rested}
use Rattle.lock_free.proofs.MainNames.{build_shared, pair_named}

-- ---- what the claims say

entry_inside : {S : Ref → Type 0} {main : Ref} {position : ℕ} (v : View) → Claimed S (now v).heap (EntryIs main position ASingle) →
    (position < length (entries_of (node_at (now v).heap main))) × S (entry_at (now v).heap main position)
entry_inside v (entry_is s within e meets) = (within, e)

branch_in : (node : Node) → is_branch node ≡ true → (bitmap : ℕ) × (es : ArrayVec Ref) × (node ≡ Branch bitmap es)
branch_in (Branch bitmap es) is = (bitmap, es, refl)
branch_in (Indirection generation main) is = absurd (true≢false (sym is))
branch_in (Single key value) is = absurd (true≢false (sym is))
branch_in (Tomb single) is = absurd (true≢false (sym is))
branch_in (Listed singles) is = absurd (true≢false (sym is))

least_parting : (left a b depth : ℕ) → depth ≤ parting left a b depth
least_parting zero a b depth = omega arith
least_parting (suc left) a b depth = by (index_in a depth == index_in b depth) (let rest = least_parting left a b (depth + 1) in omega (arith, rest))
  where
    by : (t : Bool) → depth ≤ parting left a b (depth + 1) → depth ≤ (if t then parting left a b (depth + 1) else depth)
    by true rest = rest
    by false rest = omega arith

-- an operation is at one pair
parts_in : Line → List Ref × Ref
parts_in (line.Build (build.Pair path main position single depth)) = (path, main)
parts_in l = ([], no_ref)

module _ (n : ℕ) (v : View) (sound : IsSound n v) (by : Builder) (given : Given) (position : ℕ) (single : Entry) (at : IsAtPair v by given position single) where
  abbrev path : List Ref
  path = at.0

  abbrev main : Ref
  main = at.1

  abbrev made : Ref
  made = at.2

  abbrev depth : ℕ
  depth = at.3

  abbrev l : Line
  l = line.Build (build.Pair path main position made depth)

  abbrev on : IsOn v l
  on = at.4

  abbrev b : IsBuilder v by path
  b = at.5

  abbrev m : IsMain v path main given
  m = at.6

  abbrev o : Operation
  o = record on.0 { is_marked = on.1.0 }

  claims : AllHold (IsLive (now v)) (now v).heap (line_wants v.sizes.hash on.0.call on.0.access l)
  claims = finds_now v l on n sound

  main_node : node_at (now v).heap main ≡ m.header.slot.node
  main_node = node_is (now v) main m.header.slot m.header.used

  branch : (bitmap : ℕ) × (es : ArrayVec Ref) × (m.header.slot.node ≡ Branch bitmap es)
  branch = branch_in m.header.slot.node (subst (λ x. is_branch x ≡ true) main_node (meets_of claims.1.1.0))

  inside : position < length (entries_of m.header.slot.node)
  inside = subst (λ x. position < length (entries_of x)) main_node (entry_inside v claims.1.1.1.0).0

  abbrev old : Ref
  old = entry_in v main position

  pub old_used : (slot : Slot) × IsUsed v old slot
  old_used = live_in_use v.sizes v.account sound.bounds old (entry_inside v claims.1.1.1.0).1

  main_at_hand : Contains (at_hand (now v) o) main
  main_at_hand =
      Contains-append_left (refs_of_claims (line_claims (now v) o)) o.private main
      (subst (λ (x : Line). Contains (refs_of_claims (line_claims (now v) (record o { line = x }))) main) (sym on.2)
      (Contains-append_right path (main ∷ main ∷ made ∷ []) main (first_there main (main ∷ made ∷ []))))

  held : HoldsEntry v main position
  held = record {
    slot = m.header.slot;
    used = m.header.used;
    holds = (o, on.1.1, inl main_at_hand);
    kind = ap is_branch_or_list branch.2;
    inside = inside;
  }

  pub position_small : position < 32
  position_small =
      let few = entries_few n v sound main m.header.slot m.header.used branch.0 branch.1 branch.2 in
      let low = subst (λ x. position < length (entries_of x)) branch.2 inside in
      omega (arith, few, low)

  pub pair_held : HasPosition v given.link.main.slot position
  unfolding held
  pair_held = (main, m.header.slot, held.holds, m.header.used, held.kind, inside, position_small, m.link.is.names.place)

  pub depth_small : by.depth < 14
  depth_small = b.short

  -- what its line knows
  abbrev K : Known
  K = known n v sound o on.1.1

  pair_known : KnowsBuild K o.call (build.Pair path main position made depth)
  pair_known = subst (KnowsLine K o.call) on.2 (knows n v sound o on.1.1)

  abbrev beside : Neighbour K (depth_of path) (key_of o.call) main position
  beside = pair_known.1.0

  used_claims : AllHold (IsInUse (now v).heap) (now v).heap (line_wants v.sizes.hash o.call o.access l)
  used_claims = subst (λ x. AllHold (IsInUse (now v).heap) (now v).heap (line_wants v.sizes.hash o.call o.access x)) on.2 (claimed n v sound o on.1.1)

  known_entries : beside.entries.items ≡ entries_of (node_at (now v).heap main)
  known_entries = ap entries_of (sym beside.branch.is ∙ under n v sound o on.1.1 main (safe_of used_claims.1.1.0))

  old_node : node_at (now v).heap old ≡ Single beside.other beside.own
  old_node =
      sym (under n v sound o on.1.1 old (entry_inside v used_claims.1.1.1.0).1) ∙ ap K.node (ap (λ es. get_or es position no_ref) (sym known_entries)) ∙ beside.is

  depth_known : depth ≡ parting (list_depth v.sizes.hash - (depth_of path + 1)) (hash_of v.sizes.hash beside.other) (hash_of v.sizes.hash (key_of o.call)) (depth_of path + 1)
  depth_known = pair_known.1.2

  old_there : Contains (entries_of m.header.slot.node) old
  old_there =
      subst (λ e. Contains (entries_of m.header.slot.node) e) (ap (λ x. get_or (entries_of x) position no_ref) (sym main_node))
      (Contains-get_or (entries_of m.header.slot.node) position no_ref inside)

  holds_old : Holds v old
  holds_old = (o, on.1.1, inr (main, m.header.slot, main_at_hand, m.header.used, old_there))

  -- ---- its entry is seen

  module _ (v1 : View) (seen_old : Entry) (g : HasSeenEntry v given.link.main.slot position seen_old v1) where
    its : IsEntryIn v1 main position seen_old.slot seen_old.is_single
    its = g.1 main held m.link.is.names.place

    main_then : (w : View) → HasStayed v w → node_at (now w).heap main ≡ node_at (now v).heap main
    main_then w s = main_node_on v w (follows_later v w s.later) main m.header.slot m.header.used m.header.is_main

    old_then : (w : View) → HasStayed v w → entry_in w main position ≡ old
    old_then w s = ap (λ x. get_or (entries_of x) position no_ref) (main_then w s)

    to_then : (w : View) → HasStayed v w → entry_to w old ≡ entry_to v old
    to_then w s = entry_same v w (follows_later v w s.later) old old_used

    seen_to : unowned seen_old ≡ entry_to v1 old
    seen_to =
        ap (λ k. record { slot = k; own = false; is_single = seen_old.is_single }) (sym its.placed.1)
        ∙ ap (λ t. record { slot = place_of v1.account (entry_in v1 main position); own = false; is_single = t }) (sym its.kind) ∙ ap (entry_to v1) (old_then v1 g.0)

    pub key_held : HoldsSlot v1 seen_old.slot
    key_held = (old, holds_on v v1 g.0 old holds_old, ap (λ (e : Entry). e.slot) (sym seen_to))

    -- ---- its key is seen

    module _ (sound1 : IsSound n v1) (v2 : View) (sound2 : IsSound n v2) (key : ℕ) (k : HasSeenKey v1 seen_old.slot key v2) where
      pub stayed : HasStayed v v2
      stayed = record { later = later_both v v1 v2 g.0.later (saw_later n v1 sound1 v2 k.0); comes = λ p r. saw_runs v1 v2 k.0 p (g.0.comes p r) }

      old_slot : (slot : Slot) × IsUsed v2 old slot × (slot.node ≡ Single beside.other beside.own)
      old_slot =
          let x = stayed.later.nodes old old_used.0 old_used.1 in
          (x.0, x.1, x.2.1 ∙ ap (with_main_word x.2.0) (sym (node_is (now v) old old_used.0 old_used.1) ∙ old_node))

      key_is : key ≡ beside.other
      key_is =
          k.1 old (holds_on v v1 g.0 old holds_old) (ap (λ (e : Entry). e.slot) (sym seen_to)) old_slot.0 beside.other beside.own
          (subst (λ z. IsUsed z old old_slot.0) k.0.after_is old_slot.1) old_slot.2

      on2 : IsOn v2 l
      on2 = stays_on v l on v2 stayed

      reached2 : HasReached v l v2
      reached2 = reached_stayed v v2 l on stayed

      b2 : IsBuilder v2 by path
      b2 = builder_then v v2 l l on reached2 by path b

      kind2 : (now v2).limits.hash ≡ by.hashes
      kind2 = hash_is v2.sizes v2.account ∙ sym b2.hashes

      module _ (hash : ℕ) (hash_so : hash ≡ hash_of by.hashes key) (d : ℕ) (d_so : d ≡ parting (list_depth by.hashes - (by.depth + 1)) hash by.hash (by.depth + 1)) where
        its_hash : old_hash (now v2) main position ≡ hash
        its_hash =
            ap₂ hash_of kind2 (ap (λ r. key_in (node_at (now v2).heap r)) (old_then v2 stayed) ∙ ap key_in (node_is (now v2) old old_slot.0 old_slot.1 ∙ old_slot.2) ∙ sym key_is) ∙ sym hash_so

        new_hash : hash_in (now v2) (record on2.0 { is_marked = on2.1.0 }) ≡ by.hash
        new_hash = ap₂ hash_of (hash_is v2.sizes v2.account) (b2.calls on2.0 on2.1).0 ∙ sym b2.hash

        pub depth_is : d ≡ depth
        depth_is =
            d_so
            ∙ ap (λ x. parting (list_depth by.hashes - (by.depth + 1)) x by.hash (by.depth + 1)) (hash_so ∙ ap₂ hash_of b.hashes key_is)
            ∙ ap (λ x. parting (list_depth by.hashes - (by.depth + 1)) (hash_of v.sizes.hash beside.other) x (by.depth + 1)) (b.hash ∙ ap (hash_of v.sizes.hash) (sym (b.calls on.0 on.1).0))
            ∙ ap₂ (λ x y. parting (list_depth x - (y + 1)) (hash_of v.sizes.hash beside.other) (hash_of v.sizes.hash (key_of o.call)) (y + 1)) b.hashes b.depth ∙ sym depth_known

        making : IsAt v2 (act.Make (pair by.hashes d hash by.hash old made))
        making = record {
          operation = record on2.0 { is_marked = on2.1.0 };
          runs = on2.1.1;
          acts = ap (line_action (now v2) (record on2.0 { is_marked = on2.1.0 })) on2.2
              ∙ ap (λ x. act.Make (pair x depth (old_hash (now v2) main position) (hash_in (now v2) (record on2.0 { is_marked = on2.1.0 })) (entry_at (now v2).heap main position) made)) kind2
              ∙ ap (λ x. act.Make (pair by.hashes depth x (hash_in (now v2) (record on2.0 { is_marked = on2.1.0 })) (entry_at (now v2).heap main position) made)) its_hash
              ∙ ap (λ x. act.Make (pair by.hashes depth hash x (entry_at (now v2).heap main position) made)) new_hash
              ∙ ap (λ x. act.Make (pair by.hashes depth hash by.hash x made)) (old_then v2 stayed) ∙ ap (λ x. act.Make (pair by.hashes x hash by.hash old made)) (sym depth_is);
        }

        pub pair_ready : MakesPair v2 by d hash seen_old single
        pair_ready = record {
          its_old = old;
          its_single = made;
          making = making;
          old_to = seen_to ∙ to_then v1 g.0 ∙ sym (to_then v2 stayed);
          single_to = at.8 ∙ sym (entry_same v v2 (follows_later v v2 stayed.later) made at.7.0);
          over = over_none v2 l on2 refl;
        }

        deep : by.depth < d
        deep =
            let least = least_parting (list_depth by.hashes - (by.depth + 1)) hash by.hash (by.depth + 1) in
            omega (arith, least, d_so)

        -- what the pair names is the new single, or the old one, which stands in the main node
        pub pair_holds : MayHoldOne v2 kinds.Single 0 seen_old.slot
        pair_holds = record {
          one = old;
          hand = (
            holds_on v v2 stayed old holds_old,
            record {
              slot = old_slot.0;
              used = old_slot.1;
              class_is = ap class_of old_slot.2;
              place = sym (ap (λ (e : Entry). e.slot) (seen_to ∙ to_then v1 g.0 ∙ sym (to_then v2 stayed)));
            },
          );
          its_kind = ap kind_of_node (node_is (now v2) old old_slot.0 old_slot.1 ∙ old_slot.2);
          shared = build_shared n v2 sound2 (build.Pair path main position made depth) on2 old
              (subst (λ x. Contains (entries_of x) old) (sym (main_then v2 stayed ∙ main_node)) old_there);
          names = λ operation runs k c.
              (let same = same_Some making.operation operation (sym making.runs ∙ runs) in
              let named = subst (λ ks. Contains ks k) (ap (λ p. names_made (action_of (now v2) p)) (sym same) ∙ ap names_made making.acts) c in
              elim (pair_entries by.hashes d hash by.hash old made k (pair_named by.hashes d hash by.hash old made k named)) [
                | inl is_old ↦ inr is_old
                | inr is_new ↦
                    inl (subst (λ z. Contains (owes_on operation.private z) k) (sym (line_is v2 l on2 operation (operation.is_marked, runs)))
                    (subst (Contains (made ∷ [])) (sym is_new) (first_there made [])))
              ]);
        }

        pub pair_stock : (stock : Stocked) → IsStock stock v → IsStock stock v2
        pair_stock stock is = stock_stayed n v v2 sound on.0 on.1 stock is stayed

        elsewhere : (P : List Ref → Ref → Type 0) → P path main → (q : List Ref) (c x : Ref) (y : ℕ) → IsOn v (line.Build (build.Pair q c position x y)) → P q c
        unfolding parts_in
        elsewhere P h q c x y other =
            let same = ap parts_in (sym (line_is v l on other.0 other.1) ∙ other.2) in subst (λ (z : List Ref × Ref). P z.0 z.1) same h

        pub pair_none : (v3 : View) → HasBuilt v2 None v3 → HasPaired v position None v3
        pair_none v3 none q c x y other =
            stopped_then v v2 v3 l reached2 (build.Pair path main position made depth, reached_rested v2 v3 l on2 (none (pair by.hashes d hash by.hash old made) making))

        -- ---- the pair is made

        module _ (v3 : View) (name : ℕ) (new : HasBuilt v2 (Some name) v3) where
          abbrev h : HasNew v2 (pair by.hashes d hash by.hash old made) name v3
          h = new (pair by.hashes d hash by.hash old made) making

          abbrev at_link : Line
          at_link = line.Build (build.Link path main position h.made d)

          reached3 : HasReached v at_link v3
          reached3 =
              reached_both v v2 v3 l at_link reached2
              (reached_new v2 v3 l on2 (pair by.hashes d hash by.hash old made) name h at_link (λ p r. ap (λ z. line.Build (build.Link path main position h.made z)) (sym depth_is)))

          on3 : IsOn v3 at_link
          on3 = reached_on v v3 l at_link on reached3

          pub link_ready : IsAtLink v3 by d name
          link_ready = (path, main, position, h.made, on3, builder_then v v3 l at_link on reached3 by path b, h.placed, deep)

          pub paired : (result : Option ℕ) (v4 : View) → HasLinked v3 d result v4 → HasPaired v position result v4
          paired result v4 led q c x y other = elsewhere (λ p z. HasLedOrNone v p z position result v4) (from result (led path main h.made position on3)) q c x y other
            where
              from : (r : Option ℕ) → HasLedOrNone v3 path main position r v4 → HasLedOrNone v path main position r v4
              from None stop = stopped_then v v3 v4 at_link reached3 stop
              from (Some top) t = record {
                top = t.top;
                entry = t.entry;
                reached = reached_both v v3 v4 at_link (line.Build (build.Main path main (change.Update position t.top) None)) reached3 t.reached;
              }
