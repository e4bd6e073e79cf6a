-- BUILD's last line: what it asks of the main node before, and what it comes to.
use Rattle.std.proofs.Common.{◌≡◌, ◌<◌, ◌≤◌, ◌^◌, ◌∷◌, inl, ℕ, true, List, Option, Some, None, refl, sym, ap, subst, ◌∙◌, length, Contains}
use Rattle.std.proofs.lemmas.List.Elements.{Contains-append_left, Contains-append_right}
use Rattle.trie_words.specs.Codes.{IsEntry}
use Rattle.trie_words.specs.declared.entries.Entry.{Entry}
use Rattle.trie_words.specs.declared.headers.Previous.TheVariants as previous
use Rattle.trie_words.specs.declared.headers.Shape.{Shape}
use Rattle.trie_words.specs.declared.names.Name.{Name}
use Rattle.machine_model.specs.Beneath.slot_arena.specs.declared.refs.Ref.{Ref}
use Rattle.machine_model.specs.Beneath.slot_arena.specs.declared.nodes.Node.{Node}
use Rattle.machine_model.specs.Beneath.slot_arena.specs.Heaps.{node_at, entries_of}
use Rattle.machine_model.specs.declared.actions.Action.TheVariants as act
use Rattle.machine_model.specs.declared.building.BuildLine.TheVariants as build
use Rattle.machine_model.specs.declared.building.Change.{Change}
use Rattle.machine_model.specs.declared.building.Change.TheVariants as change
use Rattle.machine_model.specs.declared.lines.Line.{Line}
use Rattle.machine_model.specs.declared.lines.Line.TheVariants as line
use Rattle.machine_model.specs.declared.operations.Operation.{Operation}
use Rattle.machine_model.specs.Building.{changed}
use Rattle.machine_model.specs.Operations.{line_action}
use Rattle.machine_model.specs.Paths.{current, flag_in}
use Rattle.proof_memory.specs.Wants.{AllHold, change_wants, flag_on, is_branch_or_list, line_wants}
use Rattle.proof_memory.proofs.Claims.Uses.{safe_of, meets_of}
use Rattle.lock_free.specs.declared.changing.Edit.{Edit}
use Rattle.lock_free.specs.declared.changing.Edit.TheVariants as edit
use Rattle.lock_free.specs.declared.rules.View.{View}
use Rattle.lock_free.specs.Becoming.{HasNew, line_made, made_on}
use Rattle.lock_free.specs.Changing.{count_in, edited, CanEdit, HasBuilt, IsChange, IsChanging}
use Rattle.lock_free.specs.Entries.{HasStayed}
use Rattle.lock_free.specs.Halves.{FitsHalf}
use Rattle.lock_free.specs.Live.{IsLive, at_hand, refs_of_claims, line_claims}
use Rattle.lock_free.specs.Loading.{now, Runs, IsAt, IsSound, Holds}
use Rattle.lock_free.specs.Making.{over_of, IsOverBy}
use Rattle.lock_free.specs.SeenEntries.{entry_to, unowned, AreEntriesTo, HasEntries, HasSeenEntries, IsOver}
use Rattle.lock_free.specs.Stocks.{Stocked, IsStock}
use Rattle.lock_free.proofs.AllEntries.{entry_same}
use Rattle.lock_free.proofs.Asked.{live_in_use}
use Rattle.lock_free.proofs.Comings.{runs_one}
use Rattle.lock_free.proofs.EntryLooks.{slot_small}
use Rattle.lock_free.proofs.Followings.{follows_later, follows_both, main_node_on}
use Rattle.lock_free.proofs.GivenBack.{node_is}
use Rattle.lock_free.proofs.KeyMoves.{hash_is}
use Rattle.lock_free.proofs.Laters.{named_later, main_later}
use Rattle.lock_free.proofs.MainChanges.{refs_edited, edited_to, edited_few}
use Rattle.lock_free.proofs.MainMakes.{same_length}
use Rattle.lock_free.proofs.OnLines.{line_is, finds_now, stays_on}
use Rattle.lock_free.proofs.OwnMakes.{one_node}
use Rattle.lock_free.proofs.Pools.{first_there}
use Rattle.lock_free.proofs.Resting.{rested_both, rested_stayed}
use Rattle.lock_free.proofs.StockStays.{stock_stayed}

-- a node that was made after something was seen
pub new_stayed : (v w after : View) (s : HasStayed v w) (node : Node) (name : ℕ) → ((o : Operation) → Runs v o → (made : Ref) → line_made (now w) o o.line made ≡ line_made (now v) o o.line made) →
    HasNew w node name after → HasNew v node name after
new_stayed v w after s node name same h = record {
  made = h.made;
  placed = h.placed;
  node_is = h.node_is;
  become = record {
    follows = follows_both v w after (follows_later v w s.later) h.become.follows;
    comes = λ o r. subst (λ l. Runs after (record o { private = (made_on (now w) h.made o).private; line = l })) (same o r h.made) (h.become.comes o (s.comes o r));
  };
}

module _ (n : ℕ) (v : View) (sound : IsSound n v) (name : Name) (what : Shape) (flag : ℕ) (e : Edit) (h : IsChanging v name what flag e) where
  abbrev pub l : Line
  l = line.Build (build.Main h.path h.main h.its h.former)

  abbrev pub o : Operation
  o = record h.on.0 { is_marked = h.on.1.0 }

  pub claims : AllHold (IsLive (now v)) (now v).heap (line_wants v.sizes.hash h.on.0.call h.on.0.access l)
  claims = finds_now v l h.on n sound

  pub known_node : node_at (now v).heap h.main ≡ h.known.slot.node
  known_node = node_is (now v) h.main h.known.slot h.known.used

  pub kind : is_branch_or_list h.known.slot.node ≡ true
  kind = subst (λ x. is_branch_or_list x ≡ true) known_node (meets_of claims.1.1.0)

  pub main_at_hand : Contains (at_hand (now v) o) h.main
  main_at_hand =
      Contains-append_left (refs_of_claims (line_claims (now v) o)) o.private h.main
      (subst (λ (x : Line). Contains (refs_of_claims (line_claims (now v) (record o { line = x }))) h.main) (sym h.on.2)
      (Contains-append_right h.path (h.main ∷ refs_of_claims (change_wants h.main (flag_on (now v).limits.hash o.call h.path) h.former h.its)) h.main
      (first_there h.main (refs_of_claims (change_wants h.main (flag_on (now v).limits.hash o.call h.path) h.former h.its)))))

  pub holds_main : Holds v h.main
  holds_main = (o, h.on.1.1, inl main_at_hand)

  pub flag_is : flag_in (now v) o h.path ≡ flag
  flag_is = ap (λ k. flag_on k o.call h.path) (hash_is v.sizes v.account) ∙ sym (h.is_flag h.on.0 h.on.1)

  abbrev pub its_node : Node
  its_node = changed (flag_in (now v) o h.path) (node_at (now v).heap h.main) h.its

  pub at_make : IsAt v (act.Make its_node)
  at_make = record { operation = o; runs = h.on.1.1; acts = ap (line_action (now v) o) h.on.2 }

  pub over_it : IsOver v (previous.Pending name)
  over_it p r =
      subst (λ x. IsOverBy v.account (over_of x) (previous.Pending name)) (sym (line_is v l h.on p r))
      (name.own, h.names.is_own, ap (λ k. previous.Pending (record { slot = k; own = name.own })) (sym h.names.place))

  -- what the change names is in use
  pub change_on : (w : View) (s : HasStayed v w) (d : Edit) (c : Change) (former : Option ℕ) → AllHold (IsLive (now v)) (now v).heap
      (change_wants h.main (flag_on v.sizes.hash o.call h.path) former c) →
      IsChange v d c → IsChange w d c
  change_on w s (edit.Insert entry) (change.Insert single) former wants is = is ∙ sym (still w s single (safe_of wants.0))
    where
      still : (w : View) (s : HasStayed v w) (r : Ref) → IsLive (now v) r → entry_to w r ≡ entry_to v r
      still w s r live = entry_same v w (follows_later v w s.later) r (live_in_use v.sizes v.account sound.bounds r live)
  change_on w s (edit.Update position entry) (change.Update at other) None wants (same, is) =
      (same, is ∙ sym (entry_same v w (follows_later v w s.later) other (live_in_use v.sizes v.account sound.bounds other (safe_of wants.1.0))))
  change_on w s (edit.Update position entry) (change.Update at other) (Some value) wants (same, is) =
      (same, is ∙ sym (entry_same v w (follows_later v w s.later) other (live_in_use v.sizes v.account sound.bounds other (safe_of wants.0))))
  change_on w s (edit.Remove position) (change.Remove at) former wants is = is
  change_on w s (edit.Entomb one) (change.Entomb single) former wants is = let u = live_in_use v.sizes v.account sound.bounds single (safe_of wants.0) in s.later.places single u.0 u.1 ∙ is
  change_on w s (edit.Insert entry) c former wants is = absurd is
  change_on w s (edit.Update position entry) c former wants is = absurd is
  change_on w s (edit.Remove position) c former wants is = absurd is
  change_on w s (edit.Entomb one) c former wants is = absurd is

  -- and so its new entry fits
  pub edit_fits : FitsHalf e
  edit_fits = by e h.its h.former claims.1.1.1 h.is_change
    where
      small : (entry : Entry) (r : Ref) → IsLive (now v) r → unowned entry ≡ entry_to v r → IsEntry entry
      small entry r live is =
          let u = live_in_use v.sizes v.account sound.bounds r live in subst (λ k. k < 2 ^ 27) (sym (ap (λ (x : Entry). x.slot) is)) (slot_small n v sound r u.0 u.1)

      by : (d : Edit) (c : Change) (former : Option ℕ) → AllHold (IsLive (now v)) (now v).heap (change_wants h.main (flag_on v.sizes.hash o.call h.path) former c) → IsChange v d c → FitsHalf d
      by (edit.Insert entry) (change.Insert single) former wants is = small entry single (safe_of wants.0) is
      by (edit.Update position entry) (change.Update at other) None wants (same, is) = small entry other (safe_of wants.1.0) is
      by (edit.Update position entry) (change.Update at other) (Some value) wants (same, is) = small entry other (safe_of wants.0) is
      by (edit.Remove position) c former wants is = tt
      by (edit.Entomb one) c former wants is = tt
      by (edit.Insert entry) c former wants is = absurd is
      by (edit.Update position entry) c former wants is = absurd is

  -- it is so later
  module _ (w : View) (s : HasStayed v w) where
    pub flags : (p : Operation) → Runs w p → flag_on v.sizes.hash h.on.0.call h.path ≡ flag_on w.sizes.hash p.call h.path
    flags p r =
        ap (λ (z : View). flag_on z.sizes.hash h.on.0.call h.path) (sym s.later.is)
        ∙ ap (λ (z : Operation). flag_on w.sizes.hash z.call h.path) (runs_one w h.on.0 p (s.comes h.on.0 h.on.1) r)

    abbrev pub changing_on : IsChanging w name what flag e
    changing_on = record {
      path = h.path;
      main = h.main;
      its = h.its;
      former = h.former;
      on = stays_on v l h.on w s;
      names = named_later v w s.later (current h.path) h.main name (h.known.slot, h.known.used) h.names;
      header = h.header;
      known = main_later v w s.later h.main h.header h.known;
      is_shape = h.is_shape;
      is_flag = λ p r. h.is_flag h.on.0 h.on.1 ∙ flags p r;
      is_change = change_on w s e h.its h.former claims.1.1.1 h.is_change;
    }

    pub main_still : node_at (now w).heap h.main ≡ node_at (now v).heap h.main
    main_still = main_node_on v w (follows_later v w s.later) h.main h.known.slot h.known.used h.known.is_main

    -- and what is built then is built now
    pub built_then : (result : Option ℕ) (after : View) → IsAt w (act.Make its_node) → HasBuilt w result after → HasBuilt v result after
    built_then None after m built node p = rested_both v w after (rested_stayed v w s) (built its_node m)
    built_then (Some made_name) after m built node p =
        new_stayed v w after s node made_name (λ q r made. subst (λ x. line_made (now w) q x made ≡ line_made (now v) q x made) (sym (line_is v l h.on q r)) refl)
        (built node (subst (λ x. IsAt w (act.Make x)) (one_node v its_node node at_make p) m))

    pub stock_then : (stock : Stocked) → IsStock stock v → IsStock stock w
    stock_then stock is = stock_stayed n v w sound h.on.0 h.on.1 stock is s

-- ---- its entries

module _ (n : ℕ) (v : View) (sound : IsSound n v) (name : Name) (what : Shape) (flag : ℕ) (e : Edit) (h : IsChanging v name what flag e) (refs : List Ref)
    (refs_are : entries_of h.known.slot.node ≡ refs) (counted : count_in what ≡ length refs) (few : length refs ≤ 32) where
  pub has_entries : HasEntries v name.slot (count_in what)
  has_entries = (
    h.main,
    h.known.slot,
    holds_main n v sound name what flag e h,
    h.known.used,
    kind n v sound name what flag e h,
    counted ∙ ap length (sym refs_are),
    subst (λ k. k ≤ 32) (sym counted) few,
    h.names.place,
  )

  module _ (w : View) (entries : List Entry) (g : HasSeenEntries v name.slot (count_in what) entries w) where
    pub seen_to : AreEntriesTo w entries refs
    seen_to =
        subst (AreEntriesTo w entries) refs_are
        (g.1 h.main h.known.slot (holds_main n v sound name what flag e h) h.known.used (kind n v sound name what flag e h) (counted ∙ ap length (sym refs_are)) h.names.place)

    pub size : length entries ≡ length refs
    size = same_length w entries refs seen_to

    pub few_seen : (place : ℕ) → CanEdit entries place e → length (edited entries place e) ≤ 32
    few_seen place can = edited_few entries place e can (subst (λ k. k ≤ 32) (sym size) few)

    abbrev pub later_h : IsChanging w name what flag e
    later_h = changing_on n v sound name what flag e h w g.0

    pub edited_there : (place : ℕ) → AreEntriesTo w (edited entries place e) (refs_edited refs place h.its)
    edited_there place = edited_to w entries refs seen_to place e h.its later_h.is_change

    module _ (sound_w : IsSound n w) where
      same_node : its_node n w sound_w name what flag e later_h ≡ its_node n v sound name what flag e h
      same_node =
          ap (λ f. changed f (node_at (now w).heap h.main) h.its) (flag_is n w sound_w name what flag e later_h ∙ sym (flag_is n v sound name what flag e h))
          ∙ ap (λ x. changed (flag_in (now v) (o n v sound name what flag e h) h.path) x h.its) (main_still n v sound name what flag e h w g.0)

      pub make_there : IsAt w (act.Make (its_node n v sound name what flag e h))
      make_there = subst (λ x. IsAt w (act.Make x)) same_node (at_make n w sound_w name what flag e later_h)

      pub over_there : IsOver w (previous.Pending name)
      over_there = over_it n w sound_w name what flag e later_h

      pub built_there : (result : Option ℕ) (after : View) → HasBuilt w result after → HasBuilt v result after
      built_there result after = built_then n v sound name what flag e h w g.0 result after make_there

    pub stock_there : (stock : Stocked) → IsStock stock v → IsStock stock w
    stock_there = stock_then n v sound name what flag e h w g.0
