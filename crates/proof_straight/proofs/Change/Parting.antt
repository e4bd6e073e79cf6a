-- A key is inserted where the single of another key stands in its place.
use Rattle.std.proofs.Common.{◌≡◌, ℕ, zero, suc, ◌+◌, ◌*◌, ◌-◌, ◌≤◌, cond, List, length, Option, Some, None, refl, sym, ap, ◌∙◌, subst, eq-eqb, ne_eqb, arith}
use Rattle.std.specs.Prelude.{slice_index_or}
use Rattle.proof_straight.specs.Vocabulary.{Call, Node, Indirection, Single, Slot, Ref, IsLive, Heap, stored, node_of, node_at, main_at, entry_at, entries_of, generation_at, no_ref, pair, rung}
use Rattle.proof_straight.specs.Vocabulary.{Line, key_in, old_hash, pair_depth, key_of, value_of, State, key_hash, Record}
use Rattle.machine_model.specs.declared.actions.Action.TheVariants as act
use Rattle.machine_model.specs.declared.building.BuildLine.TheVariants as build
use Rattle.machine_model.specs.declared.building.Change.TheVariants as change
use Rattle.machine_model.specs.declared.building.Site.TheVariants as site
use Rattle.machine_model.specs.declared.lines.Line.TheVariants as line
use Rattle.proof_straight.specs.Changes.{parts_at, with_change, with_link, with_links, with_pair, with_single}
use Rattle.proof_straight.specs.Drafts.{Draft, first_draft, with_made}
use Rattle.proof_straight.specs.Laws.{PartsStraight}
use Rattle.proof_straight.specs.Places.{HasRoom, Misses, beside_other, steps_down}
use Rattle.proof_straight.proofs.Steps.Alone.{Alone, on_line}
use Rattle.proof_straight.proofs.Change.Builds.{IsDraft, builds, first_is, has_made, inserts_write, leads_own, node_stays, writable_at}
use Rattle.proof_straight.proofs.Change.Changed.{changed_lasting, changes_main, live_stands, so_many}
use Rattle.proof_straight.proofs.Change.Changes.{misses_down, misses_main}
use Rattle.proof_straight.proofs.Way.Descent.{IsPath, depth_is, rooted}
use Rattle.proof_straight.proofs.Steps.Going.{Stands}
use Rattle.proof_straight.proofs.Way.Rooted.{alone_at, calm_at, comes_keyed, keyed_open}
use Rattle.proof_straight.proofs.Way.Seeking.{comes_absent}
use Rattle.proof_straight.proofs.Change.Slots.{takes}
use Rattle.proof_straight.proofs.Way.Unchanged.{fits_at, no_actor}

module _ (state : State) (past : Record) (k : ℕ) (call : Call) (root : Ref) (alone : Alone state k) (path : List Ref) (depth : ℕ) (indirection : Ref) (ends : IsPath path depth indirection)
    (main : Ref) (position : ℕ) where
  abbrev On : Record → Draft → Line → ℕ → Type 0
  On so_far draft l c = Stands state past k call so_far state draft (on_line (rooted state call root) draft l) c

  -- the way is made
  pub record HasLinks (so_far : Record) (levels : ℕ) (draft : Draft) (c : ℕ) : Type 0 where
    pub is : IsDraft state (with_links state call root (depth + 1) levels draft)
    pub fewer : length draft.heap.free ≡ 2 * levels + 1 + length (with_links state call root (depth + 1) levels draft).heap.free
    pub stands : On so_far (with_links state call root (depth + 1) levels draft)
        (line.Build (build.Main path main (change.Update position (with_links state call root (depth + 1) levels draft).newest) None)) (c + 2 * levels + 1)

  links : {so_far : Record} (levels : ℕ) (draft : Draft) (c : ℕ) → IsDraft state draft → 2 * levels + 1 ≤ length draft.heap.free →
      On so_far draft (line.Build (build.Link path main position draft.newest (depth + 1 + levels))) c → HasLinks so_far levels draft c
  unfolding with_links
  links {so_far} zero draft c h enough before =
      let node = Indirection (generation_at state.heap root) draft.newest in
      let after = with_link state root draft in
      let made = has_made state draft node h (omega (arith, enough)) in
      let top : ◌≡◌ {A = ℕ} (depth + 1 + 0) (length path - 1 + 1) = omega (arith, depth_is path depth indirection ends) in
      record {
        is = made.is;
        fewer = omega (arith, (takes draft.heap node h.empty (omega (arith, enough))).fewer);
        stands = subst (λ n. On so_far after (line.Build (build.Main path main (change.Update position after.newest) None)) n) (omega arith)
            (builds state past k call root alone draft (build.Link path main position draft.newest (depth + 1 + 0)) node
            (line.Build (build.Main path main (change.Update position after.newest) None)) c h
            (omega (arith, enough)) before refl
            (ap (λ b. cond b (line.Build (build.Main path main (change.Update position after.newest) None)) (line.Build (build.Rung path main position after.newest (depth + 1 + 0 - 1))))
            (eq-eqb (depth + 1 + 0) (length path - 1 + 1) top)));
      }
  links {so_far} (suc levels) draft c h enough before =
      let node = Indirection (generation_at state.heap root) draft.newest in
      let after = with_link state root draft in
      let made = has_made state draft node h (omega (arith, enough)) in
      let fewer = (takes draft.heap node h.empty (omega (arith, enough))).fewer in
      let hash = key_hash state (key_of call) in
      let rung_node = rung hash (depth + 1 + levels) after.newest in
      let below = with_made state after rung_node in
      let enough_for_rung : 1 ≤ length after.heap.free = omega (arith, enough, fewer) in
      let made_below = has_made state after rung_node made.is enough_for_rung in
      let fewer_below = (takes after.heap rung_node made.is.empty enough_for_rung).fewer in
      let linked =
      builds state past k call root alone draft (build.Link path main position draft.newest (depth + 1 + suc levels)) node
      (line.Build (build.Rung path main position after.newest (depth + 1 + levels))) c h
      (omega (arith, enough)) before refl
      (ap (λ b. cond b (line.Build (build.Main path main (change.Update position after.newest) None)) (line.Build (build.Rung path main position after.newest (depth + 1 + suc levels - 1))))
      (ne_eqb (depth + 1 + suc levels) (length path - 1 + 1) (λ e. not_top e))
      ∙ ap (λ d. line.Build (build.Rung path main position after.newest d)) one_less) in
      let runged =
      builds state past k call root alone after (build.Rung path main position after.newest (depth + 1 + levels)) rung_node
      (line.Build (build.Link path main position below.newest (depth + 1 + levels)))
      (suc c) made.is enough_for_rung linked refl refl in
      let rest = links levels below (suc (suc c)) made_below.is (omega (arith, enough, fewer, fewer_below)) runged in
      record {
        is = rest.is;
        fewer = omega (arith, fewer, fewer_below, rest.fewer);
        stands = subst (λ n. On so_far (with_links state call root (depth + 1) levels below)
            (line.Build (build.Main path main (change.Update position (with_links state call root (depth + 1) levels below).newest) None)) n) (omega arith) rest.stands;
      }
    where
      not_top : depth + 1 + suc levels ≡ length path - 1 + 1 → ⊥
      not_top e = omega (arith, e, depth_is path depth indirection ends)

      one_less : depth + 1 + suc levels - 1 ≡ depth + 1 + levels
      one_less = omega arith

-- the other key's single
beside_single : (state : State) (call : Call) (root : Ref) (depth : ℕ) (indirection : Ref) (position looks : ℕ) → Misses state call root depth indirection (site.Beside position) looks →
    (key value : ℕ) × (node_at state.heap (entry_at state.heap (main_at state.heap indirection) position) ≡ Single key value)
beside_single state call root depth indirection position looks (beside_other {key = other} {value} down entry at differs) = (other, value, at)

beside_room : (state : State) (call : Call) (root : Ref) (depth : ℕ) (indirection : Ref) (position looks : ℕ) → Misses state call root depth indirection (site.Beside position) looks →
    HasRoom (node_at state.heap (main_at state.heap indirection))
beside_room state call root depth indirection position looks (beside_other down entry at differs) = subst HasRoom (sym entry.branch) tt

standing_single : (heap : Heap) (r : Ref) (key value : ℕ) → node_at heap r ≡ Single key value → (slot : Slot) × (stored heap r ≡ Some slot)
unfolding node_at
standing_single heap r key value is = by (stored heap r) refl is
  where
    by : (o : Option Slot) → stored heap r ≡ o → node_of o ≡ Single key value → (slot : Slot) × (stored heap r ≡ Some slot)
    by None e wrong = absurd (cc wrong)
    by (Some slot) e same = (slot, e)

module _ (state : State) (past : Record) (k : ℕ) (call : Call) (root : Ref) (alone : Alone state k) (path : List Ref) (depth : ℕ) (indirection : Ref) (ends : IsPath path depth indirection)
    (position levels : ℕ) (first : IsDraft state (first_draft state)) (live : IsLive state.heap (main_at state.heap indirection))
    (other : (slot : Slot) × (stored state.heap (entry_at state.heap (main_at state.heap indirection) position) ≡ Some slot)) where
  abbrev main : Ref
  main = main_at state.heap indirection

  abbrev hash : ℕ
  hash = key_hash state (key_of call)

  abbrev old : ℕ
  old = old_hash state main position

  abbrev deep : ℕ
  deep = depth + 1 + levels

  -- the main node of both
  abbrev pair_node : Node
  pair_node = pair state.limits.hash deep old hash (entry_at state.heap main position) (with_single state call).newest

  abbrev paired : Draft
  paired = with_made state (with_single state call) pair_node

  -- the single and the main node of both are made, and then the way to it
  pairs : {so_far : Record} (n : ℕ) → On state past k call root alone path depth indirection ends main position so_far (first_draft state)
      (line.Build (build.Single path main (site.Beside position) None)) n →
      parts_at state call depth indirection position ≡ deep → 2 * levels + 4 ≤ length state.heap.free →
      HasLinks state past k call root alone path depth indirection ends main position so_far levels paired (n + 2) × (length state.heap.free ≡ 2 + length paired.heap.free)
  pairs {so_far} n before parts enough =
      let single = Single (key_of call) (value_of call) in
      let draft = with_single state call in
      let made = has_made state (first_draft state) single first (omega (arith, enough)) in
      let fewer = (takes state.heap single first.empty (omega (arith, enough))).fewer in
      let (slot, stands) = live_stands state.heap main live in
      let pair_line = line.Build (build.Pair path main position draft.newest deep) in
      let to_pair =
      builds state past k call root alone (first_draft state) (build.Single path main (site.Beside position) None) single pair_line n first (omega (arith, enough)) before refl
      (ap (λ d. line.Build (build.Pair path main position draft.newest (pair_depth state old hash d))) (depth_is path depth indirection ends)
      ∙ ap (λ d. line.Build (build.Pair path main position draft.newest d)) parts) in
      let enough_for_pair : 1 ≤ length draft.heap.free = omega (arith, enough, fewer) in
      let made_pair = has_made state draft pair_node made.is enough_for_pair in
      let fewer_pair = (takes draft.heap pair_node made.is.empty enough_for_pair).fewer in
      let same_entry = ap (λ x. slice_index_or (entries_of x) position no_ref) (node_stays state draft main slot made.is stands) in
      let same_other = ap (node_at draft.heap) same_entry ∙ node_stays state draft (entry_at state.heap main position) other.0 made.is other.1 in
      let to_link =
      builds state past k call root alone draft (build.Pair path main position draft.newest deep) pair_node (line.Build (build.Link path main position paired.newest deep)) (suc n) made.is
      enough_for_pair to_pair
      (ap (λ x. act.Make (pair state.limits.hash deep (key_hash state (key_in x)) hash (entry_at draft.heap main position) draft.newest)) same_other
      ∙ ap (λ r. act.Make (pair state.limits.hash deep old hash r draft.newest)) same_entry)
      refl in (
        links state past k call root alone path depth indirection ends main position levels paired (n + 2) made_pair.is (omega (arith, enough, fewer, fewer_pair))
            (subst (λ c. On state past k call root alone path depth indirection ends main position so_far paired (line.Build (build.Link path main position paired.newest deep)) c)
            (omega arith) to_link),
        omega (arith, fewer, fewer_pair),
      )

pub parts_straight : PartsStraight
parts_straight state past zero call root depth indirection position looks levels ready is keyed misses puts parts live free lasts = absurd (no_actor ready)
parts_straight state past (suc k) call root depth indirection position looks levels ready is keyed misses puts parts live free lasts =
    let alone = alone_at state k call root ready in
    let calm = calm_at state (suc k) call root ready in
    let main = main_at state.heap indirection in
    let fits = fits_at state past k call root ready is in
    let writable = writable_at state (suc k) call ready.allowed (inserts_write call puts) in
    let missed =
    comes_absent state past k call root alone calm fits (comes_keyed state past k call root ready keyed) depth indirection (site.Beside position) looks misses puts
    (beside_room state call root depth indirection position looks misses) in
    let (key, value, at) = beside_single state call root depth indirection position looks misses in
    let (linked, fewer) =
    pairs state past k call root alone missed.path depth indirection missed.is position levels (first_is state ready.rests.free) live (standing_single state.heap _ key value at)
    (steps_down depth looks) missed.stands parts free in
    let draft = with_pair state call root depth indirection position levels in
    let c = change.Update position draft.newest in
    so_many state past (suc k) call root depth None (with_change state call depth indirection draft c) (steps_down depth looks + 2 + 2 * levels + 1 + 6)
    (steps_down depth looks + 2 * levels + 9) (omega arith)
    (changes_main state past k call root alone ready.word writable fits (keyed_open call keyed) draft missed.path depth indirection c None (steps_down depth looks + 2 + 2 * levels + 1) linked.is
    (omega (arith, free, fewer, linked.fewer)) missed.is (leads_own state.heap _ _ root depth indirection writable (misses_down misses)) live
    (changed_lasting _ _ c (misses_main misses) tt) linked.stands (omega (arith, lasts)))
