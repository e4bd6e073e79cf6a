-- What the next step of an operation does is read off its line and off nodes that stay.
use Rattle.std.proofs.Common.{◌≡◌, ℕ, ◌-◌, true, ◌&&◌, List, [], ◌∷◌, length, slice_index_or, slice_set, refl, sym, ap, ◌∙◌, arith}
use Rattle.std.proofs.lemmas.Bool.{true≢false}
use Rattle.proof_waiting.specs.Beneath.slot_arena.specs.declared.refs.Ref.{Ref}
use Rattle.proof_waiting.specs.Beneath.slot_arena.specs.declared.nodes.Node.{Node}
use Rattle.proof_waiting.specs.Beneath.slot_arena.specs.declared.nodes.Node.TheVariants.{Indirection, Branch, Single, Tomb, List as Listed}
use Rattle.proof_waiting.specs.Beneath.slot_arena.specs.Heaps.{node_at, entry_at, entries_of, bitmap_of, no_ref}
use Rattle.proof_waiting.specs.Beneath.machine_model.specs.declared.actions.Action.TheVariants as act
use Rattle.proof_waiting.specs.Beneath.machine_model.specs.declared.operations.Operation.{Operation}
use Rattle.proof_waiting.specs.Beneath.machine_model.specs.declared.finding.KeyLine.{KeyLine}
use Rattle.proof_waiting.specs.Beneath.machine_model.specs.declared.finding.KeyLine.TheVariants as key
use Rattle.proof_waiting.specs.Beneath.machine_model.specs.declared.building.BuildLine.{BuildLine}
use Rattle.proof_waiting.specs.Beneath.machine_model.specs.declared.building.BuildLine.TheVariants as build
use Rattle.proof_waiting.specs.Beneath.machine_model.specs.declared.repairs.RenewLine.{RenewLine}
use Rattle.proof_waiting.specs.Beneath.machine_model.specs.declared.repairs.RenewLine.TheVariants as renew
use Rattle.proof_waiting.specs.Beneath.machine_model.specs.declared.repairs.CleanLine.{CleanLine}
use Rattle.proof_waiting.specs.Beneath.machine_model.specs.declared.repairs.CleanLine.TheVariants as clean
use Rattle.proof_waiting.specs.Beneath.machine_model.specs.declared.repairs.ClimbLine.{ClimbLine}
use Rattle.proof_waiting.specs.Beneath.machine_model.specs.declared.repairs.ClimbLine.TheVariants as climb
use Rattle.proof_waiting.specs.Beneath.machine_model.specs.declared.lines.Line.{Line}
use Rattle.proof_waiting.specs.Beneath.machine_model.specs.declared.lines.Line.TheVariants as line
use Rattle.proof_waiting.specs.Beneath.machine_model.specs.Calls.{key_of}
use Rattle.proof_waiting.specs.Beneath.machine_model.specs.Cleaning.{is_single, leaves_single, clean_action}
use Rattle.proof_waiting.specs.Beneath.ctrie_base.specs.Hashes.{hash_of}
use Rattle.proof_waiting.specs.Beneath.ctrie_base.specs.Paths.{position_of}
use Rattle.proof_waiting.specs.Beneath.history.specs.declared.calls.Access.{Access}
use Rattle.proof_waiting.specs.Beneath.history.specs.declared.calls.Access.TheVariants.{Writable, ReadOnly}
use Rattle.proof_waiting.specs.Beneath.nodes.specs.Levels.{flag_of}
use Rattle.proof_waiting.specs.Beneath.nodes.specs.Builders.{renewed, contracted, pair, rung}
use Rattle.proof_waiting.specs.Beneath.machine_model.specs.Climbing.{climb_action}
use Rattle.proof_waiting.specs.Beneath.machine_model.specs.Renewing.{renew_action}
use Rattle.proof_waiting.specs.Beneath.machine_model.specs.Finding.{key_action}
use Rattle.proof_waiting.specs.Beneath.machine_model.specs.Building.{key_in, old_hash, changed, build_action}
use Rattle.proof_waiting.specs.Beneath.machine_model.specs.Operations.{action_of, line_action}
use Rattle.proof_waiting.specs.Beneath.machine_model.specs.Paths.{above, depth_of, is_below_root, flag_in, hash_in}
use Rattle.proof_waiting.specs.Beneath.machine_model.specs.States.{State}
use Rattle.proof_memory.specs.Laws.{SameNode, IsInUse}
use Rattle.proof_memory.specs.Wants.{AllHold, Holds, Is, Each, EntryIs, Wanted, ABranch, AList, BranchOrList, TombOrList, AnEntry, ASingle, entry_is, listed, meets, is_main_node, key_wants}
use Rattle.proof_memory.specs.Wants.{build_wants, renew_wants, clean_wants, climb_wants, line_wants}
use Rattle.proof_memory.proofs.Claims.Uses.{safe_of, meets_of, all_of}
use Rattle.proof_waiting.specs.Laws.{NodesStay, FindsItsLine}

-- ---- nodes

main_stays : (x y : Node) → SameNode x y → is_main_node x ≡ true → y ≡ x
main_stays (Indirection generation main) y h m = absurd (true≢false (sym m))
main_stays (Branch bitmap entries) y h m = h.1
main_stays (Single k v) y h m = absurd (true≢false (sym m))
main_stays (Tomb single) y h m = h.1
main_stays (Listed singles) y h m = h.1

key_stays : (x y : Node) → SameNode x y → key_in y ≡ key_in x
key_stays (Indirection generation main) y h = ap key_in h.1
key_stays (Branch bitmap entries) y h = ap key_in h.1
key_stays (Single k v) y h = ap key_in h.1
key_stays (Tomb single) y h = ap key_in h.1
key_stays (Listed singles) y h = ap key_in h.1

single_stays : (x y : Node) → SameNode x y → is_single y ≡ is_single x
single_stays (Indirection generation main) y h = ap is_single h.1
single_stays (Branch bitmap entries) y h = ap is_single h.1
single_stays (Single k v) y h = ap is_single h.1
single_stays (Tomb single) y h = ap is_single h.1
single_stays (Listed singles) y h = ap is_single h.1

branch_is_main : (node : Node) → meets ABranch node ≡ true → is_main_node node ≡ true
branch_is_main (Branch bitmap entries) h = refl
branch_is_main (Indirection generation main) h = absurd (true≢false (sym h))
branch_is_main (Single k v) h = absurd (true≢false (sym h))
branch_is_main (Tomb single) h = absurd (true≢false (sym h))
branch_is_main (Listed singles) h = absurd (true≢false (sym h))

both_are_main : (node : Node) → meets BranchOrList node ≡ true → is_main_node node ≡ true
both_are_main (Branch bitmap entries) h = refl
both_are_main (Listed singles) h = refl
both_are_main (Indirection generation main) h = absurd (true≢false (sym h))
both_are_main (Single k v) h = absurd (true≢false (sym h))
both_are_main (Tomb single) h = absurd (true≢false (sym h))

list_is_main : (node : Node) → meets AList node ≡ true → is_main_node node ≡ true
list_is_main (Listed singles) h = refl
list_is_main (Branch bitmap entries) h = absurd (true≢false (sym h))
list_is_main (Indirection generation main) h = absurd (true≢false (sym h))
list_is_main (Single k v) h = absurd (true≢false (sym h))
list_is_main (Tomb single) h = absurd (true≢false (sym h))

tomb_or_list_is_main : (node : Node) → meets TombOrList node ≡ true → is_main_node node ≡ true
tomb_or_list_is_main (Listed singles) h = refl
tomb_or_list_is_main (Tomb single) h = refl
tomb_or_list_is_main (Branch bitmap entries) h = absurd (true≢false (sym h))
tomb_or_list_is_main (Indirection generation main) h = absurd (true≢false (sym h))
tomb_or_list_is_main (Single k v) h = absurd (true≢false (sym h))

module _ (a b : State) (stay : NodesStay a b) where
  abbrev S : Ref → Type 0
  S = IsInUse a.heap

  main_at_stays : {wanted : Wanted} (r : Ref) → ((node : Node) → meets wanted node ≡ true → is_main_node node ≡ true) → Holds S a.heap (Is r wanted) → node_at b.heap r ≡ node_at a.heap r
  main_at_stays r f h = main_stays (node_at a.heap r) (node_at b.heap r) (stay.same r (safe_of h)) (f (node_at a.heap r) (meets_of h))

  -- the entry of a node
  abbrev entry_in : Node → ℕ → Ref
  entry_in node position = slice_index_or (entries_of node) position no_ref

  listed_waits : (access : Access) (main : Ref) → Holds S a.heap (Is main (listed access)) → node_at b.heap main ≡ node_at a.heap main
  listed_waits Writable main h = main_at_stays main list_is_main h
  listed_waits ReadOnly main h = main_at_stays main tomb_or_list_is_main h

  -- the hash of the single at this position of a branch
  hash_waits : (main : Ref) (position : ℕ) → node_at b.heap main ≡ node_at a.heap main → Holds S a.heap (EntryIs main position ASingle) → old_hash b main position ≡ old_hash a main position
  hash_waits main position same (entry_is s within e single) =
      ap (λ node. hash_of b.limits.hash (key_in (node_at b.heap (entry_in node position)))) same
      ∙ ap (λ kind. hash_of kind (key_in (node_at b.heap (entry_at a.heap main position)))) stay.hash
      ∙ ap (hash_of a.limits.hash) (key_stays (node_at a.heap (entry_at a.heap main position)) (node_at b.heap (entry_at a.heap main position)) (stay.same (entry_at a.heap main position) e))

  -- a single that is left alone
  left_waits : (entries : List Ref) → Holds S a.heap (Each entries AnEntry) → leaves_single b entries ≡ leaves_single a entries
  left_waits [] h = refl
  left_waits (entry ∷ []) h = single_stays (node_at a.heap entry) (node_at b.heap entry) (stay.same entry (all_of h 0 entry (omega arith)).0)
  left_waits (entry ∷ other ∷ entries) h = refl

  module _ (o : Operation) where
    key_hash_waits : hash_in b o ≡ hash_in a o
    key_hash_waits = ap (λ kind. hash_of kind (key_of o.call)) stay.hash

    flag_waits : (path : List Ref) → flag_in b o path ≡ flag_in a o path
    flag_waits path = ap (λ n. flag_of n (depth_of path)) key_hash_waits

    key_waits : (l : KeyLine) → AllHold S a.heap (key_wants a.limits.hash o.call o.access l) → key_action b l ≡ key_action a l
    key_waits (key.Read path r) h = refl
    key_waits (key.Main path main) h = refl
    key_waits (key.Entry path main position) h = ap (λ node. act.Look (entry_in node position)) (main_at_stays main branch_is_main h.1.1.0)
    key_waits (key.Listed path main position) h = ap (λ node. act.Look (entry_in node position)) (listed_waits o.access main h.1.1.0)
    key_waits (key.Sibling path main position former) h = ap (λ node. act.Look (entry_in node (1 - position))) (main_at_stays main branch_is_main h.1.1.0)

    build_waits : (l : BuildLine) → AllHold S a.heap (build_wants a.limits.hash o.call l) → build_action b o l ≡ build_action a o l
    build_waits (build.Single path main s former) h = refl
    build_waits (build.Pair path main position single depth) h =
        let same = main_at_stays main branch_is_main h.1.1.0 in
        ap (λ kind. act.Make (pair kind depth (old_hash b main position) (hash_in b o) (entry_at b.heap main position) single)) stay.hash
        ∙ ap (λ n. act.Make (pair a.limits.hash depth n (hash_in b o) (entry_at b.heap main position) single)) (hash_waits main position same h.1.1.1.0)
        ∙ ap (λ n. act.Make (pair a.limits.hash depth (old_hash a main position) n (entry_at b.heap main position) single)) key_hash_waits
        ∙ ap (λ node. act.Make (pair a.limits.hash depth (old_hash a main position) (hash_in a o) (entry_in node position) single)) same
    build_waits (build.Link path main position below depth) h = refl
    build_waits (build.Rung path main position below depth) h = ap (λ n. act.Make (rung n depth below)) key_hash_waits
    build_waits (build.Main path main c former) h =
        ap (λ n. act.Make (changed n (node_at b.heap main) c)) (flag_waits path) ∙ ap (λ node. act.Make (changed (flag_in a o path) node c)) (main_at_stays main both_are_main h.1.1.0)

    renew_waits : (l : RenewLine) → AllHold S a.heap (renew_wants l) → renew_action b o l ≡ renew_action a o l
    renew_waits (renew.Entry path main done) h = ap (λ node. act.Look (entry_in node (length done))) (main_at_stays main branch_is_main h.1.1.0)
    renew_waits (renew.Read path main done r) h = refl
    renew_waits (renew.Link path main done child) h = refl
    renew_waits (renew.Branch path main done) h = ap (λ node. act.Make (renewed (bitmap_of node) done)) (main_at_stays main branch_is_main h.1.1.0)

    clean_waits : (l : CleanLine) → AllHold S a.heap (clean_wants l) → clean_action b l ≡ clean_action a l
    clean_waits (clean.Read path r) h = refl
    clean_waits (clean.Main path main) h = refl
    clean_waits (clean.Entry path main done) h = ap (λ node. act.Look (entry_in node (length done))) (main_at_stays main branch_is_main h.1.1.0)
    clean_waits (clean.Child path main done r) h = refl
    clean_waits (clean.Tomb path main done child) h = refl
    clean_waits (clean.Contracted path main done) h =
        ap (λ left. act.Make (contracted (is_below_root path && left) (bitmap_of (node_at b.heap main)) done)) (left_waits done h.1.1.1.0)
        ∙ ap (λ node. act.Make (contracted (is_below_root path && leaves_single a done) (bitmap_of node) done)) (main_at_stays main branch_is_main h.1.1.0)

    climb_waits : (l : ClimbLine) → AllHold S a.heap (climb_wants a.limits.hash o.call l) → climb_action b o l ≡ climb_action a o l
    climb_waits (climb.Read c r) h = refl
    climb_waits (climb.Main c main) h = refl
    climb_waits (climb.Contracted c main) h =
        ap (λ node. act.Make (contracted (is_below_root (above c.path)) (bitmap_of node) (slice_set (entries_of node) (position_of (flag_in b o (above c.path)) (bitmap_of node)) c.single)))
        (main_at_stays main branch_is_main h.1.1.1.0)
        ∙ ap (λ n. act.Make (contracted (is_below_root (above c.path)) (bitmap_of (node_at a.heap main))
        (slice_set (entries_of (node_at a.heap main)) (position_of n (bitmap_of (node_at a.heap main))) c.single)))
        (flag_waits (above c.path))
    climb_waits (climb.Root c l) h = refl

    line_waits : (l : Line) → AllHold S a.heap (line_wants a.limits.hash o.call o.access l) → line_action b o l ≡ line_action a o l
    line_waits (line.Key l) h = key_waits l h
    line_waits (line.Build l) h = build_waits l h
    line_waits (line.Renew l) h = renew_waits l h
    line_waits (line.Clean l) h = clean_waits l h
    line_waits (line.Climb l) h = climb_waits l h
    line_waits l h = refl

pub action_waits : (before after : State) → NodesStay before after → (operation : Operation) → FindsItsLine before operation → action_of after operation ≡ action_of before operation
action_waits before after stay operation finds = line_waits before after stay operation operation.line finds
