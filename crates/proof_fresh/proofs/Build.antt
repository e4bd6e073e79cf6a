-- What a step of BUILD makes names what the operation made before, and entries of the main node from which it builds.
use Rattle.std.proofs.Common.{◌≡◌, ℕ, suc, ◌-◌, ◌<◌, ◌⊎◌, true, List, [], ◌∷◌, ◌++◌, length, Contains, Option, Some, inl, inr, refl, sym, ap, ◌∙◌, subst, arith}
use Rattle.std.proofs.lemmas.List.Elements.{Contains-push, Contains-get_or}
use Rattle.proof_fresh.specs.Vocabulary.{Ref, Node, Indirection, Single, Heap, no_ref, entries_of, node_at, entry_at, next_ref, rung, pair, Change, BuildLine, Line, Operation, Bounds, State}
use Rattle.proof_fresh.specs.Vocabulary.{depth_of, flag_in, hash_in, start_of, old_hash, changed, key_of, value_of, line_action, node_under, IsRun}
use Rattle.proof_fresh.specs.Beneath.slot_arena.specs.Heaps.{refs_of_node}
use Rattle.proof_fresh.specs.Beneath.machine_model.specs.Acting.{with_made}
use Rattle.proof_fresh.specs.Beneath.machine_model.specs.Edges.Building.{BuildEdge}
use Rattle.proof_fresh.specs.Beneath.machine_model.specs.declared.actions.Action.TheVariants as act
use Rattle.proof_fresh.specs.Beneath.machine_model.specs.declared.building.BuildLine.TheVariants as build
use Rattle.proof_fresh.specs.Beneath.machine_model.specs.declared.building.Change.TheVariants as change
use Rattle.proof_fresh.specs.Beneath.machine_model.specs.declared.lines.Line.TheVariants as line
use Rattle.proof_fresh.specs.Beneath.proof_memory.specs.Laws.{IsInUse}
use Rattle.proof_fresh.specs.Beneath.proof_memory.specs.Wants.{AMain, ABranch, BranchOrList, EntryIs, Holds, Is, entry_is, meets}
use Rattle.proof_fresh.specs.Beneath.proof_memory.proofs.Claims.Nodes.{branch_main}
use Rattle.proof_fresh.specs.Beneath.proof_memory.proofs.Claims.Uses.{meets_of}
use Rattle.proof_fresh.specs.Beneath.proof_memory.proofs.Lines.Next.{pair_no_link, changed_no_link}
use Rattle.proof_fresh.specs.Beneath.proof_contents.specs.Lines.Changes.{Known, IsOther, of_branch, of_list, KnowsLine}
use Rattle.proof_shape.specs.Lines.Knowing.{known_with, first_main}
use Rattle.proof_shape.proofs.Runs.EachAt.{GoesAt}
use Rattle.proof_shape.proofs.Runs.Entries.{no_entry, one_entry, pair_entries, changed_entries, IsBrought}
use Rattle.proof_shape.proofs.Runs.Nodes.{takes}
use Rattle.proof_shape.proofs.Runs.Seen.{main_seen}
use Rattle.proof_shape.proofs.Lines.Key.{claims}
use Rattle.proof_shape.proofs.Lines.Knows.{knows_at}
use Rattle.proof_fresh.proofs.From.{IsFrom, an_entry}
use Rattle.proof_fresh.proofs.Untouched.{private_made}
use Rattle.proof_fresh.proofs.Lines.{AllFrom, ChangeHas, LineHas, all_made, named_entry}

-- the single that is to be left is an entry
pub other_entry : (known : Known) (depth key : ℕ) (main other : Ref) (value : ℕ) → IsOther known depth key main other value → Contains (entries_of (known.node main)) other
other_entry known depth key main other value (of_branch bitmap position own own_value entries f s two is left) =
    subst (λ n. Contains (entries_of n) other) (sym f.is) (subst (Contains entries.items) (sym is) (Contains-get_or entries.items (1 - position) no_ref (omega (arith, two))))
other_entry known depth key main other value (of_list position singles is lt s two there) =
    subst (λ n. Contains (entries_of n) other) (sym is) (subst (Contains singles.items) (sym there) (Contains-get_or singles.items (1 - position) no_ref (omega (arith, two))))

branch_or_list_main : (n : Node) → meets BranchOrList n ≡ true → meets AMain n ≡ true
branch_or_list_main n e = grind arith

module _ {limits : Bounds} {states : ℕ → State} {last : ℕ} (run : IsRun limits states last) (t : ℕ) (h : t < last) (actor : ℕ) (operation : Operation)
    (go : GoesAt states run.records t actor operation) where
  abbrev heap : Heap
  heap = (states t).heap

  abbrev own : List Ref
  own = operation.private

  abbrev From : Ref → Ref → Type 0
  From main x = Contains operation.private x ⊎ IsFrom run t actor operation.id operation.generation main x

  abbrev Next : Option Ref → Line → Type 0
  Next o l = LineHas run (suc t) actor operation.id operation.generation (with_made operation.private o) l

  -- once a node is made that names such references
  pub all_then : (l : Line) → operation.line ≡ l → (n : Node) → line_action (states t) operation l ≡ act.Make n → (made : Ref) → next_ref (states t).heap ≡ Some made → (main : Ref) →
      AllFrom run t actor operation.id operation.generation operation.private main →
      ((x : Ref) → Contains (refs_of_node n) x → Contains operation.private x ⊎ IsFrom run t actor operation.id operation.generation main x) →
      AllFrom run (suc t) actor operation.id operation.generation (operation.private ++ made ∷ []) main
  all_then l e n a made next main all its =
      all_made run t actor operation.id operation.generation operation.private (private_made run t h actor operation go.runs) made n
      (takes run t h actor operation go n (ap (line_action (states t) operation) e ∙ a) made next) main all its

  -- an entry of a main node that is looked up
  pub entry_from : (main : Ref) (position : ℕ) → node_at (states t).heap main ≡ node_under states last main → position < length (entries_of (node_at (states t).heap main)) →
      IsFrom run t actor operation.id operation.generation main (entry_at (states t).heap main position)
  entry_from main position there within =
      an_entry (subst (λ n. Contains (entries_of n) (entry_at heap main position)) there (Contains-get_or (entries_of (node_at heap main)) position no_ref within))

  pair_names : (path : List Ref) (main : Ref) (position : ℕ) (single : Ref) (depth : ℕ) → operation.line ≡ line.Build (build.Pair path main position single depth) → Contains own single →
      (a b : ℕ) (x : Ref) →
      Contains (refs_of_node (pair (states t).limits.hash depth a b (entry_at heap main position) single)) x → From main x
  pair_names path main position single depth e has a b x c =
      let all = claims run t h actor operation go _ e in
      by_cases (within all.1.1.1.0) (main_seen run t (omega arith) main ABranch branch_main all.1.1.0)
      (pair_entries (states t).limits.hash depth a b (entry_at heap main position) single x (named_entry _ (pair_no_link (states t).limits.hash depth a b (entry_at heap main position) single) x c))
    where
      within : {wanted : _} → Holds (IsInUse heap) heap (EntryIs main position wanted) → position < length (entries_of (node_at heap main))
      within (entry_is s lt u m) = lt

      by_cases : position < length (entries_of (node_at heap main)) → node_at heap main ≡ node_under states last main → (x ≡ entry_at heap main position) ⊎ (x ≡ single) → From main x
      by_cases lt there (inl old) = inr (subst (IsFrom run t actor operation.id operation.generation main) (sym old) (entry_from main position there lt))
      by_cases lt there (inr new) = inl (subst (Contains own) (sym new) has)

  main_names : (path : List Ref) (main : Ref) (c : Change) (former : Option ℕ) → operation.line ≡ line.Build (build.Main path main c former) → ChangeHas run own c → (flag : ℕ) (x : Ref) →
      Contains (refs_of_node (changed flag (node_at heap main) c)) x → From main x
  main_names path main c former e has flag x named =
      by_cases (changed_entries flag (node_at heap main) c x (named_entry _ (changed_no_link flag (node_at heap main) c (meets_of claim)) x named))
    where
      claim : Holds (IsInUse heap) heap (Is main BranchOrList)
      claim = (claims run t h actor operation go _ e).1.1.0

      there : node_at heap main ≡ node_under states last main
      there = main_seen run t (omega arith) main BranchOrList branch_or_list_main claim

      knows : KnowsLine (known_with limits states last (first_main states last)) operation.call (line.Build (build.Main path main c former))
      knows = subst (λ l. KnowsLine (known_with limits states last (first_main states last)) operation.call l) e (knows_at run t (omega arith) actor operation go.runs)

      brought : (d : Change) → c ≡ d → ChangeHas run own d → KnowsLine (known_with limits states last (first_main states last)) operation.call (line.Build (build.Main path main d former)) →
          IsBrought d x → From main x
      brought (change.Insert single) is has knows b = inl (subst (Contains own) (sym b) has)
      brought (change.Update position entry) is has knows b = inl (subst (Contains own) (sym b) has)
      brought (change.Remove position) is has knows b = absurd b
      brought (change.Entomb single) is has knows b =
          inr (an_entry (subst (Contains (entries_of (node_under states last main))) (sym b)
          (other_entry (known_with limits states last (first_main states last)) (depth_of path) (key_of operation.call) main single knows.0 knows.3)))

      by_cases : Contains (entries_of (node_at heap main)) x ⊎ IsBrought c x → From main x
      by_cases (inl c) = inr (an_entry (subst (λ n. Contains (entries_of n) x) there c))
      by_cases (inr b) = brought c refl has knows b

  pub build_has : (l : BuildLine) → operation.line ≡ line.Build l → LineHas run t actor operation.id operation.generation operation.private (line.Build l) → (n : Line) →
      BuildEdge (states t) operation l n → LineHas run (suc t) actor operation.id operation.generation (with_made operation.private (next_ref (states t).heap)) n
  build_has l e (all, has) n (BuildEdge.no_slot from none) = tt
  build_has l e (all, has) n (BuildEdge.single_absent path main former made next) =
      subst (λ o. Next o n) (sym next)
      (all_then _ e (Single (key_of operation.call) (value_of operation.call)) refl made next main all (λ x c. absurd (no_entry x c)), Contains-push own made)
  build_has l e (all, has) n (BuildEdge.single_at path main former position made next) =
      subst (λ o. Next o n) (sym next)
      (all_then _ e (Single (key_of operation.call) (value_of operation.call)) refl made next main all (λ x c. absurd (no_entry x c)), Contains-push own made)
  build_has l e (all, has) n (BuildEdge.single_beside path main former position made next) =
      subst (λ o. Next o n) (sym next)
      (all_then _ e (Single (key_of operation.call) (value_of operation.call)) refl made next main all (λ x c. absurd (no_entry x c)), Contains-push own made)
  build_has l e (all, has) n (BuildEdge.pair_made path main position single depth made next) =
      subst (λ o. Next o n) (sym next)
      (all_then _ e _ refl made next main all (pair_names path main position single depth e has (old_hash (states t) main position) (hash_in (states t) operation)), Contains-push own made)
  build_has l e (all, has) n (BuildEdge.link_top path main position under depth made next top) =
      subst (λ o. Next o n) (sym next)
      (all_then _ e (Indirection (start_of operation) under) refl made next main all (λ x c. inl (subst (Contains own) (sym (one_entry under x c)) has)), Contains-push own made)
  build_has l e (all, has) n (BuildEdge.link_below path main position under depth made next top) =
      subst (λ o. Next o n) (sym next)
      (all_then _ e (Indirection (start_of operation) under) refl made next main all (λ x c. inl (subst (Contains own) (sym (one_entry under x c)) has)), Contains-push own made)
  build_has l e (all, has) n (BuildEdge.rung_made path main position under depth made next) =
      subst (λ o. Next o n) (sym next)
      (all_then _ e (rung (hash_in (states t) operation) depth under) refl made next main all (λ x c. inl (subst (Contains own) (sym (one_entry under x c)) has)), Contains-push own made)
  build_has l e (all, has) n (BuildEdge.main_made path main c former made next) =
      subst (λ o. Next o n) (sym next)
      (all_then _ e _ refl made next main all (main_names path main c former e has (flag_in (states t) operation path)))
