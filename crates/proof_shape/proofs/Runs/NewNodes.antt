-- A node that a line makes names what may be read, and what the line holds.
use Rattle.std.proofs.Common.{◌≡◌, ℕ, suc, ◌<◌, ◌⊎◌, ◌&&◌, true, false, List, slice_set, slice_index_or, Contains, Option, Some, None, inl, inr, refl}
use Rattle.std.proofs.Common.{sym, ◌∙◌, ap, subst, arith}
use Rattle.std.proofs.lemmas.Bool.{true≢false}
use Rattle.std.proofs.lemmas.List.Elements.{Contains-get_or}
use Rattle.proof_shape.specs.Vocabulary.{Ref, Node, Indirection, Branch, Single, Tomb, List as Listed, Heap, node_at, entry_at, entries_of, bitmap_of, empty_branch, no_ref, rung, BuildLine, Change}
use Rattle.proof_shape.specs.Vocabulary.{CopyLine, KeyLine, Line, Operation, ReadLine, Swap, CleanLine, ClimbLine, RenewLine, Purpose, Climb, Complete, RootLine, Bounds, WalkLine, key_of, value_of}
use Rattle.proof_shape.specs.Vocabulary.{State, current, above, flag_in, hash_in, is_below_root, start_of, read_action, old_hash, branch_of, cleaned, leaves_single, climbed_node, place_in}
use Rattle.proof_shape.specs.Vocabulary.{line_action, node_under, IsRun, IsInUse, Wanted, AMain, ABranch, BranchOrList, ASingle, meets, Holds, Is, Given, words_of, is_made}
use Rattle.proof_shape.specs.Beneath.machine_model.specs.declared.actions.Action.TheVariants as act
use Rattle.proof_shape.specs.Beneath.machine_model.specs.declared.building.BuildLine.TheVariants as build
use Rattle.proof_shape.specs.Beneath.machine_model.specs.declared.building.Change.TheVariants as change
use Rattle.proof_shape.specs.Beneath.machine_model.specs.declared.copying.CopyLine.TheVariants as copy
use Rattle.proof_shape.specs.Beneath.machine_model.specs.declared.lines.Line.TheVariants as line
use Rattle.proof_shape.specs.Beneath.machine_model.specs.declared.repairs.CleanLine.TheVariants as clean
use Rattle.proof_shape.specs.Beneath.machine_model.specs.declared.repairs.ClimbLine.TheVariants as climb
use Rattle.proof_shape.specs.Beneath.machine_model.specs.declared.repairs.RenewLine.TheVariants as renew
use Rattle.proof_shape.specs.Beneath.proof_memory.proofs.Claims.Uses.{Meets, entry_of, as_meets}
use Rattle.proof_shape.specs.Beneath.proof_memory.proofs.Claims.Nodes.{branch_main, both_main}
use Rattle.proof_shape.specs.Beneath.proof_memory.proofs.Claims.Named.{main_claim, past_place, single_claim, past_climb}
use Rattle.proof_shape.proofs.Runs.EachAt.{GoesAt}
use Rattle.proof_shape.proofs.Runs.Seen.{main_seen, single_seen}
use Rattle.proof_shape.proofs.Lines.Key.{claims}
use Rattle.proof_shape.proofs.Lines.Climb.{remembered, position_within}
use Rattle.proof_shape.proofs.Opened.Mains.{IsOpen, named}
use Rattle.proof_shape.proofs.Runs.Entries.{no_entry, one_entry, of_take, of_set, pair_entries, contracted_entries, IsBrought, changed_entries}
use Rattle.proof_shape.proofs.Runs.MadeNodes.{is_making, quiet_step, new_names, root_names}
use Rattle.proof_shape.proofs.Held.Fresh.{IsHeld}
use Rattle.proof_shape.proofs.Held.Lines.{Came, same, single, anew, AllCame, HeldChange, HeldBuild, HeldRenew, HeldClean, HeldIn}
use Rattle.proof_shape.specs.Beneath.proof_commits.proofs.Known.Acts.{known_run}
use Rattle.std.proofs.lemmas.List.{get_or_default}

-- ---- lines that make nothing

pub read_quiet : (i : Ref) (l : ReadLine) → is_making (read_action i l) ≡ false
read_quiet i l = grind arith

root_quiet : (state : State) (operation : Operation) (l : RootLine) → is_making (line_action state operation (line.Root l)) ≡ false
root_quiet state operation l = grind arith

key_quiet : (state : State) (operation : Operation) (l : KeyLine) → is_making (line_action state operation (line.Key l)) ≡ false
key_quiet state operation l = grind arith

pub swap_quiet : (state : State) (operation : Operation) (why : Purpose) (s : Swap) → is_making (line_action state operation (line.Swap why s)) ≡ false
swap_quiet state operation why s = grind arith

walk_quiet : (state : State) (operation : Operation) (l : WalkLine) → is_making (line_action state operation (line.Walk l)) ≡ false
walk_quiet state operation l = grind arith

complete_quiet : (state : State) (operation : Operation) (c : Complete) → is_making (line_action state operation (line.Copy (copy.Complete c))) ≡ false
complete_quiet state operation c = grind arith

climb_root_quiet : (state : State) (operation : Operation) (c : Climb) (l : RootLine) → is_making (line_action state operation (line.Climb (climb.Root c l))) ≡ false
climb_root_quiet state operation c l = grind arith

module _ {limits : Bounds} {states : ℕ → State} {last : ℕ} (run : IsRun limits states last) (t : ℕ) (h : t < last) (actor : ℕ) (operation : Operation)
    (go : GoesAt states run.records t actor operation) (start : ℕ) where
  abbrev heap : Heap
  heap = (states t).heap

  -- what is named so
  abbrev NamesWell : Ref → Type 0
  NamesWell r = IsOpen run t r ⊎ ((s : ℕ) × IsHeld run t actor s r)

  -- a single isn't an indirection
  single_not_link : (r : Ref) → Meets (IsInUse heap) heap ASingle r → (g : ℕ) (y : Ref) → node_under states last r ≡ Indirection g y → ⊥
  single_not_link r s g y is = by_node (node_at heap r) refl s.1
    where
      by_node : (n : Node) → node_at heap r ≡ n → meets ASingle n ≡ true → ⊥
      by_node (Single k v) e m = let bad : Single k v ≡ Indirection g y = sym (single_seen run t (omega arith) r s.0 k v e) ∙ is in let wrong : ⊥ = cc in wrong
      by_node (Indirection h w) e m = true≢false (sym m)
      by_node (Branch b es) e m = true≢false (sym m)
      by_node (Tomb q) e m = true≢false (sym m)
      by_node (Listed ss) e m = true≢false (sym m)

  module _ (m r : Ref) (before : is_made states t m ≡ false) (after : is_made states (suc t) m ≡ true) (names : Contains (entries_of (node_under states last m)) r)
      (g : ℕ) (y : Ref) (is : node_under states last r ≡ Indirection g y) where
    quiet : (l : Line) → operation.line ≡ l → is_making (line_action (states t) operation l) ≡ false → NamesWell r
    quiet l e q =
        absurd (true≢false (sym after ∙ quiet_step run t h actor operation go (ap (λ x. is_making (line_action (states t) operation x)) e ∙ q) m ∙ before))

    entries_new : (l : Line) → operation.line ≡ l → (n : Node) → line_action (states t) operation l ≡ act.Make n → Contains (entries_of n) r
    entries_new l e n a = new_names run t h actor operation go n (ap (line_action (states t) operation) e ∙ a) m r before after names

    no_root : (l : Line) → operation.line ≡ l → (main : Ref) → line_action (states t) operation l ≡ act.MakeRoot main → NamesWell r
    no_root l e main a = absurd (root_names run t h actor operation go main (ap (line_action (states t) operation) e ∙ a) m r before after names)

    -- an entry of the main node before
    by_main : (i main : Ref) → Given (words_of states run.records last (known_run run).closing) t actor i main → (wanted : Wanted) →
        ((n : Node) → meets wanted n ≡ true → meets AMain n ≡ true) →
        Holds (IsInUse heap) heap (Is main wanted) → Contains (entries_of (node_at heap main)) r → NamesWell r
    by_main i main given wanted also claim c =
        inl (named actor i main given (subst (λ n. Contains (entries_of n) r) (main_seen run t (omega arith) main wanted also claim) c))

    -- an entry that was done
    by_done : (i main : Ref) → Given (words_of states run.records last (known_run run).closing) t actor i main → (done : List Ref) →
        AllCame run (IsHeld run t actor start) main done → Contains done r → NamesWell r
    by_done i main given done all (n, lt, at) = by_came (slice_index_or done n no_ref) (get_or_default done n no_ref r lt ∙ at) (all n lt)
      where
        by_came : (other : Ref) → other ≡ r →
            Came (node_under states last) (IsHeld run t actor start) (slice_index_or (entries_of (node_under states last main)) n no_ref) other → NamesWell r
        by_came other other_is (same e) =
            let within = position_within run r g y is n (entries_of (node_under states last main)) (e ∙ other_is) in
            inl (named actor i main given
            (subst (λ x. Contains (entries_of (node_under states last main)) x) (e ∙ other_is) (Contains-get_or (entries_of (node_under states last main)) n no_ref within)))
        by_came other other_is (single k v e) = let bad : Single k v ≡ Indirection g y = sym e ∙ ap (node_under states last) other_is ∙ is in let wrong : ⊥ = cc in absurd wrong
        by_came other other_is (anew held) = inr (start, subst (IsHeld run t actor start) other_is held)

    build_names : (l : BuildLine) → operation.line ≡ line.Build l → HeldBuild run t actor start l → NamesWell r
    build_names (build.Single path main s former) e x = absurd (no_entry r (entries_new _ e (Single (key_of operation.call) (value_of operation.call)) refl))
    build_names (build.Pair path main position s depth) e x =
        by_side (pair_entries (states t).limits.hash depth (old_hash (states t) main position) (hash_in (states t) operation) (entry_at heap main position) s r (entries_new _ e _ refl))
      where
        by_side : (r ≡ entry_at heap main position) ⊎ (r ≡ s) → NamesWell r
        by_side (inl it) =
            absurd (single_not_link (entry_at heap main position) (entry_of (past_place (claims run t h actor operation go _ e)).0) g y (ap (node_under states last) (sym it) ∙ is))
        by_side (inr it) =
            absurd (single_not_link s (as_meets (past_place (claims run t h actor operation go _ e)).1.0) g y (ap (node_under states last) (sym it) ∙ is))
    build_names (build.Link path main position below depth) e x = absurd (no_entry r (entries_new _ e (Indirection (start_of operation) below) refl))
    build_names (build.Rung path main position below depth) e x =
        inr (start, subst (IsHeld run t actor start) (sym (one_entry below r (entries_new _ e (rung (hash_in (states t) operation) depth below) refl))) x.0)
    build_names (build.Main path main c former) e x = by_change c former e x (changed_entries (flag_in (states t) operation path) (node_at heap main) c r (entries_new _ e _ refl))
      where
        by_change : (c : Change) (former : Option ℕ) → operation.line ≡ line.Build (build.Main path main c former) → HeldChange run t actor start former c →
            Contains (entries_of (node_at heap main)) r ⊎ IsBrought c r → NamesWell r
        by_change c former e x (inl old) =
            by_main (current path) main (remembered run t h actor operation go _ e) BranchOrList both_main (main_claim (claims run t h actor operation go _ e)) old
        by_change (change.Insert s) former e x (inr it) =
            absurd (single_not_link s (as_meets (past_place (claims run t h actor operation go _ e)).0) g y (ap (node_under states last) (sym it) ∙ is))
        by_change (change.Update position entry) None e x (inr it) = inr (start, subst (IsHeld run t actor start) (sym it) (x refl).0)
        by_change (change.Update position entry) (Some v) e x (inr it) =
            absurd (single_not_link entry (as_meets (past_place (claims run t h actor operation go _ e)).0) g y (ap (node_under states last) (sym it) ∙ is))
        by_change (change.Remove position) former e x (inr none) = absurd none
        by_change (change.Entomb s) former e x (inr it) =
            absurd (single_not_link s (as_meets (past_place (claims run t h actor operation go _ e)).0) g y (ap (node_under states last) (sym it) ∙ is))

    renew_names : (l : RenewLine) → operation.line ≡ line.Renew l → HeldRenew run t actor start l → NamesWell r
    renew_names (renew.Branch path main done) e x =
        by_done (current path) main (remembered run t h actor operation go _ e) done x (of_take 32 done r (entries_new _ e (branch_of (states t) main done) refl))
    renew_names (renew.Link path main done child) e x = absurd (no_entry r (entries_new _ e (Indirection (start_of operation) child) refl))
    renew_names (renew.Entry path main done) e x = quiet _ e refl
    renew_names (renew.Read path main done q) e x = quiet _ e (read_quiet q.indirection q.line)

    clean_names : (l : CleanLine) → operation.line ≡ line.Clean l → HeldClean run t actor start l → NamesWell r
    clean_names (clean.Contracted path main done) e x =
        by_done (current path) main (remembered run t h actor operation go _ e) done x
        (contracted_entries (is_below_root path && leaves_single (states t) done) (bitmap_of (node_at heap main)) done r (entries_new _ e (cleaned (states t) path main done) refl))
    clean_names (clean.Read path q) e x = quiet _ e (read_quiet q.indirection q.line)
    clean_names (clean.Main path main) e x = quiet _ e refl
    clean_names (clean.Entry path main done) e x = quiet _ e refl
    clean_names (clean.Child path main done q) e x = quiet _ e (read_quiet q.indirection q.line)
    clean_names (clean.Tomb path main done child) e x = quiet _ e refl

    climb_names : (l : ClimbLine) → operation.line ≡ line.Climb l → NamesWell r
    climb_names (climb.Contracted c main) e =
        by_set (of_set (entries_of (node_at heap main)) (place_in (states t) operation c main) c.single r
        (contracted_entries (is_below_root (above c.path)) (bitmap_of (node_at heap main)) (slice_set (entries_of (node_at heap main)) (place_in (states t) operation c main) c.single) r
        (entries_new _ e (climbed_node (states t) operation c main) refl)))
      where
        by_set : Contains (entries_of (node_at heap main)) r ⊎ (r ≡ c.single) → NamesWell r
        by_set (inl old) =
            by_main (current (above c.path)) main (remembered run t h actor operation go _ e) ABranch branch_main
            (past_climb (claims run t h actor operation go _ e)).0 old
        by_set (inr it) = absurd (single_not_link c.single (as_meets (single_claim (claims run t h actor operation go _ e))) g y (ap (node_under states last) (sym it) ∙ is))
    climb_names (climb.Read c q) e = quiet _ e (read_quiet q.indirection q.line)
    climb_names (climb.Main c main) e = quiet _ e refl
    climb_names (climb.Root c l) e = quiet _ e (climb_root_quiet (states t) operation c l)

    copy_names : (l : CopyLine) → operation.line ≡ line.Copy l → NamesWell r
    copy_names (copy.Successor at main) e = no_root _ e main refl
    copy_names (copy.Second at main successor) e = no_root _ e main refl
    copy_names (copy.Cleared at main branch) e = no_root _ e branch refl
    copy_names (copy.Empty at main) e = absurd (no_entry r (entries_new _ e empty_branch refl))
    copy_names (copy.Read at q) e = quiet _ e (read_quiet q.indirection q.line)
    copy_names (copy.Offer offer) e = quiet _ e refl
    copy_names (copy.Complete c) e = quiet _ e (complete_quiet (states t) operation c)

    pub line_names : (l : Line) → operation.line ≡ l → HeldIn run t actor operation.id start operation.call l →
        IsOpen run t r ⊎ ((s : ℕ) × IsHeld run t actor s r)
    line_names (line.Build l) e x = build_names l e x
    line_names (line.Renew l) e x = renew_names l e x
    line_names (line.Clean l) e x = clean_names l e x
    line_names (line.Climb l) e x = climb_names l e
    line_names (line.Copy l) e x = copy_names l e
    line_names (line.Root l) e x = quiet _ e (root_quiet (states t) operation l)
    line_names (line.Key l) e x = quiet _ e (key_quiet (states t) operation l)
    line_names (line.Swap why s) e x = quiet _ e (swap_quiet (states t) operation why s)
    line_names (line.Walk l) e x = quiet _ e (walk_quiet (states t) operation l)
    line_names (line.End answer) e x = quiet _ e refl
    line_names line.Impossible e x = quiet _ e refl
