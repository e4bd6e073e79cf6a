-- What is known of generations in the node that a line makes.
use Rattle.std.proofs.Common.{◌≡◌, ℕ, ◌⊎◌, true, ◌∷◌, set, Some, refl, sym, ap, ◌∙◌, subst, inl, inr, ◌&&◌, []}
use Rattle.std.specs.Prelude.{unwrap_or, Option}
use Rattle.std.specs.List.{All}
use Rattle.std.proofs.lemmas.Bool.{false≢true}
use Rattle.std.proofs.lemmas.Option.{none-some, same_Some}
use Rattle.std.proofs.lemmas.List.Elements.{All-take, All-set, All-nil}
use Rattle.proof_generations.specs.Vocabulary.{Ref, Node, Indirection, node_at, entries_of, bitmap_of, BuildLine, Change, CopyLine, Line, Operation, Read, CleanLine, ClimbLine, RenewLine, State}
use Rattle.proof_generations.specs.Vocabulary.{flag_in, is_below_root, above, start_of, leaves_single, place_in, line_action, ASingle, meets, AllHold, line_wants, change_wants, made_node}
use Rattle.proof_generations.specs.Beneath.machine_model.specs.declared.actions.Action.TheVariants as act
use Rattle.proof_generations.specs.Beneath.machine_model.specs.declared.building.BuildLine.TheVariants as build
use Rattle.proof_generations.specs.Beneath.machine_model.specs.declared.building.Change.TheVariants as change
use Rattle.proof_generations.specs.Beneath.machine_model.specs.declared.copying.CopyLine.TheVariants as copy
use Rattle.proof_generations.specs.Beneath.machine_model.specs.declared.lines.Line.TheVariants as line
use Rattle.proof_generations.specs.Beneath.machine_model.specs.declared.repairs.CleanLine.TheVariants as clean
use Rattle.proof_generations.specs.Beneath.machine_model.specs.declared.repairs.ClimbLine.TheVariants as climb
use Rattle.proof_generations.specs.Beneath.machine_model.specs.declared.repairs.RenewLine.TheVariants as renew
use Rattle.proof_generations.specs.Beneath.proof_memory.proofs.Claims.Uses.{safe_of, meets_of, entry_of}
use Rattle.proof_generations.specs.Beneath.proof_memory.proofs.Lines.Next.{pair_no_link, contracted_no_link, changed_no_link}
use Rattle.proof_generations.specs.Beneath.proof_memory.proofs.Claims.Nodes.{IsNoLink}
use Rattle.proof_generations.specs.Beneath.proof_memory.proofs.Claims.Named.{main_claim, past_place, single_claim, past_climb}
use Rattle.proof_generations.proofs.Counter.Made.{root_makes, key_makes, swap_makes, walk_makes, read_makes, complete_makes}
use Rattle.proof_generations.proofs.Lines.Knows.{Knows, KnowsBuild, KnowsRenew, KnowsClean, KnowsClimb, KnowsCopy, KnowsChange, one_of}
use Rattle.proof_generations.proofs.Falling.MadeNodes.{pair_entries, contracted_entries, changed_entries, ChangeFits}

module _ (state : State) (operation : Operation) (start : ℕ) (begun : operation.generation ≡ Some start) (Own Fits Falls : Ref → Type 0) (Late : Read → Type 0) (S : Ref → Type 0)
    (own_fits : (r : Ref) → Own r → Fits r) (single_fits : (r : Ref) → S r → meets ASingle (node_at state.heap r) ≡ true → Fits r)
    (entries_fit : (m : Ref) → S m → Falls m → All Fits (entries_of (node_at state.heap m))) where
  -- a single
  abbrev pub SingleMade : Node → Type 0
  SingleMade n = meets ASingle n ≡ true

  -- a main node whose entries fit
  abbrev pub MainMade : Node → Type 0
  MainMade n = IsNoLink n × All Fits (entries_of n)

  -- an indirection of this generation over such a one
  abbrev pub LinkMade : ℕ → Node → Type 0
  LinkMade h n = (word : Ref) × (n ≡ Indirection h word) × Falls word

  abbrev pub BuildNode : BuildLine → Node → Type 0
  BuildNode (build.Single path main s former) n = SingleMade n
  BuildNode (build.Link path main position below depth) n = LinkMade start n
  BuildNode l n = MainMade n

  abbrev pub RenewNode : RenewLine → Node → Type 0
  RenewNode (renew.Link path main done child) n = LinkMade start n
  RenewNode l n = MainMade n

  abbrev pub CopyNode : CopyLine → Node → Type 0
  CopyNode (copy.Empty root main) n = MainMade n
  CopyNode l n = LinkMade state.generations n

  -- by the line; those that make nothing are left out
  abbrev pub NodeMade : Line → Node → Type 0
  NodeMade (line.Build l) n = BuildNode l n
  NodeMade (line.Renew l) n = RenewNode l n
  NodeMade (line.Clean l) n = MainMade n
  NodeMade (line.Climb l) n = MainMade n
  NodeMade (line.Copy l) n = CopyNode l n
  NodeMade l n = ⊥

  starts : start_of operation ≡ start
  starts = ap (λ (o : Option ℕ). unwrap_or o 0) begun

  abbrev Wants : Line → Type 0
  Wants l = AllHold S state.heap (line_wants state.limits.hash operation.call operation.access l)

  -- ---- BUILD

  change_fits : (main : Ref) (flag : ℕ) (former : Option ℕ) (c : Change) → KnowsChange Own Fits Falls Late c → AllHold S state.heap (change_wants main flag former c) → ChangeFits Fits c
  change_fits main flag former (change.Insert single) k w = single_fits single (safe_of w.0) (meets_of w.0)
  change_fits main flag former (change.Update position entry) k w = k
  change_fits main flag former (change.Remove position) k w = tt
  change_fits main flag former (change.Entomb single) k w = single_fits single (safe_of w.0) (meets_of w.0)

  build_node : (l : BuildLine) → KnowsBuild Own Fits Falls Late l → Wants (line.Build l) → (n : Node) → made_node state (line_action state operation (line.Build l)) ≡ Some n → BuildNode l n
  build_node (build.Single path main s former) k w n e = ap (meets ASingle) (sym (same_Some _ _ e))
  build_node (build.Pair path main position single depth) k w n e =
      let old = entry_of (past_place w).0 in
      let new = (past_place w).1.0 in
      subst MainMade (same_Some _ _ e)
      (pair_no_link state.limits.hash depth _ _ _ single, pair_entries Fits state.limits.hash depth _ _ _ single (single_fits _ old.0 old.1) (single_fits single (safe_of new) (meets_of new)))
  build_node (build.Link path main position below depth) k w n e = (below, sym (same_Some _ _ e) ∙ ap (λ g. Indirection g below) starts, k.1)
  build_node (build.Rung path main position below depth) k w n e =
      subst MainMade (same_Some _ _ e) (λ h word is. let wrong : ⊥ = cc is in wrong, All-take Fits 32 (below ∷ []) (one_of Fits below (own_fits below k.1)))
  build_node (build.Main path main c former) k w n e =
      let at = main_claim w in
      subst MainMade (same_Some _ _ e) (
        changed_no_link (flag_in state operation path) (node_at state.heap main) c (meets_of at),
        changed_entries Fits (flag_in state operation path) (node_at state.heap main) c (meets_of at) (entries_fit main (safe_of at) k.0.1) (change_fits main _ former c k.1 (past_place w)),
      )

  -- ---- RENEW, CLEAN and CLIMB

  renew_node : (l : RenewLine) → KnowsRenew Own Fits Falls Late l → (n : Node) → made_node state (line_action state operation (line.Renew l)) ≡ Some n → RenewNode l n
  renew_node (renew.Entry path main done) k n e = absurd (none-some n e)
  renew_node (renew.Read path main done r) k n e = absurd (read_makes state r.indirection r.line n e)
  renew_node (renew.Link path main done child) k n e = (child, sym (same_Some _ _ e) ∙ ap (λ g. Indirection g child) starts, k.1)
  renew_node (renew.Branch path main done) k n e = subst MainMade (same_Some _ _ e) (λ h word is. let wrong : ⊥ = cc is in wrong, All-take Fits 32 done k.1)

  clean_node : (l : CleanLine) → KnowsClean Own Fits Falls Late l → (n : Node) → made_node state (line_action state operation (line.Clean l)) ≡ Some n → MainMade n
  clean_node (clean.Read path r) k n e = absurd (read_makes state r.indirection r.line n e)
  clean_node (clean.Main path main) k n e = absurd (none-some n e)
  clean_node (clean.Entry path main done) k n e = absurd (none-some n e)
  clean_node (clean.Child path main done r) k n e = absurd (read_makes state r.indirection r.line n e)
  clean_node (clean.Tomb path main done child) k n e = absurd (none-some n e)
  clean_node (clean.Contracted path main done) k n e =
      subst MainMade (same_Some _ _ e) (
        contracted_no_link (is_below_root path && leaves_single state done) (bitmap_of (node_at state.heap main)) done,
        contracted_entries Fits (is_below_root path && leaves_single state done) (bitmap_of (node_at state.heap main)) done k.1,
      )

  climb_node : (l : ClimbLine) → KnowsClimb Own Fits Falls Late l → Wants (line.Climb l) → (n : Node) → made_node state (line_action state operation (line.Climb l)) ≡ Some n → MainMade n
  climb_node (climb.Read c r) k w n e = absurd (read_makes state r.indirection r.line n e)
  climb_node (climb.Main c main) k w n e = absurd (none-some n e)
  climb_node (climb.Contracted c main) k w n e =
      let single = single_claim w in
      let at = (past_climb w).0 in
      let es = set (entries_of (node_at state.heap main)) (place_in state operation c main) c.single in
      let all = All-set Fits (entries_of (node_at state.heap main)) (place_in state operation c main) c.single
      (single_fits c.single (safe_of single) (meets_of single)) (entries_fit main (safe_of at) k.1) in
      subst MainMade (same_Some _ _ e)
      (contracted_no_link (is_below_root (above c.path)) (bitmap_of (node_at state.heap main)) es, contracted_entries Fits (is_below_root (above c.path)) (bitmap_of (node_at state.heap main)) es all)
  climb_node (climb.Root c l) k w n e = absurd (root_makes state operation l n e)

  -- ---- COPY

  copy_node : (l : CopyLine) → KnowsCopy Own Fits Falls Late l → (n : Node) → made_node state (line_action state operation (line.Copy l)) ≡ Some n → CopyNode l n
  copy_node (copy.Read root r) k n e = absurd (read_makes state r.indirection r.line n e)
  copy_node (copy.Successor root main) k n e = (main, sym (same_Some _ _ e), k.1)
  copy_node (copy.Second root main successor) k n e = (main, sym (same_Some _ _ e), k.1)
  copy_node (copy.Empty root main) k n e = subst MainMade (same_Some _ _ e) (λ h word is. let wrong : ⊥ = cc is in wrong, All-take Fits 32 [] (All-nil Fits))
  copy_node (copy.Cleared root main branch) k n e = (branch, sym (same_Some _ _ e), k.1)
  copy_node (copy.Offer offer) k n e = absurd (none-some n e)
  copy_node (copy.Complete c) k n e = absurd (complete_makes state c n e)

  -- ---- all lines

  pub node_made : (l : Line) → Knows Own Fits Falls Late l → Wants l → (n : Node) → made_node state (line_action state operation l) ≡ Some n → NodeMade l n
  node_made (line.Build l) k w n e = build_node l k w n e
  node_made (line.Renew l) k w n e = renew_node l k n e
  node_made (line.Clean l) k w n e = clean_node l k n e
  node_made (line.Climb l) k w n e = climb_node l k w n e
  node_made (line.Copy l) k w n e = copy_node l k n e
  node_made (line.Root l) k w n e = absurd (root_makes state operation l n e)
  node_made (line.Key l) k w n e = absurd (key_makes state operation l n e)
  node_made (line.Swap why s) k w n e = absurd (swap_makes state operation why s n e)
  node_made (line.Walk l) k w n e = absurd (walk_makes state operation l n e)
  node_made (line.End answer) k w n e = absurd (none-some n e)
  node_made line.Impossible k w n e = absurd (none-some n e)

  -- an indirection that is made is of the operation's generation, or a root of the one that is drawn
  abbrev pub IsNewLink : Line → Node → Type 0
  IsNewLink l n = LinkMade start n ⊎ (((main : Ref) × (line_action state operation l ≡ act.MakeRoot main)) × LinkMade state.generations n)

  no_single_link : (n : Node) (h : ℕ) (word : Ref) → SingleMade n → n ≡ Indirection h word → ⊥
  no_single_link n h word e is = false≢true (sym (ap (meets ASingle) is) ∙ e)

  build_link : (l : BuildLine) (n : Node) (h : ℕ) (word : Ref) → n ≡ Indirection h word → BuildNode l n → IsNewLink (line.Build l) n
  build_link (build.Single path main s former) n h word is m = absurd (no_single_link n h word m is)
  build_link (build.Link path main position below depth) n h word is m = inl m
  build_link (build.Pair path main position single depth) n h word is m = absurd (m.0 h word is)
  build_link (build.Rung path main position below depth) n h word is m = absurd (m.0 h word is)
  build_link (build.Main path main c former) n h word is m = absurd (m.0 h word is)

  renew_link : (l : RenewLine) (n : Node) (h : ℕ) (word : Ref) → n ≡ Indirection h word → RenewNode l n → IsNewLink (line.Renew l) n
  renew_link (renew.Link path main done child) n h word is m = inl m
  renew_link (renew.Entry path main done) n h word is m = absurd (m.0 h word is)
  renew_link (renew.Read path main done r) n h word is m = absurd (m.0 h word is)
  renew_link (renew.Branch path main done) n h word is m = absurd (m.0 h word is)

  copy_link : (l : CopyLine) (n : Node) (h : ℕ) (word : Ref) → n ≡ Indirection h word → made_node state (line_action state operation (line.Copy l)) ≡ Some n → CopyNode l n → IsNewLink (line.Copy l) n
  copy_link (copy.Empty root main) n h word is e m = absurd (m.0 h word is)
  copy_link (copy.Successor root main) n h word is e m = inr ((main, refl), m)
  copy_link (copy.Second root main successor) n h word is e m = inr ((main, refl), m)
  copy_link (copy.Cleared root main branch) n h word is e m = inr ((branch, refl), m)
  copy_link (copy.Read root r) n h word is e m = absurd (read_makes state r.indirection r.line n e)
  copy_link (copy.Offer offer) n h word is e m = absurd (none-some n e)
  copy_link (copy.Complete c) n h word is e m = absurd (complete_makes state c n e)

  pub link_made : (l : Line) (n : Node) (h : ℕ) (word : Ref) → n ≡ Indirection h word → made_node state (line_action state operation l) ≡ Some n → NodeMade l n → IsNewLink l n
  link_made (line.Build l) n h word is e m = build_link l n h word is m
  link_made (line.Renew l) n h word is e m = renew_link l n h word is m
  link_made (line.Clean l) n h word is e m = absurd (m.0 h word is)
  link_made (line.Climb l) n h word is e m = absurd (m.0 h word is)
  link_made (line.Copy l) n h word is e m = copy_link l n h word is e m
  link_made l n h word is e m = absurd m
