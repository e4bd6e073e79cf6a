-- What a line wants gives what the line after it wants, once the step is taken.
use Rattle.std.proofs.Common.{◌≡◌, ℕ, ◌+◌, ◌==◌, Bool, true, false, nat_lt, List, ◌∷◌, ◌++◌, Option, Some, None, length, refl, ap, ◌∙◌, []}
use Rattle.std.proofs.lemmas.Bool.{false≢true, cond_both}
use Rattle.std.specs.Prelude.{is_some}
use Rattle.proof_memory.specs.Vocabulary.{ReadOnly, Call, Snapshot, Ref, Node, Branch, List as Listed, Heap, node_at, entry_at, entries_of, next_ref, list_depth, pair, contracted, HashKind}
use Rattle.proof_memory.specs.Vocabulary.{Operation, Action, BuildLine, Change, Site, RenewLine, CleanLine, ClimbLine, Climb, CopyLine, WalkLine, Line, handle_of, needs_writable, State, word_at}
use Rattle.proof_memory.specs.Vocabulary.{current, above, flag_in, depth_of, read_step, complete_after, is_plain, renew_next, next_entry, renew_after, renew_after_link, renew_after_branch}
use Rattle.proof_memory.specs.Vocabulary.{build_action, build_after, build_if_made, build_after_made, after_single, after_link, changed, clean_after, clean_after_contracted, climb_after}
use Rattle.proof_memory.specs.Vocabulary.{climb_after_contracted, copy_after, copy_if_made, copy_after_made, after_successor, walk_after, line_action, line_after}
use Rattle.machine_model.specs.declared.building.BuildLine.TheVariants as build
use Rattle.machine_model.specs.declared.building.Change.TheVariants as change
use Rattle.machine_model.specs.declared.building.Site.TheVariants as site
use Rattle.machine_model.specs.declared.repairs.RenewLine.TheVariants as renew
use Rattle.machine_model.specs.declared.repairs.CleanLine.TheVariants as clean
use Rattle.machine_model.specs.declared.repairs.ClimbLine.TheVariants as climb
use Rattle.machine_model.specs.declared.copying.CopyLine.TheVariants as copy
use Rattle.machine_model.specs.declared.walking.WalkLine.TheVariants as walk
use Rattle.machine_model.specs.declared.lines.Line.TheVariants as line
use Rattle.proof_memory.specs.Wants.{Wanted, AnIndirection, AMain, ABranch, BranchOrList, AnEntry, ASingle, WithEntry, AtMost, meets, Claim, Is, Each, So, Holds, is, so, AllHold}
use Rattle.proof_memory.specs.Wants.{word_wants, line_wants, build_wants, update_wants, renew_wants, clean_wants, climb_wants, climb_carries, copy_wants, walk_wants}
use Rattle.proof_memory.proofs.Claims.Uses.{safe_of, meets_of, is_also, fact_of, carried, all_carried, Carries}
use Rattle.proof_memory.proofs.Claims.Nodes.{Heaped, IsNoLink, branch_main, both_main, branch_both, main_no_link, entry_met}
use Rattle.proof_memory.proofs.Claims.Named.{main_claim, past_place, done_claim, left_claim, past_done, past_climb, climb_claims, third_claim}
use Rattle.proof_memory.proofs.Lines.Read.{root_next, complete_next}
use Rattle.proof_memory.proofs.Lines.Shared.{current_is, above_each, above_long, none_each, pushed_each, at_most}
use Rattle.proof_memory.proofs.Lines.Key.{step_next, key_next}
use Rattle.proof_memory.proofs.Lines.Repair.{renew_entry_next, renew_read_next, clean_read_next, clean_main_next, clean_entry_next, child_next, clean_tomb_next, climb_read_next}
use Rattle.proof_memory.proofs.Lines.Repair.{climb_main_next, climb_root_next}
use Rattle.proof_memory.proofs.Lines.Others.{swap_next, root_line_next, copy_read_next, copy_offer_next, copy_complete_next, walk_read_next, walk_main_next, walk_entry_next, root_of_next}
use Rattle.proof_memory.specs.Making.{made_node}

-- ---- main nodes

pub pair_main : (kind : HashKind) (depth a b : ℕ) (x y : Ref) → meets AMain (pair kind depth a b x y) ≡ true
pair_main kind depth a b x y = cond_both (depth == list_depth kind) _ _ (λ node. meets AMain node ≡ true) (λ e. refl) (λ e. refl)

pub changed_main : (flag : ℕ) (node : Node) (c : Change) → meets BranchOrList node ≡ true → meets AMain (changed flag node c) ≡ true
changed_main flag (Branch bitmap entries) (change.Insert single) b = refl
changed_main flag (Branch bitmap entries) (change.Update position entry) b = refl
changed_main flag (Branch bitmap entries) (change.Remove position) b = refl
changed_main flag (Branch bitmap entries) (change.Entomb single) b = refl
changed_main flag (Listed singles) (change.Insert single) b = refl
changed_main flag (Listed singles) (change.Update position entry) b = refl
changed_main flag (Listed singles) (change.Remove position) b = refl
changed_main flag (Listed singles) (change.Entomb single) b = refl
changed_main flag node c b = absurd (false≢true b)

pub contracted_main : (may : Bool) (bitmap : ℕ) (es : List Ref) → meets AMain (contracted may bitmap es) ≡ true
contracted_main true bitmap [] = refl
contracted_main true bitmap (single ∷ []) = refl
contracted_main true bitmap (x ∷ y ∷ es) = refl
contracted_main false bitmap es = refl

pub pair_no_link : (kind : HashKind) (depth a b : ℕ) (x y : Ref) → IsNoLink (pair kind depth a b x y)
pair_no_link kind depth a b x y = main_no_link (pair kind depth a b x y) (pair_main kind depth a b x y)

pub changed_no_link : (flag : ℕ) (node : Node) (c : Change) → meets BranchOrList node ≡ true → IsNoLink (changed flag node c)
changed_no_link flag node c b = main_no_link (changed flag node c) (changed_main flag node c b)

pub contracted_no_link : (may : Bool) (bitmap : ℕ) (es : List Ref) → IsNoLink (contracted may bitmap es)
contracted_no_link may bitmap es = main_no_link (contracted may bitmap es) (contracted_main may bitmap es)

module _ (state : State) (operation : Operation) (S : Ref → Type 0) (H : Heaped S state.heap)
    (T : Ref → Type 0) (after : Heap) (carries : Carries S state.heap T after) where
  abbrev Wants : Line → Type 0
  Wants l = AllHold T after (line_wants state.limits.hash operation.call operation.access l)

  abbrev At : Ref → Wanted → Type 0
  At r wanted = Holds T after (Is r wanted)

  -- what the action makes is safe
  abbrev Fresh : Action → Type 0
  Fresh action = (node : Node) (made : Ref) → made_node state action ≡ Some node → next_ref state.heap ≡ Some made → T made × (node_at after made ≡ node)

  -- it is what is wanted
  made_is : {made : Ref} (wanted : Wanted) (node : Node) → T made × (node_at after made ≡ node) → meets wanted node ≡ true → At made wanted
  made_is wanted node f e = is f.0 (ap (meets wanted) f.1 ∙ e)

  carry : (claims : List Claim) → AllHold S state.heap claims → AllHold T after claims
  carry = all_carried S state.heap T after carries

  -- ---- the nodes of a change

  build_by : (l : BuildLine) → ((made : Ref) → next_ref state.heap ≡ Some made → Wants (build_after_made state operation l made)) → (o : Option Ref) → next_ref state.heap ≡ o →
      Wants (build_if_made state operation l o)
  build_by l f None e = tt
  build_by l f (Some made) e = f made e

  update_made : (main made : Ref) (former : Option ℕ) → is_some former ≡ true → At made ASingle → AllHold T after (update_wants main made former)
  update_made main made None e m = absurd (false≢true e)
  update_made main made (Some value) e m = (m, tt)

  single_next : (path : List Ref) (main : Ref) (former : Option ℕ) (s : Site) (made : Ref) → AllHold T after (build_wants state.limits.hash operation.call (build.Single path main s former)) →
      At made ASingle → Wants (after_single state operation path main former s made)
  single_next path main former site.Absent made h m = (h.0, (h.1.0, (main_claim h, (m, tt))))
  single_next path main former (site.At position) made h m = (h.0, (h.1.0, (main_claim h, update_made main made former (fact_of (past_place h).0) m)))
  single_next path main former (site.Beside position) made h m = (h.0, (h.1.0, ((past_place h).0, ((past_place h).1.0, (m, tt)))))

  link_next : (path : List Ref) (main : Ref) (position depth : ℕ) (made : Ref) → Holds T after (Each path AnIndirection) → Holds T after (So (nat_lt 0 (length path))) →
      At main ABranch → At made AnIndirection → Wants (after_link path main position depth made)
  link_next path main position depth made p q m n =
      cond_both (depth == depth_of path + 1) _ _ Wants (λ e. (p, (q, (is_also BranchOrList branch_both m, (m, (n, tt)))))) (λ e. (p, (q, (m, (n, tt)))))

  -- a SWAP begins
  swap_begun : (path : List Ref) → Holds T after (Each path AnIndirection) → nat_lt 0 (length path) ≡ true → At (current path) AnIndirection
  swap_begun path p q = current_is T after path p q

  build_next : (l : BuildLine) → AllHold S state.heap (build_wants state.limits.hash operation.call l) → Fresh (build_action state operation l) → Wants (build_after state operation l)
  build_next (build.Single path main s former) h fresh =
      let c = carry (build_wants state.limits.hash operation.call (build.Single path main s former)) h in
      build_by (build.Single path main s former) (λ made e. single_next path main former s made c (made_is ASingle _ (fresh _ made refl e) refl)) (next_ref state.heap) refl
  build_next (build.Pair path main position single depth) h fresh =
      let c = carry (build_wants state.limits.hash operation.call (build.Pair path main position single depth)) h in
      build_by (build.Pair path main position single depth)
      (λ made e. (c.0, (c.1.0, (main_claim c, (made_is AMain _ (fresh _ made refl e) (pair_main state.limits.hash depth _ _ (entry_at state.heap main position) single), tt)))))
      (next_ref state.heap) refl
  build_next (build.Link path main position below depth) h fresh =
      let c = carry (build_wants state.limits.hash operation.call (build.Link path main position below depth)) h in
      build_by (build.Link path main position below depth) (λ made e. link_next path main position depth made c.0 c.1.0 (main_claim c) (made_is AnIndirection _ (fresh _ made refl e) refl))
      (next_ref state.heap) refl
  build_next (build.Rung path main position below depth) h fresh =
      let c = carry (build_wants state.limits.hash operation.call (build.Rung path main position below depth)) h in
      build_by (build.Rung path main position below depth) (λ made e. (c.0, (c.1.0, (main_claim c, (made_is AMain _ (fresh _ made refl e) refl, tt))))) (next_ref state.heap) refl
  build_next (build.Main path main x former) h fresh =
      let c = carry (build_wants state.limits.hash operation.call (build.Main path main x former)) h in
      build_by (build.Main path main x former)
      (λ made e. (
        swap_begun path c.0 (fact_of c.1.0),
        (
          is_also AMain both_main (main_claim c),
          (made_is AMain _ (fresh _ made refl e) (changed_main (flag_in state operation path) (node_at state.heap main) x (meets_of (main_claim h))), (c.0, (c.1.0, tt))),
        ),
      )) (next_ref state.heap) refl

  -- ---- RENEW

  renewed_next : (path : List Ref) (main : Ref) (done : List Ref) → S main → Holds T after (Each path AnIndirection) → Holds T after (So (nat_lt 0 (length path))) → At main ABranch →
      Holds T after (Each done AnEntry) → Wants (renew_next state path main done)
  renewed_next path main done s p q m d =
      let entries = length (entries_of (node_at state.heap main)) in
      cond_both (nat_lt (length done) entries) _ _ Wants
      (λ e. (p, (q, (m, (d, (carried S state.heap T after carries (is {wanted = WithEntry (length done)} s e), tt))))))
      (λ e. (p, (q, (m, (d, (carried S state.heap T after carries (is {wanted = AtMost (length done)} s (at_most (length done) entries e)), tt))))))

  link_by : (path : List Ref) (main : Ref) (done : List Ref) → ((made : Ref) → next_ref state.heap ≡ Some made → Wants (renew_next state path main (done ++ made ∷ []))) →
      (o : Option Ref) → next_ref state.heap ≡ o → Wants (renew_after_link state path main done o)
  link_by path main done f None e = tt
  link_by path main done f (Some made) e = f made e

  branch_by : (path : List Ref) (main : Ref) → Holds T after (Each path AnIndirection) → nat_lt 0 (length path) ≡ true → At main AMain →
      ((made : Ref) → next_ref state.heap ≡ Some made → At made AMain) →
      (o : Option Ref) → next_ref state.heap ≡ o → Wants (renew_after_branch path main o)
  branch_by path main p q m f None e = tt
  branch_by path main p q m f (Some made) e = (swap_begun path p q, (m, (f made e, (p, (so q, tt)))))

  -- ---- CLEAN and CLIMB

  contracted_by : (path : List Ref) (main : Ref) → Holds T after (Each path AnIndirection) → nat_lt 0 (length path) ≡ true → At main AMain →
      ((made : Ref) → next_ref state.heap ≡ Some made → At made AMain) →
      (o : Option Ref) → next_ref state.heap ≡ o → Wants (clean_after_contracted path main o)
  contracted_by path main p q m f None e = tt
  contracted_by path main p q m f (Some made) e = (swap_begun path p q, (m, (f made e, tt)))

  climb_by : (c : Climb) (main : Ref) → AllHold T after (climb_carries c) → At main AMain → ((made : Ref) → next_ref state.heap ≡ Some made → At made AMain) →
      (o : Option Ref) → next_ref state.heap ≡ o → Wants (climb_after_contracted operation c main o)
  climb_by c main p m f None e = tt
  climb_by c main p m f (Some made) e =
      (swap_begun (above c.path) (above_each T after c.path p.0) (above_long c.path (fact_of p.1.0)), (m, (f made e, climb_claims p)))

  -- ---- COPY

  copy_by : (l : CopyLine) → ((made : Ref) → next_ref state.heap ≡ Some made → Wants (copy_after_made operation l made)) → (o : Option Ref) → next_ref state.heap ≡ o →
      Wants (copy_if_made operation l o)
  copy_by l f None e = tt
  copy_by l f (Some made) e = f made e

  successor_next : (call : Call) (r main made : Ref) → At r AnIndirection → At main AMain → At made AnIndirection →
      AllHold T after (line_wants state.limits.hash operation.call operation.access (after_successor operation call r main made))
  successor_next (Snapshot h) r main made a b c = (a, (b, (c, tt)))
  successor_next call r main made a b c = (a, (b, (c, (none_each T after, tt))))

  -- ---- all lines

  module _ (fits : operation.access ≡ ReadOnly → needs_writable operation.call ≡ false) (W : AllHold S state.heap (word_wants (word_at state (handle_of operation.call)))) where
    renew_line_next : (l : RenewLine) → AllHold S state.heap (renew_wants l) → Fresh (line_action state operation (line.Renew l)) → Wants (renew_after state operation l)
    renew_line_next (renew.Entry path main done) h fresh =
        carry (line_wants state.limits.hash operation.call operation.access (renew_after state operation (renew.Entry path main done)))
        (renew_entry_next state operation S H path main done (next_entry state main done) (node_at state.heap (next_entry state main done)) refl (h.0, h.1.0) (main_claim h)
        (done_claim h) (left_claim h)
        ((entry_met S state.heap H (main_claim h) (left_claim h)).0))
    renew_line_next (renew.Read path main done r) h fresh =
        carry (line_wants state.limits.hash operation.call operation.access (renew_after state operation (renew.Read path main done r)))
        (renew_read_next state operation S H path main done (read_step state operation r) (h.0, h.1.0) (main_claim h) (done_claim h) (left_claim h)
        (step_next state operation S H fits W r (past_done h)))
    renew_line_next (renew.Link path main done child) h fresh =
        let c = carry (renew_wants (renew.Link path main done child)) h in
        link_by path main done
        (λ made e. renewed_next path main (done ++ made ∷ []) (safe_of (main_claim h)) c.0 c.1.0 (main_claim c)
        (pushed_each T after done made (done_claim c) (made_is AnEntry _ (fresh _ made refl e) refl))) (next_ref state.heap) refl
    renew_line_next (renew.Branch path main done) h fresh =
        let c = carry (renew_wants (renew.Branch path main done)) h in
        branch_by path main c.0 (fact_of c.1.0) (is_also AMain branch_main (main_claim c)) (λ made e. made_is AMain _ (fresh _ made refl e) refl) (next_ref state.heap) refl

    clean_line_next : (l : CleanLine) → AllHold S state.heap (clean_wants l) → Fresh (line_action state operation (line.Clean l)) → Wants (clean_after state operation l)
    clean_line_next (clean.Read path r) h fresh =
        carry (line_wants state.limits.hash operation.call operation.access (clean_after state operation (clean.Read path r)))
        (clean_read_next state operation S H path (read_step state operation r) (h.0, h.1.0) (step_next state operation S H fits W r h.1.1))
    clean_line_next (clean.Main path main) h fresh =
        carry (line_wants state.limits.hash operation.call operation.access (clean_after state operation (clean.Main path main)))
        (clean_main_next state operation S H path main (node_at state.heap main) refl (h.0, h.1.0) (safe_of (main_claim h)))
    clean_line_next (clean.Entry path main done) h fresh =
        carry (line_wants state.limits.hash operation.call operation.access (clean_after state operation (clean.Entry path main done)))
        (clean_entry_next state operation S H path main done (next_entry state main done) (node_at state.heap (next_entry state main done)) refl (h.0, h.1.0) (main_claim h)
        (done_claim h) (left_claim h)
        ((entry_met S state.heap H (main_claim h) (left_claim h)).0))
    clean_line_next (clean.Child path main done r) h fresh =
        carry (line_wants state.limits.hash operation.call operation.access (clean_after state operation (clean.Child path main done r)))
        (child_next state operation S H path main done (read_step state operation r) (h.0, h.1.0) (main_claim h) (done_claim h) (left_claim h) (step_next state operation S H fits W r (past_done h)))
    clean_line_next (clean.Tomb path main done child) h fresh =
        carry (line_wants state.limits.hash operation.call operation.access (clean_after state operation (clean.Tomb path main done child)))
        (clean_tomb_next state operation S H path main done (node_at state.heap child) (H.inside child (safe_of (past_done h).0)) (h.0, h.1.0) (main_claim h) (done_claim h) (left_claim h))
    clean_line_next (clean.Contracted path main done) h fresh =
        let c = carry (clean_wants (clean.Contracted path main done)) h in
        contracted_by path main c.0 (fact_of c.1.0) (is_also AMain branch_main (main_claim c))
        (λ made e. made_is AMain _ (fresh _ made refl e) (contracted_main _ _ done)) (next_ref state.heap) refl

    climb_line_next : (l : ClimbLine) → AllHold S state.heap (climb_wants state.limits.hash operation.call l) → Fresh (line_action state operation (line.Climb l)) →
        Wants (climb_after state operation l)
    climb_line_next (climb.Read c r) h fresh =
        carry (line_wants state.limits.hash operation.call operation.access (climb_after state operation (climb.Read c r)))
        (climb_read_next state operation S H c (read_step state operation r) (climb_claims h) (step_next state operation S H fits W r (past_climb h)))
    climb_line_next (climb.Main c main) h fresh =
        carry (line_wants state.limits.hash operation.call operation.access (climb_after state operation (climb.Main c main)))
        (climb_main_next state operation S H c main (node_at state.heap main) refl (H.inside main (safe_of (past_climb h).0)) (climb_claims h) (safe_of (past_climb h).0))
    climb_line_next (climb.Contracted c main) h fresh =
        let x = carry (climb_wants state.limits.hash operation.call (climb.Contracted c main)) h in
        climb_by c main (climb_claims x) (is_also AMain branch_main (past_climb x).0) (λ made e. made_is AMain _ (fresh _ made refl e) (contracted_main _ _ _)) (next_ref state.heap) refl
    climb_line_next (climb.Root c l) h fresh =
        carry (line_wants state.limits.hash operation.call operation.access (climb_after state operation (climb.Root c l)))
        (climb_root_next state operation S H c _ (climb_claims h) (root_next S state.heap H operation.access (word_at state (handle_of operation.call)) W l (past_climb h)))

    copy_line_next : (l : CopyLine) → AllHold S state.heap (copy_wants l) → Fresh (line_action state operation (line.Copy l)) → Wants (copy_after state operation l)
    copy_line_next (copy.Read r l) h fresh =
        carry (line_wants state.limits.hash operation.call operation.access (copy_after state operation (copy.Read r l)))
        (copy_read_next state operation S H W r (read_step state operation l) h.0 (step_next state operation S H fits W l h.1))
    copy_line_next (copy.Successor r main) h fresh =
        let c = carry (copy_wants (copy.Successor r main)) h in
        copy_by (copy.Successor r main) (λ made e. successor_next operation.call r main made c.0 c.1.0 (made_is AnIndirection _ (fresh _ made refl e) refl)) (next_ref state.heap) refl
    copy_line_next (copy.Second r main successor) h fresh =
        let c = carry (copy_wants (copy.Second r main successor)) h in
        copy_by (copy.Second r main successor)
        (λ made e. (c.0, (c.1.0, (third_claim c, (pushed_each T after [] made (none_each T after) (made_is AnIndirection _ (fresh _ made refl e) refl), tt))))) (next_ref state.heap) refl
    copy_line_next (copy.Empty r main) h fresh =
        let c = carry (copy_wants (copy.Empty r main)) h in
        copy_by (copy.Empty r main) (λ made e. (c.0, (c.1.0, (made_is AMain _ (fresh _ made refl e) refl, tt)))) (next_ref state.heap) refl
    copy_line_next (copy.Cleared r main branch) h fresh =
        let c = carry (copy_wants (copy.Cleared r main branch)) h in
        copy_by (copy.Cleared r main branch) (λ made e. (c.0, (c.1.0, (made_is AnIndirection _ (fresh _ made refl e) refl, (none_each T after, tt))))) (next_ref state.heap) refl
    copy_line_next (copy.Offer offer) h fresh =
        carry (line_wants state.limits.hash operation.call operation.access (copy_after state operation (copy.Offer offer)))
        (copy_offer_next state operation S H W offer (is_plain (word_at state (handle_of operation.call)) offer.root) h)
    copy_line_next (copy.Complete c) h fresh =
        carry (line_wants state.limits.hash operation.call operation.access (copy_after state operation (copy.Complete c)))
        (copy_complete_next state operation S H W (complete_after state.heap operation.access (word_at state (handle_of operation.call)) c)
        (complete_next S state.heap H operation.access (word_at state (handle_of operation.call)) W c h))

    walk_line_next : (l : WalkLine) → AllHold S state.heap (walk_wants l) → Wants (walk_after state operation l)
    walk_line_next walk.Root h =
        carry (line_wants state.limits.hash operation.call operation.access (walk_after state operation walk.Root))
        (none_each S state.heap, (root_of_next state operation S H W (word_at state (handle_of operation.call)) W, tt))
    walk_line_next (walk.Read r todo pairs) h =
        carry (line_wants state.limits.hash operation.call operation.access (walk_after state operation (walk.Read r todo pairs)))
        (walk_read_next state operation S H W todo pairs (read_step state operation r) h.0 (step_next state operation S H fits W r h.1))
    walk_line_next (walk.Main main todo pairs) h =
        carry (line_wants state.limits.hash operation.call operation.access (walk_after state operation (walk.Main main todo pairs)))
        (walk_main_next state operation S H W main todo pairs h.1.0 h.0)
    walk_line_next (walk.Entry todo pairs) h =
        carry (line_wants state.limits.hash operation.call operation.access (walk_after state operation (walk.Entry todo pairs)))
        (walk_entry_next state operation S H W todo pairs h.0 (fact_of h.1.0))

    -- any line
    pub line_next : (l : Line) → AllHold S state.heap (line_wants state.limits.hash operation.call operation.access l) → Fresh (line_action state operation l) → Wants (line_after state operation l)
    line_next (line.Root l) h fresh =
        carry (line_wants state.limits.hash operation.call operation.access (line_after state operation (line.Root l)))
        (root_line_next state operation S H W _ (root_next S state.heap H operation.access (word_at state (handle_of operation.call)) W l h))
    line_next (line.Key l) h fresh =
        carry (line_wants state.limits.hash operation.call operation.access (line_after state operation (line.Key l))) (key_next state operation S H fits W l h)
    line_next (line.Build l) h fresh = build_next l h fresh
    line_next (line.Swap why s) h fresh =
        carry (line_wants state.limits.hash operation.call operation.access (line_after state operation (line.Swap why s))) (swap_next state operation S H W why s h)
    line_next (line.Renew l) h fresh = renew_line_next l h fresh
    line_next (line.Clean l) h fresh = clean_line_next l h fresh
    line_next (line.Climb l) h fresh = climb_line_next l h fresh
    line_next (line.Copy l) h fresh = copy_line_next l h fresh
    line_next (line.Walk l) h fresh = walk_line_next l h
    line_next (line.End answer) h fresh = tt
    line_next line.Impossible h fresh = tt
