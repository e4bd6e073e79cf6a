-- What a step of RENEW and CLEAN makes names what the operation made before, entries of the branch, and what READs of these gave.
use Rattle.std.proofs.Common.{◌≡◌, ℕ, suc, ◌<◌, ◌⊎◌, ◌==◌, ◌&&◌, true, List, [], ◌∷◌, ◌++◌, length, slice_index_or, unwrap_or, Contains, Some}
use Rattle.std.proofs.Common.{inl, inr, refl, sym, ap, ◌∙◌, subst, arith, ltb-true}
use Rattle.std.proofs.lemmas.Bool.{true≢false}
use Rattle.std.proofs.lemmas.List.Elements.{Contains-push, Contains-push_cases, Contains-get_or}
use Rattle.arrayvec.specs.ArrayVec.{ArrayVec}
use Rattle.proof_fresh.specs.Vocabulary.{Ref, Node, Indirection, Branch, Single, Tomb, List as Listed, Heap, no_ref, entries_of, bitmap_of, generation_of}
use Rattle.proof_fresh.specs.Vocabulary.{node_at, main_at, next_ref, RenewLine, CleanLine, ReadLine}
use Rattle.proof_fresh.specs.Vocabulary.{Line, Operation, Bounds, State, verdict, is_below_root, leaves_single, start_of, next_entry, branch_of}
use Rattle.proof_fresh.specs.Vocabulary.{cleaned, line_action, read_action, grown, node_under, IsRun}
use Rattle.proof_fresh.specs.Beneath.machine_model.specs.Acting.{with_made, private_after}
use Rattle.proof_fresh.specs.Beneath.machine_model.specs.Edges.Repairs.{RenewNext, RenewEdge, CleanNext, CleanEdge}
use Rattle.proof_fresh.specs.Beneath.machine_model.specs.declared.lines.Line.TheVariants as line
use Rattle.proof_fresh.specs.Beneath.machine_model.specs.declared.reading.ReadLine.TheVariants as read
use Rattle.proof_fresh.specs.Beneath.machine_model.specs.declared.repairs.CleanLine.TheVariants as clean
use Rattle.proof_fresh.specs.Beneath.machine_model.specs.declared.repairs.RenewLine.TheVariants as renew
use Rattle.proof_fresh.specs.Beneath.machine_model.proofs.Grown.{node_grown}
use Rattle.proof_fresh.specs.Beneath.proof_memory.specs.Laws.{IsInUse}
use Rattle.proof_fresh.specs.Beneath.proof_memory.specs.Wants.{AMain, ABranch, WithEntry, AllHold, Holds, Is, is_indirection, renew_wants, clean_wants}
use Rattle.proof_fresh.specs.Beneath.proof_memory.proofs.Claims.Nodes.{branch_main}
use Rattle.proof_fresh.specs.Beneath.proof_memory.proofs.Claims.Uses.{meets_of}
use Rattle.proof_fresh.specs.Beneath.proof_memory.proofs.Lines.Next.{contracted_no_link}
use Rattle.proof_fresh.specs.Beneath.proof_commits.proofs.Known.Acts.{known_run}
use Rattle.proof_fresh.specs.Beneath.proof_commits.proofs.Known.Given.{ActsOn, GrownStays, GrownChanges}
use Rattle.proof_fresh.specs.Beneath.proof_contents.specs.Lines.Repairs.{KnowsRepair}
use Rattle.proof_shape.specs.Lines.Given.{GaveBelow}
use Rattle.proof_shape.specs.Lines.Knowing.{first_main, IsPlaced}
use Rattle.proof_shape.proofs.Runs.EachAt.{GoesAt}
use Rattle.proof_shape.proofs.Runs.Entries.{one_entry, of_take, contracted_entries}
use Rattle.proof_shape.proofs.Runs.Nodes.{node_known, made_link, takes}
use Rattle.proof_shape.proofs.Runs.Seen.{main_seen}
use Rattle.proof_shape.proofs.Lines.Key.{claims}
use Rattle.proof_shape.proofs.Lines.Places.{places_at}
use Rattle.proof_shape.proofs.Lines.RepairsAt.{repairs_at}
use Rattle.proof_garbage.proofs.Swaps.{read_leaves}
use Rattle.proof_fresh.proofs.From.{IsFrom, given, tombed}
use Rattle.proof_fresh.proofs.Untouched.{either_same, decided_same, private_made, private_used}
use Rattle.proof_fresh.proofs.Lines.{AllFrom, DoneFrom, AreLinks, LineHas, none_from, none_done, all_later, done_later, done_more, done_made, named_entry, main_of_renew, done_of_renew}
use Rattle.proof_fresh.proofs.Build.{all_then, entry_from}

-- a step of a READ leaves indirections but the one that it reads
read_untouched : (states : ℕ → State) (t : ℕ) (y i : Ref) (l : ReadLine) → ActsOn states t (read_action i l) → (y ≡ i → ⊥) → is_indirection (node_under states t y) ≡ true →
    grown states (suc t) y ≡ grown states t y
read_untouched states t y i read.Main x apart link = x.1 y
read_untouched states t y i (read.Prev m) x apart link = x.1 y
read_untouched states t y i (read.AskRoot m p) x apart link = x y
read_untouched states t y i (read.Abort m p offer) x apart link = x y
read_untouched states t y i (read.Decide m p told) x apart link =
    decided_same states t y m p (verdict (states t).heap i m p told)
    (λ same. true≢false (sym link ∙ ap (λ r. is_indirection (node_under states t r)) same ∙ x.1.no_link)) x.3
read_untouched states t y i (read.Restore m p) x apart link =
    either_same states t y (main_at (states t).heap i == m) (GrownChanges states t _ i) (GrownStays states t) (λ s. s.elsewhere y apart) (λ s. s y) x.1

module _ {limits : Bounds} {states : ℕ → State} {last : ℕ} (run : IsRun limits states last) (t : ℕ) (h : t < last) (actor : ℕ) (operation : Operation)
    (go : GoesAt states run.records t actor operation) where
  abbrev heap : Heap
  heap = (states t).heap

  abbrev own : List Ref
  own = operation.private

  abbrev From : Ref → Ref → Type 0
  From main x = Contains operation.private x ⊎ IsFrom run t actor operation.id operation.generation main x

  abbrev All : ℕ → List Ref → Ref → Type 0
  All u xs main = AllFrom run u actor operation.id operation.generation xs main

  abbrev Done : ℕ → List Ref → Ref → List Ref → Type 0
  Done u xs main done = DoneFrom run u actor operation.id operation.generation xs main done

  abbrev Next : List Ref → Line → Type 0
  Next xs l = LineHas run (suc t) actor operation.id operation.generation xs l

  acts : (l : Line) → operation.line ≡ l → ActsOn states t (line_action (states t) operation l)
  acts l e = subst (λ x. ActsOn states t (line_action (states t) operation x)) e ((known_run run).acts t h actor go.o go.moves operation go.runs)

  there : (main : Ref) → Holds (IsInUse (states t).heap) (states t).heap (Is main ABranch) → node_at (states t).heap main ≡ node_under states last main
  there main claim = main_seen run t (omega arith) main ABranch branch_main claim

  -- the entry after those that are done
  next_from : (main : Ref) (done : List Ref) → Holds (IsInUse heap) heap (Is main ABranch) → Holds (IsInUse heap) heap (Is main (WithEntry (length done))) →
      From main (next_entry (states t) main done)
  next_from main done branch within =
      inr (entry_from run t h actor operation go main (length done) (there main branch) (ltb-true (length done) (length (entries_of (node_at heap main))) (meets_of within)))

  -- ---- what repairs know of the next entry

  abbrev Knows : ℕ → Line → Type 0
  Knows start l = KnowsRepair (node_under states last) (first_main states last) (GaveBelow states run.records last t actor operation.id start) start l

  knows : (l : Line) → operation.line ≡ l → (start : ℕ) → operation.generation ≡ Some start → Knows start l
  knows l e start begun = subst (Knows start) e (repairs_at run t (omega arith) actor operation go.runs start begun)

  among : (main : Ref) (bitmap : ℕ) (entries : ArrayVec Ref) (n : ℕ) → node_under states last main ≡ Branch bitmap entries → n < length entries.items →
      Contains (entries_of (node_under states last main)) (slice_index_or entries.items n no_ref)
  among main bitmap entries n is lt = subst (λ x. Contains (entries_of x) (slice_index_or entries.items n no_ref)) (sym is) (Contains-get_or entries.items n no_ref lt)

  -- ---- RENEW

  -- another indirection than one that is read
  not_read : (path : List Ref) (main : Ref) (done : List Ref) (r : _) → operation.line ≡ line.Renew (renew.Read path main done r) → AreLinks run operation.generation own →
      (y : Ref) → Contains own y → y ≡ r.indirection → ⊥
  not_read path main done r e links y c same =
      let (start, word, begun, is) = links y c in
      let (bitmap, entries, are, less, (at, (g, w, node, older))) = knows _ e start begun in
      older (ap generation_of (sym node ∙ sym (ap (node_under states last) (same ∙ at)) ∙ is))

  link_now : (y : Ref) (start : ℕ) (word : Ref) → Contains own y → node_under states last y ≡ Indirection start word → is_indirection (node_under states t y) ≡ true
  link_now y start word c is = by_node (node_at heap y) refl
    where
      used : IsInUse (states t).heap y
      used = private_used run t h actor operation go.runs y c

      now : node_at (states t).heap y ≡ node_under states t y
      now = node_grown states t y used.0 used.1

      by_node : (n : Node) → node_at heap y ≡ n → is_indirection (node_under states t y) ≡ true
      by_node (Indirection g w) e = ap is_indirection (sym now ∙ e)
      by_node (Branch b es) e = absurd (true≢false (ap is_indirection (sym is ∙ node_known run t (omega arith) y used (λ g w bad. let wrong : Branch b es ≡ Indirection g w = sym e ∙ bad in cc) ∙ e)))
      by_node (Single k v) e = absurd (true≢false (ap is_indirection (sym is ∙ node_known run t (omega arith) y used (λ g w bad. let wrong : Single k v ≡ Indirection g w = sym e ∙ bad in cc) ∙ e)))
      by_node (Tomb s) e = absurd (true≢false (ap is_indirection (sym is ∙ node_known run t (omega arith) y used (λ g w bad. let wrong : Tomb s ≡ Indirection g w = sym e ∙ bad in cc) ∙ e)))
      by_node (Listed ss) e = absurd (true≢false (ap is_indirection (sym is ∙ node_known run t (omega arith) y used (λ g w bad. let wrong : Listed ss ≡ Indirection g w = sym e ∙ bad in cc) ∙ e)))

  read_same : (path : List Ref) (main : Ref) (done : List Ref) (r : _) → operation.line ≡ line.Renew (renew.Read path main done r) → AreLinks run operation.generation own →
      (y : Ref) → Contains own y → grown states (suc t) y ≡ grown states t y
  read_same path main done r e links y c =
      let (start, word, begun, is) = links y c in
      read_untouched states t y r.indirection r.line (acts _ e) (not_read path main done r e links y c) (link_now y start word c is)

  renew_next_has : (xs path : List Ref) (main : Ref) (done : List Ref) (n : Line) → RenewNext (states t) path main done n → All (suc t) xs main → AreLinks run operation.generation xs →
      Done (suc t) xs main done → Next xs n
  renew_next_has xs path main done n (RenewNext.more e) all links each = (all, links, each)
  renew_next_has xs path main done n (RenewNext.all_done e) all links each = (all, links, each)

  -- the indirection over what a READ gave
  link_names : (path : List Ref) (main : Ref) (done : List Ref) (child : Ref) → operation.line ≡ line.Renew (renew.Link path main done child) → From main child
  link_names path main done child e =
      let (start, begun) = subst (IsPlaced operation.generation) e (places_at run t (omega arith) actor operation go.runs) in
      let (bitmap, entries, are, less, (gave, (g, w, node, older))) = knows _ e start begun in
      inr (given start (slice_index_or entries.items (length done) no_ref) g w begun (among main bitmap entries (length done) are.is less) node older gave)

  links_more : (path : List Ref) (main : Ref) (done : List Ref) (child made : Ref) → operation.line ≡ line.Renew (renew.Link path main done child) → next_ref (states t).heap ≡ Some made →
      AreLinks run operation.generation own → AreLinks run operation.generation (own ++ made ∷ [])
  links_more path main done child made e next links y c = by_cases (Contains-push_cases own made y c)
    where
      by_cases : Contains own y ⊎ (made ≡ y) → (start : ℕ) × (word : Ref) × (operation.generation ≡ Some start) × (node_under states last y ≡ Indirection start word)
      by_cases (inl before) = links y before
      by_cases (inr same) =
          let (start, begun) = subst (IsPlaced operation.generation) e (places_at run t (omega arith) actor operation go.runs) in
          let link = made_link run t h actor operation go (Indirection (start_of operation) child) (ap (line_action (states t) operation) e) made next (start_of operation) child refl in
          let is : start_of operation ≡ start = ap (λ o. unwrap_or o 0) begun in
          (start, link.0, begun, ap (node_under states last) (sym same) ∙ link.1 ∙ ap (λ g. Indirection g link.0) is)

  renew_claims : (l : RenewLine) → operation.line ≡ line.Renew l → AllHold (IsInUse (states t).heap) (states t).heap (renew_wants l)
  renew_claims l e = claims run t h actor operation go _ e

  -- where a step looks at an entry, or makes nothing
  renew_same : (l : RenewLine) → AllFrom run t actor operation.id operation.generation operation.private (main_of_renew l) × AreLinks run operation.generation operation.private
      × DoneFrom run t actor operation.id operation.generation operation.private (main_of_renew l) (done_of_renew l) →
      ((y : Ref) → Contains operation.private y → grown states (suc t) y ≡ grown states t y) →
      AllFrom run (suc t) actor operation.id operation.generation operation.private (main_of_renew l) × AreLinks run operation.generation operation.private
      × DoneFrom run (suc t) actor operation.id operation.generation operation.private (main_of_renew l) (done_of_renew l)
  renew_same l (all, links, each) same = (
    all_later run t actor operation.id operation.generation own same (main_of_renew l) all,
    links,
    done_later run t actor operation.id operation.generation own (main_of_renew l) (done_of_renew l) each,
  )

  -- an entry is kept
  renew_keeps : (path : List Ref) (main : Ref) (done : List Ref) (n : Line) → operation.line ≡ line.Renew (renew.Entry path main done) → All t own main → AreLinks run operation.generation own →
      Done t own main done → RenewNext (states t) path main (done ++ next_entry (states t) main done ∷ []) n → Next own n
  renew_keeps path main done n e all links each on =
      let claim = renew_claims _ e in
      let (all', links', each') = renew_same (renew.Entry path main done) (all, links, each) (λ y c. acts _ e y) in
      renew_next_has own path main (done ++ next_entry (states t) main done ∷ []) n on all' links'
      (done_later run t actor operation.id operation.generation own main (done ++ next_entry (states t) main done ∷ [])
      (done_more run t actor operation.id operation.generation own main done (next_entry (states t) main done) each (next_from main done claim.1.1.0 claim.1.1.1.1.0)))

  pub renew_has : (l : RenewLine) → operation.line ≡ line.Renew l → LineHas run t actor operation.id operation.generation operation.private (line.Renew l) → (n : Line) →
      RenewEdge (states t) operation l n →
      LineHas run (suc t) actor operation.id operation.generation (private_after (states t) operation.private (line_action (states t) operation (line.Renew l))) n
  renew_has l e has n (RenewEdge.meets_older path main done g w is older) = renew_same (renew.Entry path main done) has (λ y c. acts _ e y)
  renew_has l e (all, links, each) n (RenewEdge.keeps_own path main done g w next is mine on) = renew_keeps path main done n e all links each on
  renew_has l e (all, links, each) n (RenewEdge.keeps_single path main done k v next is on) = renew_keeps path main done n e all links each on
  renew_has l e (all, links, each) n (RenewEdge.reads_on path main done r next is) =
      subst (λ xs. Next xs n) (sym (read_leaves (states t) own r.indirection r.line)) (renew_same (renew.Read path main done r) (all, links, each) (read_same path main done r e links))
  renew_has l e (all, links, each) n (RenewEdge.gives path main done r child is) =
      subst (λ xs. Next xs n) (sym (read_leaves (states t) own r.indirection r.line)) (renew_same (renew.Read path main done r) (all, links, each) (read_same path main done r e links))
  renew_has l e (all, links, each) n (RenewEdge.links path main done child made next drawn on) =
      subst (λ o. Next (with_made own o) n) (sym drawn)
      (renew_next_has (own ++ made ∷ []) path main (done ++ made ∷ []) n on
      (all_then run t h actor operation go _ e (Indirection (start_of operation) child) refl made drawn main all
      (λ x c. subst (From main) (sym (one_entry child x c)) (link_names path main done child e)))
      (links_more path main done child made e drawn links)
      (done_more run (suc t) actor operation.id operation.generation (own ++ made ∷ []) main done made
      (done_made run t actor operation.id operation.generation own (private_made run t h actor operation go.runs) made (Indirection (start_of operation) child)
      (takes run t h actor operation go (Indirection (start_of operation) child) (ap (line_action (states t) operation) e) made drawn) main done each)
      (inl (Contains-push own made))))
  renew_has l e (all, links, each) n (RenewEdge.branches path main done made drawn) =
      subst (λ o. Next (with_made own o) n) (sym drawn)
      (all_then run t h actor operation go _ e (branch_of (states t) main done) refl made drawn main all (λ x c. each x (of_take 32 done x c)))
  renew_has l e has n (RenewEdge.no_slot from none) = tt
  renew_has l e has n (RenewEdge.strays from) = tt

  -- ---- CLEAN

  abbrev CleanHas : ℕ → List Ref → Ref → List Ref → Type 0
  CleanHas u xs main done = (xs ≡ []) × DoneFrom run u actor operation.id operation.generation xs main done

  clean_next_has : (path : List Ref) (main : Ref) (done : List Ref) (n : Line) → CleanNext (states t) path main done n → CleanHas (suc t) own main done → Next own n
  clean_next_has path main done n (CleanNext.more e) has = has
  clean_next_has path main done n (CleanNext.differs e f) has = has
  clean_next_has path main done n (CleanNext.unchanged e f) has = has.0

  clean_claims : (l : CleanLine) → operation.line ≡ line.Clean l → AllHold (IsInUse (states t).heap) (states t).heap (clean_wants l)
  clean_claims l e = claims run t h actor operation go _ e

  clean_same : (main : Ref) (done : List Ref) → CleanHas t own main done → CleanHas (suc t) own main done
  clean_same main done has = (has.0, done_later run t actor operation.id operation.generation own main done has.1)

  -- one more is done
  clean_more : (path : List Ref) (main : Ref) (done : List Ref) (entry : Ref) (n : Line) → CleanHas t own main done → From main entry →
      CleanNext (states t) path main (done ++ entry ∷ []) n → Next own n
  clean_more path main done entry n has its on =
      clean_next_has path main (done ++ entry ∷ []) n on
      (clean_same main (done ++ entry ∷ []) (has.0, done_more run t actor operation.id operation.generation own main done entry has.1 its))

  -- a tomb's single
  single_names : (path : List Ref) (main : Ref) (done : List Ref) (child single : Ref) → operation.line ≡ line.Clean (clean.Tomb path main done child) → node_at heap child ≡ Tomb single →
      From main single
  single_names path main done child single e is =
      let (start, begun) = subst (IsPlaced operation.generation) e (places_at run t (omega arith) actor operation go.runs) in
      let (bitmap, entries, are, less, (gave, (g, w, node))) = knows _ e start begun in
      let claim = (clean_claims _ e).1.1.1.1.1.0 in
      inr (tombed start (slice_index_or entries.items (length done) no_ref) g w child begun (among main bitmap entries (length done) are.is less) node gave
      (sym (main_seen run t (omega arith) child AMain (λ n x. x) claim) ∙ is))

  pub clean_has : (l : CleanLine) → operation.line ≡ line.Clean l → LineHas run t actor operation.id operation.generation operation.private (line.Clean l) → (n : Line) →
      CleanEdge (states t) operation l n →
      LineHas run (suc t) actor operation.id operation.generation (private_after (states t) operation.private (line_action (states t) operation (line.Clean l))) n
  clean_has l e has n (CleanEdge.reads_on path r next is) =
      subst (λ xs. Next xs n) (sym (read_leaves (states t) own r.indirection r.line)) (clean_same no_ref [] has)
  clean_has l e has n (CleanEdge.gives path r main is) =
      subst (λ xs. Next xs n) (sym (read_leaves (states t) own r.indirection r.line)) (has.0, none_done run (suc t) actor operation.id operation.generation own main)
  clean_has l e has n (CleanEdge.begins path main b es next is on) = clean_next_has path main [] n on (clean_same main [] has)
  clean_has l e has n (CleanEdge.no_branch path main) = has.0
  clean_has l e has n (CleanEdge.meets_link path main done g w is) = clean_same main done has
  clean_has l e has n (CleanEdge.keeps_single path main done k v next is on) =
      let claim = clean_claims _ e in clean_more path main done (next_entry (states t) main done) n has (next_from main done claim.1.1.0 claim.1.1.1.1.0) on
  clean_has l e has n (CleanEdge.child_on path main done r next is) =
      subst (λ xs. Next xs n) (sym (read_leaves (states t) own r.indirection r.line)) (clean_same main done has)
  clean_has l e has n (CleanEdge.child_given path main done r child is) =
      subst (λ xs. Next xs n) (sym (read_leaves (states t) own r.indirection r.line)) (clean_same main done has)
  clean_has l e has n (CleanEdge.untombs path main done child single next is on) = clean_more path main done single n has (single_names path main done child single e is) on
  clean_has l e has n (CleanEdge.keeps_link path main done child next on) =
      let claim = clean_claims _ e in clean_more path main done (next_entry (states t) main done) n has (next_from main done claim.1.1.0 claim.1.1.1.1.0) on
  clean_has l e has n (CleanEdge.contracts path main done made drawn) =
      subst (λ o. Next (with_made own o) n) (sym drawn)
      (all_then run t h actor operation go _ e (cleaned (states t) path main done) refl made drawn main (none_from run t actor operation.id operation.generation own main has.0)
      (λ x c.
      let may = is_below_root path && leaves_single (states t) done in
      has.1 x (contracted_entries may (bitmap_of (node_at heap main)) done x
      (named_entry _ (contracted_no_link may (bitmap_of (node_at heap main)) done) x c))))
  clean_has l e has n (CleanEdge.no_slot from none) = tt
  clean_has l e has n (CleanEdge.strays from) = tt
