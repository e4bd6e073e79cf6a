-- A step of KEY, RENEW or CLEAN hands on what the line knows of the entries that are done.
use Rattle.std.proofs.Common.{◌≡◌, ℕ, suc, ◌-◌, ◌<◌, ◌&&◌, Bool, true, false, cond, List, Option, Some, None, refl, sym, ◌∙◌, ap, arith, unwrap_or, subst, []}
use Rattle.proof_shape.specs.Vocabulary.{Ref, Node, Indirection, Branch, Single, Tomb, List as Listed, Heap, node_at, entry_at, bitmap_of, next_ref, renewed, KeyLine, Line, Operation, After, Gives}
use Rattle.proof_shape.specs.Vocabulary.{Read, CleanLine, RenewLine, Bounds, handle_of, State, word_at, start_of, is_below_root, read_after, read_step, going_down, is_passable, key_after}
use Rattle.proof_shape.specs.Vocabulary.{key_after_main, key_after_entry, after_listed, after_sibling, next_entry, renew_next, branch_of, renew_after, renew_after_link, renew_after_branch, cleaned}
use Rattle.proof_shape.specs.Vocabulary.{leaves_single, clean_after, clean_after_read, clean_after_contracted, line_action, read_of, action_of, node_under, prev_word, IsRun, IsInUse, AMain, ABranch}
use Rattle.proof_shape.specs.Vocabulary.{Holds, Is, Reads, stage_of, KnowsKey, KnowsRenew, KnowsClean, KnowsRepair, ReadsBelow}
use Rattle.proof_shape.specs.Beneath.slot_arena.specs.declared.nodes.Prev.TheVariants as over
use Rattle.proof_shape.specs.Beneath.machine_model.specs.declared.actions.Action.TheVariants as act
use Rattle.proof_shape.specs.Beneath.machine_model.specs.declared.finding.KeyLine.TheVariants as key
use Rattle.proof_shape.specs.Beneath.machine_model.specs.declared.lines.Line.TheVariants as line
use Rattle.proof_shape.specs.Beneath.machine_model.specs.declared.reading.After.TheVariants.{Goes}
use Rattle.proof_shape.specs.Beneath.machine_model.specs.declared.repairs.CleanLine.TheVariants as clean
use Rattle.proof_shape.specs.Beneath.machine_model.specs.declared.repairs.RenewLine.TheVariants as renew
use Rattle.proof_shape.specs.Beneath.proof_commits.proofs.Course.Finals.{none_final}
use Rattle.proof_shape.specs.Beneath.proof_commits.proofs.Words.Along.{protocol}
use Rattle.proof_shape.specs.Beneath.proof_contents.proofs.Lines.Repair.{renew_starts, clean_starts, renew_entry_knows, renew_read_knows, renew_link_knows, renew_branch_knows}
use Rattle.proof_shape.specs.Beneath.proof_contents.proofs.Lines.Repair.{clean_entry_knows, clean_child_knows, clean_tomb_knows, clean_contracted_knows, read_stays}
use Rattle.proof_shape.specs.Beneath.proof_memory.proofs.Claims.Nodes.{IsNoLink, branch_main}
use Rattle.proof_shape.specs.Beneath.proof_memory.proofs.Claims.Named.{main_claim, past_done}
use Rattle.proof_shape.specs.Beneath.proof_memory.proofs.Lines.Next.{contracted_no_link}
use Rattle.proof_shape.specs.Beneath.proof_commits.proofs.Course.OfLists.{given_read}
use Rattle.proof_shape.specs.Lines.Given.{GaveBelow}
use Rattle.proof_shape.specs.Lines.Knowing.{known_with, first_main}
use Rattle.proof_shape.proofs.Runs.EachAt.{GoesAt}
use Rattle.proof_shape.proofs.Runs.Nodes.{link_known, made_node, made_link, first_is}
use Rattle.proof_shape.proofs.Runs.Began.{gave_now}
use Rattle.proof_shape.proofs.Runs.Seen.{main_seen}
use Rattle.proof_shape.proofs.Lines.Key.{claims, looks}
use Rattle.proof_shape.proofs.Lines.RepairMore.{is_unrepairing, unrepairing_knows}
use Rattle.proof_shape.specs.Beneath.proof_commits.proofs.Known.Acts.{known_run}
use Rattle.proof_shape.specs.Beneath.machine_model.proofs.Notes.{noted_going}

-- ---- KEY's lines but one lead to no repair

key_read_not : (state : State) (operation : Operation) (path : List Ref) (r : Read) → is_unrepairing (key_after state operation (key.Read path r)) ≡ true
key_read_not state operation path r = grind arith

key_main_not : (state : State) (operation : Operation) (path : List Ref) (main : Ref) (node : Node) → is_unrepairing (key_after_main state operation path main node) ≡ true
key_main_not state operation path main node = grind arith

key_found_not : (state : State) (operation : Operation) (path : List Ref) (main : Ref) (position k v : ℕ) → is_unrepairing (key_after_entry state operation path main position (Single k v)) ≡ true
key_found_not state operation path main position k v = grind arith

key_listed_not : (state : State) (operation : Operation) (path : List Ref) (main : Ref) (position : ℕ) (node : Node) → is_unrepairing (after_listed state operation path main position node) ≡ true
key_listed_not state operation path main position node = grind arith

key_sibling_not : (path : List Ref) (main : Ref) (position former : ℕ) (other : Ref) (node : Node) → is_unrepairing (after_sibling path main position former other node) ≡ true
key_sibling_not path main position former other node = grind arith

-- ---- nodes that are made

pub renewed_no_link : (bitmap : ℕ) (entries : List Ref) → IsNoLink (renewed bitmap entries)
renewed_no_link bitmap entries g w bad = cc

module _ {limits : Bounds} {states : ℕ → State} {last : ℕ} (run : IsRun limits states last) (t : ℕ) (h : t < last) (actor : ℕ) (operation : Operation)
    (go : GoesAt states run.records t actor operation) where
  abbrev heap : Heap
  heap = (states t).heap

  abbrev node : Ref → Node
  node = node_under states last

  abbrev first : Ref → Ref
  first = first_main states last

  link_at : (l : Line) → operation.line ≡ l → (r : Ref) → line_action (states t) operation l ≡ act.Look r → (g : ℕ) (w : Ref) → node_at heap r ≡ Indirection g w →
      (m : Ref) × (node r ≡ Indirection g m)
  link_at l e r a g w is = link_known run t (omega arith) r (looks run t h actor operation go l e r a) g w is

  module _ (start : ℕ) (begun : operation.generation ≡ Some start) where
    -- what READs of repairs gave, this step's included
    abbrev G : Ref → Ref → Type 0
    G = GaveBelow states run.records last (suc t) actor operation.id start

    gives_now : (l : Line) (e : operation.line ≡ l) (read : Read) → stage_of l ≡ Reads read.indirection read.line → read_of l ≡ Some read → ReadsBelow l → (child : Ref) →
        read_step (states t) operation read ≡ Gives child → G read.indirection child
    gives_now l e read on reads below child gives = record {
      gave = gave_now run t h actor operation go read.indirection read.line child (ap stage_of e ∙ on)
          (given_read read.indirection (read_after heap operation.access (word_at (states t) (handle_of operation.call)) read.indirection read.line) child gives);
      at = t;
      past = omega arith;
      outcome = go.o;
      moves = go.moves;
      operation = operation;
      runs = go.runs;
      its = begun;
      below = subst ReadsBelow (sym e) below;
      read = read;
      reads = ap read_of e ∙ reads;
      of = refl;
      gives = gives;
      notes = go.noted ∙ sym (noted_going (states t) (run.records t) actor operation (action_of (states t) operation) go.runs refl go.goes);
    }

    abbrev Repairs : Line → Type 0
    Repairs l = KnowsRepair node first G start l

    -- ---- KEY

    pub key_repairs : (l : KeyLine) → operation.line ≡ line.Key l → KnowsKey (known_with limits states last (first_main states last)) operation.call l →
        KnowsRepair (node_under states last) (first_main states last) (GaveBelow states run.records last (suc t) actor operation.id start) start (key_after (states t) operation l)
    key_repairs (key.Read path r) e knows = unrepairing_knows node first G start _ (key_read_not (states t) operation path r)
    key_repairs (key.Main path main) e knows = unrepairing_knows node first G start _ (key_main_not (states t) operation path main (node_at heap main))
    key_repairs (key.Entry path main position) e (bitmap, entries, flagged) = by_node (node_at heap (entry_at heap main position))
      where
        there : node_at heap main ≡ node main
        there = main_seen run t (omega arith) main ABranch branch_main (main_claim (claims run t h actor operation go _ e))

        by_test : (b : Bool) → Repairs (cond b (going_down path (entry_at heap main position)) (renew_next (states t) path main []))
        by_test true = tt
        by_test false = renew_starts (states t) operation node first G start main there path bitmap entries flagged.is

        by_node : (n : Node) → Repairs (key_after_entry (states t) operation path main position n)
        by_node (Indirection g w) = by_test (is_passable operation g)
        by_node (Single k v) = unrepairing_knows node first G start _ (key_found_not (states t) operation path main position k v)
        by_node (Branch b es) = tt
        by_node (Tomb s) = tt
        by_node (Listed ss) = tt
    key_repairs (key.Listed path main position) e knows = unrepairing_knows node first G start _ (key_listed_not (states t) operation path main position (node_at heap (entry_at heap main position)))
    key_repairs (key.Sibling path main position former) e knows =
        unrepairing_knows node first G start _ (key_sibling_not path main position former (entry_at heap main (1 - position)) (node_at heap (entry_at heap main (1 - position))))

    -- ---- RENEW

    -- what was given is decided
    given_none : (i m : Ref) → GaveBelow states run.records last (suc t) actor operation.id start i m → prev_word states (suc t) m ≡ over.None
    given_none i m below =
        let gave = below.gave in
        let p = protocol limits states last (known_run run) in
        none_final p i m (suc gave.moment) (suc t) (omega (arith, gave.is_moment.past, gave.past)) (omega arith)
        (record { at = suc gave.from; past = omega (arith, gave.is_moment.from); link = gave.is_moment.link; is = gave.is_moment.stood }) gave.is_moment.none

    branch_there : (main : Ref) (l : Line) → operation.line ≡ l → Holds (IsInUse heap) heap (Is main ABranch) → node_at heap main ≡ node main
    branch_there main l e claim = main_seen run t (omega arith) main ABranch branch_main claim

    pub renew_repairs : (l : RenewLine) → operation.line ≡ line.Renew l →
        KnowsRenew (node_under states last) (first_main states last) (GaveBelow states run.records last (suc t) actor operation.id start) start l →
        KnowsRepair (node_under states last) (first_main states last) (GaveBelow states run.records last (suc t) actor operation.id start) start (renew_after (states t) operation l)
    renew_repairs (renew.Entry path main done) e knows =
        let claim = main_claim (claims run t h actor operation go _ e) in
        renew_entry_knows (states t) operation node first G start main (branch_there main _ e claim) path done knows begun
        (λ g w is. link_at _ e (next_entry (states t) main done) refl g w is) (node_at heap (next_entry (states t) main done)) refl
    renew_repairs (renew.Read path main done read) e knows =
        let claim = main_claim (claims run t h actor operation go _ e) in
        renew_read_knows (states t) operation node first G start main (branch_there main _ e claim) path done read knows (read_step (states t) operation read)
        (λ r is. read_stays (states t) operation read r is) (λ child is. gives_now _ e read refl refl tt child is)
    renew_repairs (renew.Link path main done child) e knows = by_made (next_ref heap) refl
      where
        by_made : (o : Option Ref) → next_ref heap ≡ o → Repairs (renew_after_link (states t) path main done o)
        by_made None next = tt
        by_made (Some made) next =
            let claim = main_claim (claims run t h actor operation go _ e) in
            let a = ap (line_action (states t) operation) e in
            let link = made_link run t h actor operation go (Indirection (start_of operation) child) a made next (start_of operation) child refl in
            let is : start_of operation ≡ start = ap (λ o. unwrap_or o 0) begun in
            renew_link_knows (states t) operation node first G start main (branch_there main _ e claim) path done child made link.0 knows (link.1 ∙ ap (λ g. Indirection g link.0) is)
            (first_is run t h actor operation go (Indirection (start_of operation) child) a made next (start_of operation) child refl (given_none _ child knows.4.0))
    renew_repairs (renew.Branch path main done) e knows = by_made (next_ref heap) refl
      where
        by_made : (o : Option Ref) → next_ref heap ≡ o → Repairs (renew_after_branch path main o)
        by_made None next = tt
        by_made (Some made) next =
            let claim = main_claim (claims run t h actor operation go _ e) in
            renew_branch_knows (states t) operation node first G start main (branch_there main _ e claim) path done made knows
            (made_node run t h actor operation go (branch_of (states t) main done) (ap (line_action (states t) operation) e) made next
            (renewed_no_link (bitmap_of (node_at heap main)) done))

    -- ---- CLEAN

    pub clean_repairs : (l : CleanLine) → operation.line ≡ line.Clean l →
        KnowsClean (node_under states last) (first_main states last) (GaveBelow states run.records last (suc t) actor operation.id start) start l →
        KnowsRepair (node_under states last) (first_main states last) (GaveBelow states run.records last (suc t) actor operation.id start) start (clean_after (states t) operation l)
    clean_repairs (clean.Read path read) e knows = by_out (read_step (states t) operation read)
      where
        by_out : (out : After Read Ref) → Repairs (clean_after_read path out)
        by_out (Goes r) = tt
        by_out (Gives main) = tt
    clean_repairs (clean.Main path main) e knows =
        let there = main_seen run t (omega arith) main AMain (λ n x. x) (main_claim (claims run t h actor operation go _ e)) in
        clean_starts (states t) operation node first G start main there path (node_at heap main) (sym there)
    clean_repairs (clean.Entry path main done) e knows =
        let claim = main_claim (claims run t h actor operation go _ e) in
        clean_entry_knows (states t) operation node first G start main (branch_there main _ e claim) path done knows
        (λ g w is. link_at _ e (next_entry (states t) main done) refl g w is) (node_at heap (next_entry (states t) main done)) refl
    clean_repairs (clean.Child path main done read) e knows =
        let claim = main_claim (claims run t h actor operation go _ e) in
        clean_child_knows (states t) operation node first G start main (branch_there main _ e claim) path done read knows (read_step (states t) operation read)
        (λ r is. read_stays (states t) operation read r is) (λ child is. gives_now _ e read refl refl tt child is)
    clean_repairs (clean.Tomb path main done child) e knows =
        let all = claims run t h actor operation go _ e in
        clean_tomb_knows (states t) operation node first G start main (branch_there main _ e (main_claim all)) path done child knows (node_at heap child)
        (sym (main_seen run t (omega arith) child AMain (λ n x. x) (past_done all).0))
    clean_repairs (clean.Contracted path main done) e knows = by_made (next_ref heap) refl
      where
        by_made : (o : Option Ref) → next_ref heap ≡ o → Repairs (clean_after_contracted path main o)
        by_made None next = tt
        by_made (Some made) next =
            let claim = main_claim (claims run t h actor operation go _ e) in
            clean_contracted_knows (states t) operation node first G start main (branch_there main _ e claim) path done made knows
            (made_node run t h actor operation go (cleaned (states t) path main done) (ap (line_action (states t) operation) e) made next
            (contracted_no_link (is_below_root path && leaves_single (states t) done) (bitmap_of (node_at heap main)) done))
