-- Each line of WALK hands on what it knows, and what it answers is right.
use Rattle.std.proofs.Common.{◌≡◌, ℕ, suc, ◌<◌, true, true≢false, List, ◌++◌, flat_map, Some, inl, refl, sym, ap, subst, ◌∙◌, arith, append-nil}
use Rattle.proof_updates.specs.Vocabulary.{ReadOnly, Reply, Ref, Node, Indirection, Branch, Single, Tomb, List as Listed, node_at, Operation, Gives, Read, WalkLine, Line, Bounds, handle_of}
use Rattle.proof_updates.specs.Vocabulary.{needs_read_only, State, word_at, root_of, read_of, read_step, read_after, walk_after, walk_after_entry, walked_reply, first_of, rest_of, IsRun, node_under}
use Rattle.proof_updates.specs.Vocabulary.{Record, IsInUse, AMain, Is, Holds, AnIndirection, meets, IsNoSwap, stage_of, Trie, trie_of, GivesAt}
use Rattle.proof_updates.specs.Beneath.machine_model.specs.declared.walking.WalkLine.TheVariants as walk
use Rattle.proof_updates.specs.Beneath.machine_model.specs.declared.lines.Line.TheVariants as line
use Rattle.proof_updates.specs.Beneath.proof_memory.proofs.Claims.Reads.{read_link}
use Rattle.proof_updates.specs.Beneath.proof_memory.proofs.Claims.Uses.{safe_of, meets_of}
use Rattle.proof_updates.specs.Beneath.proof_contents.specs.Steps.{IsTrie}
use Rattle.proof_updates.specs.Beneath.proof_contents.proofs.Pairs.Lists.{Pairs}
use Rattle.proof_updates.specs.Beneath.proof_contents.proofs.Lines.Repair.{read_stays}
use Rattle.proof_updates.specs.Beneath.proof_contents.proofs.Lines.Walk.{WalksRight, walk_read_knows, walk_main_knows, walk_entry_knows}
use Rattle.proof_updates.specs.Beneath.proof_contents.proofs.Pairs.Walks.{walk_single}
use Rattle.proof_updates.specs.Beneath.proof_commits.proofs.Course.OfLists.{given_read}
use Rattle.proof_order.specs.Facts.{standing}
use Rattle.proof_shape.proofs.Runs.EachAt.{GoesAt}
use Rattle.proof_shape.proofs.Runs.Seen.{main_seen, single_seen}
use Rattle.proof_shape.proofs.Lines.Key.{claims, looks}
use Rattle.proof_updates.proofs.Tries.EachOperation.{OwnStep, own_notes}
use Rattle.proof_updates.proofs.Answers.Given.{given_at, own_after}
use Rattle.proof_updates.proofs.Answers.Key.{AnswersSo}
use Rattle.proof_updates.proofs.Answers.ReaderRoots.{IsRoot, root_stands}
use Rattle.proof_shape.proofs.Runs.Nodes.{link_known}
use Rattle.proof_updates.proofs.Answers.WalkSteps.{below, below_main, walked_right, KnowsWalk}
use Rattle.proof_updates.specs.Beneath.proof_generations.proofs.Falling.Final.{given_for_ever}

-- a step of an operation that goes on, in the words of the lines
pub goes_at : (states : ℕ → State) (records : ℕ → Record) (t k : ℕ) (operation : Operation) → OwnStep states records t k operation → GoesAt states records t (suc k) operation
goes_at states records t k operation own =
    record { o = own.outcome; moves = own.moves; runs = own.runs; goes = own.goes; after = own_after states records t k operation own; noted = own.noted }

module _ (limits : Bounds) (states : ℕ → State) (last : ℕ) (depth path : Ref → ℕ) (run : IsRun limits states last) (ok : IsTrie (trie_of limits states last depth path))
    (t k : ℕ) (lt : t < last) (operation : Operation) (own : OwnStep states run.records t k operation)
    (read_only : operation.access ≡ ReadOnly) (walks : needs_read_only operation.call ≡ true) (g mu : ℕ) (stands : standing (states t) (handle_of operation.call) ≡ Some (ReadOnly, g)) where
  abbrev trie : Trie
  trie = trie_of limits states last depth path

  abbrev all : Pairs
  all = below (trie_of limits states last depth path) ((trie_of limits states last depth path).root g)

  abbrev Right : Reply → Type 0
  Right answer = AnswersSo (trie_of limits states last depth path) ReadOnly g mu operation.call answer

  go : GoesAt states run.records t (suc k) operation
  go = goes_at states run.records t k operation own

  root : IsRoot run t (handle_of operation.call) g
  root = root_stands run t (handle_of operation.call) g (omega arith) stands

  pub right : (taken : Pairs) → taken ≡ all → Right (walked_reply operation.call taken)
  right taken whole = walked_right trie ok g root.generation mu root.word (ap trie.node root.is ∙ root.node) operation.call walks taken whole

  abbrev pub Walks : Line → Type 0
  Walks l =
      WalksRight operation (node_under states last) (below (trie_of limits states last depth path)) (below (trie_of limits states last depth path) ((trie_of limits states last depth path).root g))
      (λ answer. AnswersSo (trie_of limits states last depth path) ReadOnly g mu operation.call answer) right l

  module _ (r : Read) (todo : List Ref) (taken : Pairs) (e : operation.line ≡ line.Walk (walk.Read r todo taken)) where
    read_final : (main : Ref) → read_step (states t) operation r ≡ Gives main → trie.main last r.indirection ≡ main
    read_final main gives =
        let at : GivesAt states run.records t (suc k) operation r.indirection main = record {
          outcome = own.outcome;
          moves = own.moves;
          runs = own.runs;
          no_swap = subst (λ l. IsNoSwap l) (sym e) tt;
          read = r;
          reads = ap read_of e;
          of = refl;
          gives = gives;
          notes = own_notes states run.records t k operation own;
        } in
        let past = (given_at run t k lt operation own r.indirection r.line (ap stage_of e) main
        (given_read r.indirection (read_after (states t).heap operation.access (word_at (states t) (handle_of operation.call)) r.indirection r.line) main gives)).past in
        given_for_ever run t lt (suc k) operation r.indirection main at (inl read_only) last (omega arith) (omega arith)

    link : (h : ℕ) × (w : Ref) × (node_under states last r.indirection ≡ Indirection h w)
    link = by_node (node_at (states t).heap r.indirection) refl (meets_of used)
      where
        used : Holds (IsInUse (states t).heap) (states t).heap (Is r.indirection AnIndirection)
        used = read_link (IsInUse (states t).heap) (states t).heap r.indirection r.line (claims run t lt (suc k) operation go _ e).1

        by_node : (n : Node) → node_at (states t).heap r.indirection ≡ n → meets AnIndirection n ≡ true → (h : ℕ) × (w : Ref) × (node_under states last r.indirection ≡ Indirection h w)
        by_node (Indirection h w) found m =
            let known = link_known run t (omega arith) r.indirection (safe_of used) h w found in
            (h, known.0, known.1)
        by_node (Branch b es) found m = absurd (true≢false (sym m))
        by_node (Single q v) found m = absurd (true≢false (sym m))
        by_node (Tomb s) found m = absurd (true≢false (sym m))
        by_node (Listed ss) found m = absurd (true≢false (sym m))

  pub walk_right : (l : WalkLine) → operation.line ≡ line.Walk l → KnowsWalk trie all l → Walks (walk_after (states t) operation l)
  walk_right walk.Root e knows = append-nil (below trie (root_of (word_at (states t) (handle_of operation.call)))) ∙ ap (below trie) (sym root.is)
  walk_right (walk.Read r todo taken) e knows =
      walk_read_knows operation (node_under states last) (below trie) all Right right r todo taken knows (read_step (states t) operation r)
      (λ next is. read_stays (states t) operation r next is)
      (λ main is. let known = link r todo taken e in below_main trie ok known.0 r.indirection known.1 main known.2 (read_final r todo taken e main is))
  walk_right (walk.Main main todo taken) e knows =
      walk_main_knows operation (node_under states last) (below trie) all Right right main (node_at (states t).heap main) todo taken
      (main_seen run t (omega arith) main AMain (λ n x. x) (claims run t lt (suc k) operation go _ e).1.0) knows
  walk_right (walk.Entry todo taken) e (entry, rest, is, knows) =
      subst (λ es. Walks (walk_after_entry operation (first_of es) (rest_of es) taken (node_at (states t).heap (first_of es)))) (sym is)
      (walk_entry_knows operation (node_under states last) (below trie) all Right right entry rest taken (ap (λ es. taken ++ flat_map (below trie) es) (sym is) ∙ knows) (node_at (states t).heap entry)
      (λ q v single. walk_single trie ok q v entry
      (single_seen run t (omega arith) entry
      (subst (λ r. IsInUse (states t).heap r) (ap first_of is) (looks run t lt (suc k) operation go _ e (first_of todo) refl)) q v single)))
