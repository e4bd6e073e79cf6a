-- Where KEY ends without a change it answers what the main node says of its key.
use Rattle.std.proofs.Common.{◌≡◌, ◌≢◌, ℕ, ◌+◌, ◌≤◌, nat_lt, nat_le, true, false, cond, List, [], ◌∷◌, length, take, drop, slice_index_or}
use Rattle.std.proofs.lemmas.Bool.{and_parts}
use Rattle.std.proofs.Common.{sym, ap, ap₂, subst, ◌∙◌, eqb-true, take_all, ltb-false, leb-true, take-append-drop}
use Rattle.std.proofs.lemmas.Grind.{take_at_read}
use Rattle.arrayvec.specs.ArrayVec.{ArrayVec}
use Rattle.proof_contents.specs.Vocabulary.{position_of, hash_of, Reply, Ref, Node, Branch, Single, Tomb, List as Listed, node_at, entry_at, entries_of, no_ref, Operation, Answers, Line, key_of}
use Rattle.proof_contents.specs.Vocabulary.{inserts, absent_reply, when_found, State, depth_of, found}
use Rattle.proof_contents.specs.Beneath.history.specs.declared.replies.Reply.TheVariants as reply
use Rattle.machine_model.specs.declared.finding.KeyLine.TheVariants as key
use Rattle.machine_model.specs.declared.lines.Line.TheVariants as line
use Rattle.machine_model.specs.Paths as path
use Rattle.proof_contents.specs.Nodes.Looking.{Found, Absent, Has, look_at, look_among, or_else}
use Rattle.proof_contents.specs.Nodes.Changing.{look}
use Rattle.proof_contents.proofs.Nodes.Branches.{differ}
use Rattle.proof_contents.proofs.Nodes.Changes.{look-same, look-other}
use Rattle.proof_contents.proofs.Nodes.Lists.{look_among-append}
use Rattle.proof_contents.specs.Lines.Changes.{Known, IsFlagged, GoesThrough, IsGet}
use Rattle.proof_contents.proofs.Lines.Key.Knows.{known, Sees, SeesSingle, get_answers, entry_is}
use Rattle.machine_model.specs.Edges.Key.{FoundEdge, answers, KeyEdge, misses_absent, finds, misses_beside, finds_listed, crowds, misses_listed}

module _ (state : State) (operation : Operation) (node : Ref → Node) (first : Ref → Ref) (Right : Reply → Type 0) where
  abbrev K : Known
  K = known state operation node first

  abbrev Key' : ℕ
  Key' = key_of operation.call

  -- a line that is the end of the operation answers rightly
  abbrev pub EndsRight : Line → Type 0
  EndsRight (line.End answer) = Right answer
  EndsRight l = Unit {0}

  -- what is right to answer, by what a main node at this depth says of the key
  pub record Answering (depth : ℕ) (main : Ref) : Type 0 where
    pub where_absent : look node (hash_of state.limits.hash) depth Key' (node main) ≡ Absent → inserts operation.call ≡ false → Right (absent_reply operation.call)
    pub where_found : (v : ℕ) (answer : Reply) → look node (hash_of state.limits.hash) depth Key' (node main) ≡ Has v → when_found operation.call v ≡ Answers answer → Right answer
    pub where_crowded : (singles : ArrayVec Ref) → node main ≡ Listed singles → 32 ≤ length singles.items → look_among node Key' singles.items ≡ Absent →
        inserts operation.call ≡ true → Right reply.Crowded

  module _ (main : Ref) (sees : Sees state operation node first main) (p : List Ref) (a : Answering (depth_of p) main) where
    abbrev says : Found
    says = look node (hash_of state.limits.hash) (depth_of p) Key' (node main)

    found_ends : (position v : ℕ) (next : Line) → says ≡ Has v → FoundEdge state operation p main position v next → EndsRight next
    found_ends position v next has (answers answer e) = a.where_found v answer has e
    found_ends position v next has edge = tt

    -- ---- line by line

    pub main_ends : (next : Line) → KeyEdge state operation (key.Main p main) next → EndsRight next
    main_ends next (misses_absent route m b es is e none) =
        a.where_absent (ap (look node (hash_of state.limits.hash) (depth_of p) Key') (sym sees.main_is ∙ is)
        ∙ ap (λ t. cond t (look_at Key' (slice_index_or es.items (position_of (path.flag_in state operation p) b) no_ref)
        (node (slice_index_or es.items (position_of (path.flag_in state operation p) b) no_ref))) Absent) e) none
    main_ends next edge = tt

    module _ (position b : ℕ) (es : ArrayVec Ref) (seen : SeesSingle state operation node first main position) (f : IsFlagged K (depth_of p) Key' main position b es) where
      abbrev entry : Ref
      entry = slice_index_or es.items (position_of (path.flag_in state operation p) b) no_ref

      single : (k v : ℕ) → node_at state.heap (entry_at state.heap main position) ≡ Single k v → node entry ≡ Single k v
      single k v e = ap node (sym (entry_is state operation node first main sees p (Branch b es) position f.is ∙ ap (λ n. slice_index_or es.items n no_ref) f.at)) ∙ seen k v e

      says_is : says ≡ look_at Key' entry (node entry)
      says_is = ap (look node (hash_of state.limits.hash) (depth_of p) Key') f.is ∙ ap (λ t. cond t (look_at Key' entry (node entry)) Absent) f.flagged

      pub entry_ends : (next : Line) → KeyEdge state operation (key.Entry p main position) next → EndsRight next
      entry_ends next (finds route m q k v n e same found) =
          found_ends position v next (says_is ∙ look-same node Key' v entry (single k v e ∙ ap (λ n. Single n v) (eqb-true k Key' same))) found
      entry_ends next (misses_beside route m q k v e apart none) =
          a.where_absent (says_is ∙ look-other node Key' k v entry (single k v e) (λ same. differ k Key' apart (sym same))) none
      entry_ends next edge = tt

    module _ (position : ℕ) (ss : ArrayVec Ref) (seen : SeesSingle state operation node first main position) (go : GoesThrough K Key' main position ss) where
      abbrev here : Ref
      here = slice_index_or ss.items position no_ref

      listed : (k v : ℕ) → node_at state.heap (entry_at state.heap main position) ≡ Single k v → node here ≡ Single k v
      listed k v e = ap node (sym (entry_is state operation node first main sees p (Listed ss) position go.is)) ∙ seen k v e

      upto : (f : Found) → look_at Key' here (node here) ≡ f → look_among node Key' (take (position + 1) ss.items) ≡ or_else f Absent
      upto f is =
          ap (look_among node Key') (take_at_read ss.items position no_ref go.within).1
          ∙ look_among-append node Key' (take position ss.items) (here ∷ []) ∙ ap₂ or_else go.none (ap (λ f. or_else f Absent) is)

      says_list : says ≡ look_among node Key' ss.items
      says_list = ap (look node (hash_of state.limits.hash) (depth_of p) Key') go.is

      has : (k v : ℕ) → node_at state.heap (entry_at state.heap main position) ≡ Single k v → k ≡ Key' → says ≡ Has v
      has k v e same =
          says_list ∙ ap (look_among node Key') (sym (take-append-drop (position + 1) ss.items))
          ∙ look_among-append node Key' (take (position + 1) ss.items) (drop (position + 1) ss.items)
          ∙ ap (λ f. or_else f (look_among node Key' (drop (position + 1) ss.items))) (upto (Has v) (look-same node Key' v here (listed k v e ∙ ap (λ n. Single n v) same)))

      none : (k v : ℕ) → node_at state.heap (entry_at state.heap main position) ≡ Single k v → k ≢ Key' →
          nat_lt (position + 1) (length (entries_of (node_at state.heap main))) ≡ false → look_among node Key' ss.items ≡ Absent
      none k v e apart past =
          ap (look_among node Key') (sym (take_all (position + 1) ss.items (ltb-false (position + 1) (length ss.items) (sym (ap (nat_lt (position + 1)) count) ∙ past))))
          ∙ upto Absent (look-other node Key' k v here (listed k v e) (λ same. apart (sym same)))
        where
          count : length (entries_of (node_at state.heap main)) ≡ length ss.items
          count = ap (λ n. length (entries_of n)) (sees.main_is ∙ go.is)

      pub listed_ends : (next : Line) → KeyEdge state operation (key.Listed p main position) next → EndsRight next
      listed_ends next (finds_listed route m q k v n e same found) = found_ends position v next (has k v e (eqb-true k Key' same)) found
      listed_ends next (crowds route m q k v e apart past full) =
          let parts = and_parts (inserts operation.call) (nat_le 32 (length (entries_of (node_at state.heap main)))) full in
          a.where_crowded ss go.is (subst (λ n. 32 ≤ length (entries_of n)) (sees.main_is ∙ go.is) (leb-true 32 _ parts.1)) (none k v e (differ k Key' apart) past) parts.0
      listed_ends next (misses_listed route m q k v e apart past out) = a.where_absent (says_list ∙ none k v e (differ k Key' apart) past) out
      listed_ends next edge = tt

    -- a get at a tomb
    module _ (s : Ref) (seen : SeesSingle state operation node first main 0) (is : node main ≡ Tomb s) (get : IsGet operation.call) where
      tombed : (k v : ℕ) → node_at state.heap (entry_at state.heap main 0) ≡ Single k v → node s ≡ Single k v
      tombed k v e = ap node (sym (entry_is state operation node first main sees p (Tomb s) 0 is)) ∙ seen k v e

      says_tomb : says ≡ look_at Key' s (node s)
      says_tomb = ap (look node (hash_of state.limits.hash) (depth_of p) Key') is

      pub tomb_ends : (next : Line) → KeyEdge state operation (key.Listed p main 0) next → EndsRight next
      tomb_ends next (finds_listed route m q k v n e same found) =
          found_ends 0 v next (says_tomb ∙ look-same node Key' v s (tombed k v e ∙ ap (λ n. Single n v) (eqb-true k Key' same))) found
      tomb_ends next (crowds route m q k v e apart past full) =
          let bad : true ≡ false = sym (and_parts (inserts operation.call) (nat_le 32 (length (entries_of (node_at state.heap main)))) full).0 ∙ (get_answers operation.call v get).2 in cc
      tomb_ends next (misses_listed route m q k v e apart past out) =
          a.where_absent (says_tomb ∙ look-other node Key' k v s (tombed k v e) (λ same. differ k Key' apart (sym same))) out
      tomb_ends next edge = tt
