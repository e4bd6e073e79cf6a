-- Where a line of KEY ends its operation, the answer is right: of the content just behind the moment, on a read-only handle of that in the end.
use Rattle.std.proofs.Common.{◌≡◌, ◌≢◌, ℕ, suc, ◌-◌, ◌<◌, ◌≤◌, ◌^◌, true, true≢false, List, length, Some, inl, inr, refl, sym, ap, subst, ◌∙◌, arith}
use Rattle.proof_updates.specs.Vocabulary.{hash_of, Access, Writable, ReadOnly, Call, Get, Put, PutIfAbsent, Replace, ReplaceIf, Remove, RemoveIf, Clear, Snapshot, Freeze, Close, Entries, Count}
use Rattle.proof_updates.specs.Vocabulary.{Reply, Ref, Node, Branch, Tomb, List as Listed, node_at, entry_at, KeyLine, Line, Operation, Bounds, key_of, current, depth_of, key_after, State, IsRun}
use Rattle.proof_updates.specs.Vocabulary.{node_under, moment_at, IsInUse, ABranch, AList, AMain, Is, Holds, meets, listed, Below, Trie, node_in, says, content, root_is, below_is, Known, KnowsKey}
use Rattle.proof_updates.specs.Vocabulary.{IsFlagged, GoesThrough, IsGet, trie_of, known_with, first_main}
use Rattle.proof_updates.specs.Beneath.machine_model.specs.declared.finding.KeyLine.TheVariants as key
use Rattle.proof_updates.specs.Beneath.machine_model.specs.declared.lines.Line.TheVariants as line
use Rattle.proof_updates.specs.Beneath.proof_memory.proofs.Claims.Uses.{meets_of}
use Rattle.proof_updates.specs.Beneath.proof_memory.proofs.Safety.AtTimes.{limits_at}
use Rattle.proof_updates.specs.Beneath.proof_contents.specs.Steps.{IsTrie, IsReached}
use Rattle.proof_updates.specs.Beneath.proof_contents.specs.Effects.{act_in, IsKeyed}
use Rattle.proof_updates.specs.Beneath.proof_contents.proofs.Values.Paths.{on-depth}
use Rattle.proof_updates.specs.Beneath.proof_contents.proofs.Shapes.Nodes.{leads_below}
use Rattle.proof_updates.specs.Beneath.proof_contents.proofs.Lines.Key.Knows.{Sees, SeesSingle}
use Rattle.proof_updates.specs.Beneath.machine_model.specs.Edges.Key.{KeyEdge, misses_absent, reads_on}
use Rattle.proof_updates.specs.Beneath.machine_model.proofs.Edges.Key.{key_edge}
use Rattle.proof_updates.specs.Beneath.proof_contents.proofs.Lines.Key.Ends.{EndsRight, Answering, main_ends, entry_ends, listed_ends, tomb_ends}
use Rattle.proof_updates.specs.Beneath.proof_contents.proofs.Lines.Answers.{writable_answers, read_only_answers}
use Rattle.proof_updates.specs.Beneath.proof_memory.proofs.Claims.Nodes.{branch_main}
use Rattle.proof_updates.specs.Beneath.proof_memory.proofs.Claims.Named.{main_claim}
use Rattle.proof_shape.proofs.Runs.EachAt.{GoesAt}
use Rattle.proof_shape.proofs.Lines.Placed.{is_keyed}
use Rattle.proof_shape.proofs.Runs.Seen.{listed_main, sees, single_seen}
use Rattle.proof_shape.proofs.Lines.Key.{same_known, claims, looks}
use Rattle.proof_updates.proofs.Routes.Known.{IsAt, KeyRoute, looks_at, route_end}

-- the answer is what the call gives, and it changes nothing
abbrev pub AnswersSo : Trie → Access → ℕ → ℕ → Call → Reply → Type 0
AnswersSo trie Writable g mu call answer = act_in (hash_of trie.kind) Writable call (content trie g (suc mu)) ≡ Some (answer, content trie g (suc mu))
AnswersSo trie ReadOnly g mu call answer = act_in (hash_of trie.kind) ReadOnly call (content trie g trie.last) ≡ Some (answer, content trie g trie.last)

pub keyed_so : (call : Call) → is_keyed call ≡ true → IsKeyed call
keyed_so (Get h k) e = tt
keyed_so (Put h k v) e = tt
keyed_so (PutIfAbsent h k v) e = tt
keyed_so (Replace h k v) e = tt
keyed_so (ReplaceIf h k a b) e = tt
keyed_so (Remove h k) e = tt
keyed_so (RemoveIf h k v) e = tt
keyed_so (Clear h) e = absurd (true≢false (sym e))
keyed_so (Snapshot h) e = absurd (true≢false (sym e))
keyed_so (Freeze h) e = absurd (true≢false (sym e))
keyed_so (Close h) e = absurd (true≢false (sym e))
keyed_so (Entries h) e = absurd (true≢false (sym e))
keyed_so (Count h) e = absurd (true≢false (sym e))

-- what is reached at a depth is an indirection of that depth
reached_depth : (trie : Trie) → IsTrie trie → (g q depth : ℕ) (i : Ref) → IsReached trie g q depth i → trie.depth i ≡ depth
reached_depth trie ok g q depth i root_is = ok.root_depth g
reached_depth trie ok g q depth i (below_is above_depth above below reached led) =
    let at = reached_depth trie ok g q above_depth above reached in
    (leads_below trie above q (node_in trie trie.last above) below (ok.shaped trie.last above (omega arith)) (subst (λ d. says trie trie.last q d above ≡ Below below) (sym at) led)).child.deeper
    ∙ ap suc at

-- where its main node was given, and is no tomb if it is to be changed
module _ (trie : Trie) (ok : IsTrie trie) (state : State) (operation : Operation) (first : Ref → Ref) (same_hash : state.limits.hash ≡ trie.kind) (g t moment : ℕ) (within : t ≤ trie.last)
    (keyed : IsKeyed operation.call) (fits : key_of operation.call < 2 ^ 64) where
  pub answering : (access : Access) (p : List Ref) (main : Ref) → IsAt trie access g (key_of operation.call) t moment p main →
      (access ≡ Writable → (single : Ref) → trie.node main ≢ Tomb single) → (access ≡ ReadOnly → IsGet operation.call) →
      Answering state operation trie.node first (λ answer. AnswersSo trie access g moment operation.call answer) (depth_of p) main
  answering Writable p main at stands gets =
      let end = route_end trie Writable g (key_of operation.call) (suc moment) p at.route in
      let past = at.past in
      writable_answers trie ok state operation first same_hash (depth_of p) (current p) main
      (sym (on-depth trie ok end.0 g (key_of operation.call) (length p - 1) (current p) (omega (arith, end.1)) end.2)) (suc moment) g
      (looks_at trie ok g (key_of operation.call) moment (omega arith) p main at.route at.given) (stands refl) keyed fits
  answering ReadOnly p main at stands gets =
      let end = route_end trie ReadOnly g (key_of operation.call) (suc moment) p at.route in
      let deep = reached_depth trie ok g (key_of operation.call) (length p - 1) (current p) end in
      read_only_answers trie ok state operation first same_hash (depth_of p) (current p) main (sym deep) g (gets refl)
      (subst (λ d. IsReached trie g (key_of operation.call) d (current p)) (sym deep) end) at.given

module _ (limits : Bounds) (states : ℕ → State) (last : ℕ) (depth path : Ref → ℕ) (run : IsRun limits states last) (ok : IsTrie (trie_of limits states last depth path))
    (t : ℕ) (lt : t < last) (actor : ℕ) (operation : Operation) (go : GoesAt states run.records t actor operation) (g : ℕ) (keyed : IsKeyed operation.call) (fits : key_of operation.call < 2 ^ 64)
    (gets : operation.access ≡ ReadOnly → IsGet operation.call) where
  abbrev trie : Trie
  trie = trie_of limits states last depth path

  abbrev moment : ℕ
  moment = (moment_at (run.records t) actor).moment

  abbrev node : Ref → Node
  node = node_under states last

  abbrev first : Ref → Ref
  first = first_main states last

  abbrev Right : Reply → Type 0
  Right answer = AnswersSo trie operation.access g moment operation.call answer

  abbrev pub Ends : Line → Type 0
  Ends l = EndsRight (states t) operation (node_under states last) (first_main states last)
      (λ answer. AnswersSo (trie_of limits states last depth path) operation.access g (moment_at (run.records t) actor).moment operation.call answer) l

  same_hash : (states t).limits.hash ≡ trie.kind
  same_hash = ap (λ (l : Bounds). l.hash) (limits_at run t (omega arith))

  rights : (p : List Ref) (main : Ref) → IsAt trie operation.access g (key_of operation.call) t moment p main → (operation.access ≡ Writable → (single : Ref) → node main ≢ Tomb single) →
      Answering (states t) operation node first Right (depth_of p) main
  rights p main at stands = answering trie ok (states t) operation first same_hash g t moment (omega arith) keyed fits operation.access p main at stands gets

  -- a branch or a list is no tomb
  no_tomb : (main : Ref) (n : Node) → node main ≡ n → ((single : Ref) → n ≢ Tomb single) → operation.access ≡ Writable → (single : Ref) → node main ≢ Tomb single
  no_tomb main n is other w single e = other single (sym is ∙ e)

  -- ---- line by line

  main_right : (p : List Ref) (main : Ref) → operation.line ≡ line.Key (key.Main p main) → IsAt trie operation.access g (key_of operation.call) t moment p main → (next : Line) →
      KeyEdge (states t) operation (key.Main p main) next → Ends next
  main_right p main e at next (misses_absent route m b es is f none) =
      let seen = sees run t (omega arith) operation main AMain (λ n x. x) (main_claim (claims run t lt actor operation go _ e)) in
      let stands = no_tomb main (Branch b es) (sym seen.main_is ∙ is) (λ single bad. let wrong : Branch b es ≡ Tomb single = bad in cc) in
      main_ends (states t) operation node first Right main seen p (rights p main at stands) next (misses_absent route m b es is f none)
  main_right p main e at next edge = tt

  entry_right : (p : List Ref) (main : Ref) (position : ℕ) → operation.line ≡ line.Key (key.Entry p main position) → IsAt trie operation.access g (key_of operation.call) t moment p main →
      KnowsKey (known_with limits states last (first_main states last)) operation.call (key.Entry p main position) → (next : Line) →
      KeyEdge (states t) operation (key.Entry p main position) next → Ends next
  entry_right p main position e at (b, es, f) next edge =
      let seen = sees run t (omega arith) operation main ABranch branch_main (main_claim (claims run t lt actor operation go _ e)) in
      let stands = no_tomb main (Branch b es) f.is (λ single bad. let wrong : Branch b es ≡ Tomb single = bad in cc) in
      entry_ends (states t) operation node first Right main seen p (rights p main at stands) position b es
      (λ k v is. single_seen run t (omega arith) (entry_at (states t).heap main position)
      (looks run t lt actor operation go _ e (entry_at (states t).heap main position) refl) k v is)
      (subst (λ (k : Known). IsFlagged k (depth_of p) (key_of operation.call) main position b es) (sym (same_known run t lt actor operation go)) f) next edge

  listed_right : (p : List Ref) (main : Ref) (position : ℕ) → operation.line ≡ line.Key (key.Listed p main position) → IsAt trie operation.access g (key_of operation.call) t moment p main →
      KnowsKey (known_with limits states last (first_main states last)) operation.call (key.Listed p main position) → (next : Line) →
      KeyEdge (states t) operation (key.Listed p main position) next → Ends next
  listed_right p main position e at = by_known
    where
      claim : Holds (IsInUse (states t).heap) (states t).heap (Is main (listed operation.access))
      claim = main_claim (claims run t lt actor operation go _ e)

      seen : Sees (states t) operation node first main
      seen = sees run t (omega arith) operation main (listed operation.access) (listed_main operation.access) claim

      single : SeesSingle (states t) operation node first main position
      single k v is =
          single_seen run t (omega arith) (entry_at (states t).heap main position)
          (looks run t lt actor operation go _ e (entry_at (states t).heap main position) refl) k v is

      not_tombed : (s : Ref) → node main ≡ Tomb s → operation.access ≡ Writable → ⊥
      not_tombed s is w = true≢false (sym (ap (meets AList) (sym (seen.main_is ∙ is)) ∙ ap (λ a. meets (listed a) (node_at (states t).heap main)) (sym w) ∙ meets_of claim))

      by_known : KnowsKey (known_with limits states last (first_main states last)) operation.call (key.Listed p main position) → (next : Line) →
          KeyEdge (states t) operation (key.Listed p main position) next → Ends next
      by_known (inl (ss, go_through)) =
          listed_ends (states t) operation node first Right main seen p
          (rights p main at (no_tomb main (Listed ss) go_through.is (λ s bad. let wrong : Listed ss ≡ Tomb s = bad in cc))) position ss single
          (subst (λ (k : Known). GoesThrough k (key_of operation.call) main position ss) (sym (same_known run t lt actor operation go)) go_through)
      by_known (inr (s, is, at_first, get)) =
          subst (λ q. (next : Line) → KeyEdge (states t) operation (key.Listed p main q) next → Ends next) (sym at_first)
          (tomb_ends (states t) operation node first Right main seen p (rights p main at (λ w. absurd (not_tombed s is w))) s
          (subst (SeesSingle (states t) operation node first main) at_first single) is get)

  right_by : (l : KeyLine) → operation.line ≡ line.Key l → KeyRoute trie operation.access g (key_of operation.call) t (moment_at (run.records t) actor).read_at moment l →
      KnowsKey (known_with limits states last (first_main states last)) operation.call l → (next : Line) → KeyEdge (states t) operation l next → Ends next
  right_by (key.Read p r) e h knows next (reads_on route read n on) = tt
  right_by (key.Read p r) e h knows next edge = tt
  right_by (key.Main p main) e h knows next edge = main_right p main e h next edge
  right_by (key.Entry p main position) e h knows next edge = entry_right p main position e h knows next edge
  right_by (key.Listed p main position) e h knows next edge = listed_right p main position e h knows next edge
  right_by (key.Sibling p main position former) e h knows next (KeyEdge.strays l) = tt
  right_by (key.Sibling p main position former) e h knows next edge = tt

  pub key_right : (l : KeyLine) → operation.line ≡ line.Key l → KeyRoute trie operation.access g (key_of operation.call) t (moment_at (run.records t) actor).read_at moment l →
      KnowsKey (known_with limits states last (first_main states last)) operation.call l → Ends (key_after (states t) operation l)
  key_right l e h knows = right_by l e h knows (key_after (states t) operation l) (key_edge (states t) operation l)
