-- The lines of KEY where its path ends, for an actor that is alone: each leads to the end or to BUILD, whatever follows that.
use Rattle.std.proofs.Common.{◌≡◌, ℕ, zero, suc, ◌+◌, ◌-◌, ◌==◌, ◌&&◌, ◌<◌, ◌≤◌, Bool, true, false, nat_lt, nat_le, List, length, Option, Some, None, if◌then◌else◌, refl, sym}
use Rattle.std.proofs.Common.{subst, ap, ◌∙◌, ltb-true, arith}
use Rattle.proof_obstruction_free.specs.Vocabulary.{Access, Writable, ReadOnly, Reply, Ref, Node, Indirection, Branch, Single, Tomb, List as Listed, node_at, node_of, entry_at, entries_of}
use Rattle.proof_obstruction_free.specs.Vocabulary.{BuildLine, WhenFound, Answers, Sets, Removes, Operation, when_found, inserts, absent_reply, key_of, absent, absent_beside, absent_listed}
use Rattle.proof_obstruction_free.specs.Vocabulary.{removing, found_so, found, after_listed, after_sibling, key_after_entry, is_below_root, State, listed, meets, build_path, main_of_build, Sites}
use Rattle.proof_obstruction_free.specs.Vocabulary.{sites_of, trie_at, InsideSite}
use Rattle.proof_obstruction_free.specs.Beneath.history.specs.declared.replies.Reply.TheVariants as reply
use Rattle.proof_obstruction_free.specs.Beneath.machine_model.specs.declared.building.BuildLine.TheVariants as build
use Rattle.proof_obstruction_free.specs.Beneath.machine_model.specs.declared.building.Change.TheVariants as change
use Rattle.proof_obstruction_free.specs.Beneath.machine_model.specs.declared.building.Site.TheVariants as site
use Rattle.proof_obstruction_free.specs.Beneath.machine_model.specs.declared.finding.KeyLine.TheVariants as key
use Rattle.proof_obstruction_free.specs.Beneath.machine_model.specs.declared.lines.Line.TheVariants as line
use Rattle.proof_obstruction_free.specs.Beneath.proof_memory.proofs.Claims.Uses.{safe_of, meets_of}
use Rattle.proof_obstruction_free.specs.Beneath.proof_memory.proofs.Claims.Named.{main_claim, past_place}
use Rattle.proof_obstruction_free.specs.Beneath.proof_memory.proofs.Safety.AtTimes.{kind_at, node_found}
use Rattle.proof_obstruction_free.specs.Beneath.proof_contents.proofs.Shapes.Nodes.{list_shape}
use Rattle.proof_obstruction_free.specs.Beneath.proof_shape.proofs.Sites.Grown.{grown_sites}
use Rattle.proof_obstruction_free.specs.Alone.{Lone, Stands, Keeps, WordStays, Within, IsWeight}
use Rattle.proof_obstruction_free.specs.Stepping.{Stepping}
use Rattle.proof_obstruction_free.proofs.Step.Within.{weaken, ended}
use Rattle.proof_obstruction_free.proofs.Build.Steps.{quiet_on}
use Rattle.proof_obstruction_free.proofs.Ends.StandsAt.{never}

-- ---- a list has 32 singles at most

module _ (a : Lone) where
  abbrev s : Sites
  s = sites_of a.states a.steps a.last

  few : (r : Ref) (n : Node) (k : Access) → meets (listed k) n ≡ true → InsideSite a.limits.hash s r n → length (entries_of n) ≤ 32
  few r (Listed singles) k e inside = (list_shape (trie_at a.limits.hash s) r (Listed singles) singles inside refl).most
  few r (Tomb single) k e inside = omega arith
  few r (Indirection h m) Writable e inside = absurd (cc e)
  few r (Indirection h m) ReadOnly e inside = absurd (cc e)
  few r (Branch bitmap entries) Writable e inside = absurd (cc e)
  few r (Branch bitmap entries) ReadOnly e inside = absurd (cc e)
  few r (Single k v) Writable e inside = absurd (cc e)
  few r (Single k v) ReadOnly e inside = absurd (cc e)

  -- the singles of a list that an operation goes through
  pub few_singles : (t : ℕ) (g : Option ℕ) (path : List Ref) (main : Ref) (position : ℕ) → Stepping a → Stands a t g (line.Key (key.Listed path main position)) →
      (position < length (entries_of (node_at (a.states t).heap main))) × (length (entries_of (node_at (a.states t).heap main)) ≤ 32)
  few_singles t g path main position steps s_ =
      let wanted = steps.wants t g (line.Key (key.Listed path main position)) s_ in
      let (slot, grown_is, is) = kind_at a.states t main (listed a.own.access) (main_claim wanted) in
      let inside = (grown_sites a.steps a.run a.takes a.fit t s_.until main slot grown_is).inside in
      let same : node_at (a.states t).heap main ≡ slot.node = node_found a.states t main (safe_of (main_claim wanted)) ∙ ap node_of grown_is in (
        ltb-true position (length (entries_of (node_at (a.states t).heap main))) (meets_of (past_place wanted).0),
        subst (λ n. length (entries_of n) ≤ 32) (sym same) (few main slot.node a.own.access is inside),
      )

-- ---- the lines; what comes within m steps from BUILD is Q, where I holds, which no quiet step ends

module _
    (a : Lone) (weight : ℕ → ℕ) (heavy : IsWeight a weight) (steps : Stepping a) (path : List Ref) (main : Ref) (g : Option ℕ) (I : ℕ → Type 0)
    (kept : (t : ℕ) → Keeps a t (suc t) → WordStays a t (suc t) → I t → I (suc t)) (Q : ℕ → Type 0) (m : ℕ) (some : 1 ≤ m)
    (builds : (l : BuildLine) (u : ℕ) → I u → Stands a u g (line.Build l) → build_path l ≡ path → main_of_build l ≡ main → Within a weight Q m u)
  where
    abbrev W : ℕ → ℕ → Type 0
    W = Within a weight Q

    more : (n t : ℕ) → W n t → W (n + 1) t
    more n t = weaken a weight Q n (n + 1) t (omega arith)

    answered : (n t : ℕ) (answer : Reply) → 1 ≤ n → Stands a t g (line.End answer) → W n t
    answered n t answer enough now = weaken a weight Q 1 n t enough (ended a weight steps Q t g answer now)

    -- ---- absent

    pub absent_ends : (t : ℕ) → I t → (operation : Operation) → Stands a t g (absent operation path main) → W m t
    absent_ends t holds operation now = by_test (inserts operation.call) now
      where
        by_test : (b : Bool) → Stands a t g (if b then line.Build (build.Single path main site.Absent None) else line.End (absent_reply operation.call)) → W m t
        by_test true now = builds (build.Single path main site.Absent None) t holds now refl refl
        by_test false now = answered m t (absent_reply operation.call) some now

    beside_ends : (t : ℕ) → I t → (operation : Operation) (position : ℕ) → Stands a t g (absent_beside operation path main position) → W m t
    beside_ends t holds operation position now = by_test (inserts operation.call) now
      where
        by_test : (b : Bool) → Stands a t g (if b then line.Build (build.Single path main (site.Beside position) None) else line.End (absent_reply operation.call)) → W m t
        by_test true now = builds (build.Single path main (site.Beside position) None) t holds now refl refl
        by_test false now = answered m t (absent_reply operation.call) some now

    unlisted_ends : (t : ℕ) → I t → (operation : Operation) (singles : ℕ) → Stands a t g (absent_listed operation path main singles) → W m t
    unlisted_ends t holds operation singles now = by_test (inserts operation.call && nat_le 32 singles) now
      where
        by_test : (b : Bool) → Stands a t g (if b then line.End reply.Crowded else absent operation path main) → W m t
        by_test true now = answered m t reply.Crowded some now
        by_test false now = absent_ends t holds operation now

    -- ---- found

    pub sibling_ends : (t : ℕ) → I t → (position former : ℕ) → Stands a t g (line.Key (key.Sibling path main position former)) → W (m + 1) t
    sibling_ends t holds position former now =
        quiet_on a weight heavy steps Q m t g (line.Key (key.Sibling path main position former)) now tt tt tt refl
        (λ next keeps word. by_node (kept t keeps word holds) (entry_at (a.states t).heap main (1 - position)) (node_at (a.states t).heap (entry_at (a.states t).heap main (1 - position))) next)
      where
        by_node : I (suc t) → (other : Ref) (n : Node) → Stands a (suc t) g (after_sibling path main position former other n) → W m (suc t)
        by_node holds other (Single k v) next = builds (build.Main path main (change.Entomb other) (Some former)) (suc t) holds next refl refl
        by_node holds other (Indirection h x) next = builds (build.Main path main (change.Remove position) (Some former)) (suc t) holds next refl refl
        by_node holds other (Branch bitmap entries) next = absurd (never a (suc t) g next)
        by_node holds other (Tomb single) next = absurd (never a (suc t) g next)
        by_node holds other (Listed singles) next = absurd (never a (suc t) g next)

    removing_ends : (t : ℕ) → I t → (state : State) (position value : ℕ) (n : Node) → Stands a t g (removing state path main position value n) → W (m + 1) t
    removing_ends t holds state position value (Branch bitmap entries) now = by_test (is_below_root path && (length entries.items == 2)) now
      where
        by_test : (b : Bool) → Stands a t g (if b then line.Key (key.Sibling path main position value) else line.Build (build.Main path main (change.Remove position) (Some value))) → W (m + 1) t
        by_test true now = sibling_ends t holds position value now
        by_test false now = more m t (builds (build.Main path main (change.Remove position) (Some value)) t holds now refl refl)
    removing_ends t holds state position value (Listed singles) now = more m t (by_test (length singles.items == 2) now)
      where
        by_test : (b : Bool) →
            Stands a t g (if b then line.Build (build.Main path main (change.Entomb (entry_at state.heap main (1 - position))) (Some value)) else line.Build
            (build.Main path main (change.Remove position) (Some value))) → W m t
        by_test true now = builds (build.Main path main (change.Entomb (entry_at state.heap main (1 - position))) (Some value)) t holds now refl refl
        by_test false now = builds (build.Main path main (change.Remove position) (Some value)) t holds now refl refl
    removing_ends t holds state position value (Indirection h x) now = absurd (never a t g now)
    removing_ends t holds state position value (Single k v) now = absurd (never a t g now)
    removing_ends t holds state position value (Tomb single) now = absurd (never a t g now)

    found_ends : (t : ℕ) → I t → (state : State) (operation : Operation) (position value : ℕ) → Stands a t g (found state operation path main position value) → W (m + 1) t
    found_ends t holds state operation position value now = by_what (when_found operation.call value) now
      where
        by_what : (w : WhenFound) → Stands a t g (found_so state path main position value w) → W (m + 1) t
        by_what (Answers answer) now = answered (m + 1) t answer (omega arith) now
        by_what Sets now = more m t (builds (build.Single path main (site.At position) (Some value)) t holds now refl refl)
        by_what Removes now = removing_ends t holds state position value (node_at state.heap main) now

    -- ---- at a list

    -- the next single's
    abbrev Next : ℕ → ℕ → ℕ → Type 0
    Next n t position = Stands a t g (line.Key (key.Listed path main position)) → W (m + 1 + n) t

    listed_ends : (n : ℕ) (t : ℕ) → I t → (position : ℕ) → 32 ≤ position + n → Stands a t g (line.Key (key.Listed path main position)) → W (m + 1 + n) t
    listed_ends zero t holds position enough now =
        let few = few_singles a t g path main position steps now in absurd (omega (arith, enough, few.0, few.1))
    listed_ends (suc n) t holds position enough now =
        weaken a weight Q (m + 1 + n + 1) (m + 1 + suc n) t (omega arith)
        (quiet_on a weight heavy steps Q (m + 1 + n) t g (line.Key (key.Listed path main position)) now tt tt tt refl
        (λ next keeps word. by_node (λ then_. listed_ends n (suc t) (kept t keeps word holds) (position + 1) (omega (arith, enough)) then_) (kept t keeps word holds)
        (node_at (a.states t).heap (entry_at (a.states t).heap main position)) next))
      where
        by_more : Next n (suc t) (position + 1) → I (suc t) → (singles : ℕ) (b : Bool) →
            Stands a (suc t) g (if b then line.Key (key.Listed path main (position + 1)) else absent_listed now.operation path main singles) → W (m + 1 + n) (suc t)
        by_more on holds singles true next = on next
        by_more on holds singles false next = weaken a weight Q m (m + 1 + n) (suc t) (omega arith) (unlisted_ends (suc t) holds now.operation singles next)

        by_key : Next n (suc t) (position + 1) → I (suc t) → (v singles : ℕ) (b : Bool) →
            Stands a (suc t) g (if b then found (a.states t) now.operation path main position v
            else (if nat_lt (position + 1) singles then line.Key (key.Listed path main (position + 1)) else absent_listed now.operation path main singles)) → W (m + 1 + n) (suc t)
        by_key on holds v singles true next = weaken a weight Q (m + 1) (m + 1 + n) (suc t) (omega arith) (found_ends (suc t) holds (a.states t) now.operation position v next)
        by_key on holds v singles false next = by_more on holds singles (nat_lt (position + 1) singles) next

        by_node : Next n (suc t) (position + 1) → I (suc t) → (x : Node) → Stands a (suc t) g (after_listed (a.states t) now.operation path main position x) → W (m + 1 + n) (suc t)
        by_node on holds (Single k v) next = by_key on holds v (length (entries_of (node_at (a.states t).heap main))) (k == key_of now.operation.call) next
        by_node on holds (Indirection h x) next = absurd (never a (suc t) g next)
        by_node on holds (Branch bitmap entries) next = absurd (never a (suc t) g next)
        by_node on holds (Tomb single) next = absurd (never a (suc t) g next)
        by_node on holds (Listed singles) next = absurd (never a (suc t) g next)

    pub list_ends : (t : ℕ) → I t → (position : ℕ) → Stands a t g (line.Key (key.Listed path main position)) → W (m + 33) t
    list_ends t holds position now = weaken a weight Q (m + 1 + 32) (m + 33) t (omega arith) (listed_ends 32 t holds position (omega arith) now)

    -- ---- at an entry that is no indirection

    pub entry_ends : (t : ℕ) → I t → (position : ℕ) → Stands a t g (line.Key (key.Entry path main position)) →
        ((h : ℕ) (x : Ref) → node_at (a.states t).heap (entry_at (a.states t).heap main position) ≡ Indirection h x → ⊥) → W (m + 2) t
    entry_ends t holds position now single =
        weaken a weight Q (m + 1 + 1) (m + 2) t (omega arith)
        (quiet_on a weight heavy steps Q (m + 1) t g (line.Key (key.Entry path main position)) now tt tt tt refl
        (λ next keeps word. by_node (kept t keeps word holds) (node_at (a.states t).heap (entry_at (a.states t).heap main position)) refl next))
      where
        by_key : I (suc t) → (v : ℕ) (b : Bool) →
            Stands a (suc t) g (if b then found (a.states t) now.operation path main position v else absent_beside now.operation path main position) → W (m + 1) (suc t)
        by_key holds v true next = found_ends (suc t) holds (a.states t) now.operation position v next
        by_key holds v false next = more m (suc t) (beside_ends (suc t) holds now.operation position next)

        by_node : I (suc t) → (x : Node) → node_at (a.states t).heap (entry_at (a.states t).heap main position) ≡ x →
            Stands a (suc t) g (key_after_entry (a.states t) now.operation path main position x) → W (m + 1) (suc t)
        by_node holds (Single k v) e next = by_key holds v (k == key_of now.operation.call) next
        by_node holds (Indirection h x) e next = absurd (single h x e)
        by_node holds (Branch bitmap entries) e next = absurd (never a (suc t) g next)
        by_node holds (Tomb x) e next = absurd (never a (suc t) g next)
        by_node holds (Listed singles) e next = absurd (never a (suc t) g next)
