-- Along a run the path of each operation that looks for its key keeps to the key's path.
use Rattle.std.proofs.Common.{◌≡◌, ℕ, suc, ◌-◌, ◌<◌, ◌≤◌, nat_eq, true, cond, List, length, slice_index_or, Some, inl, refl, sym, ap, subst, ◌∙◌, arith, eqb-true, true≢false, None}
use Rattle.std.specs.Option.{option_eq}
use Rattle.std.proofs.lemmas.Option.{none-some, same_Some}
use Rattle.proof_updates.specs.Vocabulary.{hash_of, position_of, Access, Writable, ReadOnly, Call, Clear, Snapshot, Freeze, Ref, Indirection, Branch, Single, Tomb, List as Listed, node_at, entry_at}
use Rattle.proof_updates.specs.Vocabulary.{entries_of, no_ref, generation_of, generation_at, Node, flag_of, Line, Operation, After, Gives, Read, Bounds, key_of, handle_of, State, word_at, root_at}
use Rattle.proof_updates.specs.Vocabulary.{root_of, word_of, current, is_start, read_after, read_step, passes as passes_by, is_passable, key_after_read, key_after, line_action, read_of, line_after}
use Rattle.proof_updates.specs.Vocabulary.{after_root, generation_from, given_root, IsRun, KeyLine, Purpose, Swap, Root, RootLine, Plain, root_after, swap_after, Moment, Runs, IsInUse, is_end, Is}
use Rattle.proof_updates.specs.Vocabulary.{Holds, ABranch, AllHold, line_wants, action_wants, AnIndirection, meets, word_wants, IsNoSwap, counts_at, stage_of, Absent, Below, look_at, look, Trie}
use Rattle.proof_updates.specs.Vocabulary.{generation, trie_of, KnowsKey, KnowsLine, GivesAt, known_with, first_main}
use Rattle.proof_updates.specs.Beneath.machine_model.specs.declared.finding.KeyLine.TheVariants as key
use Rattle.proof_updates.specs.Beneath.machine_model.specs.declared.lines.Line.TheVariants as line
use Rattle.proof_updates.specs.Beneath.machine_model.specs.declared.reading.After.TheVariants.{Goes}
use Rattle.proof_updates.specs.Beneath.machine_model.specs.Operations.{from_root}
use Rattle.proof_updates.specs.Beneath.machine_model.proofs.Times.{steps_at}
use Rattle.proof_updates.specs.Beneath.machine_model.specs.declared.lines.Purpose.TheVariants as purpose
use Rattle.proof_updates.specs.Beneath.proof_memory.proofs.Claims.Uses.{safe_of, meets_of}
use Rattle.proof_updates.specs.Beneath.proof_memory.proofs.Safety.AtTimes.{line_at, action_at}
use Rattle.proof_updates.specs.Beneath.proof_memory.proofs.Claims.Nodes.{branch_main, main_no_link}
use Rattle.proof_updates.specs.Beneath.proof_memory.proofs.Claims.Named.{main_claim}
use Rattle.proof_updates.specs.Beneath.proof_memory.proofs.Safety.AtEachTime.{safe_at}
use Rattle.proof_updates.specs.Beneath.proof_commits.proofs.Course.OfLists.{given_read}
use Rattle.proof_updates.specs.Beneath.proof_contents.specs.Steps.{IsTrie}
use Rattle.proof_updates.specs.Beneath.proof_contents.proofs.Shapes.Nodes.{leads}
use Rattle.proof_updates.specs.Beneath.proof_contents.proofs.Lines.Repair.{read_stays}
use Rattle.proof_updates.specs.Beneath.proof_generations.proofs.Falling.Final.{given_for_ever}
use Rattle.proof_updates.specs.Beneath.proof_generations.proofs.Roots.Along.{ordered_at}
use Rattle.proof_updates.specs.Beneath.proof_generations.proofs.Roots.Open.{no_close_at}
use Rattle.proof_updates.specs.Beneath.proof_generations.proofs.Roots.Rooted.{root_given}
use Rattle.proof_order.proofs.History.Past.{past_at}
use Rattle.proof_shape.proofs.Lines.Knows.{knows_at}
use Rattle.proof_shape.proofs.Runs.Nodes.{link_known, node_known}
use Rattle.proof_order.proofs.Openings.ClosedRoots.{root_is}
use Rattle.proof_updates.proofs.Tries.EachOperation.{OwnStep, each_operation, own_notes}
use Rattle.proof_updates.proofs.Answers.Given.{GivenAt, given_at, moment_of, own_counts, quiet_moment}
use Rattle.proof_updates.proofs.Routes.Times.{counts_since, since_next, later}
use Rattle.proof_updates.proofs.Routes.Known.{IsGiven, IsOf, since, KeyRoute, LineRoute, route_later, IsAt, route_root}
use Rattle.proof_updates.specs.Beneath.machine_model.proofs.Edges.Key.{key_edge}
use Rattle.proof_updates.proofs.Routes.Key.{main_on, entry_on, listed_on, sibling_on}
use Rattle.proof_updates.proofs.Routes.Lines.{clean_on, climb_on, copy_on, walk_on, build_on, renew_on, swap_on}

-- a SWAP's path is no matter of moments
swap_route : (trie : Trie) (access : Access) (g q t b mu c nu : ℕ) (why : Purpose) (s : Swap) → LineRoute trie access g q t b mu (line.Swap why s) →
    LineRoute trie access g q t c nu (line.Swap why s)
swap_route trie access g q t b mu c nu (purpose.Update p former) s h = h
swap_route trie access g q t b mu c nu (purpose.Renew p) s h = h
swap_route trie access g q t b mu c nu purpose.Clean s h = tt
swap_route trie access g q t b mu c nu (purpose.Climb x) s h = tt

-- ---- its own step

module _ (limits : Bounds) (states : ℕ → State) (last : ℕ) (depth path : Ref → ℕ) (run : IsRun limits states last) (ok : IsTrie (trie_of limits states last depth path)) where
  abbrev trie : Trie
  trie = trie_of limits states last depth path

  module _ (t k : ℕ) (lt : t < last) (operation : Operation) (own : OwnStep states run.records t k operation) (g : ℕ) where
    abbrev state : State
    state = states t

    abbrev A : Access
    A = operation.access

    abbrev Q : ℕ
    Q = key_of operation.call

    abbrev ra : ℕ
    ra = (moment_of run (suc t) k).read_at

    abbrev mu : ℕ
    mu = (moment_of run (suc t) k).moment

    abbrev was : Moment
    was = moment_of run t k

    abbrev On : Line → Type 0
    On l = LineRoute trie A g Q (suc t) ra mu l

    within : t ≤ last
    within = omega arith

    -- ---- a READ of the path's end

    module _ (p : List Ref) (r : Read) (e : operation.line ≡ line.Key (key.Read p r)) (h : KeyRoute trie A g Q t was.read_at was.moment (key.Read p r)) where
      early : was.read_at ≤ t
      early =
          let past = ((past_at run t within).operations k operation own.runs).0 in
          let count = steps_at run t within in
          omega arith

      counted : ra ≡ counts_at r.line t was.read_at
      counted =
          own_counts run t k lt operation own r.indirection r.line (ap stage_of e)

      bounds : (since t was.read_at r.line ≤ ra) × (ra ≤ t)
      bounds = let c = counts_since r.line t was.read_at early in (omega (arith, c.0, counted), omega (arith, c.1, counted))

      given : (m : Ref) → read_step state operation r ≡ Gives m → GivenAt run t k r.indirection m
      given m gives =
          given_at run t k lt operation own r.indirection r.line (ap stage_of e) m
          (given_read r.indirection (read_after state.heap operation.access (word_at state (handle_of operation.call)) r.indirection r.line) m gives)

      gives_at : (m : Ref) → read_step state operation r ≡ Gives m → GivesAt states run.records t (suc k) operation r.indirection m
      gives_at m gives = record {
        outcome = own.outcome;
        moves = own.moves;
        runs = own.runs;
        no_swap = subst (λ l. IsNoSwap l) (sym e) tt;
        read = r;
        reads = ap read_of e;
        of = refl;
        gives = gives;
        notes = own_notes states run.records t k operation own;
      }

      is_given : (m : Ref) → read_step state operation r ≡ Gives m → IsGiven trie A mu (current p) m
      is_given m gives = subst (λ i. IsGiven trie A mu i m) h.1 (by_access operation.access refl)
        where
          by_access : (a : Access) → operation.access ≡ a → IsGiven trie a mu r.indirection m
          by_access Writable is = (given m gives).is
          by_access ReadOnly is =
              given_for_ever run t lt (suc k) operation r.indirection m (gives_at m gives) (inl is) last (let past = (given m gives).past in omega arith) (omega arith)

      read_on : (after : After Read Ref) → read_step state operation r ≡ after → On (key_after_read p after)
      read_on (Goes next) e' =
          let b = bounds in (
            route_later trie A g Q (since t was.read_at r.line) (since (suc t) ra next.line) p (since_next next.line t ra (since t was.read_at r.line) b.0 b.1) h.0,
            read_stays state operation r next e' ∙ h.1,
          )
      read_on (Gives m) e' =
          let b = bounds in
          let at = given m e' in
          record {
            past = omega (arith, at.past);
            route = route_later trie A g Q (since t was.read_at r.line) (suc mu) p (omega (arith, b.0, at.from)) h.0;
            given = is_given m e';
          }

    -- ---- at an entry that is an indirection

    module _ (p : List Ref) (main : Ref) (position : ℕ) (e : operation.line ≡ line.Key (key.Entry p main position)) where
      main_used : Holds (IsInUse state.heap) state.heap (Is main ABranch)
      main_used =
          let wants = subst (λ l. AllHold (IsInUse state.heap) state.heap (line_wants limits.hash operation.call operation.access l)) e
          (line_at run t within (suc k) operation own.runs) in
          main_claim wants

      main_is : trie.node main ≡ node_at state.heap main
      main_is = node_known run t within main (safe_of main_used) (main_no_link (node_at state.heap main) (branch_main (node_at state.heap main) (meets_of main_used)))

      entry_used : IsInUse state.heap (entry_at state.heap main position)
      entry_used =
          let looks = subst (λ l. AllHold (IsInUse state.heap) state.heap (action_wants (line_action state operation l))) e (action_at run t within (suc k) operation own.runs) in
          safe_of looks.0

      known_entry : KnowsKey (known_with limits states last (first_main states last)) operation.call (key.Entry p main position)
      known_entry = subst (λ l. KnowsLine (known_with limits states last (first_main states last)) operation.call l) e (knows_at run t within (suc k) operation own.runs)

      leads_there : (h : ℕ) (w : Ref) → node_at state.heap (entry_at state.heap main position) ≡ Indirection h w → is_passable operation h ≡ true → operation.generation ≡ Some g →
          (look trie.node (hash_of trie.kind) (length p - 1) Q (trie.node main) ≡ Below (entry_at state.heap main position)) × IsOf trie A g (entry_at state.heap main position)
      leads_there h w is passes begun = by_known known_entry
        where
          word : Ref
          word = (link_known run t within (entry_at state.heap main position) entry_used h w is).0

          link : trie.node (entry_at state.heap main position) ≡ Indirection h word
          link = (link_known run t within (entry_at state.heap main position) entry_used h w is).1

          own_generation : (a : Access) → operation.access ≡ a → IsOf trie a g (entry_at state.heap main position)
          own_generation Writable writable =
              ap generation_of link
              ∙ sym (eqb-true g h (ap (λ o. option_eq nat_eq o (Some h)) (sym begun) ∙ ap (λ x. passes_by x (is_start operation h)) (sym writable) ∙ passes))
          own_generation ReadOnly read_only = tt

          by_known : KnowsKey (known_with limits states last (first_main states last)) operation.call (key.Entry p main position) →
              (look trie.node (hash_of trie.kind) (length p - 1) Q (trie.node main) ≡ Below (entry_at state.heap main position)) × IsOf trie A g (entry_at state.heap main position)
          by_known (b, es, f) =
              let there : slice_index_or es.items (position_of (flag_of (hash_of limits.hash Q) (length p - 1)) b) no_ref ≡ entry_at state.heap main position =
              ap (λ n. slice_index_or es.items n no_ref) (sym f.at) ∙ ap (λ n. slice_index_or (entries_of n) position no_ref) (sym f.is ∙ main_is) in (
                ap (look trie.node (hash_of trie.kind) (length p - 1) Q) f.is
                    ∙ ap (λ c. cond c (look_at Q (slice_index_or es.items (position_of (flag_of (hash_of limits.hash Q) (length p - 1)) b) no_ref)
                    (trie.node (slice_index_or es.items (position_of (flag_of (hash_of limits.hash Q) (length p - 1)) b) no_ref))) Absent) f.flagged
                    ∙ ap (λ r. look_at Q r (trie.node r)) there ∙ leads trie.node Q h (entry_at state.heap main position) word link,
                own_generation operation.access refl,
              )

    -- ---- ROOT gives the root of its generation

    module _ (l : RootLine) (e : operation.line ≡ line.Root l) (r : Ref) (gives : root_after state.heap operation.access (word_at state (handle_of operation.call)) l ≡ Gives r)
        (its : generation_at state.heap r ≡ g) where
      open_root : (found : Root) × (root_at state (handle_of operation.call) ≡ Some found) × (found.access ≡ operation.access)
      open_root = (ordered_at run t within).handles.on_open k operation own.runs (no_close_at run t within k operation own.runs (ap is_end e))

      plain : (open_root.0).word ≡ Plain r
      plain = sym (ap word_of open_root.1) ∙ root_given state operation l r gives

      its_root : trie.root g ≡ r
      its_root =
          ap trie.root (sym (ap (λ w. generation_at state.heap (root_of w)) plain ∙ its)) ∙ root_is run t
          (handle_of operation.call) open_root.0 within open_root.1 ∙ ap root_of plain

      root_used : Holds (IsInUse state.heap) state.heap (Is r AnIndirection)
      root_used =
          (subst (λ w. AllHold (IsInUse state.heap) state.heap (word_wants w)) plain ((safe_at run t within).words (handle_of operation.call) open_root.0 open_root.1)).0

      generation_is : generation trie r ≡ g
      generation_is = by_node (node_at state.heap r) refl (meets_of root_used) its
        where
          by_node : (n : Node) → node_at state.heap r ≡ n → meets AnIndirection n ≡ true → generation_of (node_at state.heap r) ≡ g → generation trie r ≡ g
          by_node (Indirection h w) is m own_generation =
              ap generation_of (link_known run t within r (safe_of root_used) h w is).1 ∙ sym (ap generation_of is) ∙ own_generation
          by_node (Branch b es) is m own_generation = absurd (true≢false (sym m))
          by_node (Single q v) is m own_generation = absurd (true≢false (sym m))
          by_node (Tomb s) is m own_generation = absurd (true≢false (sym m))
          by_node (Listed ss) is m own_generation = absurd (true≢false (sym m))

      from_root_on : (call : Call) → On (from_root call r)
      from_root_on (Clear h) = tt
      from_root_on (Snapshot h) = tt
      from_root_on (Freeze h) = tt
      from_root_on call = (route_root trie operation.access g (key_of operation.call) (suc t) r its_root generation_is, refl)

    root_on : (l : RootLine) → operation.line ≡ line.Root l → (after : After RootLine Ref) → root_after state.heap operation.access (word_at state (handle_of operation.call)) l ≡ after →
        given_root state after operation.generation ≡ Some g → On (after_root operation after)
    root_on l e (Goes next) is begun = tt
    root_on l e (Gives r) is begun = from_root_on l e r is (same_Some _ _ begun) operation.call

    -- ---- KEY

    -- the moment stays where no READ is
    same_moment : (l : Line) → operation.line ≡ l → read_of l ≡ None → was.moment ≡ mu
    same_moment l e none = quiet_moment run t k lt operation own (ap read_of e ∙ none)

    at_next : (l : Line) → operation.line ≡ l → read_of l ≡ None → (p : List Ref) (main : Ref) → IsAt trie operation.access g (key_of operation.call) t was.moment p main →
        IsAt trie operation.access g (key_of operation.call) (suc t) mu p main
    at_next l e none p main at =
        subst (λ mu. IsAt trie operation.access g (key_of operation.call) (suc t) mu p main) (same_moment l e none) (record { past = omega (arith, at.past); route = at.route; given = at.given })

    key_on : (l : KeyLine) → operation.line ≡ line.Key l → operation.generation ≡ Some g → KeyRoute trie operation.access g (key_of operation.call) t was.read_at was.moment l →
        On (key_after state operation l)
    key_on (key.Read p r) e begun h = read_on p r e h (read_step state operation r) refl
    key_on (key.Main p main) e begun h =
        main_on trie ok g state operation t ra mu lt p main (at_next (line.Key (key.Main p main)) e refl p main h) _ (key_edge state operation (key.Main p main))
    key_on (key.Entry p main position) e begun h =
        entry_on trie ok g state operation t ra mu lt p main (at_next (line.Key (key.Entry p main position)) e refl p main h) position
        (λ generation w is passes. leads_there p main position e generation w is passes begun) _ (key_edge state operation (key.Entry p main position))
    key_on (key.Listed p main position) e begun h =
        listed_on trie ok g state operation t ra mu lt p main (at_next (line.Key (key.Listed p main position)) e refl p main h) position _ (key_edge state operation (key.Listed p main position))
    key_on (key.Sibling p main position former) e begun h =
        sibling_on trie ok g state operation t ra mu lt p main
        (at_next (line.Key (key.Sibling p main position former)) e refl p main h) position former _
        (key_edge state operation (key.Sibling p main position former))

    -- ---- all lines

    line_on : (l : Line) → operation.line ≡ l → generation_from state operation l ≡ Some g → (operation.generation ≡ Some g →
        LineRoute trie operation.access g (key_of operation.call) t was.read_at was.moment l) →
        On (line_after state operation l)
    line_on (line.Root l) e begun h = root_on l e (root_after state.heap operation.access (word_at state (handle_of operation.call)) l) refl begun
    line_on (line.Key l) e begun h = key_on l e begun (h begun)
    line_on (line.Build l) e begun h =
        build_on trie operation.access g (key_of operation.call) t _ _ state operation l
        (route_later trie operation.access g (key_of operation.call) t (suc t) _ (omega arith) (h begun))
    line_on (line.Swap why s) e begun h =
        swap_on trie operation.access g (key_of operation.call) t ra mu state operation why s
        (swap_after state.heap operation.access (word_at state (handle_of operation.call)) s)
        (swap_route trie operation.access g (key_of operation.call) t was.read_at was.moment ra mu why s (h begun))
    line_on (line.Renew l) e begun h =
        renew_on trie operation.access g (key_of operation.call) t _ _ state operation l
        (route_later trie operation.access g (key_of operation.call) t (suc t) _ (omega arith) (h begun))
    line_on (line.Clean l) e begun h = clean_on trie operation.access g (key_of operation.call) t _ _ state operation l
    line_on (line.Climb l) e begun h = climb_on trie operation.access g (key_of operation.call) t _ _ state operation l
    line_on (line.Copy l) e begun h = copy_on trie operation.access g (key_of operation.call) t _ _ state operation l
    line_on (line.Walk l) e begun h = walk_on trie operation.access g (key_of operation.call) t _ _ state operation l
    line_on (line.End answer) e begun h = tt
    line_on line.Impossible e begun h = tt

  -- ---- along the run

  abbrev pub HasRoute : ℕ → ℕ → Operation → Type 0
  HasRoute t k operation =
      (g : ℕ) → operation.generation ≡ Some g → LineRoute trie operation.access g (key_of operation.call) t (moment_of run t k).read_at
      (moment_of run t k).moment operation.line

  pub has_route : (t : ℕ) → t ≤ last → (k : ℕ) (operation : Operation) → Runs (states t) k operation → HasRoute t k operation
  has_route =
      each_operation run HasRoute (λ t k operation b h. h) (λ t k lt call number o m d notes g e. absurd (none-some g e))
      (λ t k lt operation answer runs may o m same h g e. tt)
      (λ t k lt operation runs same h g e.
      subst (λ (n : Moment). LineRoute trie operation.access g (key_of operation.call) (suc t) n.read_at n.moment operation.line) (sym same)
      (later trie operation.access g (key_of operation.call) t (moment_of run t k).read_at (moment_of run t k).moment operation.line (h g e)))
      (λ t k lt operation own h g e. line_on t k lt operation own g operation.line refl e (h g))
