-- A step of CLIMB, or of a swap that leads to it, hands on what the line knows of the tomb that it climbs from.
use Rattle.std.proofs.Common.{◌≡◌, ℕ, zero, suc, ◌<◌, ◌==◌, nat_lt, Bool, true, false, cond, List, ◌∷◌, length, slice_index_or, slice_set, Option, Some, None, refl, sym, ◌∙◌, ap}
use Rattle.std.proofs.Common.{ap₂, subst, arith, eqb-true, ltb-true, ltb-false, []}
use Rattle.std.proofs.lemmas.Bool.{and_parts}
use Rattle.std.proofs.lemmas.List.{get_or_past}
use Rattle.proof_shape.specs.Vocabulary.{position_of, Writable, Ref, Node, Indirection, Branch, Single, Tomb, List as Listed, Heap, node_at, node_of, entries_of, bitmap_of, generation_at, next_ref}
use Rattle.proof_shape.specs.Vocabulary.{no_ref, has_flag, contracted, Line, Operation, After, Gives, Read, Climb, ClimbLine, RootLine, Bounds, handle_of, State, word_at, current, above}
use Rattle.proof_shape.specs.Vocabulary.{is_below_root, flag_in, is_start, read_step, reading, root_after, climbing, climbed, higher, place_in, climbed_node, holds_it, climb_after, climb_after_read}
use Rattle.proof_shape.specs.Vocabulary.{climb_after_main, climb_after_contracted, climb_after_root, line_action, grown, node_under, IsRun, AMain, ABranch, Given, words_of, Known}
use Rattle.proof_shape.specs.Beneath.machine_model.specs.declared.lines.Line.TheVariants as line
use Rattle.proof_shape.specs.Beneath.machine_model.specs.declared.reading.After.TheVariants.{Goes}
use Rattle.proof_shape.specs.Beneath.machine_model.specs.declared.repairs.ClimbLine.TheVariants as climb
use Rattle.proof_shape.specs.Beneath.proof_commits.proofs.Words.Along.{remembers_at}
use Rattle.proof_shape.specs.Beneath.proof_commits.proofs.Lines.Stages.{Remembers}
use Rattle.proof_shape.specs.Beneath.proof_contents.proofs.Lines.Key.Knows.{known}
use Rattle.proof_shape.specs.Beneath.proof_memory.proofs.Lines.Next.{contracted_no_link}
use Rattle.proof_shape.specs.Beneath.proof_memory.proofs.Claims.Nodes.{branch_main}
use Rattle.proof_shape.specs.Beneath.proof_memory.proofs.Claims.Named.{past_climb}
use Rattle.proof_shape.specs.Beneath.proof_memory.proofs.Heap.NoRef.{nothing_stands}
use Rattle.proof_shape.specs.Lines.Given.{Was}
use Rattle.proof_shape.specs.Lines.Climbing.{WasTombed, HoldsIt, KnowsClimb, KnowsClimbing}
use Rattle.proof_shape.specs.Lines.Knowing.{first_main}
use Rattle.proof_shape.proofs.Runs.EachAt.{GoesAt}
use Rattle.proof_shape.proofs.Runs.Nodes.{made_node}
use Rattle.proof_shape.proofs.Runs.Seen.{main_seen}
use Rattle.proof_shape.proofs.Lines.Key.{claims}
use Rattle.proof_shape.proofs.Commits.Was.{was_given, given_link, was_later}
use Rattle.proof_shape.specs.Beneath.proof_commits.proofs.Known.Acts.{known_run}

-- ---- a climb goes on or is over

pub climbing_knows : (k : Known) (W : Ref → Ref → Type 0) (operation : Operation) (c : Climb) → WasTombed k W (current c.path) c.single → KnowsClimbing k W operation.call (climbing operation c)
climbing_knows k W operation c tombed = by_test (is_below_root c.path)
  where
    by_test : (b : Bool) → KnowsClimbing k W operation.call (cond b (line.Climb (climb.Read c (reading (current (above c.path))))) (climbed operation c.former))
    by_test true = tombed
    by_test false = tt

-- a tomb that was contracted has the single that was put there
pub contracted_single : (b : Bool) (bitmap p : ℕ) (entries : List Ref) (single other : Ref) → p < length entries → contracted b bitmap (slice_set entries p single) ≡ Tomb other → other ≡ single
contracted_single true bitmap zero (x ∷ []) single other lt e = cc
contracted_single true bitmap (suc p) (x ∷ []) single other lt e = absurd (omega arith)
contracted_single true bitmap p [] single other lt e = absurd (omega arith)
contracted_single true bitmap zero (x ∷ y ∷ rest) single other lt e = let wrong : ⊥ = cc in absurd wrong
contracted_single true bitmap (suc zero) (x ∷ y ∷ rest) single other lt e = let wrong : ⊥ = cc in absurd wrong
contracted_single true bitmap (suc (suc p)) (x ∷ y ∷ rest) single other lt e = let wrong : ⊥ = cc in absurd wrong
contracted_single false bitmap p entries single other lt e = let wrong : ⊥ = cc in absurd wrong

module _ {limits : Bounds} {states : ℕ → State} {last : ℕ} (run : IsRun limits states last) where
  -- what is an indirection isn't nothing
  pub position_within : (i : Ref) (g : ℕ) (w : Ref) → node_under states last i ≡ Indirection g w → (p : ℕ) (entries : List Ref) → slice_index_or entries p no_ref ≡ i → p < length entries
  position_within i g w is p entries at = by_test (nat_lt p (length entries)) refl
    where
      by_test : (b : Bool) → nat_lt p (length entries) ≡ b → p < length entries
      by_test true e = ltb-true p (length entries) e
      by_test false e =
          let nothing : i ≡ no_ref = sym at ∙ get_or_past entries p no_ref (ltb-false p (length entries) e) in
          let bad : node_of None ≡ Indirection g w = sym (ap node_of (ap (grown states last) nothing ∙ nothing_stands run last (omega arith))) ∙ is in
          let wrong : ⊥ = cc in absurd wrong

module _ {limits : Bounds} {states : ℕ → State} {last : ℕ} (run : IsRun limits states last) (t : ℕ) (h : t < last) (actor : ℕ) (operation : Operation)
    (go : GoesAt states run.records t actor operation) where
  abbrev heap : Heap
  heap = (states t).heap

  -- the nodes that are known, as the state says how keys are hashed
  abbrev K : Known
  K = known (states t) operation (node_under states last) (first_main states last)

  abbrev W : Ref → Ref → Type 0
  W = Was states last (suc t)

  -- the indirection at the end of a path above
  module _ (c : Climb) (main : Ref) (l : Line) (e : operation.line ≡ l) where
    -- the parent's node is a tomb, or holds the tombed indirection
    main_knows : WasTombed K W (current c.path) c.single → ((single : Ref) → node_under states last main ≡ Tomb single → WasTombed K W (current (above c.path)) single) →
        (n : Node) → node_at heap main ≡ n → node_at heap main ≡ node_under states last main → KnowsClimbing K W operation.call (climb_after_main (states t) operation c main n)
    main_knows tombed up (Tomb single) is there = climbing_knows K W operation (higher c single) (up single (sym there ∙ is))
    main_knows tombed up (Branch bitmap entries) is there = by_test (holds_it (states t) operation c main bitmap entries.items) refl
      where
        by_test : (b : Bool) → holds_it (states t) operation c main bitmap entries.items ≡ b →
            KnowsClimbing K W operation.call (cond b (line.Climb (climb.Contracted c main)) (climbed operation c.former))
        by_test false test = tt
        by_test true test =
            let both = and_parts (has_flag bitmap (flag_in (states t) operation (above c.path)))
            (slice_index_or entries.items (place_in (states t) operation c main) no_ref == current c.path) test in (
              tombed,
              record {
                bitmap = bitmap;
                entries = entries;
                position = place_in (states t) operation c main;
                branch = record { is = sym there ∙ is; flagged = both.0; at = ap (λ n. position_of (flag_in (states t) operation (above c.path)) (bitmap_of n)) is };
                holds = eqb-true (slice_index_or entries.items (place_in (states t) operation c main) no_ref) (current c.path) both.1;
              },
            )
    main_knows tombed up (Indirection g w) is there = tt
    main_knows tombed up (Single k v) is there = tt
    main_knows tombed up (Listed ss) is there = tt

  -- the parent's new node
  contracted_knows : (c : Climb) (main : Ref) → operation.line ≡ line.Climb (climb.Contracted c main) → WasTombed K W (current c.path) c.single → (holds : HoldsIt K operation.call c main) →
      (o : Option Ref) → next_ref heap ≡ o → KnowsClimbing K W operation.call (climb_after_contracted operation c main o)
  contracted_knows c main e tombed holds None next = tt
  contracted_knows c main e tombed holds (Some made) next =
      let claim = (past_climb (claims run t h actor operation go _ e)).0 in
      let there : node_at heap main ≡ Branch holds.bitmap holds.entries = main_seen run t (omega arith) main ABranch branch_main claim ∙ holds.branch.is in
      let place : place_in (states t) operation c main ≡ holds.position = ap (λ n. position_of (flag_in (states t) operation (above c.path)) (bitmap_of n)) there ∙ sym holds.branch.at in
      let b = is_below_root (above c.path) in
      record {
        tombed = tombed;
        parent = holds;
        may_entomb = b;
        made = made_node run t h actor operation go (climbed_node (states t) operation c main) (ap (line_action (states t) operation) e) made next
            (contracted_no_link b (bitmap_of (node_at heap main)) (slice_set (entries_of (node_at heap main)) (place_in (states t) operation c main) c.single))
            ∙ ap₂ (λ (n : Node) (q : ℕ). contracted b (bitmap_of n) (slice_set (entries_of n) q c.single)) there place;
      }

  root_knows : (c : Climb) → WasTombed K W (current c.path) c.single → (out : After RootLine Ref) → KnowsClimbing K W operation.call (climb_after_root (states t) operation c out)
  root_knows c tombed (Goes l) = tombed
  root_knows c tombed (Gives r) = by_test (is_start operation (generation_at heap r))
    where
      by_test : (b : Bool) → KnowsClimbing K W operation.call (cond b (climbing operation c) (climbed operation c.former))
      by_test true = climbing_knows K W operation c tombed
      by_test false = tt

  abbrev GivenTo : Ref → Ref → Type 0
  GivenTo i m = Given (words_of states run.records last (known_run run).closing) t actor i m

  pub remembered : (l : Line) → operation.line ≡ l → Remembers (λ i m. Given (words_of states run.records last (known_run run).closing) t actor i m)
      (operation.access ≡ Writable) l
  remembered l e = subst (λ x. Remembers GivenTo (operation.access ≡ Writable) x) e (remembers_at limits states last (known_run run) t (omega arith) actor operation go.runs)

  -- a tomb that is given
  pub tombed_given : (i m single : Ref) → Given (words_of states run.records last (known_run run).closing) t actor i m →
      node_under states last m ≡ Tomb single → WasTombed K W i single
  tombed_given i m single given is =
      let link = given_link run t (omega arith) actor i m given in
      record { generation = link.0; word = link.1; link = link.2; tomb = m; was = was_later states last t i m (was_given run t (omega arith) actor i m given); is = is }

  read_knows : (c : Climb) → WasTombed K W (current c.path) c.single → (out : After Read Ref) → KnowsClimbing K W operation.call (climb_after_read c out)
  read_knows c tombed (Goes r) = tombed
  read_knows c tombed (Gives main) = tombed

  -- ---- CLIMB

  tombed_later : (i single : Ref) → WasTombed K (Was states last t) i single → WasTombed K W i single
  tombed_later i single x = record { generation = x.generation; word = x.word; link = x.link; tomb = x.tomb; was = was_later states last t i x.tomb x.was; is = x.is }

  pub climb_knows : (l : ClimbLine) → operation.line ≡ line.Climb l → KnowsClimb K (Was states last t) operation.call l → KnowsClimbing K W operation.call (climb_after (states t) operation l)
  climb_knows (climb.Read c read) e tombed = read_knows c (tombed_later _ _ tombed) (read_step (states t) operation read)
  climb_knows (climb.Main c main) e tombed =
      main_knows c main _ e (tombed_later _ _ tombed) (λ single is. tombed_given (current (above c.path)) main single (remembered _ e) is) (node_at heap main) refl
      (main_seen run t (omega arith) main AMain (λ n x. x) (past_climb (claims run t h actor operation go _ e)).0)
  climb_knows (climb.Contracted c main) e (tombed, holds) = contracted_knows c main e (tombed_later _ _ tombed) holds (next_ref heap) refl
  climb_knows (climb.Root c l) e tombed = root_knows c (tombed_later _ _ tombed) (root_after heap operation.access (word_at (states t) (handle_of operation.call)) l)
