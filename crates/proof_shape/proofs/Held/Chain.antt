-- What a step of BUILD makes of the indirections that its line holds: the chain beside another key's single grows.
use Rattle.std.proofs.Common.{◌≡◌, ℕ, suc, ◌+◌, ◌-◌, ◌<◌, ◌==◌, Bool, true, false, cond, List, Contains, Option, Some, None, refl, sym, ◌∙◌, ap, ap₂, subst, arith}
use Rattle.proof_shape.specs.Vocabulary.{Ref, Node, Indirection, Heap, node_at, entry_at, entries_of, next_ref, hash_of, flag_of, rung, BuildLine, Change, Line, Operation, Bounds, State, key_of}
use Rattle.proof_shape.specs.Vocabulary.{depth_of, start_of, flag_in, hash_in, changed, old_hash, build_after, build_if_made, line_action, action_of, line_after, node_under, IsRun, BranchOrList}
use Rattle.proof_shape.specs.Vocabulary.{LineLevel, Protocol, stage_of, stage_of_actor, Known, KnowsLine, KnowsBuild, LeadsBelow, by_pair, by_link, Neighbour}
use Rattle.proof_shape.specs.Beneath.proof_memory.proofs.Safety.AtTimes.{limits_at}
use Rattle.proof_shape.specs.Beneath.machine_model.specs.declared.actions.Action.TheVariants as act
use Rattle.proof_shape.specs.Beneath.machine_model.specs.declared.building.BuildLine.TheVariants as build
use Rattle.proof_shape.specs.Beneath.machine_model.specs.declared.building.Change.TheVariants as change
use Rattle.proof_shape.specs.Beneath.machine_model.specs.declared.building.Site.TheVariants as site
use Rattle.proof_shape.specs.Beneath.machine_model.specs.declared.lines.Line.TheVariants as line
use Rattle.proof_shape.specs.Beneath.proof_memory.proofs.Claims.Uses.{meets_of}
use Rattle.proof_shape.specs.Beneath.proof_commits.proofs.Words.Stood.{Private}
use Rattle.proof_shape.specs.Beneath.proof_commits.proofs.Known.Owners.{Staged}
use Rattle.proof_shape.specs.Beneath.proof_commits.proofs.Known.Sounds.{sound_at}
use Rattle.proof_shape.specs.Beneath.proof_commits.proofs.Words.Along.{protocol}
use Rattle.proof_shape.specs.Beneath.proof_contents.specs.Lines.Changes as Knowing
use Rattle.proof_shape.specs.Beneath.proof_memory.proofs.Claims.Nodes.{main_no_link, both_main}
use Rattle.proof_shape.specs.Beneath.proof_memory.proofs.Claims.Named.{main_claim}
use Rattle.proof_shape.specs.Beneath.proof_memory.proofs.Lines.Next.{pair_no_link, changed_main}
use Rattle.proof_shape.specs.Lines.Knowing.{known_with, first_main}
use Rattle.proof_shape.proofs.Runs.EachAt.{GoesAt}
use Rattle.proof_shape.proofs.Runs.Nodes.{made_node, prev_still, first_is}
use Rattle.proof_shape.proofs.Runs.Levels.{level}
use Rattle.proof_shape.proofs.Lines.Knows.{knows_at}
use Rattle.proof_shape.proofs.Runs.Takers.{taker}
use Rattle.proof_shape.proofs.Runs.Seen.{main_seen}
use Rattle.proof_shape.proofs.Lines.Key.{claims}
use Rattle.proof_shape.proofs.Runs.Entries.{one_entry, pair_not_rung}
use Rattle.proof_shape.proofs.Held.Fresh.{IsNamed, StandsIn, IsChain, ends, goes_on, NotGiven, NewNames, held_closed, named_closed, named_still, chain_still}
use Rattle.proof_shape.proofs.Held.Lines.{NamedOrHeld, HeldNode, HeldLink, HeldChange, HeldBuild, HeldIn}
use Rattle.proof_shape.proofs.Held.Build.{made_named, named_or_held, new_held, new_stands, next_level}
use Rattle.proof_shape.specs.Beneath.proof_commits.proofs.Known.Acts.{known_run}

module _ {limits : Bounds} {states : ℕ → State} {last : ℕ} (run : IsRun limits states last) (t : ℕ) (h : t < last) (actor : ℕ) (operation : Operation)
    (go : GoesAt states run.records t actor operation)
    (takes_it : taker run t ≡ actor) (new : NewNames run t) (start : ℕ) (begun : operation.generation ≡ Some start) where
  abbrev heap : Heap
  heap = (states t).heap

  abbrev K : Known
  K = known_with limits states last (first_main states last)

  abbrev p : Protocol
  p = protocol limits states last (known_run run)

  abbrev Next : Line → Type 0
  Next l = HeldIn run (suc t) actor operation.id start operation.call l

  acts : (l : BuildLine) → operation.line ≡ line.Build l → action_of (states t) operation ≡ line_action (states t) operation (line.Build l)
  acts l e = ap (line_action (states t) operation) e

  knows : (l : BuildLine) → operation.line ≡ line.Build l → KnowsBuild K operation.call l
  knows l e = subst (λ x. KnowsLine K operation.call x) e (knows_at run t (omega arith) actor operation go.runs)

  -- the main node of a link stood nowhere
  below_private : (path : List Ref) (main : Ref) (position : ℕ) (below : Ref) (depth : ℕ) → operation.line ≡ line.Build (build.Link path main position below depth) → Private p.words t below
  below_private path main position below depth e =
      subst (λ s. Staged p.words t actor s) (ap stage_of_actor go.runs ∙ ap stage_of e) ((sound_at p t (omega arith)).staged actor)

  private_not_given : (n : Ref) → Private p.words t n → NotGiven run t n
  private_not_given n x k i g = x.apart i ((sound_at p t (omega arith)).given k i n g).stood

  -- the link over it leads on as it does
  module _ (path : List Ref) (main : Ref) (position : ℕ) (below : Ref) (depth : ℕ) (e : operation.line ≡ line.Build (build.Link path main position below depth))
      (held : HeldNode run t start below) (made : Ref) (next : next_ref heap ≡ Some made) where
    a : action_of (states t) operation ≡ act.Make (Indirection (start_of operation) below)
    a = acts _ e

    first_below : first_main states last made ≡ below
    first_below =
        first_is run t h actor operation go _ a made next (start_of operation) below refl
        (prev_still run t h actor operation go _ a made next below (below_private path main position below depth e).none)

    later : HeldNode run (suc t) start below
    later hash d r is =
        let it = held hash d r is in
        let closed = named_closed run t start r below (omega arith) it.0 (private_not_given below (below_private path main position below depth e)) in
        (named_still run t start r below new closed it.0, chain_still run t start h new r closed it.1)

    chain : IsChain run (suc t) start made
    chain = by_leads (knows _ e).1.3
      where
        by_leads : {beside : Neighbour K (depth_of path) (key_of operation.call) main position} {s : Ref} → LeadsBelow K operation.call (depth_of path) main position beside s depth below →
            IsChain run (suc t) start made
        by_leads (by_pair is parts above deep alike) = ends made (λ hash d r bad. pair_not_rung _ _ _ _ _ _ hash d r (sym is ∙ sym (ap (node_under states last) first_below) ∙ bad))
        by_leads (by_link link is both above alike) =
            let it = later _ depth link is in
            goes_on made link _ depth (ap (node_under states last) first_below ∙ is) (subst (λ n. IsNamed run (suc t) start link n) (sym first_below) it.0)
            (subst (λ n. StandsIn run (suc t) n made) (sym first_below)
            (new_stands run t h actor operation go below a made next takes_it start begun (below_private path main position below depth e)))
            it.1

    by_test : (b : Bool) →
        LineLevel (level run) (cond b (line.Build (build.Main path main (change.Update position made) None)) (line.Build (build.Rung path main position made (depth - 1)))) →
        Next (cond b (line.Build (build.Main path main (change.Update position made) None)) (line.Build (build.Rung path main position made (depth - 1))))
    by_test true lv = λ none. (new_held run t h actor operation go below a made next takes_it start begun (omega (arith, lv.1)), chain)
    by_test false lv = (new_held run t h actor operation go below a made next takes_it start begun (omega (arith, lv.2)), chain)

  module _ (made : Ref) (next : next_ref heap ≡ Some made) where
    made_next : (l : BuildLine) (e : operation.line ≡ line.Build l) → HeldBuild run t actor start l →
        LineLevel (level run) (build_if_made (states t) operation l (Some made)) →
        Next (build_if_made (states t) operation l (Some made))
    made_next (build.Single path main site.Absent former) e x lv = tt
    made_next (build.Single path main (site.At position) former) e x lv =
        let k = knows _ e in λ none. (let wrong : None ≡ Some k.0 = sym none ∙ k.1 in let bad : ⊥ = cc in absurd bad)
    made_next (build.Single path main (site.Beside position) former) e x lv = tt
    made_next (build.Pair path main position s depth) e x lv =
        λ hash d r is. absurd (pair_not_rung _ _ _ _ _ _ hash d r (sym (made_node run t h actor operation go _ (acts _ e) made next
        (pair_no_link (states t).limits.hash depth (old_hash (states t) main position) (hash_in (states t) operation) (entry_at heap main position) s)) ∙ is))
    made_next (build.Link path main position below depth) e x lv = by_test path main position below depth e x made next (depth == depth_of path + 1) lv
    made_next (build.Rung path main position below depth) e x lv = λ hash d r is. by_entry hash d r is
      where
        rung_is : node_under states last made ≡ rung (hash_in (states t) operation) depth below
        rung_is = made_node run t h actor operation go _ (acts _ e) made next
            (λ g w bad. let wrong : rung (hash_in (states t) operation) depth below ≡ Indirection g w = bad in cc)

        names : Contains (entries_of (node_under states last made)) below
        names = subst (λ n. Contains (entries_of n) below) (sym rung_is) (0, omega arith, refl)

        chain : IsChain run (suc t) start below
        chain = chain_still run t start h new below (held_closed run t actor start below (omega arith) x.0) x.1

        by_entry : (hash d r : ℕ) → node_under states last made ≡ rung hash d r → IsNamed run (suc t) start r made × IsChain run (suc t) start r
        by_entry hash d r is =
            let it : below ≡ r = one_entry r below (subst (λ n. Contains (entries_of n) below) is names) in (
              subst (λ j. IsNamed run (suc t) start j made) it (made_named run t h actor operation go _ (acts _ e) made next start below names x.0),
              subst (λ j. IsChain run (suc t) start j) it chain,
            )
    made_next (build.Main path main c former) e x lv = record {
      knows = (c, knows _ e, made_is);
      chain = λ position link is none un. by_change c x position link is none;
    }
      where
        n : Node
        n = changed (flag_in (states t) operation path) (node_at heap main) c

        made_is : node_under states last made ≡ changed (Knowing.flag_in K (depth_of path) (key_of operation.call)) (node_under states last main) c
        made_is =
            let claim = main_claim (claims run t h actor operation go _ e) in
            made_node run t h actor operation go n (acts _ e) made next
            (main_no_link n (changed_main (flag_in (states t) operation path) (node_at heap main) c (meets_of claim)))
            ∙ ap₂ (λ (x : Bounds) (m : Node). changed (flag_of (hash_of x.hash (key_of operation.call)) (depth_of path)) m c) (limits_at run t (omega arith))
            (main_seen run t (omega arith) main BranchOrList both_main claim)

        by_change : (c : Change) → HeldChange run t actor start former c → (position : ℕ) (link : Ref) → c ≡ change.Update position link → former ≡ None →
            NamedOrHeld run (suc t) actor start made link × IsChain run (suc t) start link
        by_change c x position link is none =
            let held : HeldLink run t actor start link = subst (λ y. HeldChange run t actor start former y) is x none in (
              named_or_held run t h actor operation go _ (acts _ e) made next start link held.0,
              chain_still run t start h new link (held_closed run t actor start link (omega arith) held.0) held.1,
            )

  if_made : (l : BuildLine) → operation.line ≡ line.Build l → HeldBuild run t actor start l → (o : Option Ref) → next_ref heap ≡ o →
      LineLevel (level run) (build_if_made (states t) operation l o) → Next (build_if_made (states t) operation l o)
  if_made l e x None next lv = tt
  if_made l e x (Some made) next lv = made_next made next l e x lv

  pub build_holds : (l : BuildLine) → operation.line ≡ line.Build l → HeldBuild run t actor start l →
      HeldIn run (suc t) actor operation.id start operation.call (build_after (states t) operation l)
  build_holds l e x =
      if_made l e x (next_ref heap) refl (subst (λ y. LineLevel (level run) (line_after (states t) operation y)) e (next_level run t h actor operation go))
