-- At each time of a run each line knows of the tomb that it climbs from.
use Rattle.std.proofs.Common.{◌≡◌, ℕ, suc, ◌<◌, ◌==◌, Bool, true, false, refl, sym, ◌∙◌, ap, subst, arith}
use Rattle.proof_shape.specs.Vocabulary.{Call, Ref, Node, Indirection, Branch, Single, Tomb, List as Listed, Prev, Heap, node_at, main_at, prev_at, Line, Purpose, Operation, After, Gives, ReadLine}
use Rattle.proof_shape.specs.Vocabulary.{Swap, SwapLine, Bounds, handle_of, State, word_at, current, read_after, on_line, after_publish, after_deciding, after_check, higher, swapped, line_after}
use Rattle.proof_shape.specs.Vocabulary.{operation_after, node_under, IsRun, AMain, Checks, Protocol, stage_of, stage_of_actor, Known}
use Rattle.proof_shape.specs.Beneath.slot_arena.specs.declared.nodes.Prev.TheVariants as over
use Rattle.proof_shape.specs.Beneath.machine_model.specs.declared.lines.Line.TheVariants as line
use Rattle.proof_shape.specs.Beneath.machine_model.specs.declared.lines.Purpose.TheVariants as purpose
use Rattle.proof_shape.specs.Beneath.machine_model.specs.declared.reading.After.TheVariants.{Goes}
use Rattle.proof_shape.specs.Beneath.machine_model.specs.declared.reading.SwapLine.TheVariants as swap
use Rattle.proof_shape.specs.Beneath.machine_model.specs.Operations.{after_swap}
use Rattle.proof_shape.specs.Beneath.proof_memory.proofs.Claims.Uses.{safe_of}
use Rattle.proof_shape.specs.Beneath.proof_memory.proofs.Claims.Named.{third_claim}
use Rattle.proof_shape.specs.Beneath.proof_memory.proofs.Safety.AtTimes.{prev_found}
use Rattle.proof_shape.specs.Beneath.proof_commits.proofs.Words.Stood.{Stood}
use Rattle.proof_shape.specs.Beneath.proof_commits.proofs.Known.Owners.{Staged}
use Rattle.proof_shape.specs.Beneath.proof_commits.proofs.Known.Sounds.{sound_at}
use Rattle.proof_shape.specs.Beneath.proof_commits.proofs.Words.Along.{protocol}
use Rattle.proof_shape.specs.Beneath.proof_contents.proofs.Lines.Key.Knows.{known}
use Rattle.proof_shape.specs.Lines.Given.{Was}
use Rattle.proof_shape.specs.Lines.Climbing.{WasTombed, KnowsClimbing}
use Rattle.proof_shape.specs.Lines.Knowing.{known_with, first_main, SwapsAt, IsPlaced, ClimbsAt}
use Rattle.proof_shape.proofs.Runs.EachAt.{GoesAt, each_at}
use Rattle.proof_shape.proofs.Lines.Places.{places_at}
use Rattle.proof_shape.proofs.Runs.Seen.{main_seen}
use Rattle.proof_shape.proofs.Lines.Key.{same_known, claims}
use Rattle.proof_shape.proofs.Commits.Was.{link_in_end, was_committed}
use Rattle.proof_shape.proofs.Lines.Climb.{climbing_knows, contracted_single, position_within, climb_knows}
use Rattle.proof_shape.proofs.Lines.Leads.{first_leads, root_leads, key_leads, build_leads, renew_leads, clean_leads, copy_leads, walk_leads}
use Rattle.proof_shape.proofs.Lines.Grounded.{grounded_knows, climbing_later}
use Rattle.proof_shape.specs.Beneath.proof_commits.proofs.Known.Acts.{known_run}

-- ---- a SWAP

-- its nodes stay until it is done
swap_stays : (k : Known) (W : Ref → Ref → Type 0) (call : Call) (why : Purpose) (s : Swap) (l : SwapLine) → KnowsClimbing k W call (line.Swap why s) →
    KnowsClimbing k W call (line.Swap why (record s { line = l }))
swap_stays k W call (purpose.Climb c) s l knows = knows
swap_stays k W call (purpose.Update path former) s l knows = tt
swap_stays k W call (purpose.Renew path) s l knows = tt
swap_stays k W call purpose.Clean s l knows = tt

-- where it fails a climb looks at the root
fails_knows : (k : Known) (W : Ref → Ref → Type 0) (operation : Operation) (node : Node) (why : Purpose) (s : Swap) → KnowsClimbing k W operation.call (line.Swap why s) →
    KnowsClimbing k W operation.call (swapped operation node why false)
fails_knows k W operation node (purpose.Climb c) s knows = knows.tombed
fails_knows k W operation node (purpose.Update path former) s knows = tt
fails_knows k W operation node (purpose.Renew path) s knows = tt
fails_knows k W operation node purpose.Clean s knows = tt

module _ {limits : Bounds} {states : ℕ → State} {last : ℕ} (run : IsRun limits states last) (t : ℕ) (h : t < last) (actor : ℕ) (operation : Operation)
    (go : GoesAt states run.records t actor operation) where
  abbrev heap : Heap
  heap = (states t).heap

  abbrev K : Known
  K = known (states t) operation (node_under states last) (first_main states last)

  abbrev W : Ref → Ref → Type 0
  W = Was states last (suc t)

  abbrev p : Protocol
  p = protocol limits states last (known_run run)

  module _ (why : Purpose) (i a f : Ref) where
    abbrev s_at : SwapLine → Swap
    s_at l = record { indirection = i; replaced = a; fresh = f; line = l }

    -- where the node was committed
    module _ (e : operation.line ≡ line.Swap why (record { indirection = i; replaced = a; fresh = f; line = swap.Check })) (none : prev_at heap f ≡ over.None) where
      stage : p.words.stage t actor ≡ Checks i a f
      stage = ap stage_of_actor go.runs ∙ ap stage_of e

      stood : Stood p.words t i f
      stood = (subst (λ x. Staged p.words t actor x) stage ((sound_at p t (omega arith)).staged actor)).0

      -- a fresh tomb stands
      tomb_stands : (single : Ref) → node_at heap f ≡ Tomb single → WasTombed K W i single
      tomb_stands single is =
          let claim = third_claim (claims run t h actor operation go _ e) in
          let link = link_in_end run stood.at i (omega (arith, stood.past)) stood.link in
          let was = was_committed run t (omega arith) actor i a f stage (sym (prev_found states t f (safe_of claim)) ∙ none) in
          record {
            generation = link.0;
            word = link.1;
            link = link.2;
            tomb = f;
            was = (was.0, omega (arith, was.1), was.2);
            is = sym (main_seen run t (omega arith) f AMain (λ n x. x) claim) ∙ is;
          }

      place : SwapsAt why i
      place = (subst (λ x. IsPlaced operation.generation x) e (places_at run t (omega arith) actor operation go.runs)).1

      -- a removal that left a tomb climbs from it, and so does a climb that did
      succeeds_by : (w : Purpose) → SwapsAt w i →
          KnowsClimbing K W operation.call (line.Swap w (record { indirection = i; replaced = a; fresh = f; line = swap.Check })) → (n : Node) → node_at heap f ≡ n →
          KnowsClimbing K W operation.call (swapped operation n w true)
      succeeds_by (purpose.Update path former) at knows (Tomb single) is =
          climbing_knows K W operation (record { path = path; single = single; former = former }) (subst (λ j. WasTombed K W j single) at (tomb_stands single is))
      succeeds_by (purpose.Update path former) at knows (Indirection g w) is = tt
      succeeds_by (purpose.Update path former) at knows (Branch b es) is = tt
      succeeds_by (purpose.Update path former) at knows (Single k v) is = tt
      succeeds_by (purpose.Update path former) at knows (Listed ss) is = tt
      succeeds_by (purpose.Climb c) at knows (Tomb single) is =
          let tombed = tomb_stands single is in
          let parent = knows.parent in
          let within = position_within run (current c.path) knows.tombed.generation knows.tombed.word knows.tombed.link parent.position parent.entries.items parent.holds in
          let same : single ≡ c.single =
          contracted_single knows.may_entomb parent.bitmap parent.position parent.entries.items c.single single within
          (sym knows.made ∙ sym (main_seen run t (omega arith) f AMain (λ n x. x) (third_claim (claims run t h actor operation go _ e))) ∙ is) in
          climbing_knows K W operation (higher c c.single) (subst (λ j. WasTombed K W j c.single) at (subst (λ x. WasTombed K W i x) same tombed))
      succeeds_by (purpose.Climb c) at knows (Indirection g w) is = tt
      succeeds_by (purpose.Climb c) at knows (Branch b es) is = tt
      succeeds_by (purpose.Climb c) at knows (Single k v) is = tt
      succeeds_by (purpose.Climb c) at knows (Listed ss) is = tt
      succeeds_by (purpose.Renew path) at knows n is = tt
      succeeds_by purpose.Clean at knows n is = tt

    abbrev Knows : Line → Type 0
    Knows l = KnowsClimbing K W operation.call l

    publish_knows : Knows (line.Swap why (record { indirection = i; replaced = a; fresh = f; line = swap.Publish })) → (b : Bool) →
        Knows (after_swap (states t) operation why (record { indirection = i; replaced = a; fresh = f; line = swap.Publish })
        (on_line (record { indirection = i; replaced = a; fresh = f; line = swap.Publish }) (after_publish f b)))
    publish_knows knows true = swap_stays K W operation.call why (s_at swap.Publish) _ knows
    publish_knows knows false = fails_knows K W operation (node_at heap f) why (s_at swap.Publish) knows

    decide_knows : (l : ReadLine) → Knows (line.Swap why (record { indirection = i; replaced = a; fresh = f; line = swap.Deciding l })) → (out : After ReadLine Ref) →
        Knows (after_swap (states t) operation why (record { indirection = i; replaced = a; fresh = f; line = swap.Deciding l })
        (on_line (record { indirection = i; replaced = a; fresh = f; line = swap.Deciding l }) (after_deciding out)))
    decide_knows l knows (Goes next) = swap_stays K W operation.call why (s_at (swap.Deciding l)) (swap.Deciding next) knows
    decide_knows l knows (Gives m) = swap_stays K W operation.call why (s_at (swap.Deciding l)) swap.Check knows

    check_knows : operation.line ≡ line.Swap why (record { indirection = i; replaced = a; fresh = f; line = swap.Check }) →
        Knows (line.Swap why (record { indirection = i; replaced = a; fresh = f; line = swap.Check })) →
        (v : Prev) → prev_at heap f ≡ v →
        Knows (after_swap (states t) operation why (record { indirection = i; replaced = a; fresh = f; line = swap.Check })
        (on_line (record { indirection = i; replaced = a; fresh = f; line = swap.Check }) (after_check v)))
    check_knows e knows over.None is = succeeds_by e is why (place e is) knows (node_at heap f) refl
    check_knows e knows (over.Pending q) is = fails_knows K W operation (node_at heap f) why (s_at swap.Check) knows
    check_knows e knows (over.Failed q) is = fails_knows K W operation (node_at heap f) why (s_at swap.Check) knows

    swap_knows : (l : SwapLine) → operation.line ≡ line.Swap why (record { indirection = i; replaced = a; fresh = f; line = l }) →
        Knows (line.Swap why (record { indirection = i; replaced = a; fresh = f; line = l })) →
        Knows (line_after (states t) operation (line.Swap why (record { indirection = i; replaced = a; fresh = f; line = l })))
    swap_knows swap.Publish e knows = publish_knows knows (main_at heap i == a)
    swap_knows (swap.Deciding l) e knows = decide_knows l knows (read_after heap operation.access (word_at (states t) (handle_of operation.call)) i l)
    swap_knows swap.Check e knows = check_knows e knows (prev_at heap f) refl

  -- ---- any line

  step_climbs : (l : Line) → operation.line ≡ l → KnowsClimbing K (Was states last t) operation.call l → KnowsClimbing K W operation.call (line_after (states t) operation l)
  step_climbs (line.Climb l) e k = climb_knows run t h actor operation go l e k
  step_climbs (line.Swap why s) e k = swap_knows why s.indirection s.replaced s.fresh s.line e (climbing_later K states last t operation.call (line.Swap why s) k)
  step_climbs (line.Root l) e k = grounded_knows K W operation.call _ (root_leads (states t) operation l).0
  step_climbs (line.Key l) e k = grounded_knows K W operation.call _ (key_leads (states t) operation l).0
  step_climbs (line.Build l) e k = grounded_knows K W operation.call _ (build_leads (states t) operation l).0
  step_climbs (line.Renew l) e k = grounded_knows K W operation.call _ (renew_leads (states t) operation l).0
  step_climbs (line.Clean l) e k = grounded_knows K W operation.call _ (clean_leads (states t) operation l).0
  step_climbs (line.Copy l) e k = grounded_knows K W operation.call _ (copy_leads (states t) operation l).0
  step_climbs (line.Walk l) e k = grounded_knows K W operation.call _ (walk_leads (states t) operation l).0
  step_climbs (line.End answer) e k = tt
  step_climbs line.Impossible e k = tt

module _ {limits : Bounds} {states : ℕ → State} {last : ℕ} (run : IsRun limits states last) where
  abbrev Climbs : ℕ → ℕ → Operation → Type 0
  Climbs t actor operation = KnowsClimbing (known_with limits states last (first_main states last)) (Was states last t) operation.call operation.line

  goes_climbs : (t : ℕ) → t < last → (actor : ℕ) (operation : Operation) → GoesAt states run.records t actor operation → Climbs t actor operation →
      Climbs (suc t) actor (operation_after (states t) operation)
  goes_climbs t h actor operation go k =
      let same = same_known run t h actor operation go in
      subst (λ (x : Known). KnowsClimbing x (Was states last (suc t)) operation.call (line_after (states t) operation operation.line)) same
      (step_climbs run t h actor operation go operation.line refl
      (subst (λ (x : Known). KnowsClimbing x (Was states last t) operation.call operation.line) (sym same) k))

  pub climbs_at : ClimbsAt limits states last
  climbs_at =
      each_at Climbs (λ t actor operation k. k) run
      (λ t h actor call number d. grounded_knows (known_with limits states last (first_main states last)) (Was states last (suc t)) call _ (first_leads call).0) goes_climbs
      (λ t h actor operation answer is may k. tt)
      (λ t h actor operation is k. climbing_later (known_with limits states last (first_main states last)) states last t operation.call operation.line k)
