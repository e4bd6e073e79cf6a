-- What stood in a word by the next step falls, where what stood there before does and what lines know is so.
use Rattle.std.proofs.Common.{◌≡◌, ℕ, suc, ◌<◌, ◌⊎◌, false, inl, inr, Some, refl, sym, ap, ◌∙◌, subst, arith}
use Rattle.std.specs.List.{All}
use Rattle.std.proofs.lemmas.List.Elements.{All-weaker}
use Rattle.proof_generations.specs.Vocabulary.{Access, Writable, ReadOnly, Ref, generation_at, entries_of, Line, Operation, Complete, CompleteLine, Descriptor, Bounds, handle_of, State}
use Rattle.proof_generations.specs.Vocabulary.{operation_of, IsRun, node_under, main_word, moment_at, Moment, is_end, IsInUse, AllHold, line_wants, complete_wants, Publishes, IsInSwap}
use Rattle.proof_generations.specs.Beneath.machine_model.specs.declared.lines.Line.TheVariants as line
use Rattle.proof_generations.specs.Beneath.machine_model.specs.declared.reading.SwapLine.TheVariants as swap
use Rattle.proof_generations.specs.Beneath.machine_model.specs.declared.roots.CompleteLine.TheVariants as complete
use Rattle.proof_generations.specs.Beneath.proof_memory.proofs.Safety.AtEachTime.{safe_at}
use Rattle.proof_generations.specs.Beneath.proof_memory.proofs.Safety.AtTimes.{line_finds}
use Rattle.proof_generations.specs.Beneath.proof_memory.proofs.Claims.Uses.{safe_of}
use Rattle.proof_commits.proofs.Known.Sounds.{sound_at}
use Rattle.proof_commits.proofs.Words.Stood.{Stood}
use Rattle.proof_commits.proofs.Lines.Swap.{runs_publishing}
use Rattle.proof_generations.proofs.Offers.Standing.{StandsBy, own_offer, completes_it}
use Rattle.proof_generations.proofs.Roots.Open.{no_close_at}
use Rattle.proof_generations.proofs.Roots.Rooted.{rooted_at}
use Rattle.proof_generations.proofs.Roots.Own.{its_fresh}
use Rattle.proof_generations.proofs.Roots.Kept.{fresh_in}
use Rattle.proof_generations.proofs.Handles.Running.{place_of_actor}
use Rattle.proof_generations.specs.Running.{Runs}
use Rattle.proof_generations.specs.Falling.{WasOpened, WasClosed}
use Rattle.proof_generations.proofs.Falling.KnownRoots.{words, protocol_of}
use Rattle.proof_generations.proofs.Falling.Nodes.{used_generation}
use Rattle.proof_generations.proofs.Falling.Opened.{Opening, before, opens, opening}
use Rattle.proof_generations.proofs.Lines.Knows.{Knows, IsInner}
use Rattle.proof_generations.proofs.Lines.Reader.{KnowsReader}
use Rattle.proof_generations.proofs.Falling.Runs.{gen_of, IsOwn, FitsBelow, FallsBelow, NotNewer, LateBelow, Ends, Shut, LateEnd, MainsFall, AllKnow, KnowsGenerations, FreshFall}
use Rattle.proof_generations.proofs.Falling.Runs.{falls_older, falls_next, falls_below}
use Rattle.proof_generations.proofs.Falling.NewLinks.{NewLink, new_link}
use Rattle.proof_generations.proofs.Falling.Counted.{drawn_unopened, start_below}
use Rattle.proof_generations.proofs.Falling.Brought.{Brought, makes, swaps, comes_in}
use Rattle.proof_generations.specs.Standing.{IsRooted}

inner_goes : (l : Line) → IsInner l → is_end l ≡ false
inner_goes (line.End answer) i = absurd i
inner_goes l i = refl

module _ {limits : Bounds} {states : ℕ → State} {last : ℕ} (run : IsRun limits states last) (t : ℕ) (lt : t < last) where
  -- an operation that has a generation is rooted there
  pub inner_rooted : (k : ℕ) (operation : Operation) → Runs (states t) k operation → operation.access ≡ Writable → IsInner operation.line → (g : ℕ) → operation.generation ≡ Some g →
      IsRooted states run.records t (handle_of operation.call) g
  inner_rooted k operation runs w inner g e =
      rooted_at run t (omega arith) k operation g runs (no_close_at run t (omega arith) k operation runs (inner_goes operation.line inner)) w e

  module _ (know : AllKnow states run.records last t) where
    -- ---- what is swapped in

    -- an operation swaps a node in: into an indirection of its generation, below which its entries may stand
    pub record SwapsIn (i m : Ref) : Type 0 where
      pub k : ℕ
      pub operation : Operation
      pub runs : Runs (states t) k operation
      pub writable : operation.access ≡ Writable
      pub inner : IsInner operation.line
      pub g : ℕ
      pub begun : operation.generation ≡ Some g
      pub own : gen_of states last i ≡ g
      pub falls : FallsBelow states run.records last t g m

    swaps_by : (k : ℕ) (operation : Operation) → Runs (states t) k operation → (i a m : Ref) → IsInSwap operation i a m swap.Publish → (access : Access) →
        operation.access ≡ access → KnowsGenerations states run.records last t (moment_at (run.records t) (suc k)) operation →
        SwapsIn i m
    swaps_by k operation runs i a m (why, is) Writable w knows =
        let inner : IsInner operation.line = subst IsInner (sym is) tt in
        let (g, begun, known) = knows.0 w inner in
        let here = subst (Knows (IsOwn states last g) (FitsBelow states run.records last t g) (FallsBelow states run.records last t g)
        (LateBelow states run.records last t (moment_at (run.records t) (suc k)) g)) is known in
        record { k = k; operation = operation; runs = runs; writable = w; inner = inner; g = g; begun = begun; own = here.0; falls = here.1 }
    swaps_by k operation runs i a m (why, is) ReadOnly w knows =
        absurd (subst (KnowsReader (Ends states run.records last t) (Shut states run.records last t) (LateEnd states run.records last t (moment_at (run.records t) (suc k)))) is (knows.1 w))

    pub swaps_in : (k : ℕ) (i a m : Ref) → (words states run.records last).stage t k ≡ Publishes i a m → SwapsIn i m
    swaps_in actor i a m stage =
        let by = runs_publishing (operation_of (states t) actor) i a m stage in
        let (k, place, runs) = place_of_actor (states t) actor by.operation by.is in
        swaps_by k by.operation runs i a m by.swaps by.operation.access refl (know k by.operation runs)

    -- ---- below what is brought in

    module _ (mains : MainsFall states run.records last t) (fresh : FreshFall states run.records last t) where
      new_older : (i m : Ref) → NewLink run t lt know i → main_word states (suc t) i ≡ m →
          All (NotNewer states last (gen_of states last i)) (entries_of (node_under states last m))
      new_older i m n is = elim n.kind [
        | inl own ↦ subst (λ g. All (NotNewer states last g) (entries_of (node_under states last m))) (sym own) older
        | inr drawn ↦
            let less = start_below run t (omega arith) (suc n.k) n.operation n.g n.runs n.begun in
            All-weaker (NotNewer states last n.g) (NotNewer states last (gen_of states last i)) (λ r le h link. omega (arith, le h link, less, drawn)) (entries_of (node_under states last m)) older
      ]
        where
          older : All (NotNewer states last n.g) (entries_of (node_under states last m))
          older = falls_older states run.records last t n.g m (subst (FallsBelow states run.records last t n.g) is n.falls)

      older_by : (i m : Ref) → Stood (words states run.records last) t i m ⊎ Brought (words states run.records last) t i m →
          All (NotNewer states last (gen_of states last i)) (entries_of (node_under states last m))
      older_by i m (inl stood) = mains.older i m stood
      older_by i m (inr (makes was is main)) = new_older i m (new_link run t lt know i was is) main
      older_by i m (inr (swaps k a stage)) =
          let s = swaps_in k i a m stage in
          subst (λ g. All (NotNewer states last g) (entries_of (node_under states last m))) (sym s.own) (falls_older states run.records last t s.g m s.falls)

      -- ---- what falls

      new_falls : (i m : Ref) → NewLink run t lt know i → main_word states (suc t) i ≡ m → WasOpened states (suc t) (gen_of states last i) →
          FallsBelow states run.records last (suc t) (gen_of states last i) m
      new_falls i m n is was = elim n.kind [
        | inl own ↦ subst (λ g. FallsBelow states run.records last (suc t) g m) (sym own) (falls_next run t lt n.g m (subst (FallsBelow states run.records last t n.g) is n.falls))
        | inr drawn ↦ absurd (drawn_unopened run t lt (subst (λ g. WasOpened states (suc t) g) drawn was))
      ]

      -- the operation that offers has its generation, and that is the one of the root that it offers to replace
      offerer_by : (x : Moment) (operation : Operation) (offer : Descriptor) → own_offer operation.line ≡ Some offer → (access : Access) → operation.access ≡ access →
          KnowsGenerations states run.records last t x operation →
          (g : ℕ) × (operation.generation ≡ Some g) × (gen_of states last offer.root ≡ g)
      offerer_by x operation offer e Writable w knows =
          let (c, is, same) = completes_it operation.line offer e in
          let (g, begun, known) = knows.0 w (subst IsInner (sym is) tt) in
          let own : gen_of states last c.offer.root ≡ g = subst (Knows (IsOwn states last g) (FitsBelow states run.records last t g) (FallsBelow states run.records last t g)
          (LateBelow states run.records last t x g)) is known in
          (g, begun, ap (λ (d : Descriptor). gen_of states last d.root) (sym same) ∙ own)
      offerer_by x operation offer e ReadOnly w knows =
          let (c, is, same) = completes_it operation.line offer e in
          absurd (subst (KnowsReader (Ends states run.records last t) (Shut states run.records last t) (LateEnd states run.records last t x)) is (knows.1 w))

      offerer : (handle : ℕ) (offer : Descriptor) (stands : StandsBy (states t) handle offer) → (g : ℕ) × (stands.owner.generation ≡ Some g) × (gen_of states last offer.root ≡ g)
      offerer handle offer stands = offerer_by (moment_at (run.records t) (suc stands.k)) stands.owner offer stands.completes stands.owner.access refl (know stands.k stands.owner stands.runs)

      root_in_use : (c : Complete) → AllHold (IsInUse (states t).heap) (states t).heap (complete_wants c.offer c.line) → IsInUse (states t).heap c.offer.root
      root_in_use c h = by c.line h
        where
          by : (l : CompleteLine) → AllHold (IsInUse (states t).heap) (states t).heap (complete_wants c.offer l) → IsInUse (states t).heap c.offer.root
          by (complete.Reading l) h = safe_of h.0
          by (complete.Swap main) h = safe_of h.0

      offered_root : (handle : ℕ) (offer : Descriptor) (stands : StandsBy (states t) handle offer) → generation_at (states t).heap offer.root ≡ gen_of states last offer.root
      offered_root handle offer stands =
          let (c, is, same) = completes_it stands.owner.line offer stands.completes in
          let wants = line_finds (states t) (safe_at run t (omega arith)) (suc stands.k) stands.owner stands.runs in
          let here = subst (λ l. AllHold (IsInUse (states t).heap) (states t).heap (line_wants (states t).limits.hash stands.owner.call stands.owner.access l)) is wants in
          let used = subst (λ (d : Descriptor). IsInUse (states t).heap d.root) same (root_in_use c here) in
          sym (used_generation run t (omega arith) offer.root used)

      -- below a fresh root that is carried out all is closed
      opened_falls : (i m : Ref) → Stood (words states run.records last) t i m → Opening run t (gen_of states last i) →
          FallsBelow states run.records last (suc t) (gen_of states last i) m
      opened_falls i m stood (before was) = falls_next run t lt (gen_of states last i) m (mains.falls i m stood was)
      opened_falls i m stood (opens handle offer stands x r f its closed) =
          let own : fresh_in x stands.owner.line ≡ Some r = its_fresh stands.owner.line offer x r stands.completes f in
          let falls = fresh stands.k stands.owner x r stands.runs stands.unmarked own in
          let sound = sound_at (protocol_of run) t (omega arith) in
          let same : i ≡ r = falls.only i (sound.words.link i m stood) (sym its) in
          let (g, begun, root) = offerer handle offer stands in
          let below = falls.falls m g (subst (λ q. Stood (words states run.records last) t q m) same stood) begun in
          falls_below states run.records last (suc t) (gen_of states last i) g m
          (inr (omega (arith, falls.newer g begun, its), subst (λ h. WasClosed run.records (suc t) h) (offered_root handle offer stands ∙ root) closed))
          (falls_next run t lt g m below)

      falls_by : (i m : Ref) → WasOpened states (suc t) (gen_of states last i) → Stood (words states run.records last) t i m ⊎ Brought (words states run.records last) t i m →
          FallsBelow states run.records last (suc t) (gen_of states last i) m
      falls_by i m was (inl stood) = opened_falls i m stood (opening run t lt (gen_of states last i) was)
      falls_by i m was (inr (makes none is main)) = new_falls i m (new_link run t lt know i none is) main was
      falls_by i m was (inr (swaps k a stage)) =
          let s = swaps_in k i a m stage in
          subst (λ g. FallsBelow states run.records last (suc t) g m) (sym s.own) (falls_next run t lt s.g m s.falls)

      pub mains_next : MainsFall states run.records last (suc t)
      mains_next = record {
        older = λ i m stood. older_by i m (comes_in (protocol_of run) t lt i m stood);
        falls = λ i m stood was. falls_by i m was (comes_in (protocol_of run) t lt i m stood);
      }
