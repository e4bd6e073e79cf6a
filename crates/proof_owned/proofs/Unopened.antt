-- Main nodes of which no step brings one elsewhere but into one indirection: no other indirection whose generation was opened has one, if none is shared from there.
use Rattle.std.proofs.Common.{◌≡◌, ℕ, zero, suc, ◌<◌, ◌≤◌, ◌⊎◌, Bool, true, false, List, length, Some, inl, inr, refl, sym, ap, ◌∙◌, subst, arith}
use Rattle.std.specs.Prelude.{slice_index_or}
use Rattle.std.proofs.lemmas.Option.{same_Some}
use Rattle.arrayvec.specs.ArrayVec.{ArrayVec}
use Rattle.proof_owned.specs.Beneath.slot_arena.specs.declared.refs.Ref.{Ref}
use Rattle.proof_owned.specs.Beneath.slot_arena.specs.declared.nodes.Node.TheVariants.{Branch}
use Rattle.proof_owned.specs.Beneath.slot_arena.specs.Heaps.{node_at, generation_at, generation_of, no_ref}
use Rattle.proof_owned.specs.Beneath.machine_model.specs.declared.repairs.RenewLine.TheVariants as renew
use Rattle.proof_owned.specs.Beneath.machine_model.specs.declared.lines.Line.{Line}
use Rattle.proof_owned.specs.Beneath.machine_model.specs.declared.lines.Line.TheVariants as line
use Rattle.proof_owned.specs.Beneath.machine_model.specs.declared.operations.Operation.{Operation}
use Rattle.proof_owned.specs.Beneath.machine_model.specs.declared.roots.Descriptor.{Descriptor}
use Rattle.proof_owned.specs.Beneath.machine_model.specs.declared.roots.Root.{Root}
use Rattle.proof_owned.specs.Beneath.machine_model.specs.declared.roots.RootWord.{RootWord}
use Rattle.proof_owned.specs.Beneath.machine_model.specs.declared.roots.RootWord.TheVariants.{Plain, Offer}
use Rattle.proof_owned.specs.Beneath.machine_model.specs.declared.steps.Bounds.{Bounds}
use Rattle.proof_owned.specs.Beneath.machine_model.specs.States.{State, operation_of, root_at, root_of}
use Rattle.proof_owned.specs.Beneath.machine_model.specs.Grown.{grown, node_under}
use Rattle.proof_owned.specs.Beneath.machine_model.specs.Times.{IsRun}
use Rattle.proof_owned.specs.Beneath.machine_model.specs.Records.{closed_at}
use Rattle.proof_owned.specs.Beneath.proof_memory.specs.Laws.{IsInUse}
use Rattle.proof_owned.specs.Beneath.proof_memory.specs.Wants.{AnIndirection, AllHold, word_wants, meets, is_indirection}
use Rattle.proof_owned.specs.Beneath.proof_memory.proofs.Claims.Uses.{meets_of}
use Rattle.proof_owned.specs.Beneath.proof_memory.proofs.Safety.AtEachTime.{safe_at}
use Rattle.proof_owned.specs.Beneath.proof_memory.proofs.Safety.AtTimes.{node_found}
use Rattle.proof_owned.specs.Beneath.proof_commits.specs.Laws.{IsNoSwap}
use Rattle.proof_owned.specs.Beneath.proof_commits.specs.Protocol.{Words, Protocol}
use Rattle.proof_owned.specs.Beneath.proof_commits.specs.Stages.{stage_of, stage_of_actor}
use Rattle.proof_owned.specs.Beneath.proof_commits.proofs.Words.Stood.{Stood}
use Rattle.proof_owned.specs.Beneath.proof_commits.proofs.Words.OfRuns.{link_made}
use Rattle.proof_owned.specs.Beneath.proof_commits.proofs.Known.Sounds.{sound_at}
use Rattle.proof_owned.specs.Beneath.proof_contents.specs.Runs.{counting_main}
use Rattle.proof_owned.specs.Beneath.proof_contents.specs.Lines.Repairs.{ReadsBelow, KnowsRepair}
use Rattle.proof_owned.specs.Beneath.proof_contents.proofs.Values.Runs.{counting_main-made}
use Rattle.proof_owned.specs.Beneath.proof_generations.specs.Falling.{WasOpened, WasClosed}
use Rattle.proof_owned.specs.Beneath.proof_generations.proofs.Offers.Standing.{StandsBy, completes_it}
use Rattle.proof_owned.specs.Beneath.proof_generations.proofs.Roots.Own.{its_fresh}
use Rattle.proof_owned.specs.Beneath.proof_generations.proofs.Roots.Kept.{fresh_in, fresh_of}
use Rattle.proof_owned.specs.Beneath.proof_generations.proofs.Falling.KnownRoots.{words, protocol_of}
use Rattle.proof_owned.specs.Beneath.proof_generations.proofs.Falling.Brought.{Brought, makes, swaps, comes_in}
use Rattle.proof_owned.specs.Beneath.proof_generations.proofs.Falling.Along.{all_falls}
use Rattle.proof_owned.specs.Beneath.proof_generations.proofs.Falling.Counted.{drawn_unopened}
use Rattle.proof_owned.specs.Beneath.proof_generations.proofs.Falling.Final.{repairs_are_given, closed_before_read}
use Rattle.proof_owned.specs.Beneath.proof_generations.proofs.Falling.Generations.{main_stood}
use Rattle.proof_owned.specs.Beneath.proof_generations.proofs.Falling.Opened.{was_closed_so, closed_until}
use Rattle.proof_owned.specs.Beneath.proof_generations.proofs.Falling.Nodes.{used_generation}
use Rattle.proof_owned.specs.Beneath.proof_generations.proofs.Falling.Runs.{gen_of}
use Rattle.proof_owned.specs.Beneath.proof_generations.proofs.Lines.ReaderKnows.{indirection_is}
use Rattle.proof_order.specs.Openings.{IsSwap, IsRootOf}
use Rattle.proof_order.proofs.Openings.Copy.{copied}
use Rattle.proof_order.proofs.Openings.NoLateCommit.{no_late_commit}
use Rattle.proof_order.proofs.Openings.RootOf.{root_in_use}
use Rattle.proof_order.proofs.Openings.SwapState.{offerer, old_stands, closed_for_ever}
use Rattle.proof_shape.specs.Lines.Given.{GaveBelow}
use Rattle.proof_shape.specs.Lines.Knowing.{first_main, IsPlaced}
use Rattle.proof_shape.proofs.Lines.Places.{places_at}
use Rattle.proof_shape.proofs.Lines.RepairsAt.{repairs_at}
use Rattle.proof_owned.proofs.Brought.{How, publishes, builds}
use Rattle.proof_owned.proofs.FreshRoots.{IsCleared, expected_at}
use Rattle.proof_owned.proofs.LinksMade.{LinkMade, by_build, by_renew, by_copy, link_is_made}
use Rattle.proof_owned.proofs.Opens.{OpensSo, before, opens, opens_so}

pub below_no_swap : (l : Line) → ReadsBelow l → IsNoSwap l
below_no_swap (line.Swap why s) b = absurd b
below_no_swap (line.Root l) b = tt
below_no_swap (line.Key l) b = tt
below_no_swap (line.Build l) b = tt
below_no_swap (line.Climb l) b = tt
below_no_swap (line.Copy l) b = tt
below_no_swap (line.Walk l) b = tt
below_no_swap (line.End answer) b = tt
below_no_swap (line.Renew l) b = tt
below_no_swap (line.Clean l) b = tt
below_no_swap line.Impossible b = tt

module _ {limits : Bounds} {states : ℕ → State} {last : ℕ} (run : IsRun limits states last) where
  abbrev w : Words
  w = words states run.records last

  abbrev p : Protocol
  p = protocol_of run

  -- the root of a handle is an indirection
  pub root_link : (t : ℕ) → t ≤ last → (handle : ℕ) (root : Root) → root_at (states t) handle ≡ Some root → is_indirection (node_at (states t).heap (root_of root.word)) ≡ true
  root_link t within handle root e =
      let (h, word, is) = indirection_is (node_at (states t).heap (root_of root.word)) (by root.word ((safe_at run t within).words handle root e)) in ap is_indirection is
    where
      by : (word : RootWord) → AllHold (IsInUse (states t).heap) (states t).heap (word_wants word) → meets AnIndirection (node_at (states t).heap (root_of word)) ≡ true
      by (Plain r) h = meets_of h.0
      by (Offer offer) h = meets_of h.0

  -- what counts for an indirection stood in its word
  pub counting_stood : (t : ℕ) → t ≤ last → (i m : Ref) → w.link t i ≡ true → counting_main states last t i ≡ m → Stood (words states run.records last) t i m
  counting_stood t within i m link is =
      subst (λ x. Stood w t i x) (sym (counting_main-made states last t i (link_made (grown states t i) link)) ∙ is) (main_stood run t within i link)

  -- a RENEW is about to make an indirection over the main node that it was given for this one, which has it for ever
  pub record IsRenewing (t : ℕ) (i child : Ref) : Type 0 where
    pub actor : ℕ
    pub operation : Operation
    pub runs : operation_of (states t) actor ≡ Some operation
    pub path : List Ref
    pub main : Ref
    pub done : List Ref
    pub at : operation.line ≡ line.Renew (renew.Link path main done child)
    pub start : ℕ
    pub begun : operation.generation ≡ Some start
    pub bitmap : ℕ
    pub entries : ArrayVec Ref
    pub branch : node_under states last main ≡ Branch bitmap entries
    pub less : length done < length entries.items
    pub next : slice_index_or entries.items (length done) no_ref ≡ i
    pub older : gen_of states last i ≡ start → ⊥
    pub keeps : counting_main states last last i ≡ child
    pub closed : WasClosed run.records last (gen_of states last i)

  module _ (i : Ref) (Such : Ref → Type 0) where
    -- no other indirection whose generation was opened has such a node
    abbrev pub IsUnopened : ℕ → Type 0
    IsUnopened t = (j m : Ref) → (j ≡ i → ⊥) → Such m → Stood (words states run.records last) t j m → WasOpened states t (gen_of states last j) → ⊥

    pub record ComeInAlone : Type 0 where
      pub not_first : (j m : Ref) → (j ≡ i → ⊥) → Such m → Stood (words states run.records last) zero j m → ⊥
      pub not_brought : (t : ℕ) → t < last → IsUnopened t → (k : ℕ) (j m : Ref) → (j ≡ i → ⊥) → Such m → Stood (words states run.records last) (suc t) j m →
          How (words states run.records last) t k j m → ⊥
      pub not_cleared : (j m : Ref) → (j ≡ i → ⊥) → Such m → IsCleared run j m → ⊥
      pub not_renewed : (t : ℕ) → t < last → IsUnopened t → (m : Ref) → Such m → IsRenewing t i m → ⊥
      pub not_copied : (t handle : ℕ) (offer : Descriptor) → IsSwap states run.records last t handle offer → offer.root ≡ i → Such offer.expected →
          counting_main states last last i ≡ offer.expected → WasClosed run.records last (gen_of states last i) → ⊥

  module _ (i : Ref) (Such : Ref → Type 0) (alone : ComeInAlone i Such) where
    module _ (t : ℕ) (lt : t < last) (so_far : IsUnopened i Such t) where
      -- ---- by the swap of a root

      module _ (handle : ℕ) (offer : Descriptor) (swap : IsSwap states run.records last t handle offer) (x : Bool) (r : Ref) (f : fresh_of x offer ≡ Some r)
          (j m : Ref) (other : j ≡ i → ⊥) (such : Such m) (stood : Stood w t j m) (its : gen_of states last r ≡ gen_of states last j) where
        abbrev by : StandsBy (states t) handle offer
        by = offerer run t handle offer swap

        copied_is : copied by.owner.line ≡ (offer.root, offer.expected)
        copied_is = let (c, at_line, same) = completes_it by.owner.line offer by.completes in ap copied at_line ∙ ap (λ (o : Descriptor). (o.root, o.expected)) same

        has : fresh_in x by.owner.line ≡ Some r
        has = its_fresh by.owner.line offer x r by.completes f

        is_root : j ≡ r
        is_root = ((all_falls run t (omega arith)).fresh by.k by.owner x r by.runs by.unmarked has).only j ((sound_at p t (omega arith)).words.link j m stood) (sym its)

        expects : m ≡ offer.expected
        expects =
            elim (expected_at run t (omega arith) by.k by.owner x r m by.runs by.unmarked has (subst (λ q. Stood w t q m) is_root stood)) [
              | inl same ↦ same ∙ ap (λ q. q.1) copied_is
              | inr cleared ↦ absurd (alone.not_cleared r m (λ e. other (is_root ∙ e)) such cleared)
            ]

        -- the old root has it for ever
        keeps : (u : ℕ) → t ≤ u → u ≤ last → counting_main states last u offer.root ≡ m
        keeps u after within = no_late_commit run t handle offer swap u after within ∙ sym expects

        old : IsRootOf states t handle offer.root (generation_at (states t).heap offer.root)
        old = old_stands run t handle offer swap

        used : IsInUse (states t).heap offer.root
        used = root_in_use run t handle offer.root _ (omega arith) old

        link : w.link t offer.root ≡ true
        link =
            ap is_indirection (sym (node_found states t offer.root used)) ∙ ap (λ q. is_indirection (node_at (states t).heap q)) (sym old.is)
            ∙ root_link t (omega arith) handle old.root old.is_open

        closed : WasClosed run.records last (gen_of states last offer.root)
        closed =
            (t, lt, ap (closed_at (run.records last)) (used_generation run t (omega arith) offer.root used) ∙ closed_for_ever run t handle offer swap last lt (omega arith))

        swapped_root : ⊥
        swapped_root =
            so_far offer.root m
            (λ e. alone.not_copied t handle offer swap e (subst Such expects such) (ap (counting_main states last last) (sym e) ∙ keeps last (omega arith) (omega arith) ∙ expects)
            (subst (λ q. WasClosed run.records last (gen_of states last q)) e closed))
            such (counting_stood t (omega arith) offer.root m link (keeps t (omega arith) (omega arith))) (
              t,
              omega arith,
              (handle, old.root, old.is_open, ap (generation_at (states t).heap) old.is ∙ sym (used_generation run t (omega arith) offer.root used)),
            )

      opened_by : (j m : Ref) → (j ≡ i → ⊥) → Such m → Stood w t j m → OpensSo run t (gen_of states last j) → ⊥
      opened_by j m other such stood (before was) = so_far j m other such stood was
      opened_by j m other such stood (opens handle offer swap x r f its) = swapped_root handle offer swap x r f j m other such stood its

      -- ---- where the step makes the indirection

      module _ (j m : Ref) (other : j ≡ i → ⊥) (such : Such m) (now : Stood w (suc t) j m) (none : w.link t j ≡ false) (is : w.link (suc t) j ≡ true)
          (was : WasOpened states (suc t) (gen_of states last j)) where
        -- RENEW's: the node was given for an indirection of an older generation, for ever
        module _ (actor start : ℕ) (operation : Operation) (runs : operation_of (states t) actor ≡ Some operation) (begun : operation.generation ≡ Some start) (path done : List Ref)
            (main child : Ref) (at : operation.line ≡ line.Renew (renew.Link path main done child)) (bitmap : ℕ) (entries : ArrayVec Ref)
            (branch : node_under states last main ≡ Branch bitmap entries) (less : length done < length entries.items) where
          abbrev next : Ref
          next = slice_index_or entries.items (length done) no_ref

          renewed_by : (id : ℕ) → child ≡ m → GaveBelow states run.records last t actor id start next child → (gen_of states last next ≡ start → ⊥) → ⊥
          renewed_by id same g older =
              let given = repairs_are_given run g.at (omega (arith, g.past, lt)) actor g.operation start next child (record {
                outcome = g.outcome;
                moves = g.moves;
                runs = g.runs;
                no_swap = below_no_swap g.operation.line g.below;
                read = g.read;
                reads = g.reads;
                of = g.of;
                gives = g.gives;
                notes = g.notes;
              }) g.its g.below in
              let moment = g.gave.is_moment in
              let stood : Stood w t next child = record { at = suc g.gave.from; past = omega (arith, moment.from, moment.past, g.gave.past); link = moment.link; is = moment.stood } in
              let (c, before_it, closed, since) =
              closed_before_read run g.at (omega (arith, g.past, lt)) actor g.operation g.read g.runs g.reads
              (inr (g.below, λ same. older (ap (gen_of states last) (sym g.of) ∙ same_Some _ _ (sym same ∙ g.its)))) in
              let until = closed_until run g.at last (omega (arith, g.past, lt)) (omega arith) (gen_of states last g.read.indirection) c closed in
              let was_closed : WasClosed run.records last (gen_of states last next) =
              subst (λ q. WasClosed run.records last (gen_of states last q)) g.of (c, omega (arith, before_it, g.past, lt), until) in
              let such' : Such child = subst Such (sym same) such in
              let elsewhere : next ≡ i → ⊥ = λ e.
              alone.not_renewed t lt so_far child such' (record {
                actor = actor;
                operation = operation;
                runs = runs;
                path = path;
                main = main;
                done = done;
                at = at;
                start = start;
                begun = begun;
                bitmap = bitmap;
                entries = entries;
                branch = branch;
                less = less;
                next = e;
                older = λ own. older (ap (gen_of states last) e ∙ own);
                keeps = ap (counting_main states last last) (sym e) ∙ given.1 older;
                closed = subst (λ q. WasClosed run.records last (gen_of states last q)) e was_closed;
              }) in
              let (u, le, at_u) = was_closed_so run g.at (omega (arith, g.past, lt)) (gen_of states last g.read.indirection) (c, before_it, closed) in
              so_far next child elsewhere such' stood (subst (λ q. WasOpened states t (gen_of states last q)) g.of (u, omega (arith, le, g.past), at_u))

        renewed : (actor : ℕ) (operation : Operation) → operation_of (states t) actor ≡ Some operation → (path done : List Ref) (main child : Ref) →
            operation.line ≡ line.Renew (renew.Link path main done child) → child ≡ m →
            ((start : ℕ) → operation.generation ≡ Some start →
            KnowsRepair (node_under states last) (first_main states last) (GaveBelow states run.records last t actor operation.id start) start operation.line) →
            ((start : ℕ) × (operation.generation ≡ Some start)) → ⊥
        renewed actor operation runs path done main child at same knows (start, begun) =
            let (bitmap, entries, are, less, (gave, (h, word, node, older))) =
            subst (λ l. KnowsRepair (node_under states last) (first_main states last) (GaveBelow states run.records last t actor operation.id start) start l) at (knows start begun) in
            renewed_by actor start operation runs begun path done main child at bitmap entries are.is less operation.id same gave (λ e. older (sym (ap generation_of node) ∙ e))

        by_made : LinkMade run t j m → ⊥
        by_made (by_build k operation runs path main position depth at) =
            alone.not_brought t lt so_far k j m other such now (builds (ap stage_of_actor runs ∙ ap stage_of at) none is)
        by_made (by_renew k operation runs path main done at own) =
            renewed k operation runs path done main m at refl (repairs_at run t (omega arith) k operation runs)
            (subst (λ l. IsPlaced operation.generation l) at (places_at run t (omega arith) k operation runs))
        by_made (by_copy drawn) = drawn_unopened run t lt (subst (λ g. WasOpened states (suc t) g) drawn was)

      -- ---- all of them

      next_by : (j m : Ref) → (j ≡ i → ⊥) → Such m → Stood w (suc t) j m → WasOpened states (suc t) (gen_of states last j) → Stood w t j m ⊎ Brought w t j m → ⊥
      next_by j m other such now was (inl stood) = opened_by j m other such stood (opens_so run t lt (gen_of states last j) was)
      next_by j m other such now was (inr (makes none is main_is)) = by_made j m other such now none is was (link_is_made run t lt j m none is main_is)
      next_by j m other such now was (inr (swaps k a stage)) = alone.not_brought t lt so_far k j m other such now (publishes a stage)

      unopened_next : IsUnopened i Such (suc t)
      unopened_next j m other such now was = next_by j m other such now was (comes_in p t lt j m now)

    pub unopened_at : (t : ℕ) → t ≤ last → IsUnopened i Such t
    unopened_at zero h j m other such stood was = alone.not_first j m other such stood
    unopened_at (suc t) h j m other such stood was = unopened_next t h (unopened_at t (omega arith)) j m other such stood was
