-- An indirection of its parent's own generation: it came in there with a main node that stands in no other, new in it.
use Rattle.std.proofs.Common.{◌≡◌, ℕ, zero, suc, ◌<◌, ◌≤◌, ◌⊎◌, true, false, List, length, Contains, Some, inl, inr, refl, sym, ap, ◌∙◌, subst, arith}
use Rattle.std.specs.Prelude.{slice_index_or, unwrap_or}
use Rattle.std.proofs.lemmas.List.Elements.{All-contains, Contains-get_or}
use Rattle.proof_owned.specs.Beneath.history.specs.declared.calls.Access.{Access}
use Rattle.proof_owned.specs.Beneath.history.specs.declared.calls.Access.TheVariants.{Writable, ReadOnly}
use Rattle.proof_owned.specs.Beneath.slot_arena.specs.declared.refs.Ref.{Ref}
use Rattle.proof_owned.specs.Beneath.slot_arena.specs.declared.nodes.Prev.TheVariants as prev
use Rattle.proof_owned.specs.Beneath.slot_arena.specs.declared.nodes.Node.TheVariants.{Indirection}
use Rattle.proof_owned.specs.Beneath.slot_arena.specs.Heaps.{entries_of, generation_of, no_ref}
use Rattle.proof_owned.specs.Beneath.machine_model.specs.declared.lines.Line.TheVariants as line
use Rattle.proof_owned.specs.Beneath.machine_model.specs.declared.operations.Operation.{Operation}
use Rattle.proof_owned.specs.Beneath.machine_model.specs.declared.reading.SwapLine.TheVariants as swap
use Rattle.proof_owned.specs.Beneath.machine_model.specs.declared.repairs.RenewLine.TheVariants as renew
use Rattle.proof_owned.specs.Beneath.machine_model.specs.declared.steps.Bounds.{Bounds}
use Rattle.proof_owned.specs.Beneath.machine_model.specs.Grown.{node_under}
use Rattle.proof_owned.specs.Beneath.machine_model.specs.Paths.{current, start_of}
use Rattle.proof_owned.specs.Beneath.machine_model.specs.Records.{moment_at}
use Rattle.proof_owned.specs.Beneath.machine_model.specs.States.{State, operation_of}
use Rattle.proof_owned.specs.Beneath.machine_model.specs.Times.{IsRun}
use Rattle.proof_owned.specs.Beneath.proof_commits.specs.Protocol.{Words, Protocol, Publishes}
use Rattle.proof_owned.specs.Beneath.proof_commits.specs.Stages.{stage_of, stage_of_actor}
use Rattle.proof_owned.specs.Beneath.proof_commits.proofs.Words.Stood.{Stood, stood_later}
use Rattle.proof_owned.specs.Beneath.proof_commits.proofs.Known.Owners.{Staged}
use Rattle.proof_owned.specs.Beneath.proof_commits.proofs.Known.Sounds.{sound_at}
use Rattle.proof_owned.specs.Beneath.proof_commits.proofs.Lines.Swap.{runs_publishing}
use Rattle.proof_owned.specs.Beneath.proof_commits.proofs.Course.Finals.{none_final}
use Rattle.proof_owned.specs.Beneath.proof_contents.specs.Lines.Repairs.{KnowsRepair}
use Rattle.proof_owned.specs.Beneath.proof_generations.specs.Falling.{MayStandBelow}
use Rattle.proof_owned.specs.Beneath.proof_generations.proofs.Falling.Along.{all_falls}
use Rattle.proof_owned.specs.Beneath.proof_generations.proofs.Falling.Brought.{Brought, makes, swaps, comes_in}
use Rattle.proof_owned.specs.Beneath.proof_generations.proofs.Falling.Counted.{start_below}
use Rattle.proof_owned.specs.Beneath.proof_generations.proofs.Falling.KnownRoots.{words, protocol_of}
use Rattle.proof_owned.specs.Beneath.proof_generations.proofs.Falling.NewLinks.{new_link}
use Rattle.proof_owned.specs.Beneath.proof_generations.proofs.Falling.Nodes.{told_generation}
use Rattle.proof_owned.specs.Beneath.proof_generations.proofs.Falling.OwnSwaps.{knows_at}
use Rattle.proof_owned.specs.Beneath.proof_generations.proofs.Falling.Runs.{gen_of, IsOwn, FitsBelow, FallsBelow, LateBelow, NotNewer, KnowsGenerations, Ends, Shut, LateEnd}
use Rattle.proof_owned.specs.Beneath.proof_generations.proofs.Lines.Knows.{Knows, IsInner, own_current}
use Rattle.proof_owned.specs.Beneath.proof_generations.proofs.Lines.Reader.{KnowsReader}
use Rattle.proof_shape.specs.Lines.Given.{GaveBelow}
use Rattle.proof_shape.specs.Lines.Knowing.{first_main}
use Rattle.proof_shape.proofs.Held.Fresh.{Names}
use Rattle.proof_shape.proofs.Lines.RepairsAt.{repairs_at}
use Rattle.proof_shape.proofs.Runs.Entries.{no_entry}
use Rattle.proof_owned.proofs.AtFirst.{none_at_first}
use Rattle.proof_owned.proofs.Earlier.{IsLink, either, made_since}
use Rattle.proof_owned.proofs.Brought.{How, publishes, builds}
use Rattle.proof_owned.proofs.LinksMade.{LinkMade, by_build, by_renew, by_copy, link_is_made}
use Rattle.proof_owned.proofs.NewEntries.{IsNew, swaps_new, builds_new}
use Rattle.proof_owned.proofs.Theirs.{IsTheirs, by_brought}

module _ {limits : Bounds} {states : ℕ → State} {last : ℕ} (run : IsRun limits states last) where
  abbrev w : Words
  w = words states run.records last

  abbrev p : Protocol
  p = protocol_of run

  -- it is new in one node
  pub new_once : (t u : ℕ) (m n c : Ref) → IsNew run t m c → IsNew run u n c → m ≡ n
  new_once t u m n c (s, a) (s', b) = elim (either t u) [
    | inl le ↦ b.only m (made_since states t u m le a.made) a.names
    | inr le ↦ sym (a.only n (made_since states u t n (omega (arith, le)) b.made) b.names)
  ]

  module _ (t : ℕ) (within : t ≤ last) (k : ℕ) (operation : Operation) (runs : operation_of (states t) k ≡ Some operation) (path : List Ref) (main : Ref) (done : List Ref) (child : Ref)
      (at : operation.line ≡ line.Renew (renew.Link path main done child)) where
    -- RENEW is at an indirection of its generation
    pub record RenewsBelow : Type 0 where
      pub start : ℕ
      pub begun : operation.generation ≡ Some start
      pub own : gen_of states last (current path) ≡ start
      pub falls : FallsBelow states run.records last t start main

    by_access : (access : Access) → operation.access ≡ access → KnowsGenerations states run.records last t (moment_at (run.records t) k) operation → RenewsBelow
    by_access Writable writable knows =
        let (g, its, known) = knows.0 writable (subst IsInner (sym at) tt) in
        let here = subst (Knows (IsOwn states last g) (FitsBelow states run.records last t g) (FallsBelow states run.records last t g)
        (LateBelow states run.records last t (moment_at (run.records t) k) g)) at known in
        record { start = g; begun = its; own = own_current (IsOwn states last g) path here.0.0.0; falls = here.0.0.1 }
    by_access ReadOnly reads knows =
        absurd (subst (KnowsReader (Ends states run.records last t) (Shut states run.records last t) (LateEnd states run.records last t (moment_at (run.records t) k))) at (knows.1 reads))

    pub renews_below : RenewsBelow
    renews_below = by_access operation.access refl (knows_at run t within k operation runs)

    -- what stands in the main node that it was given is older
    module _ (c : Ref) (link : IsLink run c) (names : Names run child c) where
      below_main : (start h : ℕ) (word next : Ref) → FallsBelow states run.records last t start main → Names run main next → node_under states last next ≡ Indirection h word →
          (h ≡ start → ⊥) → h < start
      below_main start h word next falls among node older = by (All-contains (FitsBelow states run.records last t start) (entries_of (node_under states last main)) next falls among h (word, node))
        where
          by : MayStandBelow run.records t start h → h < start
          by (inl e) = absurd (older e)
          by (inr (less, closed)) = less

      older_entry : (start id : ℕ) (next : Ref) → GaveBelow states run.records last t k id start next child → gen_of states last c ≤ gen_of states last next
      older_entry start id next gave =
          let (g, below, is) = link in
          let moment = gave.gave.is_moment in
          let stood : Stood w t next child = record { at = suc gave.gave.from; past = omega (arith, moment.from, moment.past, gave.gave.past); link = moment.link; is = moment.stood } in
          let older = (all_falls run t within).mains.older next child stood in
          let le = All-contains (NotNewer states last (gen_of states last next)) (entries_of (node_under states last child)) c older names g (below, is) in
          omega (arith, le, told_generation states last g c (below, is))

      pub renewed_older : gen_of states last c < start_of operation
      renewed_older =
          let r = renews_below in
          let (bitmap, entries, are, less, (gave, (h, word, node, older))) =
          subst (λ l. KnowsRepair (node_under states last) (first_main states last) (GaveBelow states run.records last t k operation.id r.start) r.start l) at
          (repairs_at run t within k operation runs r.start r.begun) in
          let next : Ref = slice_index_or entries.items (length done) no_ref in
          let among : Names run main next = subst (λ n. Contains (entries_of n) next) (sym are.is) (Contains-get_or entries.items (length done) no_ref less) in
          omega (arith, older_entry r.start operation.id next gave, ap generation_of node, below_main r.start h word next r.falls among node older, ap (λ o. unwrap_or o 0) r.begun)

  -- and what stands below a new root
  copied_older : (t : ℕ) (lt : t < last) (a q c : Ref) → IsLink run c → Names run q c → w.link t a ≡ false → w.link (suc t) a ≡ true → w.main (suc t) a ≡ q →
      gen_of states last c < (states t).generations
  copied_older t lt a q c (h, word, is) names none now main_is =
      let n = new_link run t lt (all_falls run t (omega arith)).lines a none now in
      let falls = subst (FallsBelow states run.records last t n.g) main_is n.falls in
      let fits = All-contains (FitsBelow states run.records last t n.g) (entries_of (node_under states last q)) c falls names h (word, is) in
      omega (arith, by n.g fits, told_generation states last h c (word, is), start_below run t (omega arith) (suc n.k) n.operation n.g n.runs n.begun)
    where
      by : (g : ℕ) → MayStandBelow run.records t g h → h ≤ g
      by g (inl same) = omega (arith, same)
      by g (inr (less, closed)) = omega (arith, less)

  module _ (a c : Ref) (link : IsLink run c) (own : gen_of states last c ≡ gen_of states last a) where
    pub record CameIn (t : ℕ) (q : Ref) : Type 0 where
      pub first : Ref
      pub at : ℕ
      pub new : IsNew run at first c
      pub theirs : IsTheirs run a first
      pub stood : Stood (words states run.records last) t a first
      -- it is that node, or that node is decided
      pub place : (q ≡ first) ⊎ (Words.prev (words states run.records last) t first ≡ prev.None)

    module _ (t : ℕ) (lt : t < last) (so_far : (q : Ref) → Stood w t a q → Names run q c → CameIn t q) where
      kept : (q : Ref) → CameIn t q → CameIn (suc t) q
      kept q x = record {
        first = x.first;
        at = x.at;
        new = x.new;
        theirs = x.theirs;
        stood = stood_later x.stood;
        place = elim x.place [ inl same ↦ inl same | inr none ↦ inr (none_final p a x.first t (suc t) (omega arith) lt x.stood none) ];
      }

      -- with a node that replaces a decided one
      from_decided : (q x : Ref) → w.prev t x ≡ prev.None → CameIn t x → CameIn (suc t) q
      from_decided q x decided y = record {
        first = y.first;
        at = y.at;
        new = y.new;
        theirs = y.theirs;
        stood = stood_later y.stood;
        place = inr (none_final p a y.first t (suc t) (omega arith) lt y.stood (elim y.place [ inl same ↦ subst (λ r. w.prev t r ≡ prev.None) same decided | inr none ↦ none ]));
      }

      module _ (q : Ref) (stood : Stood w (suc t) a q) (names : Names run q c) where
        brings : (k : ℕ) → IsNew run t q c → How w t k a q → CameIn (suc t) q
        brings k new how = record {
          first = q;
          at = t;
          new = new;
          theirs = by_brought run a q (record { at = t; before = lt; actor = k; stood = stood; how = how });
          stood = stood;
          place = inl refl;
        }

        swapped : (k : ℕ) (x : Ref) → w.stage t k ≡ Publishes a x q → CameIn (suc t) q
        swapped k x stage =
            let sound = sound_at p t (omega arith) in
            let (private, given) = subst (λ s. Staged w t k s) stage (sound.staged k) in
            let decided = sound.given k a x given in
            let by = runs_publishing (operation_of (states t) k) a x q stage in
            elim (swaps_new run t (omega arith) k by.operation by.is by.swaps.0 (record { indirection = a; replaced = x; fresh = q; line = swap.Publish }) by.swaps.1 c link names private.made
            (λ i s none. private.apart i (record { at = s.at; past = s.past; link = s.link; is = s.is }))) [
              | inl old ↦ from_decided q x decided.none (so_far x decided.stood old)
              | inr new ↦ brings k new (publishes x stage)
            ]

        made : w.link t a ≡ false → w.link (suc t) a ≡ true → w.main (suc t) a ≡ q → LinkMade run t a q → CameIn (suc t) q
        made none is main_is (by_build k operation runs path main position depth at) =
            brings k (builds_new run t (omega arith) k operation runs path main position q depth at c link names) (builds (ap stage_of_actor runs ∙ ap stage_of at) none is)
        made none is main_is (by_renew k operation runs path main done at its) =
            absurd (omega (arith, renewed_older t (omega arith) k operation runs path main done q at c link names, its, own))
        made none is main_is (by_copy drawn) = absurd (omega (arith, copied_older t lt a q c link names none is main_is, drawn, own))

        next_by : Stood w t a q ⊎ Brought w t a q → CameIn (suc t) q
        next_by (inl before) = kept q (so_far q before names)
        next_by (inr (swaps k x stage)) = swapped k x stage
        next_by (inr (makes none is main_is)) = made none is main_is (link_is_made run t lt a q none is main_is)

    pub came_at : (t : ℕ) → t ≤ last → (q : Ref) → Stood (words states run.records last) t a q → Names run q c → CameIn t q
    came_at zero h q stood names =
        absurd (no_entry c (subst (λ es. Contains es c) (none_at_first run q ((sound_at p zero (omega arith)).words.made a q stood)) names))
    came_at (suc t) h q stood names = next_by t h (λ x s n. came_at t (omega arith) x s n) q stood names (comes_in p t h a q stood)
