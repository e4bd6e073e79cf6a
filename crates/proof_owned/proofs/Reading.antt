-- What an operation reads is an indirection whose generation was opened.
use Rattle.std.proofs.Common.{◌≡◌, ℕ, zero, suc, ◌<◌, ◌≤◌, true, Contains, Option, Some, None, inl, inr, refl, sym, ap, ◌∙◌, subst, arith}
use Rattle.std.proofs.lemmas.Bool.{true≢false}
use Rattle.std.proofs.lemmas.Option.{none-some, same_Some}
use Rattle.std.proofs.lemmas.List.Elements.{All-contains}
use Rattle.proof_owned.specs.Beneath.slot_arena.specs.declared.refs.Ref.{Ref}
use Rattle.proof_owned.specs.Beneath.slot_arena.specs.Heaps.{entries_of}
use Rattle.proof_owned.specs.Beneath.machine_model.specs.declared.lines.Line.{Line}
use Rattle.proof_owned.specs.Beneath.machine_model.specs.declared.lines.Line.TheVariants as line
use Rattle.proof_owned.specs.Beneath.machine_model.specs.declared.lines.Purpose.{Purpose}
use Rattle.proof_owned.specs.Beneath.machine_model.specs.declared.operations.Operation.{Operation}
use Rattle.proof_owned.specs.Beneath.machine_model.specs.declared.reading.Read.{Read}
use Rattle.proof_owned.specs.Beneath.machine_model.specs.declared.reading.Swap.{Swap}
use Rattle.proof_owned.specs.Beneath.machine_model.specs.declared.reading.SwapLine.{SwapLine}
use Rattle.proof_owned.specs.Beneath.machine_model.specs.declared.reading.SwapLine.TheVariants as swap
use Rattle.proof_owned.specs.Beneath.machine_model.specs.declared.roots.Root.{Root}
use Rattle.proof_owned.specs.Beneath.machine_model.specs.declared.steps.Bounds.{Bounds}
use Rattle.proof_owned.specs.Beneath.machine_model.specs.Calls.{handle_of}
use Rattle.proof_owned.specs.Beneath.machine_model.specs.States.{State, root_at, root_of, word_of, operation_of}
use Rattle.proof_owned.specs.Beneath.machine_model.specs.Operations.{read_of, swapping_read}
use Rattle.proof_owned.specs.Beneath.machine_model.specs.Grown.{node_under}
use Rattle.proof_owned.specs.Beneath.machine_model.specs.Times.{IsRun}
use Rattle.proof_owned.specs.Beneath.proof_memory.specs.Wants.{is_indirection}
use Rattle.proof_owned.specs.Beneath.proof_commits.specs.Laws.{IsNoSwap}
use Rattle.proof_owned.specs.Beneath.proof_commits.specs.Protocol.{Words, Protocol, Given, Publishes}
use Rattle.proof_owned.specs.Beneath.proof_commits.specs.Stages.{stage_of_actor}
use Rattle.proof_owned.specs.Beneath.proof_commits.proofs.Lines.Swap.{reads_stage, runs_publishing}
use Rattle.proof_owned.specs.Beneath.proof_commits.proofs.Words.Stood.{Stood, stood_still}
use Rattle.proof_owned.specs.Beneath.proof_commits.proofs.Words.Along.{protocol}
use Rattle.proof_owned.specs.Beneath.proof_commits.proofs.Known.Sounds.{sound_at}
use Rattle.proof_owned.specs.Beneath.proof_commits.proofs.Known.Acts.{known_run}
use Rattle.proof_owned.specs.Beneath.proof_generations.specs.Falling.{WasOpened, MayStandBelow}
use Rattle.proof_owned.specs.Beneath.proof_generations.proofs.Falling.KnownRoots.{words, protocol_of}
use Rattle.proof_owned.specs.Beneath.proof_generations.proofs.Falling.Along.{all_falls}
use Rattle.proof_owned.specs.Beneath.proof_generations.proofs.Falling.NoRef.{no_node}
use Rattle.proof_owned.specs.Beneath.proof_generations.proofs.Falling.Opened.{was_closed_so, standing_generation, opened_rooted}
use Rattle.proof_owned.specs.Beneath.proof_generations.proofs.Falling.OwnSwaps.{swaps_in_own_generation}
use Rattle.proof_owned.specs.Beneath.proof_generations.proofs.Falling.Nodes.{told_generation}
use Rattle.proof_owned.specs.Beneath.proof_generations.proofs.Falling.Runs.{gen_of, FitsBelow}
use Rattle.proof_owned.specs.Beneath.proof_generations.proofs.Handles.Running.{place_of_actor}
use Rattle.proof_owned.specs.Beneath.proof_generations.proofs.Lines.ReaderKnows.{indirection_is}
use Rattle.proof_shape.proofs.Opened.Mains.{IsOpen, rooted, named, read_is_open}
use Rattle.proof_owned.specs.Beneath.proof_generations.proofs.Roots.Open.{no_close_at}
use Rattle.proof_owned.specs.Beneath.proof_generations.proofs.Roots.Rooted.{rooted_at}
use Rattle.proof_owned.specs.Beneath.proof_memory.specs.Laws.{is_end}

-- a line that reads is in a SWAP, or in no SWAP
data ReadsIn (l : Line) (r : Read) : Type 0 where
  in_swap : (why : Purpose) (s : Swap) → l ≡ line.Swap why s → s.indirection ≡ r.indirection → ReadsIn l r
  alone : IsNoSwap l → ReadsIn l r

swap_reads : (i : Ref) (l : SwapLine) (r : Read) → swapping_read i l ≡ Some r → i ≡ r.indirection
swap_reads i (swap.Deciding x) r is = ap (λ (q : Read). q.indirection) (same_Some _ _ is)
swap_reads i swap.Publish r is = absurd (none-some r is)
swap_reads i swap.Check r is = absurd (none-some r is)

reads_in : (l : Line) (r : Read) → read_of l ≡ Some r → ReadsIn l r
reads_in (line.Swap why s) r is = in_swap why s refl (swap_reads s.indirection s.line r is)
reads_in (line.Root l) r is = alone tt
reads_in (line.Key l) r is = alone tt
reads_in (line.Build l) r is = alone tt
reads_in (line.Renew l) r is = alone tt
reads_in (line.Clean l) r is = alone tt
reads_in (line.Climb l) r is = alone tt
reads_in (line.Copy l) r is = alone tt
reads_in (line.Walk l) r is = alone tt
reads_in (line.End answer) r is = alone tt
reads_in line.Impossible r is = alone tt

module _ {limits : Bounds} {states : ℕ → State} {last : ℕ} (run : IsRun limits states last) where
  abbrev w : Words
  w = words states run.records last

  abbrev q : Protocol
  q = protocol limits states last (known_run run)

  -- what READs may come to has a generation that was opened
  rooted_opened : (t u handle : ℕ) → u ≤ t → t ≤ last → (r : Ref) → is_indirection (node_under states last r) ≡ true → (o : Option Root) → root_at (states u) handle ≡ o →
      root_of (word_of o) ≡ r → WasOpened states t (gen_of states last r)
  rooted_opened t u handle le within r link None e is =
      absurd (true≢false (sym link ∙ ap (λ x. is_indirection (node_under states last x)) (sym is) ∙ ap is_indirection (no_node run last (omega arith))))
  rooted_opened t u handle le within r link (Some root) e is =
      (u, le, (handle, root, e, sym (standing_generation run u (omega (arith, le, within)) handle root e) ∙ ap (gen_of states last) is))

  pub below_opened : (t : ℕ) → t ≤ last → (i m r : Ref) → Stood w t i m → WasOpened states t (gen_of states last i) → Contains (entries_of (node_under states last m)) r →
      is_indirection (node_under states last r) ≡ true → WasOpened states t (gen_of states last r)
  below_opened t within i m r stood opened names link =
      let falls = (all_falls run t within).mains.falls i m stood opened in
      let (h, word, is) = indirection_is (node_under states last r) link in
      let fits = All-contains (FitsBelow states run.records last t (gen_of states last i)) (entries_of (node_under states last m)) r falls names in
      subst (λ x. WasOpened states t x) (sym (told_generation states last h r (word, is))) (by h (fits h (word, is)))
    where
      by : (h : ℕ) → MayStandBelow run.records t (gen_of states last i) h → WasOpened states t h
      by h (inl same) = subst (λ x. WasOpened states t x) (sym same) opened
      by h (inr (less, closed)) = was_closed_so run t within h closed

  -- what was opened stays so
  pub opened_since : (t u g : ℕ) → t ≤ u → WasOpened states t g → WasOpened states u g
  opened_since t u g le (v, before, at) = (v, omega (arith, le, before), at)

  pub open_opened : (n t : ℕ) → t < n → t ≤ last → (r : Ref) → is_indirection (node_under states last r) ≡ true → IsOpen run t r → WasOpened states t (gen_of states last r)
  open_opened zero t below within r link o = absurd (omega (arith, below))
  open_opened (suc n) t below within r link (rooted u handle le is) = rooted_opened t u handle le within r link (root_at (states u) handle) refl is
  open_opened (suc n) t below within r link (named k i m g names) =
      let stood = ((sound_at q t within).given k i m g).stood in
      let now : Stood w t i m = record { at = stood.at; past = stood.past; link = stood.link; is = stood.is } in
      let its_link = (sound_at (protocol_of run) last (omega arith)).words.link i m (stood_still within now) in
      let opened = open_opened n g.at (omega (arith, g.past, below)) (omega (arith, g.past, within)) i its_link
      (read_is_open run g.at (omega (arith, g.past, within)) k i g.line g.stage) in
      below_opened t within i m r now (opened_since g.at t (gen_of states last i) (omega (arith, g.past)) opened) names link

  -- what a READ gave for an indirection stood there, and the generation of that one was opened
  pub record GivenThere (t : ℕ) (i m : Ref) : Type 0 where
    pub stood : Stood (words states run.records last) t i m
    pub opened : WasOpened states t (gen_of states last i)

  pub given_there : (t : ℕ) → t ≤ last → (k : ℕ) (i m : Ref) → Given (protocol limits states last (known_run run)).words t k i m → GivenThere t i m
  given_there t within k i m g =
      let there = ((sound_at q t within).given k i m g).stood in
      let stood : Stood w t i m = record { at = there.at; past = there.past; link = there.link; is = there.is } in
      let its_link = (sound_at (protocol_of run) last (omega arith)).words.link i m (stood_still within stood) in
      record {
        stood = stood;
        opened = opened_since g.at t (gen_of states last i) (omega (arith, g.past))
            (open_opened (suc g.at) g.at (omega arith) (omega (arith, g.past, within)) i its_link (read_is_open run g.at (omega (arith, g.past, within)) k i g.line g.stage));
      }

  -- whoever swaps
  pub swap_opened : (t : ℕ) → t ≤ last → (actor : ℕ) (operation : Operation) → operation_of (states t) actor ≡ Some operation → (why : Purpose) (s : Swap) →
      operation.line ≡ line.Swap why s → WasOpened states t (gen_of states last s.indirection)
  swap_opened t within actor operation runs why s is =
      let (writable, its) = swaps_in_own_generation run t within actor operation runs why s is in
      let (k, place, at_k) = place_of_actor (states t) actor operation runs in
      let root = rooted_at run t within k operation (gen_of states last s.indirection) at_k
      (no_close_at run t within k operation at_k (ap is_end is)) writable its in
      opened_rooted states run.records t (handle_of operation.call) (gen_of states last s.indirection) root

  pub publishing_opened : (t : ℕ) → t ≤ last → (k : ℕ) (i a f : Ref) → w.stage t k ≡ Publishes i a f → WasOpened states t (gen_of states last i)
  publishing_opened t within k i a f stage =
      let by = runs_publishing (operation_of (states t) k) i a f stage in
      swap_opened t within k by.operation by.is by.swaps.0 (record { indirection = i; replaced = a; fresh = f; line = swap.Publish }) by.swaps.1

  -- whoever reads
  pub reads_opened : (t : ℕ) → t ≤ last → (actor : ℕ) (operation : Operation) (r : Read) → operation_of (states t) actor ≡ Some operation → read_of operation.line ≡ Some r →
      is_indirection (node_under states last r.indirection) ≡ true → WasOpened states t (gen_of states last r.indirection)
  reads_opened t within actor operation r runs reads link = by (reads_in operation.line r reads)
    where
      by : ReadsIn operation.line r → WasOpened states t (gen_of states last r.indirection)
      by (alone free) =
          open_opened (suc t) t (omega arith) within r.indirection link
          (read_is_open run t within actor r.indirection r.line (ap stage_of_actor runs ∙ reads_stage operation.line r free reads))
      by (in_swap why s is into) = subst (λ x. WasOpened states t (gen_of states last x)) into (swap_opened t within actor operation runs why s is)
