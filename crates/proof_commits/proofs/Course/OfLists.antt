-- What is known of each run, in the words of the machine: whose a pending node is, how words change, what READs give.
use Rattle.std.proofs.Common.{◌≡◌, ℕ, suc, ◌+◌, ◌<◌, ◌≤◌, ◌⊎◌, true, false, List, Some, inl, inr, refl, sym, ◌∙◌, ap, subst, add-one, arith, None}
use Rattle.std.proofs.lemmas.Bool.{cases_eq}
use Rattle.std.proofs.lemmas.Option.{same_Some}
use Rattle.proof_commits.specs.Vocabulary.{Reply, Ref, Node, Tomb, main_of, generation_of, main_at, prev_at, generation_at, node_at, logical_main, Operation, After, Gives, Read, ReadLine, SwapLine}
use Rattle.proof_commits.specs.Vocabulary.{Bounds, Outcome, Step, handle_of, State, operation_of, word_at, Moment, Record, closed_at, moment_after, moment_at, noted_progress, progress_of}
use Rattle.proof_commits.specs.Vocabulary.{read_after, at_indirection, action_of, read_of, AreBounds, go_denial, states_of, records_of, last_of, grown, node_under}
use Rattle.proof_commits.specs.Beneath.history.proofs.Places.{option_tested}
use Rattle.std.specs.Prelude.{is_some}
use Rattle.proof_commits.specs.Beneath.slot_arena.specs.declared.nodes.Prev.TheVariants as over
use Rattle.proof_commits.specs.Beneath.machine_model.specs.declared.actions.Action.TheVariants as act
use Rattle.proof_commits.specs.Beneath.machine_model.specs.declared.reading.After.TheVariants.{Goes}
use Rattle.proof_commits.specs.Beneath.machine_model.specs.declared.reading.SwapLine.TheVariants as swap
use Rattle.proof_commits.specs.Beneath.machine_model.specs.declared.steps.Step.TheVariants as step
use Rattle.proof_commits.specs.Beneath.machine_model.specs.Moves as Machine
use Rattle.proof_commits.specs.Beneath.machine_model.proofs.Times.{run_is}
use Rattle.proof_commits.specs.Protocol.{Words, Rests, Reads, Protocol}
use Rattle.proof_commits.specs.Protocol as Protocol'
use Rattle.proof_commits.proofs.Words.Stood.{Stood, stood_still, none≢pending, stands_now, over_pending}
use Rattle.proof_commits.proofs.Words.Effects.{Becomes, Same, GoesIn, IsCommitted, IsFailed, becomes}
use Rattle.proof_commits.proofs.Known.Owners.{HasFresh}
use Rattle.proof_commits.proofs.Known.Owners as Owned
use Rattle.proof_commits.proofs.Known.Sounds.{sound_at, swapper}
use Rattle.proof_commits.proofs.Course.Finals.{effect, none_final, failed_final, Fate, StillPending, HasFailed as FateFailed, HasCommitted, fate}
use Rattle.proof_commits.proofs.Course.Mains.{CommitsMain as Changed, MainStep, MainStays, MainChanges, main_step, replaced_for_good}
use Rattle.proof_commits.proofs.Course.Readings.{closed_once, given_for_good as protocol_for_good}
use Rattle.proof_commits.specs.Moments.{IsMoment}
use Rattle.proof_commits.proofs.Course.Closings.{commits_early}
use Rattle.proof_commits.proofs.Course.Swaps.{checked, tomb_stays}
use Rattle.proof_commits.specs.Stages.{stage_of, stage_of_actor}
use Rattle.proof_commits.proofs.Known.Given.{Known, RootsAreOpen}
use Rattle.proof_commits.proofs.Known.Acts.{known_by, known_run}
use Rattle.proof_commits.specs.Words.{words_of}
use Rattle.proof_commits.proofs.Lines.Read.{generation_stays, solid_stays}
use Rattle.proof_commits.proofs.Lines.Reads.{ends_at_end}
use Rattle.proof_commits.proofs.Words.Along.{protocol}
use Rattle.proof_commits.proofs.Words.OfRuns.{link_made}
use Rattle.proof_commits.proofs.Course.Moments.{moment_noted}
use Rattle.proof_commits.proofs.Lines.Swap.{runs_deciding, runs_publishing, in_swap_fresh, reads_stage}
use Rattle.proof_commits.specs.Runs.{HasIndirection}
use Rattle.proof_commits.specs.Laws.{IsInSwap, Owner, PrevChange, Stays, IsSwappedIn, IsCommitted as ChangeCommitted, HasFailed, known_after}
use Rattle.proof_commits.specs.Laws.{CommitsMain, IsGiven}
use Rattle.proof_commits.specs.Laws.{IsTomb}
use Rattle.proof_memory.specs.Wants.{is_indirection, is_branch_or_list}
use Rattle.proof_memory.specs.Laws.{IsInUse}
use Rattle.proof_memory.proofs.Claims.Reads.{read_claims, read_link}
use Rattle.proof_memory.proofs.Claims.Uses.{meets_of, safe_of}
use Rattle.proof_memory.proofs.Heap.Moves.{used_before}
use Rattle.proof_memory.proofs.Safety.AtTimes.{line_behind}
use Rattle.proof_commits.specs.Beneath.machine_model.proofs.Grown.{grown_in_use, node_grown, prev_grown}
use Rattle.proof_commits.specs.Beneath.machine_model.proofs.Numbered.{step_leads, step_noted}
use Rattle.proof_commits.specs.Beneath.machine_model.proofs.Notes.{noted_going}
use Rattle.proof_commits.specs.Beneath.machine_model.proofs.Alike.{alike, go_actor, moment_own}
use Rattle.proof_commits.proofs.Known.MainsInUse.{logical_standing}

-- what is known of the words of every run
abbrev pub known_from : (limits : Bounds) (steps : List Step) → AreBounds limits → Known limits (states_of limits steps) (last_of limits steps)
known_from limits steps ok = known_run (run_is limits steps ok)

-- a step changes the logical main node of an indirection
pub record Changes (states : ℕ → State) (n : ℕ) (i : Ref) : Type 0 where
  pub has : HasIndirection (states n) i
  pub still : HasIndirection (states (suc n)) i
  pub other : logical_main (states (suc n)).heap i ≡ logical_main (states n).heap i → ⊥

-- roots are open where they are asked for: the layer of roots shows it
abbrev pub RootsOfRuns : Type 0
RootsOfRuns =
    (limits : Bounds) (steps : List Step) → AreBounds limits →
    RootsAreOpen (states_of limits steps) (last_of limits steps) (λ g. closed_at (records_of limits steps (last_of limits steps)) g)

abbrev pub known_of : RootsOfRuns → (limits : Bounds) (steps : List Step) → AreBounds limits → Known limits (states_of limits steps) (last_of limits steps)
known_of roots limits steps ok =
    known_by (run_is limits steps ok) (λ g. closed_at (records_of limits steps (last_of limits steps)) g) (roots limits steps ok)

-- ---- owners

-- of one state
abbrev pub OwnedIn : State → Type 0
OwnedIn state =
    (fresh replaced : Ref) → IsInUse state.heap fresh → prev_at state.heap fresh ≡ over.Pending replaced →
    (indirection : Ref) × (owner : Owner state indirection replaced fresh)
    × ((actor : ℕ) (operation : Operation) (i r : Ref) (l : SwapLine) → operation_of state actor ≡ Some operation → IsInSwap operation i r fresh l → actor ≡ owner.actor)

pub given_read : (i : Ref) (out : After ReadLine Ref) (m : Ref) → at_indirection i out ≡ Gives m → out ≡ Gives m
given_read i (Gives x) m e = cc
given_read i (Goes l) m e = let wrong : ⊥ = cc in absurd wrong

module _ (limits : Bounds) (ok : AreBounds limits) (steps : List Step) (known : Known limits (states_of limits steps) (last_of limits steps)) where
  abbrev pub states : ℕ → State
  states = states_of limits steps

  abbrev last : ℕ
  last = last_of limits steps

  abbrev p : Protocol
  p = protocol limits states last known

  abbrev w : Words
  w = words_of states known.run.records last known.closing

  prev_in_use : (t : ℕ) (m : Ref) → IsInUse (states t).heap m → prev_at (states t).heap m ≡ w.prev t m
  prev_in_use t m h = prev_grown states t m h.0 h.1

  -- the owner in the protocol is one in the machine
  machine_owner : (t : ℕ) (m q : Ref) (o : Owned.Owner w t m q) → Owner (states t) o.link q m
  machine_owner t m q o =
      let runs = runs_deciding (operation_of (states t) o.actor) o.link q m o.line o.stage in
      record { actor = o.actor; operation = runs.operation; runs = runs.is; line = o.line; swaps = runs.swaps }

  owner_alone : (t : ℕ) → t ≤ last → (m q : Ref) (o : Owned.Owner w t m q) (actor : ℕ) → HasFresh (w.stage t actor) m → (actor ≡ o.actor) ⊎ (actor ≡ o.actor → ⊥) → actor ≡ o.actor
  owner_alone t h m q o actor has (inl same) = same
  owner_alone t h m q o actor has (inr other) = absurd ((sound_at p t h).apart actor o.actor m other has (subst (λ s. HasFresh s m) (sym o.stage) refl))

  pub owned_at : (t : ℕ) → t ≤ last → OwnedIn (states t)
  unfolding machine_owner
  owned_at t h fresh replaced used pend =
      let o = (sound_at p t h).owned fresh replaced (sym (prev_in_use t fresh used) ∙ pend) in (
        o.link,
        machine_owner t fresh replaced o,
        λ actor operation i r l runs swaps.
            owner_alone t h fresh replaced o actor (subst (λ x. HasFresh (stage_of_actor x) fresh) (sym runs) (in_swap_fresh operation i r fresh l swaps)) (cases_eq actor o.actor),
      )

  -- ---- prev words

  prev_change_by : (n : ℕ) → n < last → (m : Ref) → IsInUse (states n).heap m → IsInUse (states (suc n)).heap m → Becomes w n m → PrevChange (states n) (states (suc n)) m
  prev_change_by n h m used still (Same e) = Stays (prev_in_use (suc n) m still ∙ e ∙ sym (prev_in_use n m used))
  prev_change_by n h m used still (GoesIn i a l x private d) =
      let by = swapper w n (sound_at p n (omega arith)) (p.turn n h) m a private.none x.prev.here in
      let runs = runs_publishing (operation_of (states n) by.0) by.1 a m by.2 in
      IsSwappedIn by.0 runs.operation by.1 runs.is runs.swaps (prev_in_use n m used ∙ private.none) (prev_in_use (suc n) m still ∙ x.prev.here)
  prev_change_by n h m used still (IsCommitted q x) = ChangeCommitted (prev_in_use n m used ∙ x.was) (prev_in_use (suc n) m still ∙ x.prev.here)
  prev_change_by n h m used still (IsFailed q x) = HasFailed (prev_in_use n m used ∙ x.was) (prev_in_use (suc n) m still ∙ x.prev.here)

  pub prev_changes : (n : ℕ) → n < last → (m : Ref) → IsInUse (states n).heap m → IsInUse (states (suc n)).heap m → PrevChange (states n) (states (suc n)) m
  prev_changes n h m used still = prev_change_by n h m used still (becomes w n (effect p n h) m)

  decided_by : (n k l : ℕ) → n ≤ k → k ≤ l → l ≤ last → (m q i : Ref) → Stood w n i m → (w.prev k m ≡ over.Pending q → ⊥) → Fate w n k m q → w.prev l m ≡ w.prev k m
  decided_by n k l nk kl h m q i s other (StillPending e) = absurd (other e)
  decided_by n k l nk kl h m q i s other (FateFailed e) = failed_final p m q k l kl h e ∙ sym e
  decided_by n k l nk kl h m q i s other (HasCommitted c e) = none_final p i m k l kl h (stood_still nk s) e ∙ sym e

  pub decided_for_good_at : (n k l : ℕ) → n ≤ k → k ≤ l → l ≤ last → (m q : Ref) → IsInUse (states n).heap m → IsInUse (states k).heap m → IsInUse (states l).heap m →
      prev_at (states n).heap m ≡ over.Pending q → (prev_at (states k).heap m ≡ over.Pending q → ⊥) → prev_at (states l).heap m ≡ prev_at (states k).heap m
  decided_for_good_at n k l nk kl h m q at_n at_k at_l pend other =
      let was = sym (prev_in_use n m at_n) ∙ pend in
      let below = (sound_at p n (omega arith)).words.over m q (over_pending was) in
      prev_in_use l m at_l
      ∙ decided_by n k l nk kl h m q below.link below.stood (λ e. other (prev_in_use k m at_k ∙ e)) (fate p below.link m q n k nk (omega arith) below.stood was)
      ∙ sym (prev_in_use k m at_k)

  -- ---- logical main nodes

  node_in_use : (t : ℕ) (i : Ref) → IsInUse (states t).heap i → node_at (states t).heap i ≡ node_under states t i
  node_in_use t i h = node_grown states t i h.0 h.1

  link_in_use : (t : ℕ) (i : Ref) → HasIndirection (states t) i → is_indirection (node_under states t i) ≡ true
  link_in_use t i h = subst (λ x. is_indirection x ≡ true) (node_in_use t i h.0) h.1

  -- an indirection that stood under the reference by then, and is in use later, is in use then
  had_before : (t u : ℕ) → t ≤ u → u ≤ last → (i : Ref) → w.link t i ≡ true → HasIndirection (states u) i → HasIndirection (states t) i
  had_before t u below within i link has =
      let (was, made) = option_tested (grown states t i) (link_made (grown states t i) link) in
      let used = used_before known.run t u below within i was made has.0 in
      (used, ap is_indirection (node_in_use t i used) ∙ link)

  main_in_use : (t : ℕ) → t ≤ last → (i : Ref) → HasIndirection (states t) i → logical_main (states t).heap i ≡ Protocol'.logical_at w t i
  main_in_use t h i has = logical_standing limits states last known t h i has.0.0 has.0.1 (link_in_use t i has)

  main_change_by : (n : ℕ) → n < last → (i : Ref) → HasIndirection (states n) i → HasIndirection (states (suc n)) i → MainStep w n i →
      (logical_main (states (suc n)).heap i ≡ logical_main (states n).heap i) ⊎ CommitsMain (states n) (states (suc n)) i
  main_change_by n h i has still (MainStays e) = inl (main_in_use (suc n) h i still ∙ e ∙ sym (main_in_use n (omega arith) i has))
  main_change_by n h i has still (MainChanges c) =
      let sound = sound_at p n (omega arith) in
      let o = sound.owned c.fresh c.replaced c.commits.was in
      let same : o.link ≡ i =
      sound.words.one_word c.fresh o.link i (λ none. none≢pending none c.commits.was) (stands_now o.is_link o.stands) (stands_now (link_in_use n i has) c.stands) in
      inr (record {
        fresh = c.fresh;
        replaced = c.replaced;
        stands = ap main_of (node_in_use n i has.0) ∙ c.stands;
        was = main_in_use n (omega arith) i has ∙ c.before;
        is = main_in_use (suc n) h i still ∙ c.after;
        owner = subst (λ j. Owner (states n) j c.replaced c.fresh) same (machine_owner n c.fresh c.replaced o);
      })

  pub main_changes : (n : ℕ) → n < last → (i : Ref) → HasIndirection (states n) i → HasIndirection (states (suc n)) i →
      (logical_main (states (suc n)).heap i ≡ logical_main (states n).heap i) ⊎ CommitsMain (states n) (states (suc n)) i
  main_changes n h i has still = main_change_by n h i has still (main_step p n h i (link_in_use n i has))

  pub replaced_at : (n k l : ℕ) → n ≤ k → k ≤ l → l ≤ last → (i : Ref) → HasIndirection (states n) i → HasIndirection (states k) i → HasIndirection (states l) i →
      (logical_main (states k).heap i ≡ logical_main (states n).heap i → ⊥) → logical_main (states l).heap i ≡ logical_main (states n).heap i → ⊥
  replaced_at n k l nk kl h i at_n at_k at_l other back =
      let main = main_in_use n (omega arith) i at_n in
      replaced_for_good p i (logical_main (states n).heap i) n k l nk kl h (link_in_use n i at_n) (sym main) (λ e. other (main_in_use k (omega arith) i at_k ∙ e))
      (sym (main_in_use l h i at_l) ∙ back)

  not_solid : (node : Node) → IsTomb node → is_branch_or_list node ≡ false
  not_solid (Tomb single) h = refl
  not_solid node h = absurd h

  pub tomb_at : (n k : ℕ) → n ≤ k → k ≤ last → (i a : Ref) → HasIndirection (states n) i → HasIndirection (states k) i → logical_main (states n).heap i ≡ a →
      IsInUse (states n).heap a → IsTomb (node_at (states n).heap a) → logical_main (states k).heap i ≡ a
  tomb_at n k nk h i a at_n at_k is used tomb =
      let solid : w.solid a ≡ false =
      solid_stays limits states last known n a (omega arith) (ap is_some (grown_in_use states n a used.0 used.1)) ∙ ap is_branch_or_list (sym (node_in_use n a used))
      ∙ not_solid (node_at (states n).heap a) tomb in
      main_in_use k h i at_k ∙ tomb_stays p i a n k nk h (link_in_use n i at_n) solid (sym (main_in_use n (omega arith) i at_n) ∙ is)

  -- ---- what a READ gives

  -- of a moment, over the states
  abbrev pub MomentOver : (ℕ → State) → ℕ → Ref → Ref → ℕ → ℕ → Type 0
  MomentOver s n i m r mu =
      (r ≤ mu) × (mu ≤ n) × HasIndirection (s (mu + 1)) i × (logical_main (s (mu + 1)).heap i ≡ m)
      × ((k : ℕ) → r < k → k ≤ mu → HasIndirection (s k) i × (logical_main (s k).heap i ≡ m → ⊥))

  -- the indirection that a READ reads is in use behind its step
  pub read_behind : (n : ℕ) → n < last → (actor : ℕ) (operation : Operation) → operation_of (states n) actor ≡ Some operation → (read : Read) →
      read_of operation.line ≡ Some read → HasIndirection (states (suc n)) read.indirection
  read_behind n h actor operation runs read reads =
      let heap = (states (suc n)).heap in
      let claims = read_claims (IsInUse heap) heap read limits.hash operation.call operation.access operation.line reads (line_behind known.run n h actor operation runs) in
      let found = read_link (IsInUse heap) heap read.indirection read.line claims in
      (safe_of found, meets_of found)

  -- so it was since its last read or swap of the main word
  read_there : (n : ℕ) → n < last → (i m : Ref) (r mu : ℕ) → IsMoment w i m r mu n → HasIndirection (states (suc n)) i → (k : ℕ) → r < k → k ≤ suc n → HasIndirection (states k) i
  read_there n h i m r mu moment has k after before =
      let stood : Stood w k i m = record { at = suc r; past = omega (arith, after); link = moment.link; is = moment.stood } in
      had_before k (suc n) before (omega (arith, h)) i ((sound_at p k (omega (arith, h, before))).words.link i m stood) has

  pub moment_over : (n : ℕ) → n < last → (i m : Ref) (r mu : ℕ) → IsMoment w i m r mu n → HasIndirection (states (suc n)) i → MomentOver states n i m r mu
  moment_over n h i m r mu moment has =
      let there = read_there n h i m r mu moment has (suc mu) (omega (arith, moment.from)) (omega (arith, moment.past)) in
      let behind : HasIndirection (states (mu + 1)) i × (logical_main (states (mu + 1)).heap i ≡ m) =
      subst (λ k. HasIndirection (states k) i × (logical_main (states k).heap i ≡ m)) (sym (add-one mu))
      (there, main_in_use (suc mu) (omega (arith, moment.past, h)) i there ∙ moment.is) in (
        moment.from,
        moment.past,
        behind.0,
        behind.1,
        λ k after before.
            let has_k = read_there n h i m r mu moment has k after (omega (arith, moment.past, before)) in
            (has_k, λ same. moment.first k after before (sym (main_in_use k (omega (arith, moment.past, h, before)) i has_k) ∙ same)),
      )

  -- a step of an operation that isn't its end
  goes_on : (before : State) (actor : ℕ) (o : Outcome) (after : State) → Machine.Moves before (step.Go actor) o after → (operation : Operation) →
      operation_of before actor ≡ Some operation → ((answer : Reply) → action_of before operation ≡ act.End answer → ⊥) → Machine.GoesOn (action_of before operation)
  goes_on before actor o after (Machine.Goes {operation = x} d is a g) operation runs goes =
      subst Machine.GoesOn (sym a ∙ ap (action_of before) (same_Some _ _ (sym is ∙ runs))) g
  goes_on before actor o after (Machine.Ends {operation = x} {answer} d is a) operation runs goes =
      absurd (goes answer (ap (action_of before) (sym (same_Some _ _ (sym is ∙ runs))) ∙ a))

  allowed : {before : State} {actor : ℕ} {o : Outcome} {after : State} → Machine.Moves before (step.Go actor) o after → go_denial before actor ≡ None
  allowed (Machine.Goes d is a g) = d
  allowed (Machine.Ends d is a) = d

  not_rests : (i : Ref) (x : ReadLine) → Reads i x ≡ Rests → ⊥
  not_rests i x e = cc

  pub moment_of_given : known.run.records ≡ records_of limits steps → (n : ℕ) → n < last → (i m : Ref) (g : IsGiven limits steps n i m) →
      IsMoment w i m (known_after g).read_at (known_after g).moment n
  moment_of_given same n h i m g =
      let leads = step_leads limits steps n (step.Go g.actor) g.step in
      let stage = reads_stage g.operation.line g.read g.no_swap g.reads in
      let goes = λ (answer : Reply) (a : action_of (states n) g.operation ≡ act.End answer).
      not_rests g.read.indirection g.read.line (sym stage ∙ ends_at_end (states n) g.operation g.operation.line answer a) in
      let on = goes_on (states n) g.actor leads.0 (states (suc n)) leads.1 g.operation g.runs goes in
      let recorded = step_noted limits steps n (step.Go g.actor) g.step ∙ noted_going (states n) (records_of limits steps n) g.actor g.operation _ g.runs refl on in
      let noted : known.run.records (suc n) ≡ noted_progress (known.run.records n) (states n).steps g.actor (progress_of (states n) g.operation) =
      subst (λ (r : ℕ → Record). r (suc n) ≡ noted_progress (r n) (states n).steps g.actor (progress_of (states n) g.operation)) (sym same) recorded in
      let told : moment_after (known.run.records n) (states n).steps (progress_of (states n) g.operation) (moment_at (known.run.records n) g.actor) ≡ known_after g =
      sym (ap (λ r. moment_at r g.actor) noted
      ∙ moment_own (states n) (known.run.records n) g.actor _ (alike known.run n (omega arith)) (go_actor (states n) g.actor (allowed leads.1)))
      ∙ ap (λ (r : ℕ → Record). moment_at (r (suc n)) g.actor) same in
      subst (λ j. IsMoment w j m (known_after g).read_at (known_after g).moment n) g.of
      (subst (λ (x : Moment). IsMoment w g.read.indirection m x.read_at x.moment n) told
      (moment_noted limits states last known n h g.actor g.operation leads.0 leads.1 g.runs noted g.read.indirection g.read.line stage m
      (given_read g.read.indirection (read_after (states n).heap g.operation.access (word_at (states n) (handle_of g.operation.call)) g.read.indirection g.read.line) m g.gives)))

  -- ---- what is final

  -- the closings are told
  abbrev pub Told : Type 0
  Told = (g : ℕ) → known.closing g ≡ closed_at (known.run.records last) g

  pub for_good_at : Told → (n : ℕ) → n < last → (i m : Ref) (r mu : ℕ) → IsMoment w i m r mu n → (closed : ℕ) → HasIndirection (states n) i →
      closed_at (known.run.records last) (generation_at (states n).heap i) ≡ Some closed → closed < r →
      (k : ℕ) → mu < k → k ≤ last → HasIndirection (states k) i → logical_main (states k).heap i ≡ m
  for_good_at told n h i m r mu moment closed has is before k after within still =
      let generation : generation_at (states n).heap i ≡ generation_of (node_under states last i) =
      ap generation_of (node_in_use n i has.0) ∙ sym (generation_stays limits states last known n i (omega arith) (link_in_use n i has)) in
      main_in_use k within i still
      ∙ protocol_for_good p i m r mu n closed moment (told (generation_of (node_under states last i)) ∙ ap (closed_at (known.run.records last)) (sym generation) ∙ is) before h k after within

  -- ---- after a closing

  closing_at : Told → (n : ℕ) → n ≤ last → (i : Ref) (c : ℕ) → HasIndirection (states n) i → closed_at (known.run.records last) (generation_at (states n).heap i) ≡ Some c →
      known.closing (generation_of (node_under states last i)) ≡ Some c
  closing_at told n h i c has is =
      let generation : generation_at (states n).heap i ≡ generation_of (node_under states last i) =
      ap generation_of (node_in_use n i has.0) ∙ sym (generation_stays limits states last known n i h (link_in_use n i has)) in
      told (generation_of (node_under states last i)) ∙ ap (closed_at (known.run.records last)) (sym generation) ∙ is

  -- a step that changes a logical main node commits
  changes_commit : (n : ℕ) → n < last → (i : Ref) → Changes states n i → MainStep w n i → Changed w n i
  changes_commit n h i x (MainStays e) = absurd (x.other (main_in_use (suc n) h i x.still ∙ e ∙ sym (main_in_use n (omega arith) i x.has)))
  changes_commit n h i x (MainChanges c) = c

  changed_at : (n : ℕ) → n < last → (i : Ref) → Changes states n i → Changed w n i
  changed_at n h i x = changes_commit n h i x (main_step p n h i (link_in_use n i x.has))

  pub late_stood_at : Told → (c n : ℕ) → c ≤ n → n < last → (i : Ref) → Changes states n i → closed_at (known.run.records last) (generation_at (states n).heap i) ≡ Some c →
      (k : ℕ) × (k ≤ c) × HasIndirection (states k) i × (main_at (states k).heap i ≡ main_at (states n).heap i)
  late_stood_at told c n late h i changes closing =
      let x = changed_at n h i changes in
      let early = commits_early p n h i x.fresh x.replaced x.commits (stands_now (link_in_use n i changes.has) x.stands) in
      let there = had_before early.at n (omega (arith, early.past)) (omega arith) i early.link changes.has in (
        early.at,
        early.early c (closing_at told n (omega arith) i c changes.has closing),
        there,
        ap main_of (node_in_use early.at i there.0) ∙ early.is ∙ sym x.stands ∙ sym (ap main_of (node_in_use n i changes.has.0)),
      )

  pub late_once_at : Told → (c n k : ℕ) → c ≤ n → n < k → k < last → (i : Ref) → Changes states n i → Changes states k i →
      closed_at (known.run.records last) (generation_at (states n).heap i) ≡ Some c → ⊥
  late_once_at told c n k late before h i x y closing =
      closed_once p i c (closing_at told n (omega arith) i c x.has closing) n k late before h (link_in_use k i y.has) (changed_at n (omega arith) i x) (changed_at k h i y)

  pub checked_at : (t : ℕ) → t ≤ last → (actor : ℕ) (operation : Operation) (i a f q : Ref) → operation_of (states t) actor ≡ Some operation → IsInSwap operation i a f swap.Check →
      IsInUse (states t).heap f → prev_at (states t).heap f ≡ over.Pending q → ⊥
  checked_at t h actor operation i a f q runs swaps used pend =
      checked w t actor (sound_at p t h) i a f (ap stage_of_actor runs ∙ ap stage_of swaps.1) q (sym (prev_in_use t f used) ∙ pend)
