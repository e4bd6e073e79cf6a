-- What was replaced somewhere, or has failed, is private to nobody: who decided it, or another one over it, had it at hand, and nothing of its own.
use Rattle.std.proofs.Common.{◌≡◌, ℕ, zero, suc, ◌+◌, ◌<◌, ◌≤◌, ◌⊎◌, [], Contains, get_or, Some, None, inl, inr, refl, sym, ap, ◌∙◌, subst, arith}
use Rattle.std.proofs.lemmas.Bool.{cases_eq}
use Rattle.std.proofs.lemmas.Option.{same_Some}
use Rattle.std.proofs.lemmas.List.Elements.{Contains-append_left}
use Rattle.proof_reuse.specs.Beneath.slot_arena.specs.declared.refs.Ref.{Ref}
use Rattle.proof_reuse.specs.Beneath.machine_model.specs.declared.lines.Line.TheVariants as line
use Rattle.proof_reuse.specs.Beneath.machine_model.specs.declared.lines.Purpose.{Purpose}
use Rattle.proof_reuse.specs.Beneath.machine_model.specs.declared.operations.Operation.{Operation}
use Rattle.proof_reuse.specs.Beneath.machine_model.specs.declared.reading.ReadLine.{ReadLine}
use Rattle.proof_reuse.specs.Beneath.machine_model.specs.declared.reading.SwapLine.TheVariants as swap
use Rattle.proof_reuse.specs.Beneath.machine_model.specs.declared.steps.Bounds.{Bounds}
use Rattle.proof_reuse.specs.Beneath.machine_model.specs.declared.steps.Step.{Step}
use Rattle.proof_reuse.specs.Beneath.machine_model.specs.Moves.{Moves}
use Rattle.proof_reuse.specs.Beneath.machine_model.specs.States.{State, operation_of}
use Rattle.proof_reuse.specs.Beneath.machine_model.specs.Times.{IsRun, Turn, turns, noted_turn}
use Rattle.proof_reuse.specs.Beneath.machine_model.proofs.Fates.{place_of_actor}
use Rattle.proof_reuse.specs.Beneath.proof_memory.specs.Laws.{IsInUse}
use Rattle.proof_reuse.specs.Beneath.proof_memory.specs.Wants.{AllHold, line_wants, purpose_wants, swap_wants}
use Rattle.proof_reuse.specs.Beneath.proof_memory.proofs.Claims.Uses.{first_hold, safe_of}
use Rattle.proof_reuse.specs.Beneath.proof_memory.proofs.Safety.AtEachTime.{safe_at}
use Rattle.proof_reuse.specs.Beneath.proof_memory.proofs.Safety.AtTimes.{line_at}
use Rattle.proof_reuse.specs.Beneath.proof_commits.specs.Protocol.{Protocol}
use Rattle.proof_reuse.specs.Beneath.proof_commits.proofs.Course.Finals.{effect, from_time}
use Rattle.proof_reuse.specs.Beneath.proof_commits.proofs.Known.Sounds.{sound_at}
use Rattle.proof_reuse.specs.Beneath.proof_commits.proofs.Lines.Swap.{runs_deciding}
use Rattle.proof_reuse.specs.Beneath.proof_commits.proofs.Words.Effects.{Becomes, Same, GoesIn, IsCommitted, IsFailed, becomes}
use Rattle.proof_reuse.specs.Beneath.proof_commits.proofs.Words.Stood.{pending≢failed}
use Rattle.proof_reuse.specs.Beneath.proof_generations.proofs.Falling.KnownRoots.{protocol_of}
use Rattle.proof_reuse.specs.Beneath.machine_model.proofs.Basics.{none≢failed}
use Rattle.proof_reuse.specs.Beneath.slot_arena.specs.declared.nodes.Prev.TheVariants as prev
use Rattle.proof_reuse.specs.Beneath.proof_contents.specs.Runs.{counting_main}
use Rattle.proof_reuse.specs.Beneath.proof_generations.proofs.Handles.Operations.{has_handles_at}
use Rattle.proof_reuse.specs.Beneath.proof_shape.specs.Lines.Commits.{MainStep, stays, changes, made_with}
use Rattle.proof_reuse.specs.Beneath.proof_shape.proofs.Commits.At.{commits_at}
use Rattle.proof_reuse.specs.Beneath.proof_shape.proofs.Runs.RunOf.{run_of}
use Rattle.proof_reuse.specs.Beneath.proof_garbage.specs.Live.{line_claims, refs_of_claims, from_operation}
use Rattle.proof_reuse.specs.Beneath.proof_garbage.proofs.Claims.{none_in}
use Rattle.proof_reuse.specs.Beneath.proof_garbage.proofs.Private.{AllPrivate, private_along}
use Rattle.proof_reuse.specs.Beneath.proof_garbage.proofs.Public.{IsPublic, public_then}
use Rattle.proof_fresh.proofs.Lines.{LineHas}
use Rattle.proof_fresh.proofs.At.{has_at}

module _ {limits : Bounds} {states : ℕ → State} {last : ℕ} (run : IsRun limits states last) (i m : Ref) where
  -- an operation that decides it, or one that is to stand in its place
  pub record IsDecided : Type 0 where
    pub at : ℕ
    pub within : at ≤ last
    pub actor : ℕ
    pub owner : Operation
    pub runs : operation_of (states at) actor ≡ Some owner
    pub why : Purpose
    pub link : Ref
    pub replaced : Ref
    pub fresh : Ref
    pub deciding : ReadLine
    pub swaps : owner.line ≡ line.Swap why (record { indirection = link; replaced = replaced; fresh = fresh; line = swap.Deciding deciding })
    pub which : (replaced ≡ m) ⊎ (fresh ≡ m)

  -- ---- where another one is committed over it

  -- one step, and what is found later
  over_by : (n : ℕ) → n < last → counting_main states last n i ≡ m → (counting_main states last (suc n) i ≡ m → IsDecided) → (s : Step) →
      MainStep limits states run.records last (made_with states last) n s → IsDecided
  over_by n lt is later s (stays none all) = later (all i ∙ is)
  over_by n lt is later s (changes own) = elim (cases_eq i own.indirection) [
    | inl same ↦ record {
      at = n;
      within = omega (arith, lt);
      actor = own.actor;
      owner = own.owner;
      runs = own.runs;
      why = own.why;
      link = own.indirection;
      replaced = own.replaced;
      fresh = own.fresh;
      deciding = own.deciding;
      swaps = own.swaps;
      which = inl (sym own.before ∙ ap (counting_main states last n) (sym same) ∙ is);
    }
    | inr apart ↦ later (own.others i apart ∙ is)
  ]

  over_turn : (n : ℕ) → n < last → counting_main states last n i ≡ m → (counting_main states last (suc n) i ≡ m → IsDecided) →
      (turn : Turn (states n) (states (suc n))) → run.records (suc n) ≡ noted_turn turn (run.records n) → IsDecided
  over_turn n lt is later (turns s o mv) noted = over_by n lt is later s (commits_at run n lt s o mv noted)

  pub committed_over : (d n k : ℕ) → n + d ≡ k → k ≤ last → counting_main states last n i ≡ m → (counting_main states last k i ≡ m → ⊥) → IsDecided
  committed_over zero n k e within is gone = let same : n ≡ k = omega (arith, e) in absurd (gone (ap (λ t. counting_main states last t i) (sym same) ∙ is))
  committed_over (suc d) n k e within is gone =
      let lt : n < last = omega (arith, e, within) in
      over_turn n lt is (λ still. committed_over d (suc n) k (omega (arith, e)) within still gone) (run.turn n lt) (run.recorded n lt)

  -- ---- where it has failed

  abbrev p : Protocol
  p = protocol_of run

  failed_step : (t : ℕ) (h : t < last) (a : Ref) → p.words.prev (suc t) m ≡ prev.Failed a → (p.words.prev t m ≡ prev.Failed a → IsDecided) → Becomes p.words t m → IsDecided
  failed_step t h a e later (Same keeps) = later (sym keeps ∙ e)
  failed_step t h a e later (GoesIn j q l swaps private d) = absurd (pending≢failed swaps.prev.here e)
  failed_step t h a e later (IsCommitted q commits) = absurd (none≢failed commits.prev.here e)
  failed_step t h a e later (IsFailed q fails) =
      let owner = (sound_at p t (omega (arith, h))).owned m q fails.was in
      let its = runs_deciding (operation_of (states t) owner.actor) owner.link q m owner.line owner.stage in
      record {
        at = t;
        within = omega (arith, h);
        actor = owner.actor;
        owner = its.operation;
        runs = its.is;
        why = its.swaps.0;
        link = owner.link;
        replaced = q;
        fresh = m;
        deciding = owner.line;
        swaps = its.swaps.1;
        which = inr refl;
      }

  pub has_failed : (t : ℕ) → t ≤ last → (a : Ref) → p.words.prev t m ≡ prev.Failed a → IsDecided
  has_failed zero h a e = absurd (none≢failed (p.first_decided m) e)
  has_failed (suc t) h a e = failed_step t h a e (λ before. has_failed t (omega (arith, h)) a before) (becomes p.words t (effect p t h) m)

  -- ---- then it is private to nobody

  module _ (c : IsDecided) where
    abbrev state : State
    state = states c.at

    claims : AllHold (IsInUse (states c.at).heap) (states c.at).heap (swap_wants (record { indirection = c.link; replaced = c.replaced; fresh = c.fresh; line = swap.Deciding c.deciding }))
    claims =
        first_hold (IsInUse state.heap) state.heap (swap_wants (record { indirection = c.link; replaced = c.replaced; fresh = c.fresh; line = swap.Deciding c.deciding })) (purpose_wants c.why)
        (subst (λ l. AllHold (IsInUse state.heap) state.heap (line_wants limits.hash c.owner.call c.owner.access l)) c.swaps (line_at run c.at c.within c.actor c.owner c.runs))

    its_use : IsInUse (states c.at).heap m
    its_use = elim c.which [
      | inl same ↦ subst (IsInUse state.heap) same (safe_of claims.1.0)
      | inr same ↦ subst (IsInUse state.heap) same (safe_of claims.1.1.0)
    ]

    all_private : AllPrivate (states c.at)
    all_private = let (steps, is) = run_of run c.at c.within in subst AllPrivate (sym is) (private_along limits run.limits_ok steps)

    holds_none : c.owner.private ≡ []
    holds_none = subst (λ l. LineHas run c.at c.actor c.owner.id c.owner.generation c.owner.private l) c.swaps (has_at run c.at c.within c.actor c.owner c.runs)

    in_line : Contains (refs_of_claims (line_claims (states c.at) c.owner)) m
    in_line =
        subst (λ l. Contains (refs_of_claims (line_wants state.limits.hash c.owner.call c.owner.access l)) m) (sym c.swaps)
        (elim c.which [ inl same ↦ (1, omega arith, same) | inr same ↦ (2, omega arith, same) ])

    not_private : (k : ℕ) (operation : Operation) → get_or (states c.at).actors k None ≡ Some operation → Contains operation.private m → ⊥
    not_private k operation found own =
        let (j, its, at_j) = place_of_actor state c.actor c.owner c.runs in
        elim (cases_eq k j) [
          | inl same ↦
              let it : operation ≡ c.owner = same_Some _ _ (sym found ∙ ap (λ n. get_or state.actors n None) same ∙ at_j) in
              none_in m (subst (λ xs. Contains xs m) (ap (λ (o : Operation). o.private) it ∙ holds_none) own)
          | inr apart ↦
              all_private k operation found m own
              (from_operation c.actor c.owner m c.runs (λ e. apart (sym ((has_handles_at run c.at c.within).0.ids.distinct j k c.owner operation at_j found e)))
              (Contains-append_left (refs_of_claims (line_claims state c.owner)) c.owner.private m in_line))
        ]

    public_at : IsPublic m (states c.at)
    public_at = record { made = (safe_at run c.at c.within).births m its_use.0 its_use.1; apart = not_private }

    pub public_then_on : IsPublic m (states last)
    public_then_on = from_time (λ v. IsPublic m (states v)) c.at last public_at (λ v low lt h. by_turn v lt h (run.turn v lt)) last c.within (omega arith)
      where
        by_turn : (v : ℕ) → v < last → IsPublic m (states v) → Turn (states v) (states (suc v)) → IsPublic m (states (suc v))
        by_turn v lt h (turns s o mv) =
            let (steps, is) = run_of run v (omega (arith, lt)) in
            public_then limits run.limits_ok steps m (subst (IsPublic m) is h) s o (states (suc v)) (subst (λ b. Moves b s o (states (suc v))) is mv)
