-- An indirection is made over a decided main node.
use Rattle.std.proofs.Common.{◌≡◌, inl, inr, ℕ, suc, Bool, true, false, List, [], ◌∷◌, ◌++◌, Some, Ok, sym, ap, subst, ◌∙◌, arith}
use Rattle.std.proofs.lemmas.Bool.{cases_eq, true≢false}
use Rattle.proof_claims.specs.Beneath.slot_arena.specs.declared.nodes.Prev.TheVariants as prev
use Rattle.proof_claims.specs.Beneath.slot_arena.specs.declared.refs.Ref.{Ref}
use Rattle.proof_claims.specs.Beneath.slot_arena.specs.Heaps.{main_at, main_of, next_ref, node_at, node_of, prev_at}
use Rattle.proof_claims.specs.Beneath.machine_model.specs.declared.steps.Bounds.{Bounds}
use Rattle.proof_claims.specs.Beneath.machine_model.specs.declared.steps.Outcome.{Outcome}
use Rattle.proof_claims.specs.Beneath.machine_model.specs.declared.steps.Step.{Step}
use Rattle.proof_claims.specs.Beneath.machine_model.specs.Machine.{AreBounds, next, run}
use Rattle.proof_claims.specs.Beneath.machine_model.specs.States.{State}
use Rattle.proof_claims.specs.Beneath.machine_model.specs.Times.{IsRun, last_of, states_of}
use Rattle.proof_claims.specs.Beneath.machine_model.proofs.Grown.{node_grown, prev_grown}
use Rattle.proof_claims.specs.Beneath.machine_model.proofs.Times.{run_ends, run_is}
use Rattle.proof_claims.specs.Beneath.proof_commits.specs.Protocol.{Protocol, Words}
use Rattle.proof_claims.specs.Beneath.proof_commits.proofs.Course.Finals.{effect}
use Rattle.proof_claims.specs.Beneath.proof_commits.proofs.Words.Effects.{Committed, Effect, Failed, Made, Nothing, PutBack, SwappedIn}
use Rattle.proof_claims.specs.Beneath.proof_followed.proofs.LastStep as one_more
use Rattle.proof_claims.specs.Beneath.proof_generations.proofs.Falling.KnownRoots.{protocol_of}
use Rattle.proof_claims.specs.Beneath.proof_memory.specs.Laws.{IsInUse}
use Rattle.proof_claims.specs.Beneath.proof_memory.specs.Wants.{is_indirection}
use Rattle.proof_claims.specs.Beneath.proof_memory.proofs.Heap.Moves.{not_yet_drawn}

not_both : {b : Bool} → b ≡ true → b ≡ false → ⊥
not_both e f = true≢false (sym e ∙ f)

-- by what the step does to words
module _ (w : Words) (t : ℕ) (x : Ref) (unmade : w.link t x ≡ false) (link : w.link (suc t) x ≡ true) where
  decided_below : Effect w t → w.prev (suc t) (w.main (suc t) x) ≡ prev.None
  decided_below (Nothing e) = absurd (not_both (sym (e.makes.link x) ∙ link) unmade)
  decided_below (SwappedIn i a f l e p d) = absurd (not_both (sym (e.makes.link x) ∙ link) unmade)
  decided_below (PutBack i m p l e q s) = absurd (not_both (sym (e.makes.link x) ∙ link) unmade)
  decided_below (Committed m p e) = absurd (not_both (sym (e.makes.link x) ∙ link) unmade)
  decided_below (Failed m p e) = absurd (not_both (sym (e.makes.link x) ∙ link) unmade)
  decided_below (Made n e settled) = elim (cases_eq x n) [
    | inl same ↦
        e.prev (w.main (suc t) x)
        ∙ subst (λ y. w.prev t (w.main (suc t) y) ≡ prev.None) (sym same) ((settled (subst (λ y. w.link (suc t) y ≡ true) same link)).none)
    | inr apart ↦ absurd (not_both (sym (e.link x apart) ∙ link) unmade)
  ]

module _ (limits : Bounds) (xs : List Step) (ok : AreBounds limits) (s : Step) (o : Outcome) (after : State) (taken : next (run limits xs) s ≡ Ok (o, after)) (x : Ref)
    (drawn : next_ref (run limits xs).heap ≡ Some x) (used : IsInUse (run limits (xs ++ s ∷ [])).heap x) (link : is_indirection (node_at (run limits (xs ++ s ∷ [])).heap x) ≡ true)
    (below : IsInUse (run limits (xs ++ s ∷ [])).heap (main_at (run limits (xs ++ s ∷ [])).heap x)) where
  abbrev all : List Step
  all = xs ++ s ∷ []

  abbrev states : ℕ → State
  states = states_of limits all

  abbrev t : ℕ
  t = last_of limits xs

  last_is : last_of limits all ≡ suc t
  last_is = one_more.last_is limits ok xs s o after taken

  is_run : IsRun limits states (last_of limits all)
  is_run = run_is limits all ok

  abbrev p : Protocol
  p = protocol_of is_run

  end_is : states (suc t) ≡ run limits all
  end_is = ap states (sym last_is) ∙ run_ends limits all

  used_then : IsInUse (states (suc t)).heap x
  used_then = subst (λ (s : State). IsInUse s.heap x) (sym end_is) used

  unmade : p.words.link t x ≡ false
  unmade =
      ap (λ g. is_indirection (node_of g))
      (not_yet_drawn is_run t (omega (arith, last_is)) x (ap (λ (s : State). next_ref s.heap) (one_more.before_is limits ok xs s o after taken) ∙ drawn))

  linked : p.words.link (suc t) x ≡ true
  linked = ap is_indirection (sym (node_grown states (suc t) x used_then.0 used_then.1)) ∙ ap (λ (s : State). is_indirection (node_at s.heap x)) end_is ∙ link

  main_is : p.words.main (suc t) x ≡ main_at (run limits all).heap x
  main_is = ap main_of (sym (node_grown states (suc t) x used_then.0 used_then.1)) ∙ ap (λ (s : State). main_at s.heap x) end_is

  none : p.words.prev (suc t) (main_at (run limits all).heap x) ≡ prev.None
  none = subst (λ m. p.words.prev (suc t) m ≡ prev.None) main_is (decided_below p.words t x unmade linked (effect p t (omega (arith, last_is))))

  pub made_over_decided : prev_at (run limits all).heap (main_at (run limits all).heap x) ≡ prev.None
  made_over_decided =
      let there : IsInUse (states (suc t)).heap (main_at (run limits all).heap x) = subst (λ (s : State). IsInUse s.heap (main_at (run limits all).heap x)) (sym end_is) below in
      ap (λ (s : State). prev_at s.heap (main_at (run limits all).heap x)) (sym end_is) ∙ prev_grown states (suc t) (main_at (run limits all).heap x) there.0 there.1 ∙ none
