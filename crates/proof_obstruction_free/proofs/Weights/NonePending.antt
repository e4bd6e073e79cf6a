-- A step that swaps no main node in makes none pending.
use Rattle.std.proofs.Common.{◌≡◌, ℕ, suc, ◌==◌, Bool, true, false, inl, inr, Option, Some, None, ap, ◌∙◌}
use Rattle.std.proofs.lemmas.Bool.{cases_eq}
use Rattle.proof_obstruction_free.specs.Vocabulary.{Ref, Node, main_at, prev_of, main_changed, next_ref, Action, Verdict, Commits, Fails, Overtaken, verdict, prev_word}
use Rattle.proof_obstruction_free.specs.Beneath.slot_arena.specs.declared.nodes.Prev.TheVariants as prev
use Rattle.proof_obstruction_free.specs.Beneath.machine_model.specs.declared.actions.Action.TheVariants as act
use Rattle.proof_obstruction_free.specs.Beneath.proof_commits.proofs.Known.Given.{ActsOn, GrownStays, GrownChanges, GrownTakes, FindsPrev, Either, Decided, Taken}
use Rattle.proof_obstruction_free.specs.Beneath.proof_commits.proofs.Words.Stood.{none≢pending}
use Rattle.proof_obstruction_free.specs.Alone.{Lone}
use Rattle.proof_obstruction_free.proofs.Read.Words.{NonePending, stays_none, main_none, prev_none}

-- the action swaps no main node in
abbrev pub IsNoPublish : Action → Type 0
IsNoPublish (act.Publish i r f) = ⊥
IsNoPublish action = Unit {0}

module _ (a : Lone) where
  decided_none : (t : ℕ) (m q : Ref) (v : Verdict) → FindsPrev a.states t m → Decided a.states t m q v → NonePending a t
  decided_none t m q Commits found e = prev_none a t prev.None m found.made (λ x wrong. let bad : prev.None ≡ prev.Pending x = wrong in cc) e
  decided_none t m q Fails found e = prev_none a t (prev.Failed q) m found.made (λ x wrong. let bad : prev.Failed q ≡ prev.Pending x = wrong in cc) e
  decided_none t m q (Overtaken licensed) found e = stays_none a t e

  restored_none : (t : ℕ) (i q : Ref) (b : Bool) → Either b (GrownChanges a.states t (main_changed q) i) (GrownStays a.states t) → NonePending a t
  restored_none t i q true e = main_none a t i q e
  restored_none t i q false e = stays_none a t e

  takes_none : (t : ℕ) (n : Ref) (node : Node) → GrownTakes a.states t n node → NonePending a t
  takes_none t n node e m q none pending = elim (cases_eq m n) [
    | inl same ↦ none≢pending (ap (prev_word a.states (suc t)) same ∙ ap prev_of e.here) pending
    | inr apart ↦ none≢pending (ap prev_of (e.elsewhere m apart) ∙ none) pending
  ]

  taken_none : (t : ℕ) (node : Node) (made : Option Ref) → Taken a.states t node made → NonePending a t
  taken_none t node None e = stays_none a t e
  taken_none t node (Some n) e = takes_none t n node e

  pub none_pending : (t : ℕ) (action : Action) → IsNoPublish action → ActsOn a.states t action → NonePending a t
  none_pending t (act.Publish i r f) quiet e = absurd quiet
  none_pending t (act.ReadMain i) quiet e = stays_none a t e.1
  none_pending t (act.ReadPrev m) quiet e = stays_none a t e.1
  none_pending t (act.Restore i m q) quiet e = restored_none t i q (main_at (a.states t).heap i == m) e.1
  none_pending t (act.Decide i m q told) quiet e = decided_none t m q (verdict (a.states t).heap i m q told) e.1 e.3
  none_pending t (act.Make node) quiet e = taken_none t node (next_ref (a.states t).heap) e
  none_pending t (act.MakeRoot main) quiet e = taken_none t _ (next_ref (a.states t).heap) e
  none_pending t action quiet e = stays_none a t e
