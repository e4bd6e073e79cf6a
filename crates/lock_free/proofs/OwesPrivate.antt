-- What an operation has made and nothing names yet is private to it. In KEY nothing is private, and in RENEW indirections alone.
use Rattle.std.proofs.Common.{◌≡◌, ℕ, true, List, [], ◌∷◌, ◌++◌, Contains, Option, Some, None, inl, inr, refl, sym, ap, subst, ◌∙◌, arith}
use Rattle.std.proofs.lemmas.Bool.{cases_eq, true≢false}
use Rattle.std.proofs.lemmas.List.Elements.{Contains-append_left, Contains-push}
use Rattle.std.proofs.lemmas.Option.{none-some}
use Rattle.history.specs.declared.calls.Call.{Call}
use Rattle.history.specs.declared.calls.Call.TheVariants.{Close, Count, Entries}
use Rattle.machine_model.specs.Beneath.slot_arena.specs.declared.refs.Ref.{Ref}
use Rattle.machine_model.specs.Beneath.slot_arena.specs.declared.nodes.Node.{Node}
use Rattle.machine_model.specs.Beneath.slot_arena.specs.declared.nodes.Node.TheVariants.{Indirection}
use Rattle.machine_model.specs.Beneath.slot_arena.specs.Heaps.{next_ref, node_at}
use Rattle.machine_model.specs.declared.actions.Action.{Action}
use Rattle.machine_model.specs.declared.actions.Action.TheVariants as act
use Rattle.machine_model.specs.declared.copying.CopyLine.TheVariants as copy
use Rattle.machine_model.specs.declared.finding.KeyLine.{KeyLine}
use Rattle.machine_model.specs.declared.lines.Line.{Line}
use Rattle.machine_model.specs.declared.lines.Line.TheVariants as line
use Rattle.machine_model.specs.declared.operations.Operation.{Operation}
use Rattle.machine_model.specs.declared.repairs.CleanLine.{CleanLine}
use Rattle.machine_model.specs.declared.repairs.RenewLine.{RenewLine}
use Rattle.machine_model.specs.declared.repairs.RenewLine.TheVariants as renew
use Rattle.machine_model.specs.declared.steps.Bounds.{Bounds}
use Rattle.machine_model.specs.declared.steps.Step.{Step}
use Rattle.machine_model.specs.Acting.{operation_after, with_made}
use Rattle.machine_model.specs.Grown.{standing}
use Rattle.machine_model.specs.Machine.{AreBounds, run}
use Rattle.machine_model.specs.Operations.{action_of, first_line}
use Rattle.machine_model.specs.States.{State, operation_of}
use Rattle.machine_model.specs.Times.{last_of, states_of}
use Rattle.machine_model.proofs.Actors.{mark_only, marks_by, marks_in}
use Rattle.machine_model.proofs.EachOperation.{OfEach, of_each_along, of_running}
use Rattle.machine_model.proofs.Grown.{node_grown}
use Rattle.machine_model.proofs.Times.{run_is, run_ends}
use Rattle.proof_claims.specs.Beneath.proof_fresh.proofs.At.{has_at}
use Rattle.proof_claims.specs.Beneath.proof_fresh.proofs.Lines.{LineHas}
use Rattle.proof_memory.specs.Laws.{IsInUse}
use Rattle.proof_memory.specs.Making.{made_node}
use Rattle.proof_memory.specs.Wants.{AllHold, is_indirection, is_main_node, line_wants}
use Rattle.proof_memory.proofs.Claims.Uses.{meets_of}
use Rattle.proof_memory.proofs.Safety.AtEachTime.{safe_along}
use Rattle.proof_memory.proofs.Safety.AtTimes.{line_finds_in}
use Rattle.proof_memory.proofs.Safety.Standing.{in_private_list}
use Rattle.lock_free.specs.OwesAt.{owes_at, owes_on}
use Rattle.lock_free.proofs.ClaimsThere.{has_often, often_has}
use Rattle.lock_free.proofs.CountsStay.{often_other}
use Rattle.lock_free.proofs.LinesOwe.{NoneMade, owes_within}
use Rattle.lock_free.proofs.MadeOwe.{IsApart, owes_one_more}
use Rattle.lock_free.proofs.MadeLines.{parts_then}
use Rattle.machine_model.proofs.Along.{limits_along}

module _ (limits : Bounds) (ok : AreBounds limits) (xs : List Step) (actor : ℕ) (o : Operation) (runs : operation_of (run limits xs) actor ≡ Some o) where
  abbrev Has : Line → Type 0
  Has l = LineHas (run_is limits xs ok) (last_of limits xs) actor o.id o.generation o.private l

  has_line : Has o.line
  has_line = has_at (run_is limits xs ok) (last_of limits xs) (omega arith) actor o (ap (λ (x : State). operation_of x actor) (run_ends limits xs) ∙ runs)

  pub key_none : (l : KeyLine) → o.line ≡ line.Key l → o.private ≡ []
  key_none l on = subst Has on has_line

  pub clean_none : (l : CleanLine) → o.line ≡ line.Clean l → o.private ≡ []
  clean_none l on = (subst Has on has_line).0

  pub renew_links : (l : RenewLine) → o.line ≡ line.Renew l → (y : Ref) → Contains o.private y → is_indirection (node_at (run limits xs).heap y) ≡ true
  renew_links l on y c =
      let link = (subst Has on has_line).1 y c in
      let used : IsInUse (run limits xs).heap y = in_private_list (run limits xs) (safe_along limits ok xs) actor o y runs c in
      let same = node_grown (states_of limits xs) (last_of limits xs) y used.0 (ap (λ (x : State). standing x.heap y) (run_ends limits xs) ∙ used.1) in
      ap (λ (x : State). is_indirection (node_at x.heap y)) (sym (run_ends limits xs)) ∙ ap is_indirection same ∙ ap is_indirection link.3

  -- what it still owes is none of what the next node names
  pub line_apart : IsApart o.private o.line
  line_apart = by o.line refl
    where
      wants : (l : Line) → o.line ≡ l → AllHold (IsInUse (run limits xs).heap) (run limits xs).heap (line_wants limits.hash o.call o.access l)
      wants l on =
          subst (λ n. AllHold (IsInUse (run limits xs).heap) (run limits xs).heap (line_wants limits.hash o.call o.access n)) on
          (line_finds_in (run limits xs) (safe_along limits ok xs) limits (limits_along limits xs) actor o runs)

      not_main : (r : Ref) → is_indirection (node_at (run limits xs).heap r) ≡ true → is_main_node (node_at (run limits xs).heap r) ≡ true → ⊥
      not_main r = of_node (node_at (run limits xs).heap r)
        where
          of_node : (n : Node) → is_indirection n ≡ true → is_main_node n ≡ true → ⊥
          of_node (Indirection generation main) link main_too = true≢false (sym main_too)
          of_node node link main_too = true≢false (sym link)

      by : (l : Line) → o.line ≡ l → IsApart o.private l
      by (line.Renew (renew.Link path main done child)) on = λ c.
          not_main child (renew_links (renew.Link path main done child) on child c)
          (meets_of (wants (line.Renew (renew.Link path main done child)) on).1.1.1.1.1.0)
      by (line.Copy (copy.Second root main successor)) on = λ same.
          (let h = wants (line.Copy (copy.Second root main successor)) on in
          not_main main (subst (λ r. is_indirection (node_at (run limits xs).heap r) ≡ true) same (meets_of h.1.1.0)) (meets_of h.1.0))
      by l on = tt

-- ---- what it has made

module _ (limits : Bounds) (ok : AreBounds limits) where
  abbrev Within : State → Operation → Type 0
  Within state o = (k : Ref) → Contains (owes_at o) k → Contains o.private k

  first_owes : (call : Call) → owes_on [] (first_line call) ≡ []
  first_owes (Close h) = refl
  first_owes (Entries h) = refl
  first_owes (Count h) = refl
  first_owes call = refl

  goes_within : (steps : List Step) (actor : ℕ) (o : Operation) → operation_of (run limits steps) actor ≡ Some o → Within (run limits steps) o →
      Within (run limits steps) (operation_after (run limits steps) o)
  goes_within steps actor o runs h = by (made_node (run limits steps) (action_of (run limits steps) o)) refl (next_ref (run limits steps).heap) refl
    where
      none_of : (action : Action) → made_node (run limits steps) action ≡ None → NoneMade (run limits steps) action
      none_of (act.Make node) e = absurd (none-some node (sym e))
      none_of (act.MakeRoot main) e = absurd (none-some (Indirection (run limits steps).generations main) (sym e))
      none_of action e = tt

      none_left : (action : Action) → next_ref (run limits steps).heap ≡ None → NoneMade (run limits steps) action
      none_left (act.Make node) e = e
      none_left (act.MakeRoot main) e = e
      none_left action e = tt

      by : (node : Option Node) → made_node (run limits steps) (action_of (run limits steps) o) ≡ node → (next : Option Ref) → next_ref (run limits steps).heap ≡ next →
          Within (run limits steps) (operation_after (run limits steps) o)
      by None is next drawn = owes_within (run limits steps) o (none_of (action_of (run limits steps) o) is)
      by (Some node) is None drawn = owes_within (run limits steps) o (none_left (action_of (run limits steps) o) drawn)
      by (Some node) is (Some made) drawn = λ k c.
          (let more = (owes_one_more (run limits steps) o made drawn node (line_apart limits ok steps actor o runs) is k).1 in
          let some_now = has_often k (owes_at (operation_after (run limits steps) o)) c in
          let left : (operation_after (run limits steps) o).private ≡ o.private ++ made ∷ [] =
          (parts_then (run limits steps) (action_of (run limits steps) o) node is o.private o.attempt o.is_marked).0 ∙ ap (with_made o.private) drawn in
          subst (λ ks. Contains ks k) (sym left)
          (elim (cases_eq k made) [
            | inl same ↦ subst (Contains (o.private ++ made ∷ [])) (sym same) (Contains-push o.private made)
            | inr differs ↦
                (let none = often_other k made [] (λ e. differs (sym e)) in
                Contains-append_left o.private (made ∷ []) k (h k (often_has k (owes_at o) (omega (arith, more, some_now, none)))))
          ]))

  all_within : (steps : List Step) → OfEach Within (run limits steps)
  all_within =
      of_each_along limits Within (λ steps actor call number d k c. subst (λ ks. Contains ks k) (first_owes call) c)
      (λ steps actor o is g h. rw (mark_only (marks_by (run limits steps) (Some o)) (operation_after (run limits steps) o)) (goes_within steps actor o is h))
      (λ steps actor o answer is a h k c. c)
      (λ steps s o after m k other operation found h. rw (mark_only (marks_in (run limits steps) s) operation) h)

  pub owes_private : (steps : List Step) (actor : ℕ) (o : Operation) → operation_of (run limits steps) actor ≡ Some o → (k : Ref) → Contains (owes_at o) k → Contains o.private k
  owes_private steps actor o is = of_running Within (run limits steps) (all_within steps) actor o is
