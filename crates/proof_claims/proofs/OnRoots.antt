-- No node has a claim on a root that an operation has made for an offer, until that is carried out or taken back; after every list of steps.
use Rattle.std.proofs.Common.{cond, ◌≡◌, inl, inr, ℕ, suc, Bool, true, false, List, [], ◌∷◌, ◌++◌, Contains, Some, Ok, Err, arith, refl, sym, ap, subst, ◌∙◌}
use Rattle.std.proofs.lemmas.Bool.{cases_eq, true≢false}
use Rattle.std.proofs.lemmas.Option.{none-some, same_Some}
use Rattle.proof_claims.specs.Beneath.slot_arena.specs.declared.nodes.Node.{Node}
use Rattle.proof_claims.specs.Beneath.slot_arena.specs.declared.nodes.Node.TheVariants.{Indirection}
use Rattle.proof_claims.specs.Beneath.slot_arena.specs.declared.refs.Ref.{Ref}
use Rattle.proof_claims.specs.Beneath.slot_arena.specs.Heaps.{node_at, refs_of_node}
use Rattle.proof_claims.specs.Beneath.machine_model.specs.declared.actions.Action.{Action}
use Rattle.proof_claims.specs.Beneath.machine_model.specs.declared.actions.Action.TheVariants as act
use Rattle.proof_claims.specs.Beneath.machine_model.specs.declared.copying.CopyLine.TheVariants as copy
use Rattle.proof_claims.specs.Beneath.machine_model.specs.declared.lines.Line.{Line}
use Rattle.proof_claims.specs.Beneath.machine_model.specs.declared.lines.Line.TheVariants as line
use Rattle.proof_claims.specs.Beneath.machine_model.specs.declared.operations.Operation.{Operation}
use Rattle.proof_claims.specs.Beneath.machine_model.specs.declared.steps.Bounds.{Bounds}
use Rattle.proof_claims.specs.Beneath.machine_model.specs.declared.steps.Outcome.{Outcome}
use Rattle.proof_claims.specs.Beneath.machine_model.specs.declared.steps.Step.{Step}
use Rattle.proof_claims.specs.Beneath.machine_model.specs.Acting.{mark_after, operation_after}
use Rattle.proof_claims.specs.Beneath.machine_model.specs.Keys.{KeysFit}
use Rattle.proof_claims.specs.Beneath.machine_model.specs.Machine.{Answer, AreBounds, is_taken_step, next, run, run_from, state_after}
use Rattle.proof_claims.specs.Beneath.machine_model.specs.Moves.{Moves, MovesIfTaken}
use Rattle.proof_claims.specs.Beneath.machine_model.specs.Operations.{line_action}
use Rattle.proof_claims.specs.Beneath.machine_model.specs.States.{State, first_state, operation_of}
use Rattle.proof_claims.specs.Beneath.machine_model.proofs.Actors.{mark_only, marks_in}
use Rattle.proof_claims.specs.Beneath.machine_model.proofs.Along.{by_last, run_push}
use Rattle.proof_claims.specs.Beneath.machine_model.proofs.Fates.{Comes as CameFrom, began, comes as comes_from, gave, rested, went}
use Rattle.proof_claims.specs.Beneath.machine_model.proofs.Found.{none_found}
use Rattle.proof_claims.specs.Beneath.machine_model.proofs.Moves.{moves}
use Rattle.proof_claims.specs.Beneath.proof_followed.proofs.InUse.{named_followed}
use Rattle.proof_claims.specs.Beneath.proof_followed.proofs.NeverBrought.{offered_unknown}
use Rattle.proof_claims.specs.Beneath.proof_followed.specs.Followed.{followed_action_wants}
use Rattle.proof_claims.specs.Beneath.proof_followed.proofs.Bringing.{fresh_made}
use Rattle.proof_claims.specs.Beneath.proof_garbage.proofs.Claims.{one_in}
use Rattle.proof_claims.specs.Beneath.proof_garbage.proofs.GivenUp.{other_id}
use Rattle.proof_claims.specs.Beneath.proof_garbage.proofs.Private.{Others}
use Rattle.proof_claims.specs.Beneath.proof_garbage.specs.Live.{refs_of_claims}
use Rattle.proof_claims.specs.Beneath.proof_generations.proofs.Offers.Marks.{complete_mark, is_completing, unmarked_before}
use Rattle.proof_claims.specs.Beneath.proof_generations.proofs.Roots.Kept.{FreshFrom, fresh_from, fresh_in, fresh_link, had as was_fresh, new}
use Rattle.proof_claims.specs.Beneath.proof_generations.proofs.Roots.OfLists.{has_handles_along}
use Rattle.proof_claims.specs.Beneath.proof_generations.proofs.Roots.Own.{first_none}
use Rattle.proof_claims.specs.Beneath.proof_memory.proofs.Claims.Uses.{meets_of}
use Rattle.proof_claims.specs.Beneath.proof_memory.proofs.Safety.AtEachTime.{safe_along}
use Rattle.proof_claims.specs.Beneath.proof_memory.proofs.Safety.AtTimes.{line_finds}
use Rattle.proof_claims.specs.Beneath.proof_memory.specs.Laws.{IsInUse}
use Rattle.proof_claims.specs.Beneath.proof_memory.specs.Wants.{AMain, is_indirection, meets}
use Rattle.proof_claims.specs.Beneath.proof_owned.proofs.Linked.{main_no_link}
use Rattle.proof_claims.specs.Changes.{change_of}
use Rattle.proof_claims.specs.Claims.{Has, held_of}
use Rattle.proof_claims.specs.Held.{Held, Holder, OfHandle, OfNode, held_after}
use Rattle.proof_claims.proofs.Acted as acted
use Rattle.proof_claims.proofs.Acted.{named_wanted}
use Rattle.proof_claims.proofs.Along.{held_push}
use Rattle.proof_claims.proofs.ChangeKinds.{Acting, MakesNode, a_node, a_root}
use Rattle.proof_claims.proofs.ClaimsDiffer.{claims_fit, keys_before}
use Rattle.proof_claims.proofs.Made.{AreMade}
use Rattle.proof_claims.proofs.NewClaims.{Comes, came, first, frozen, made, moved, published, second, stood}
use Rattle.proof_claims.proofs.OnPrivates.{new_unclaimed}

abbrev pub NoneOnRoots : State → Held → Type 0
NoneOnRoots state held =
    (k : ℕ) (operation : Operation) → operation_of state (suc k) ≡ Some operation → operation.is_marked ≡ false → (x : Bool) (q : Ref) → fresh_in x operation.line ≡ Some q → (y : Ref) →
    Has held (OfNode y) q → ⊥

-- who has one makes another root, if it makes anything
no_make : (state : State) (operation : Operation) (l : Line) (x : Bool) (q : Ref) (node : Node) → fresh_in x l ≡ Some q → line_action state operation l ≡ act.Make node → ⊥
no_make state operation (line.Copy (copy.Second root main successor)) x q node f e = let bad : ⊥ = cc e in bad
no_make state operation (line.Copy (copy.Offer offer)) x q node f e = let bad : ⊥ = cc e in bad
no_make state operation (line.Copy (copy.Complete c)) x q node f e = grind arith
no_make state operation l x q node f e = none-some q f

module _ (limits : Bounds) (ok : AreBounds limits) (xs : List Step) (s : Step) (o : Outcome) (m : Moves (run limits xs) s o (run limits (xs ++ s ∷ []))) (are_made : AreMade (run limits xs)
    (held_of limits xs)) (h : NoneOnRoots (run limits xs) (held_of limits xs)) where
  abbrev state : State
  state = run limits xs

  abbrev after : State
  after = run limits (xs ++ s ∷ [])

  abbrev held : Held
  held = held_of limits xs

  abbrev later : Held
  later = held_after (change_of state held s) held

  -- ---- a root that was there

  module _ (k : ℕ) (was : Operation) (runs : operation_of state (suc k) ≡ Some was) (unmarked : was.is_marked ≡ false) (x : Bool) (q : Ref) (its : fresh_in x was.line ≡ Some q) where
    link : is_indirection (node_at state.heap q) ≡ true
    link = meets_of (fresh_link (IsInUse state.heap) state was was.line (line_finds state (safe_along limits ok xs) (suc k) was runs) x q its)

    no_main : meets AMain (node_at state.heap q) ≡ true → ⊥
    no_main main = main_no_link (node_at state.heap q) main link

    -- no other operation names it
    others_not : (action : Action) (a : Acting state s action) → (a.actor ≡ suc k → ⊥) → Contains (refs_of_claims (followed_action_wants action)) q → ⊥
    others_not action a apart c =
        offered_unknown limits ok xs k was runs unmarked q (inl (fresh_made x was.line q its).0)
        (named_followed state (safe_along limits ok xs) (Others was.id) a.actor a.operation a.runs (other_id limits xs ok (suc k) was runs a.actor a.operation apart a.runs) q
        (subst (λ z. Contains (refs_of_claims (followed_action_wants z)) q) (sym a.acts) c))

    -- nor does its own one
    names_not : (node : Node) (action : Action) (a : Acting state s action) → MakesNode state node action → Contains (refs_of_node node) q → ⊥
    names_not node action a a_node c = elim (cases_eq a.actor (suc k)) [
      | inl here ↦
          let one = same_Some a.operation was (sym a.runs ∙ ap (operation_of state) here ∙ runs) in
          no_make state a.operation a.operation.line x q node (ap (λ (z : Operation). fresh_in x z.line) one ∙ its) a.acts
      | inr apart ↦ others_not (act.Make node) a apart (named_wanted node q c)
    ]
    names_not node action a (a_root main is) c =
        let same = one_in (λ z. main ≡ z) main refl q (subst (λ n. Contains (refs_of_node n) q) is c) in
        no_main (subst (λ z. meets AMain (node_at state.heap z) ≡ true) same (meets_of (acted.wants limits ok xs s o after m refl (act.MakeRoot main) a).0))

    there : (y : Ref) → Has later (OfNode y) q → ⊥
    there y has = by (OfNode y) refl (came state held (OfNode y) q s has)
      where
        by : (holder : Holder) → holder ≡ OfNode y → Comes state held s (change_of state held s) holder q → ⊥
        by holder is (stood before stays) = h k was runs unmarked x q its y (subst (λ z. Has held z q) is before)
        by holder is (moved i f p told a v own at_f before names) = h k was runs unmarked x q its p before
        by holder is (made node action z a makes_it drawn at_z names raised) = names_not node action a makes_it names
        by holder is (published i j f a hit at_i at_f) =
            no_main (subst (λ z. meets AMain (node_at state.heap z) ≡ true) (sym at_f) (meets_of (acted.wants limits ok xs s o after m refl (act.Publish i j f) a).1.1.0))
        by holder is (frozen offer main n a out none opens at_h at_root before) = let wrong : OfHandle n ≡ OfNode y = sym at_h ∙ is in let bad : ⊥ = cc wrong in bad
        by holder is (first offer a plain at_h at_root) = let wrong = sym at_h ∙ is in let bad : ⊥ = cc in bad
        by holder is (second offer n a plain opens at_root at_h) = let wrong : OfHandle n ≡ OfNode y = sym at_h ∙ is in let bad : ⊥ = cc wrong in bad

  -- ---- by where its operation comes from

  by_came : (k : ℕ) (found : Operation) → found.is_marked ≡ false → (x : Bool) (q : Ref) → fresh_in x found.line ≡ Some q → (y : Ref) → Has later (OfNode y) q → CameFrom state s k found → ⊥
  by_came k found free x q its_now y has (began call number is denial it) = first_none call x q (sym (ap (λ (z : Operation). fresh_in x z.line) it) ∙ its_now)
  by_came k found free x q its_now y has (gave was answer is at_k may it) = none-some q (sym (ap (λ (z : Operation). fresh_in x z.line) it) ∙ its_now)
  by_came k found free x q its_now y has (rested was at_k it other) =
      there k was at_k (unmarked_before (marks_in state s) was (ap (λ (z : Operation). z.is_marked) (sym it) ∙ free)) x q
      (sym (ap (λ (z : Operation). fresh_in x z.line) (it ∙ mark_only (marks_in state s) was)) ∙ its_now) y has
  by_came k found free x q its_now y has (went was is at_k g it) =
      by (fresh_from state was was.line x q (sym (ap (λ (z : Operation). fresh_in x z.line) (it ∙ mark_only (marks_in state s) (operation_after state was))) ∙ its_now))
    where
      unmarked : fresh_in x was.line ≡ Some q → was.is_marked ≡ false
      unmarked its = by_mark was.is_marked refl
        where
          by_mark : (b : Bool) → was.is_marked ≡ b → b ≡ false
          by_mark false e = refl
          by_mark true e =
              let (c, on) = is_completing was.line ((has_handles_along limits xs).1.done k was at_k e) state was g in
              let kept_mark : (operation_after state was).is_marked ≡ true = ap (λ l. mark_after was.is_marked (line_action state was l)) on ∙ complete_mark was.is_marked c ∙ e in
              absurd (true≢false (sym kept_mark ∙ unmarked_before (marks_in state s) (operation_after state was) (ap (λ (z : Operation). z.is_marked) (sym it) ∙ free)))

      by : FreshFrom state was was.line x q → ⊥
      by (was_fresh its) = there k was at_k (unmarked its) x q its y has
      by (new main acts drawn side) =
          new_unclaimed limits ok xs s o m are_made (Indirection state.generations main) (act.MakeRoot main)
          (record { actor = suc k; operation = was; is_step = is; runs = at_k; acts = acts }) (a_root main refl) q drawn y has

  pub none_then : NoneOnRoots after later
  none_then k found runs_now free x q its_now y has = by_came k found free x q its_now y has (comes_from state s o after m k found runs_now)

-- ---- after every list of steps

module _ (limits : Bounds) (ok : AreBounds limits) where
  abbrev Hold : List Step → Type 0
  Hold xs = NoneOnRoots (run limits xs) (held_of limits xs)

  none_runs : (k : ℕ) (operation : Operation) → operation_of (run limits []) (suc k) ≡ Some operation → ⊥
  unfolding first_state run_from
  none_runs k operation e = none_found limits.actors k operation e

  by_answer : (xs : List Step) (s : Step) → KeysFit xs → Hold xs → (a : Answer) → next (run limits xs) s ≡ a → MovesIfTaken (run limits xs) s a →
      NoneOnRoots (run limits (xs ++ s ∷ [])) (cond (is_taken_step a) (held_after (change_of (run limits xs) (held_of limits xs) s) (held_of limits xs)) (held_of limits xs))
  by_answer xs s keys h (Ok done) e mv =
      let is : done.1 ≡ run limits (xs ++ s ∷ []) = sym (run_push (first_state limits) xs s ∙ ap (state_after (run limits xs)) e) in
      none_then limits ok xs s done.0 (subst (λ (z : State). Moves (run limits xs) s done.0 z) is mv) (claims_fit limits ok xs keys).made h
  by_answer xs s keys h (Err refusal) e mv =
      subst (λ (z : State). NoneOnRoots z (held_of limits xs)) (sym (run_push (first_state limits) xs s ∙ ap (state_after (run limits xs)) e)) h

  pub none_on_roots : (xs : List Step) → KeysFit xs → Hold xs
  none_on_roots xs keys =
      by_last (λ xs. KeysFit xs → Hold xs) (λ keys k operation runs free x q its y has. none_runs k operation runs)
      (λ xs s h keys.
      let fit = keys_before xs (s ∷ []) keys in
      subst (λ held. NoneOnRoots (run limits (xs ++ s ∷ [])) held) (sym (held_push limits xs s)) (by_answer xs s fit (h fit) (next (run limits xs) s) refl (moves (run limits xs) s))) xs keys
