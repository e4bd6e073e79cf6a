-- The claims of the nodes of a SWAP, while its operation is in it: its fresh node has one on what it names and doesn't take over, until it is committed; the indirection one on it until then,
-- and on the replaced one from then on; and the replaced one, where it was the indirection's own, on what the fresh one doesn't name.
use Rattle.std.proofs.Common.{◌≡◌, inl, inr, ℕ, suc, true, false, List, [], ◌∷◌, ◌++◌, Contains, Option, Some, arith, refl, sym, ap, subst, ◌∙◌}
use Rattle.std.proofs.lemmas.Bool.{cases_eq, true≢false}
use Rattle.std.proofs.lemmas.Option.{same_Some}
use Rattle.proof_claims.specs.Beneath.slot_arena.specs.declared.nodes.Prev.TheVariants as prev
use Rattle.proof_claims.specs.Beneath.slot_arena.specs.declared.refs.Ref.{Ref}
use Rattle.proof_claims.specs.Beneath.slot_arena.specs.Heaps.{logical, main_at, node_at, prev_at, refs_of_node, refs_of_prev}
use Rattle.proof_claims.specs.Beneath.machine_model.specs.declared.actions.Action.TheVariants as act
use Rattle.proof_claims.specs.Beneath.machine_model.specs.declared.lines.Line.TheVariants as line
use Rattle.proof_claims.specs.Beneath.machine_model.specs.declared.lines.Purpose.{Purpose}
use Rattle.proof_claims.specs.Beneath.machine_model.specs.declared.operations.Operation.{Operation}
use Rattle.proof_claims.specs.Beneath.machine_model.specs.declared.reading.Swap.{Swap}
use Rattle.proof_claims.specs.Beneath.machine_model.specs.declared.reading.SwapLine.TheVariants as swap
use Rattle.proof_claims.specs.Beneath.machine_model.specs.declared.steps.Bounds.{Bounds}
use Rattle.proof_claims.specs.Beneath.machine_model.specs.declared.steps.Outcome.{Outcome}
use Rattle.proof_claims.specs.Beneath.machine_model.specs.declared.steps.Step.{Step}
use Rattle.proof_claims.specs.Beneath.machine_model.specs.Machine.{AreBounds, run}
use Rattle.proof_claims.specs.Beneath.machine_model.specs.Moves.{Moves}
use Rattle.proof_claims.specs.Beneath.machine_model.specs.Reading.{Commits, verdict}
use Rattle.proof_claims.specs.Beneath.machine_model.specs.States.{State, operation_of}
use Rattle.proof_claims.specs.Beneath.machine_model.specs.Swapping.{action_at, swapping}
use Rattle.proof_claims.specs.Beneath.machine_model.proofs.Fates.{place_of_actor}
use Rattle.proof_claims.specs.Beneath.machine_model.proofs.Times.{run_is}
use Rattle.proof_claims.specs.Beneath.proof_garbage.proofs.Fresh.{deciding_stands}
use Rattle.proof_claims.specs.Beneath.proof_memory.proofs.Claims.Uses.{meets_of, safe_of}
use Rattle.proof_claims.specs.Beneath.proof_memory.specs.Laws.{IsInUse}
use Rattle.proof_claims.specs.Beneath.proof_memory.specs.Wants.{AllHold, action_wants, is_indirection}
use Rattle.proof_claims.specs.Beneath.proof_reuse.proofs.OnePlace.{one_owner}
use Rattle.proof_claims.specs.Beneath.proof_reuse.specs.Laws.{IsReplacedBy}
use Rattle.proof_claims.specs.Changes.{change_of}
use Rattle.proof_claims.specs.Claims.{Has, held_of}
use Rattle.proof_claims.specs.Held.{Held, OfNode, held_after, is_owned}
use Rattle.proof_claims.proofs.Acted as acted
use Rattle.proof_claims.proofs.Along.{stays}
use Rattle.proof_claims.proofs.ChangeKinds.{Acting}
use Rattle.proof_claims.proofs.ClaimsDiffer.{ClaimsFit}
use Rattle.proof_claims.proofs.FreshClaims.{IsUncommitted, publishes, stands_over}
use Rattle.proof_claims.proofs.FromRoots.{is_decided}
use Rattle.proof_claims.proofs.InSwap.{its_private, link_i, main_plain, not_theirs, plain_f, plain_m, the_fresh, the_indirection, the_replaced, used_f}
use Rattle.proof_claims.proofs.NodeClaims.{LookLeaves, NodeGoes, given_private, goes_over, left_at_look, node_goes, of_failed, of_failed_link, of_link, of_replaced, stays_held, taken_back}
use Rattle.proof_claims.proofs.Ownership.{owned_is_own}
use Rattle.proof_claims.proofs.PrevMoves.{was_pending}
use Rattle.proof_claims.proofs.Replaced.{counts_no_more}
use Rattle.proof_claims.proofs.ReplacedBy.{one_replaces, replaced_of}
use Rattle.proof_claims.proofs.SwapFacts.{GoesOnBy, gives_up_not, link_unoffered, looks_apart, main_unoffered, own_act, replaced_decided}

-- it was swapped in
abbrev pub IsIn : Swap → Type 0
IsIn w = w.line ≡ swap.Publish → ⊥

pub record SwapHolds (state : State) (held : Held) (Replaced : Ref → Ref → Ref → Type 0) (w : Swap) : Type 0 where
  pub itself : IsUncommitted state w → (r : Ref) → Contains (refs_of_node (node_at state.heap w.fresh)) r →
      (is_owned held w.indirection w.replaced ≡ true → Contains (refs_of_node (node_at state.heap w.replaced)) r → ⊥) → Has held (OfNode w.fresh) r
  pub link : IsIn w → (prev_at state.heap w.fresh ≡ prev.None → ⊥) → Has held (OfNode w.indirection) w.fresh
  pub before : IsIn w → prev_at state.heap w.fresh ≡ prev.None → Has held (OfNode w.indirection) w.replaced
  pub rest : IsIn w → prev_at state.heap w.fresh ≡ prev.None → is_owned held w.indirection w.replaced ≡ true → (r : Ref) → Contains (refs_of_node (node_at state.heap w.replaced)) r →
      (Contains (refs_of_node (node_at state.heap w.fresh)) r → ⊥) → Has held (OfNode w.replaced) r
  pub moved_on : IsIn w → prev_at state.heap w.fresh ≡ prev.None → is_owned held w.indirection w.replaced ≡ true → (r : Ref) → Has held (OfNode w.replaced) r →
      Contains (refs_of_node (node_at state.heap w.fresh)) r → ⊥
  pub replaced : IsIn w → prev_at state.heap w.fresh ≡ prev.None → Replaced w.indirection w.replaced w.fresh

abbrev pub SwapsHold : State → Held → (Ref → Ref → Ref → Type 0) → Type 0
SwapsHold state held Replaced =
    (k : ℕ) (operation : Operation) (why : Purpose) (w : Swap) → operation_of state (suc k) ≡ Some operation → operation.line ≡ line.Swap why w → SwapHolds state held Replaced w

-- ---- a step leaves what is held

module _ (limits : Bounds) (ok : AreBounds limits) (xs : List Step) (s : Step) (fits : ClaimsFit (run limits xs) (held_of limits xs))
    (holds : SwapsHold (run limits xs) (held_of limits xs) (IsReplacedBy limits xs)) (k : ℕ) (was : Operation) (runs : operation_of (run limits xs) (suc k) ≡ Some was) (why : Purpose) (w w' : Swap)
    (on : was.line ≡ line.Swap why w) (how : GoesOnBy (run limits xs) s k was w w') where
  abbrev state : State
  state = run limits xs

  abbrev held : Held
  held = held_of limits xs

  abbrev later : Held
  later = held_after (change_of state held s) held

  decided_m : prev_at state.heap w.replaced ≡ prev.None
  decided_m = replaced_decided limits ok xs k was runs why w on

  plain_not : (j : Ref) → is_indirection (node_at state.heap j) ≡ false → w.indirection ≡ j → ⊥
  plain_not j plain same = true≢false (sym (link_i limits ok xs k was runs why w on) ∙ ap (λ x. is_indirection (node_at state.heap x)) same ∙ plain)

  link_not : (j : Ref) → is_indirection (node_at state.heap j) ≡ true → is_indirection (node_at state.heap j) ≡ false → ⊥
  link_not j link plain = true≢false (sym link ∙ plain)

  -- who looks, with its own SWAP
  module _ (because : Purpose) (v : Swap) (main : Ref) (a : Acting state s (act.ReadPrev main)) (on_v : a.operation.line ≡ line.Swap because v) (at_check : v.line ≡ swap.Check) where
    its : (j : ℕ) × (a.actor ≡ suc j) × (operation_of state (suc j) ≡ Some a.operation)
    its = place_of_actor state a.actor a.operation a.runs

    link_v : is_indirection (node_at state.heap v.indirection) ≡ true
    link_v = link_i limits ok xs its.0 a.operation its.2 because v on_v

    plain_fresh : is_indirection (node_at state.heap v.fresh) ≡ false
    plain_fresh = plain_f limits ok xs its.0 a.operation its.2 because v on_v

    plain_replaced : is_indirection (node_at state.heap v.replaced) ≡ false
    plain_replaced = plain_m limits ok xs its.0 a.operation its.2 because v on_v

    decided_v : prev_at state.heap v.replaced ≡ prev.None
    decided_v = replaced_decided limits ok xs its.0 a.operation its.2 because v on_v

    in_v : IsIn v
    in_v first_line = let wrong : swap.Publish ≡ swap.Check = sym first_line ∙ at_check in let bad : ⊥ = cc wrong in bad

    not_same : v.fresh ≡ w.fresh → ⊥
    not_same same = looks_apart limits ok xs s k was runs why w w' on how because v main a on_v at_check same

    -- it hasn't replaced the same one there
    not_replaced : prev_at state.heap v.fresh ≡ prev.None → v.indirection ≡ w.indirection → v.replaced ≡ w.replaced → IsReplacedBy limits xs w.indirection w.replaced w.fresh → ⊥
    not_replaced none same_i same_m r =
        let theirs = (holds its.0 a.operation because v its.2 on_v).replaced in_v none in
        not_same (one_replaces limits ok xs w.indirection w.replaced v.fresh w.fresh
        (subst (λ x. IsReplacedBy limits xs x w.replaced v.fresh) same_i (subst (λ x. IsReplacedBy limits xs v.indirection x v.fresh) same_m theirs)) r)

  -- ---- the fresh node's

  module _ (uncommitted : IsUncommitted state w) where
    -- it isn't decided: nor does another stand over it, nor is it replaced
    not_decided_f : (b : ℕ) (other : Operation) → operation_of state (suc b) ≡ Some other → ((suc b ≡ suc k) → ⊥) → (why' : Purpose) (v : Swap) → other.line ≡ line.Swap why' v →
        v.replaced ≡ w.fresh → ⊥
    not_decided_f b other runs_b apart why' v on_b same = by uncommitted
      where
        by : IsUncommitted state w → ⊥
        by (stands_over over) = over (ap (prev_at state.heap) (sym same) ∙ replaced_decided limits ok xs b other runs_b why' v on_b)
        by (publishes at_first) =
            let on_first : was.line ≡ line.Swap why (swapping w.indirection w.replaced w.fresh) = on ∙ ap (λ l. line.Swap why (record w { line = l })) at_first in
            not_theirs limits ok xs b other runs_b why' v on_b (suc k) was runs apart w.fresh (the_replaced same)
            (its_private limits ok xs (suc k) was runs why w.indirection w.replaced w.fresh on_first)

    over_not : (i f p : Ref) (told : Option ℕ) → Acting state s (act.Decide i f p told) → verdict state.heap i f p told ≡ Commits → p ≡ w.fresh → (o : Outcome) →
        Moves state s o (run limits (xs ++ s ∷ [])) → ⊥
    over_not i f p told a v same o m = by uncommitted
      where
        claims : AllHold (IsInUse state.heap) state.heap (action_wants (act.Decide i f p told))
        claims = acted.wants limits ok xs s o (run limits (xs ++ s ∷ [])) m refl (act.Decide i f p told) a

        pends : prev_at state.heap f ≡ prev.Pending p
        pends = was_pending limits ok xs s o (run limits (xs ++ s ∷ [])) m refl i f p told a v

        none : prev_at state.heap w.fresh ≡ prev.None
        none =
            is_decided limits xs ok f w.fresh (safe_of claims.1.0) (used_f limits ok xs k was runs why w on)
            (subst (λ x. Contains (refs_of_prev x) w.fresh) (sym pends) (0, omega arith, same))

        by : IsUncommitted state w → ⊥
        by (stands_over over) = over none
        by (publishes at_first) = elim (cases_eq (suc k) a.actor) [
          | inl here ↦
              let (one, acts) = own_act limits ok xs s k was runs why w w' on how (act.Decide i f p told) a here in
              let wrong : act.Publish w.indirection w.replaced w.fresh ≡ act.Decide i f p told = ap (action_at w.indirection w.replaced w.fresh) (sym at_first) ∙ acts in
              let bad : ⊥ = cc wrong in bad
          | inr apart ↦
              let on_first : was.line ≡ line.Swap why (swapping w.indirection w.replaced w.fresh) = on ∙ ap (λ l. line.Swap why (record w { line = l })) at_first in
              acted.wanted_not limits ok xs s o (run limits (xs ++ s ∷ [])) m refl (act.Decide i f p told) a (suc k) was runs apart w.fresh (2, omega arith, same)
              (its_private limits ok xs (suc k) was runs why w.indirection w.replaced w.fresh on_first)
        ]

    pub fresh_stays : (o : Outcome) → Moves state s o (run limits (xs ++ s ∷ [])) → (r : Ref) → Has held (OfNode w.fresh) r → Has later (OfNode w.fresh) r
    fresh_stays o m r has = by (node_goes state held s w.fresh r)
      where
        plain : is_indirection (node_at state.heap w.fresh) ≡ false
        plain = plain_f limits ok xs k was runs why w on

        by : NodeGoes state held s w.fresh r → Has later (OfNode w.fresh) r
        by (stays_held is) = stays (change_of state held s) held (OfNode w.fresh) (OfNode w.fresh) r has is
        by (given_private private up own) = absurd (gives_up_not limits ok xs s k was runs why w w' on how private up w.fresh (the_fresh refl) own)
        by (goes_over i f p told a v own same names) = absurd (over_not i f p told a v same o m)
        by (taken_back offer main c a on_c out unmarked d) = absurd (main_unoffered limits ok xs s k was runs why w w' on how offer main c a on_c unmarked w.fresh plain d)
        by (left_at_look because v main a on_v at_check leaves) = by_look leaves
          where
            by_look : LookLeaves state held v w.fresh r → Has later (OfNode w.fresh) r
            by_look (of_replaced none own same) =
                let (j, place, at_j) = its because v main a on_v at_check in
                absurd (not_decided_f j a.operation at_j (λ here. by_actor j place here) because v on_v same)
              where
                by_actor : (j : ℕ) → a.actor ≡ suc j → suc j ≡ suc k → ⊥
                by_actor j place here =
                    let runs_a = ap (operation_of state) (sym here ∙ sym place) ∙ a.runs in
                    let one : was ≡ a.operation = same_Some was a.operation (sym runs ∙ runs_a) in
                    let both : line.Swap why w ≡ line.Swap because v = sym on ∙ ap (λ (x : Operation). x.line) one ∙ on_v in
                    let swaps : w ≡ v = cc both in
                    not_same because v main a on_v at_check (ap (λ (x : Swap). x.fresh) (sym swaps))
            by_look (of_link none same_i same_m) = absurd (link_not w.fresh (ap (λ x. is_indirection (node_at state.heap x)) (sym same_i) ∙ link_v because v main a on_v at_check) plain)
            by_look (of_failed some same) = absurd (not_same because v main a on_v at_check same)
            by_look (of_failed_link some same_i same_f) = absurd (link_not w.fresh (ap (λ x. is_indirection (node_at state.heap x)) (sym same_i) ∙ link_v because v main a on_v at_check) plain)

  -- ---- the indirection's

  -- on a node that isn't replaced by who looks, and isn't its fresh one
  link_stays : (o : Outcome) → Moves state s o (run limits (xs ++ s ∷ [])) → (x : Ref) →
      ((because : Purpose) (v : Swap) (main : Ref) → (a : Acting state s (act.ReadPrev main)) → a.operation.line ≡ line.Swap because v → v.line ≡ swap.Check → prev_at state.heap v.fresh ≡ prev.None →
      v.indirection ≡ w.indirection → v.replaced ≡ x → ⊥) →
      ((because : Purpose) (v : Swap) (main : Ref) → (a : Acting state s (act.ReadPrev main)) → a.operation.line ≡ line.Swap because v → v.line ≡ swap.Check →
      (prev_at state.heap v.fresh ≡ prev.None → ⊥) → v.fresh ≡ x → ⊥) →
      Has held (OfNode w.indirection) x → Has later (OfNode w.indirection) x
  link_stays o m x not_replaced_there not_failed_there has = by (node_goes state held s w.indirection x)
    where
      link : is_indirection (node_at state.heap w.indirection) ≡ true
      link = link_i limits ok xs k was runs why w on

      by : NodeGoes state held s w.indirection x → Has later (OfNode w.indirection) x
      by (stays_held is) = stays (change_of state held s) held (OfNode w.indirection) (OfNode w.indirection) x has is
      by (given_private private up own) = absurd (gives_up_not limits ok xs s k was runs why w w' on how private up w.indirection (the_indirection refl) own)
      by (goes_over i f p told a v own same names) =
          let claims = acted.wants limits ok xs s o (run limits (xs ++ s ∷ [])) m refl (act.Decide i f p told) a in
          absurd (plain_not p (main_plain (node_at state.heap p) (meets_of claims.1.1.0)) (sym same))
      by (taken_back offer main c a on_c out unmarked d) = absurd (link_unoffered limits ok xs s k was runs why w w' on how offer main c a on_c unmarked d)
      by (left_at_look because v main a on_v at_check (of_replaced none own same)) = absurd (plain_not v.replaced (plain_replaced because v main a on_v at_check) (sym same))
      by (left_at_look because v main a on_v at_check (of_link none same_i same_m)) = absurd (not_replaced_there because v main a on_v at_check none same_i same_m)
      by (left_at_look because v main a on_v at_check (of_failed some same)) = absurd (plain_not v.fresh (plain_fresh because v main a on_v at_check) (sym same))
      by (left_at_look because v main a on_v at_check (of_failed_link some same_i same_f)) = absurd (not_failed_there because v main a on_v at_check some same_f)

  -- on the fresh node, until that is committed
  pub link_fresh_stays : (o : Outcome) → Moves state s o (run limits (xs ++ s ∷ [])) → (prev_at state.heap w.fresh ≡ prev.None → ⊥) → Has held (OfNode w.indirection) w.fresh →
      Has later (OfNode w.indirection) w.fresh
  link_fresh_stays o m over has =
      link_stays o m w.fresh (λ because v main a on_v at_check none same_i same_m. over (ap (prev_at state.heap) (sym same_m) ∙ decided_v because v main a on_v at_check))
      (λ because v main a on_v at_check some same. not_same because v main a on_v at_check same) has

  -- ---- where the fresh node was committed

  module _ (r : IsReplacedBy limits xs w.indirection w.replaced w.fresh) where
    pub link_before_stays : (o : Outcome) → Moves state s o (run limits (xs ++ s ∷ [])) → Has held (OfNode w.indirection) w.replaced → Has later (OfNode w.indirection) w.replaced
    link_before_stays o m has =
        link_stays o m w.replaced (λ because v main a on_v at_check none same_i same_m. not_replaced because v main a on_v at_check none same_i same_m r)
        (λ because v main a on_v at_check some same. some (ap (prev_at state.heap) same ∙ decided_m)) has

    module _ (own : is_owned held w.indirection w.replaced ≡ true) where
      one_link : (j : Ref) → is_owned held j w.replaced ≡ true → j ≡ w.indirection
      one_link j other = one_owner (run_is limits xs ok) j w.indirection w.replaced (owned_is_own limits ok xs j w.replaced other) (owned_is_own limits ok xs w.indirection w.replaced own)

      -- no pending node stands over the one that was replaced
      pending_not : (i f : Ref) (told : Option ℕ) (a : Acting state s (act.Decide i f w.replaced told)) (o : Outcome) → Moves state s o (run limits (xs ++ s ∷ [])) →
          verdict state.heap i f w.replaced told ≡ Commits → is_owned held i w.replaced ≡ true → ⊥
      pending_not i f told a o m v owns =
          let claims = acted.wants limits ok xs s o (run limits (xs ++ s ∷ [])) m refl (act.Decide i f w.replaced told) a in
          let pends = was_pending limits ok xs s o (run limits (xs ++ s ∷ [])) m refl i f w.replaced told a v in
          let stands = deciding_stands limits xs ok a.actor a.operation i f w.replaced told a.runs a.acts (safe_of claims.0) (safe_of claims.1.0) w.replaced pends in
          let counts : logical (main_at state.heap i) (prev_at state.heap (main_at state.heap i)) ≡ w.replaced = ap (λ x. logical x (prev_at state.heap x)) stands ∙ ap (logical f) pends in
          let same = one_link i owns in
          counts_no_more limits xs ok i w.replaced (replaced_of limits xs i w.replaced w.fresh (subst (λ x. IsReplacedBy limits xs x w.replaced w.fresh) (sym same) r))
          (safe_of claims.0, meets_of claims.0)
          counts

      pub rest_stays : (o : Outcome) → Moves state s o (run limits (xs ++ s ∷ [])) → (x : Ref) → Has held (OfNode w.replaced) x → Has later (OfNode w.replaced) x
      rest_stays o m x has = by (node_goes state held s w.replaced x)
        where
          plain : is_indirection (node_at state.heap w.replaced) ≡ false
          plain = plain_m limits ok xs k was runs why w on

          by : NodeGoes state held s w.replaced x → Has later (OfNode w.replaced) x
          by (stays_held is) = stays (change_of state held s) held (OfNode w.replaced) (OfNode w.replaced) x has is
          by (given_private private up its_own) = absurd (gives_up_not limits ok xs s k was runs why w w' on how private up w.replaced (the_replaced refl) its_own)
          by (goes_over i f p told a v owns same names) =
              absurd (pending_not i f told (subst (λ y. Acting state s (act.Decide i f y told)) same a) o m (subst (λ y. verdict state.heap i f y told ≡ Commits) same v)
              (subst (λ y. is_owned held i y ≡ true) same owns))
          by (taken_back offer main c a on_c out unmarked d) = absurd (main_unoffered limits ok xs s k was runs why w w' on how offer main c a on_c unmarked w.replaced plain d)
          by (left_at_look because v main a on_v at_check (of_replaced none owns same)) =
              absurd (not_replaced because v main a on_v at_check none (one_link v.indirection (subst (λ y. is_owned held v.indirection y ≡ true) same owns)) same r)
          by (left_at_look because v main a on_v at_check (of_link none same_i same_m)) =
              absurd (link_not w.replaced (ap (λ y. is_indirection (node_at state.heap y)) (sym same_i) ∙ link_v because v main a on_v at_check) plain)
          by (left_at_look because v main a on_v at_check (of_failed some same)) = absurd (some (ap (prev_at state.heap) same ∙ decided_m))
          by (left_at_look because v main a on_v at_check (of_failed_link some same_i same_f)) =
              absurd (link_not w.replaced (ap (λ y. is_indirection (node_at state.heap y)) (sym same_i) ∙ link_v because v main a on_v at_check) plain)
