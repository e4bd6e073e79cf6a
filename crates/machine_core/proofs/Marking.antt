-- Marks that stand in the table of root words are those that the definition sets by the ids of operations.
use Rattle.std.specs.Prelude.{◌≡◌, ◌==◌, ◌-◌, ◌<◌, ◌≤◌, ℕ, suc, Bool, true, false, List, [], ◌∷◌, length, map, slice_get, slice_index_or, slice_set}
use Rattle.std.specs.Prelude.{Option, Some, None, option_map, refl, if◌then◌else◌}
use Rattle.std.proofs.Common.{arith, sym, ap, subst, ◌∙◌, get_or, set}
use Rattle.std.proofs.lemmas.Bool.{eqb-true, false≢true}
use Rattle.std.proofs.lemmas.List.{get_or-set_same, get_or-set_other}
use Rattle.machine_core.specs.Vocabulary.{HashKind, Action, Operation, Descriptor, marked, State, word_at, is_carried_out, Table, carried_offer}
use Rattle.machine_model.specs.declared.actions.Action.TheVariants as act
use Rattle.machine_model.proofs.Actors.{after_marks, marks_of}
use Rattle.running.proofs.Offers.{marked_at, unmarked}
use Rattle.machine_core.specs.declared.parts.Actor.{Actor}
use Rattle.machine_core.specs.declared.parts.UnderWay.{UnderWay}
use Rattle.machine_core.specs.Keeping.{AreSeated}
use Rattle.machine_core.specs.Seen.{actors_seen, operation_at, operation_seen}
use Rattle.proof_core.proofs.Mapped.{map_alike, map_replaced}

-- the action marks the operation whose offer it carries out
pub marks_carried : (state : State) (handle : ℕ) (action : Action) →
    marks_of state handle action ≡ option_map (λ (offer : Descriptor). offer.operation) (carried_offer (word_at state handle) action)
marks_carried state handle (act.Complete offer main) = by (is_carried_out (word_at state handle) offer main)
  where
    by : (b : Bool) → (if b then Some offer.operation else None) ≡ option_map (λ (offer : Descriptor). offer.operation) (if b then Some offer else None)
    by true = refl
    by false = refl
marks_carried state handle action = refl

-- ---- the mark of one actor

-- with a table whose mark for the operation's actor is this, the operation is as before but for that
pub remarked : (before after : Table) (actor : Actor) → ((u : UnderWay) → actor.under_way ≡ Some u → slice_index_or after.marks u.job.actor false ≡ slice_index_or before.marks u.job.actor false) →
    operation_seen after actor ≡ operation_seen before actor
remarked before after actor each = by actor.under_way refl
  where
    by : (o : Option UnderWay) → actor.under_way ≡ o → option_map (operation_at after actor.programs) o ≡ option_map (operation_at before actor.programs) o
    by None is = refl
    by (Some u) is = ap (λ (m : Bool). Some (record (operation_at before actor.programs u) { is_marked = m })) (each u is)

unmarked_other : (marks : List Bool) (actor i : ℕ) (action : Action) → (i ≡ actor → ⊥) → slice_index_or (unmarked marks actor action) i false ≡ slice_index_or marks i false
unmarked_other marks actor i (act.Offer offer) other = get_or-set_other marks actor i false false other
unmarked_other marks actor i action other = refl

-- ---- before marks are set

-- the actor's operation gives way to what it becomes, and if it offered its mark is taken away
pub stood : (hashes : HashKind) (before now : Table) (actors : List Actor) (actor : ℕ) (is : Actor) (action : Action) (after : Operation) → AreSeated hashes actors → 1 ≤ actor →
    now.marks ≡ unmarked before.marks actor action → operation_seen now is ≡ Some after →
    slice_set (actors_seen before actors) (actor - 1) (Some after) ≡ actors_seen now (slice_set actors (actor - 1) is)
stood hashes before now actors actor is action after seats counts marks stands =
    ap (slice_set (actors_seen before actors) (actor - 1)) (sym stands)
    ∙ sym (map_replaced (operation_seen before) (operation_seen now) actors (actor - 1) is (λ i y other at. remarked before now y (λ u runs.
    let number = (seats i y at).number u runs in
    let apart : u.job.actor ≡ actor → ⊥ = λ e. other (omega (arith, number, e, counts)) in
    ap (λ ms. slice_index_or ms u.job.actor false) marks ∙ unmarked_other before.marks actor u.job.actor action apart)))

-- ---- marks

-- whoever has this id is the actor who offered, and nobody else has it
abbrev pub Offered : ℕ → ℕ → List Actor → Type 0
Offered id offerer actors =
    (i : ℕ) (x : Actor) (u : UnderWay) → slice_get actors i ≡ Some x → x.under_way ≡ Some u → (u.job.id ≡ id → offerer ≡ u.job.actor) × (offerer ≡ u.job.actor → u.job.id ≡ id)

twice : {X Y Z : Type 0} (h : Y → Z) (f : X → Y) (g : X → Z) (xs : List X) → ((i : ℕ) (x : X) → slice_get xs i ≡ Some x → h (f x) ≡ g x) → map h (map f xs) ≡ map g xs
twice h f g [] each = refl
twice h f g (x ∷ xs) each = ap (λ y. y ∷ map h (map f xs)) (each 0 x refl) ∙ ap (λ ys. g x ∷ ys) (twice h f g xs (λ i y e. each (suc i) y e))

mark_at : (marks : List Bool) (offerer actor : ℕ) (was : Bool) (own : Bool) → offerer < length marks → (own ≡ true → offerer ≡ actor) → (offerer ≡ actor → own ≡ true) →
    slice_index_or marks actor false ≡ was → (if own then true else was) ≡ slice_index_or (slice_set marks offerer true) actor false
mark_at marks offerer actor was true within one other is = sym (subst (λ a. get_or (set marks offerer true) a false ≡ true) (one refl) (get_or-set_same marks offerer true false within))
mark_at marks offerer actor was false within one other is =
    sym (get_or-set_other marks offerer actor true false (λ e. false≢true (other (sym e))) ∙ is)

mark_if : (operation : Operation) (b m : Bool) → (if b then true else operation.is_marked) ≡ m → (if b then record operation { is_marked = true } else operation) ≡ record operation { is_marked = m }
mark_if operation true m is = ap (λ (x : Bool). record operation { is_marked = x }) is
mark_if operation false m is = ap (λ (x : Bool). record operation { is_marked = x }) is

same_id : (a b : ℕ) → a ≡ b → (a == b) ≡ true
same_id a b e = grind (arith, e)

-- the definition marks by id, the table by the actor who offered
pub marks_alike : (now after : Table) (actors : List Actor) (carried : Option Descriptor) (offerer : ℕ) → after.marks ≡ marked_at now.marks offerer carried →
    ((offer : Descriptor) → carried ≡ Some offer → (offerer < length now.marks) × Offered offer.operation offerer actors) →
    after_marks (option_map (λ (offer : Descriptor). offer.operation) carried) (actors_seen now actors) ≡ actors_seen after actors
marks_alike now after actors None offerer marks offered =
    sym (map_alike (operation_seen now) (operation_seen after) actors (λ i x at. remarked now after x (λ u runs. ap (λ ms. slice_index_or ms u.job.actor false) marks)))
marks_alike now after actors (Some offer) offerer marks offered =
    twice (marked offer.operation) (operation_seen now) (operation_seen after) actors (λ i x at. one x (λ u runs. (offered offer refl).1 i x u at runs))
  where
    one : (x : Actor) → ((u : UnderWay) → x.under_way ≡ Some u → (u.job.id ≡ offer.operation → offerer ≡ u.job.actor) × (offerer ≡ u.job.actor → u.job.id ≡ offer.operation)) →
        marked offer.operation (operation_seen now x) ≡ operation_seen after x
    one x each = by x.under_way refl
      where
        by : (o : Option UnderWay) → x.under_way ≡ o → marked offer.operation (option_map (operation_at now x.programs) o) ≡ option_map (operation_at after x.programs) o
        by None is = refl
        by (Some u) is =
            let fits = each u is in
            ap Some (mark_if (operation_at now x.programs u) (u.job.id == offer.operation) (slice_index_or after.marks u.job.actor false)
            (mark_at now.marks offerer u.job.actor (slice_index_or now.marks u.job.actor false) (u.job.id == offer.operation) (offered offer refl).0
            (λ e. fits.0 (eqb-true u.job.id offer.operation e)) (λ e. same_id u.job.id offer.operation (fits.1 e)) refl
            ∙ ap (λ ms. slice_index_or ms u.job.actor false) (sym marks)))
