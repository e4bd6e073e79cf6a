-- A slot of limbo has been referred to by nothing since a state of its epoch; so what is freed is zero for two epochs.
use Rattle.std.proofs.Common.{◌≡◌, ℕ, ◌+◌, ◌≤◌, Bool, nat_le, List, [], ◌∷◌, ◌++◌, map, filter, All, Option, Some, None, Ok, Err, refl, sym, ap, ◌∙◌, subst, ◌⊎◌, inl, inr}
use Rattle.std.proofs.Common.{append_assoc, append-nil, leb-true, arith}
use Rattle.std.proofs.lemmas.Bool.{cases_eq}
use Rattle.std.proofs.lemmas.Option.{none-some, same_Some, cond_some}
use Rattle.std.proofs.lemmas.List.{same_from_push}
use Rattle.std.proofs.lemmas.List.Elements.{All-nil, All-head, All-append, All-filter, All-map, All-weaker}
use Rattle.proof_memory.specs.Vocabulary.{Ref, Zeroed, limbo_after, ripe, Bounds, Outcome, Step, State, first_state, outside, Answer, AreBounds, run, run_from, next, next_state, state_after, Moves}
use Rattle.proof_memory.specs.Vocabulary.{MovesIfTaken}
use Rattle.machine_model.specs.declared.steps.Step.TheVariants as step
use Rattle.machine_model.proofs.Along.{along, by_last, run_push}
use Rattle.machine_model.proofs.Moves.{moves}
use Rattle.proof_memory.specs.Laws.{IsInUse, IsZero}
use Rattle.proof_memory.proofs.Heap.Effects.{stays}
use Rattle.proof_memory.proofs.Safety.States.{IsSafe}
use Rattle.proof_memory.proofs.Safety.Steps.{step_effect, limbo_is, due_in, due_ripe}
use Rattle.proof_memory.proofs.Safety.AtEachTime.{safe_along}
use Rattle.proof_memory.proofs.Limbo.Exact.{HasZeros, zeros_stand, zeros_in_limbo}
use Rattle.proof_memory.proofs.Safety.First.{first_zeros}

-- ---- exactness along runs

pub has_zeros : (limits : Bounds) → AreBounds limits → (steps : List Step) → HasZeros (run limits steps)
has_zeros limits ok = along limits HasZeros (first_zeros limits ok) (λ steps s o after m h. zeros_in_limbo (run limits steps) after (limbo_is (run limits steps) s o after m))

-- ---- since when

-- nothing has referred to it since these of the steps, after which the epoch was that one
abbrev pub ZeroSince : Bounds → List Step → Zeroed → Type 0
ZeroSince limits steps z =
    (before since : List Step) × (steps ≡ before ++ since) × ((run limits before).epoch ≡ z.epoch) × ((a b : List Step) → since ≡ a ++ b → IsZero (run limits (before ++ a)) z.at)

-- a list's beginnings, with one more at its end
ends_so : (b : List Step) → (b ≡ []) ⊎ ((init : List Step) × (last : Step) × (b ≡ init ++ last ∷ []))
ends_so [] = inl refl
ends_so (x ∷ b) = elim (ends_so b) [
  | inl none ↦ inr ([], x, ap (λ l. x ∷ l) none)
  | inr some ↦ inr (x ∷ some.0, some.1, ap (λ l. x ∷ l) some.2)
]

beginning : (since a b : List Step) (s : Step) → since ++ s ∷ [] ≡ a ++ b → (a ≡ since ++ s ∷ []) ⊎ ((init : List Step) × (since ≡ a ++ init))
beginning since a b s e = elim (ends_so b) [
  | inl none ↦ inl (sym (append-nil a) ∙ ap (λ l. a ++ l) (sym none) ∙ sym e)
  | inr some ↦ inr (some.0, (same_from_push since (a ++ some.0) s some.1 (e ∙ ap (λ l. a ++ l) some.2 ∙ sym (append_assoc a some.0 (some.1 ∷ [])))).0)
]

module _ (limits : Bounds) (steps : List Step) (s : Step) where
  -- it goes on being so
  still_since : (z : Zeroed) → ZeroSince limits steps z → IsZero (run limits (steps ++ s ∷ [])) z.at → ZeroSince limits (steps ++ s ∷ []) z
  still_since z (before, since, e, epoch, zeros) now = (
    before,
    since ++ s ∷ [],
    ap (λ l. l ++ s ∷ []) e ∙ append_assoc before since (s ∷ []),
    epoch,
    λ a b parts. elim (beginning since a b s parts) [
      | inl all ↦ subst (λ l. IsZero (run limits l) z.at) (ap (λ l. l ++ s ∷ []) e ∙ append_assoc before since (s ∷ []) ∙ ap (λ l. before ++ l) (sym all)) now
      | inr some ↦ zeros a some.0 some.1
    ],
  )

  -- it becomes so
  since_now : (z : Zeroed) → (run limits (steps ++ s ∷ [])).epoch ≡ z.epoch → IsZero (run limits (steps ++ s ∷ [])) z.at → ZeroSince limits (steps ++ s ∷ []) z
  since_now z epoch now = (
    steps ++ s ∷ [],
    [],
    sym (append-nil (steps ++ s ∷ [])),
    epoch,
    λ a b parts. subst (λ l. IsZero (run limits l) z.at) (sym (ap (λ l. (steps ++ s ∷ []) ++ l) (nothing a b parts) ∙ append-nil (steps ++ s ∷ []))) now,
  )
    where
      nothing : (a b : List Step) → [] ≡ a ++ b → a ≡ []
      nothing [] b e = refl
      nothing (x ∷ a) b e = absurd (no_list x (a ++ b) e)
        where
          no_list : (x : Step) (l : List Step) → [] ≡ x ∷ l → ⊥
          no_list x l e = cc

-- each slot of limbo
abbrev AllSince : Bounds → List Step → Type 0
AllSince limits steps = All (ZeroSince limits steps) (run limits steps).limbo

module _ (limits : Bounds) (ok : AreBounds limits) (steps : List Step) (h : AllSince limits steps) (s : Step) where
  abbrev after : State
  after = run limits (steps ++ s ∷ [])

  after_is : after ≡ next_state (run limits steps) s
  after_is = run_push (first_state limits) steps s

  zeros_now : All (λ z. IsZero after z.at) after.limbo
  zeros_now = zeros_stand after (safe_along limits ok (steps ++ s ∷ []))

  -- where it is zero now, it is zero since
  abbrev IfZero : Zeroed → Type 0
  IfZero z = IsZero after z.at → ZeroSince limits (steps ++ s ∷ []) z

  both : All IfZero after.limbo → All (ZeroSince limits (steps ++ s ∷ [])) after.limbo
  both all k d within = all k d within (zeros_now k d within)

  old : All IfZero (run limits steps).limbo
  old = All-weaker (ZeroSince limits steps) IfZero (λ z since now. still_since limits steps s z since now) (run limits steps).limbo h

  new_and_old : (rs : List Ref) (p : Zeroed → Bool) → All IfZero (filter p (run limits steps).limbo ++ map (λ r. record { at = r; epoch = after.epoch }) rs)
  new_and_old rs p =
      All-append IfZero (filter p (run limits steps).limbo) _ (All-filter p IfZero (run limits steps).limbo old)
      (All-map IfZero (λ r. record { at = r; epoch = after.epoch }) rs (λ k d within now. since_now limits steps s _ refl now))

  by_answer : (answer : Answer) → after ≡ state_after (run limits steps) answer → MovesIfTaken (run limits steps) s answer → All IfZero after.limbo
  by_answer (Err why) e m = subst (All IfZero) (sym (ap (λ (state : State). state.limbo) e)) old
  by_answer (Ok done) e m =
      subst (All IfZero) (sym (limbo_now e m)) (new_and_old _ _)
    where
      limbo_now : after ≡ done.1 → Moves (run limits steps) s done.0 done.1 → after.limbo ≡ limbo_after after.heap (outside after) after.epoch (run limits steps).limbo
      limbo_now same m =
          subst (λ (state : State). state.limbo ≡ limbo_after state.heap (outside state) state.epoch (run limits steps).limbo) (sym same) (limbo_is (run limits steps) s done.0 done.1 m)

  all_since_after : AllSince limits (steps ++ s ∷ [])
  all_since_after = both (by_answer (next (run limits steps) s) after_is (moves (run limits steps) s))

none_since : (limits : Bounds) → AllSince limits []
unfolding first_state run_from
none_since limits = All-nil _

pub all_since : (limits : Bounds) → AreBounds limits → (steps : List Step) → AllSince limits steps
all_since limits ok = by_last (AllSince limits) (none_since limits) (λ steps s h. all_since_after limits ok steps h s)

-- ---- what is freed

-- what is ripe stands first in limbo, and became zero two epochs ago
ripe_first : (limbo : List Zeroed) (now : ℕ) (P : Zeroed → Type 0) (r : Ref) → All P limbo → ripe now limbo ≡ Some r → (z : Zeroed) × (z.at ≡ r) × (z.epoch + 2 ≤ now) × P z
ripe_first [] now P r all e = absurd (none-some r e)
ripe_first (z ∷ limbo) now P r all e =
    let (old, at) = cond_some (nat_le (z.epoch + 2) now) z.at r e in
    (z, at, leb-true (z.epoch + 2) now old, All-head P z limbo all)

-- only what is due goes
goes_due : (state : State) → IsSafe state → (s : Step) (o : Outcome) (after : State) → Moves state s o after → (r : Ref) → IsInUse state.heap r → (IsInUse after.heap r → ⊥) → due_in state s ≡ Some r
goes_due state I s o after m r (slot, found) gone = by_due (due_in state s) refl
  where
    stays_if : (due_in state s ≡ Some r → ⊥) → ⊥
    stays_if apart =
        let (epoch, low, high, effect) = step_effect state I s o after m in
        let (now, at_r, same) = stays _ _ _ _ _ _ effect r slot found apart in gone (now, at_r)

    by_due : (due : Option Ref) → due_in state s ≡ due → due_in state s ≡ Some r
    by_due None e = absurd (stays_if (λ is. none-some r (sym e ∙ is)))
    by_due (Some q) e = elim (cases_eq q r) [
      | inl same ↦ e ∙ ap Some same
      | inr other ↦ absurd (stays_if (λ is. other (same_Some _ _ (sym e ∙ is))))
    ]

goes_by : (state : State) → IsSafe state → (s : Step) (answer : Answer) → MovesIfTaken state s answer → (r : Ref) → IsInUse state.heap r →
    (IsInUse (state_after state answer).heap r → ⊥) → due_in state s ≡ Some r
goes_by state I s (Ok done) m r used gone = goes_due state I s done.0 done.1 m r used gone
goes_by state I s (Err why) m r used gone = absurd (gone used)

only_sweep : (state : State) (s : Step) (r : Ref) → due_in state s ≡ Some r → s ≡ step.Sweep
only_sweep state (step.Begin actor call number) r e = absurd (none-some r e)
only_sweep state (step.Go actor) r e = absurd (none-some r e)
only_sweep state step.Sweep r e = refl
only_sweep state (step.GiveUp actor) r e = absurd (none-some r e)

pub freed_late : (limits : Bounds) → AreBounds limits → (steps : List Step) (s : Step) (r : Ref) → IsInUse (run limits steps).heap r → (IsInUse (next_state (run limits steps) s).heap r → ⊥) →
    (s ≡ step.Sweep)
    × ((before since : List Step) × (steps ≡ before ++ since) × ((run limits before).epoch + 2 ≤ (run limits steps).epoch)
    × ((a b : List Step) → since ≡ a ++ b → IsZero (run limits (before ++ a)) r))
freed_late limits ok steps s r used gone =
    let due = goes_by (run limits steps) (safe_along limits ok steps) s (next (run limits steps) s) (moves (run limits steps) s) r used gone in
    let (z, at, old, zero_since) = ripe_first (run limits steps).limbo (run limits steps).epoch (ZeroSince limits steps) r (all_since limits ok steps) (due_ripe (run limits steps) s r due) in
    let (before, since, e, epoch, zeros) = zero_since in (
      only_sweep (run limits steps) s r due,
      (before, since, e, two_later (run limits before).epoch z.epoch (run limits steps).epoch epoch old, λ a b parts. subst (IsZero (run limits (before ++ a))) at (zeros a b parts)),
    )
  where
    two_later : (x y now : ℕ) → x ≡ y → y + 2 ≤ now → x + 2 ≤ now
    two_later x y now e h = omega arith
