-- Limbo's epochs rise, and lie in the last three.
use Rattle.std.proofs.Common.{◌≡◌, ℕ, ◌+◌, ◌<◌, ◌≤◌, ◌&&◌, Bool, cond, nat_le, List, [], ◌∷◌, ◌++◌, map, filter, length, get_or, All, Option, Some, None, refl, sym, ap, ◌∙◌, subst}
use Rattle.std.proofs.Common.{◌⊎◌, inl, inr, leb-false, arith}
use Rattle.std.proofs.lemmas.Bool.{cond_both, cases_Bool}
use Rattle.std.proofs.lemmas.Option.{none-some}
use Rattle.std.proofs.lemmas.List.Elements.{All-nil, All-cons, All-head, All-tail, All-append, All-filter, All-map, All-weaker}
use Rattle.proof_memory.specs.Vocabulary.{Ref, Heap, Zeroed, Swept, is_zero, is_in_use, newly_zero, limbo_after, Reclaimer, ripe, sweep_by, Bounds, Outcome, Step, State, first_state, outside, run}
use Rattle.proof_memory.specs.Vocabulary.{pin_of, reclaimer_of, Begins, Ends, Sweeps, GivesUp, Moves, begun_operation}
use Rattle.machine_model.proofs.Along.{along}
use Rattle.machine_model.specs.Moves.{Goes}
use Rattle.proof_memory.specs.Laws.{IsRising}
use Rattle.proof_memory.proofs.Safety.Base.{begin_times}
use Rattle.proof_memory.proofs.Safety.Steps.{gone_epoch, limbo_is}

rising_filter : (p : Zeroed → Bool) (limbo : List Zeroed) → IsRising limbo → IsRising (filter p limbo)
rising_filter p [] h = tt
rising_filter p (z ∷ limbo) h =
    cond_both (p z) _ _ IsRising (λ e. (All-filter p (λ y. z.epoch ≤ y.epoch) limbo h.0, rising_filter p limbo h.1)) (λ e. rising_filter p limbo h.1)

-- what becomes zero now
abbrev zeroed_now : ℕ → Ref → Zeroed
zeroed_now now r = record { at = r; epoch = now }

rising_now : (now : ℕ) (rs : List Ref) → IsRising (map (zeroed_now now) rs)
rising_now now [] = tt
rising_now now (r ∷ rs) = (All-map (λ y. now ≤ y.epoch) (zeroed_now now) rs (λ k d within. omega arith), rising_now now rs)

rising_both : (now : ℕ) (limbo : List Zeroed) (rs : List Ref) → IsRising limbo → All (λ z. z.epoch ≤ now) limbo → IsRising (limbo ++ map (zeroed_now now) rs)
rising_both now [] rs h all = rising_now now rs
rising_both now (z ∷ limbo) rs h all =
    let low : z.epoch ≤ now = All-head (λ z. z.epoch ≤ now) z limbo all in (
      All-append (λ y. z.epoch ≤ y.epoch) limbo (map (zeroed_now now) rs) h.0 (All-map (λ y. z.epoch ≤ y.epoch) (zeroed_now now) rs (λ k d within. low)),
      rising_both now limbo rs h.1 (All-tail (λ z. z.epoch ≤ now) z limbo all),
    )

-- where none is ripe, none became zero two epochs ago
none_ripe : (now : ℕ) (limbo : List Zeroed) → IsRising limbo → ripe now limbo ≡ None → All (λ z. now ≤ z.epoch + 1) limbo
none_ripe now [] h e = All-nil (λ z. now ≤ z.epoch + 1)
none_ripe now (z ∷ limbo) h e = elim (cases_Bool (nat_le (z.epoch + 2) now)) [
  | inl old ↦ absurd (none-some z.at (sym e ∙ ap (λ b. cond b (Some z.at) None) old))
  | inr young ↦
      let low : now ≤ z.epoch + 1 = young_by (leb-false (z.epoch + 2) now young) in
      All-cons (λ z. now ≤ z.epoch + 1) z limbo low (All-weaker (λ y. z.epoch ≤ y.epoch) (λ y. now ≤ y.epoch + 1) (λ y le. more y low le) limbo h.0)
]
  where
    young_by : now < z.epoch + 2 → now ≤ z.epoch + 1
    young_by h = omega arith

    more : (y : Zeroed) → now ≤ z.epoch + 1 → z.epoch ≤ y.epoch → now ≤ y.epoch + 1
    more y a b = omega arith

-- the epoch stays, or grows by one where none is ripe
abbrev EpochStep : State → ℕ → Type 0
EpochStep state after = (after ≡ state.epoch) ⊎ ((after ≡ state.epoch + 1) × (ripe state.epoch state.limbo ≡ None))

swept_step : (state : State) (pins : List (Option ℕ)) (due : Option Ref) → ripe state.epoch state.limbo ≡ due → EpochStep state (sweep_by pins (reclaimer_of state) due).1.epoch
swept_step state pins (Some at) e = inl refl
swept_step state pins None e =
    cond_both (nat_le state.cursor (length pins)) _ _ (λ (done : Swept × Reclaimer). EpochStep state done.1.epoch) (λ b. inl refl) (λ b. inr (refl, e))

epoch_step : (state : State) (s : Step) (o : Outcome) (after : State) → Moves state s o after → EpochStep state after.epoch
epoch_step state s o after (Begins {actor} {call} {number} d) = inl (ap (λ (p : ℕ × ℕ). p.0) (begin_times state actor call (begun_operation state call number)))
epoch_step state s o after (Goes {actor} {operation} d is a g) = inl (gone_epoch state actor operation)
epoch_step state s o after (Ends d is a) = inl refl
epoch_step state s o after (GivesUp d is a) = inl refl
epoch_step state s o after (Sweeps spent) = swept_step state (map pin_of state.actors) (ripe state.epoch state.limbo) refl

-- ---- along a run

abbrev Lies : ℕ → Zeroed → Type 0
Lies now z = (z.epoch ≤ now) × (now ≤ z.epoch + 2)

abbrev pub LimboLies : State → Type 0
LimboLies state = IsRising state.limbo × All (λ z. (z.epoch ≤ state.epoch) × (state.epoch ≤ z.epoch + 2)) state.limbo

-- the old ones after a step
old_lie : (state : State) (now : ℕ) → EpochStep state now → LimboLies state → All (Lies now) state.limbo
old_lie state now (inl e) h = All-weaker (Lies state.epoch) (Lies now) (λ z l. subst (λ n. Lies n z) (sym e) l) state.limbo h.1
old_lie state now (inr (e, none)) h =
    λ k d within. lies (get_or state.limbo k d) ((h.1 k d within).0) (none_ripe state.epoch state.limbo h.0 none k d within)
  where
    lies : (z : Zeroed) → z.epoch ≤ state.epoch → state.epoch ≤ z.epoch + 1 → Lies now z
    lies z a b = (omega (arith, e), omega (arith, e))

lies_after : (heap : Heap) (outside : List Ref) (now : ℕ) (limbo : List Zeroed) → IsRising limbo → All (Lies now) limbo →
    IsRising (limbo_after heap outside now limbo) × All (Lies now) (limbo_after heap outside now limbo)
lies_after heap outside now limbo rises all =
    let kept = filter (λ z. is_in_use heap z.at && is_zero heap outside z.at) limbo in
    let lie = All-filter (λ z. is_in_use heap z.at && is_zero heap outside z.at) (Lies now) limbo all in (
      rising_both now kept (newly_zero heap outside limbo) (rising_filter _ limbo rises) (All-weaker (Lies now) (λ z. z.epoch ≤ now) (λ z l. l.0) kept lie),
      All-append (Lies now) kept (map (zeroed_now now) (newly_zero heap outside limbo)) lie
          (All-map (Lies now) (zeroed_now now) (newly_zero heap outside limbo) (λ k d within. (omega arith, omega arith))),
    )

lies_next : (state : State) (s : Step) (o : Outcome) (after : State) → Moves state s o after → LimboLies state → LimboLies after
lies_next state s o after m h =
    subst (λ l. IsRising l × All (Lies after.epoch) l) (sym (limbo_is state s o after m))
    (lies_after after.heap (outside after) after.epoch state.limbo h.0 (old_lie state after.epoch (epoch_step state s o after m) h))

pub limbo_lies : (limits : Bounds) (steps : List Step) → LimboLies (run limits steps)
unfolding first_state
limbo_lies limits = along limits LimboLies (tt, All-nil _) (λ steps s o after m h. lies_next (run limits steps) s o after m h)
