-- How near the next slot of limbo is to being freed by the sweep, where no operation runs.
use Rattle.std.specs.Prelude.{◌≡◌, ◌≢◌, ◌≤◌, ◌+◌, ◌*◌, ◌-◌, ◌&&◌, ℕ, zero, suc, Bool, true, false, nat_le, is_some, All, List, [], ◌∷◌, ◌++◌, filter, length, map, slice_index_or, Option}
use Rattle.std.specs.Prelude.{Some, None, if◌then◌else◌}
use Rattle.std.specs.List.{list_any}
use Rattle.std.proofs.Common.{refl, sym, ap, subst, arith, eq-eqb, leb-true, leb-false, ◌∙◌}
use Rattle.std.proofs.lemmas.Bool.{and_from, false≢true, lt-ltb}
use Rattle.std.proofs.lemmas.List.{length-map}
use Rattle.std.proofs.lemmas.List.Elements.{All-head}
use Rattle.proof_memory.specs.Vocabulary.{Ref, freed, in_use, times, Swept, Zeroed, is_in_use, is_zero, limbo_after, newly_zero, Reclaimer, advanced, is_passed, ripe, scanned, sweep_by, Operation}
use Rattle.proof_memory.specs.Vocabulary.{Bounds, Outcome, Step, gone, handle_of, outside, settled, is_busy, pin_of, reclaimer_of, run, swept_with, Moves, Begins, Ends, Sweeps, GivesUp}
use Rattle.proof_memory.specs.Vocabulary.{begun_operation, action_of, State, first_state}
use Rattle.proof_memory.specs.Beneath.epochs.proofs.InUse.{live_in_use}
use Rattle.proof_memory.specs.Beneath.epochs.proofs.Staying.{any_times}
use Rattle.machine_model.specs.declared.steps.Step.TheVariants as step
use Rattle.machine_model.specs.Moves.{Goes}
use Rattle.machine_model.proofs.Along.{along}
use Rattle.machine_model.proofs.Frames.{acted_framed}
use Rattle.proof_memory.specs.Laws.{IsZero}
use Rattle.proof_memory.proofs.Holding.Lives.{in_use_lives}
use Rattle.proof_memory.proofs.Limbo.Epochs.{LimboLies}
use Rattle.proof_memory.proofs.Limbo.Exact.{zeros_stand}
use Rattle.proof_memory.proofs.Safety.Base.{begin_times}
use Rattle.proof_memory.proofs.Safety.States.{IsSafe}

-- ---- how far it is to the next slot

-- so many steps until the epoch grows, where no actor has recorded one
abbrev until_grown : ℕ → ℕ → ℕ
until_grown actors cursor = suc (actors + 1 - cursor)

-- so many until a slot is ripe, by whether it is, and whether it will be in the next epoch
abbrev until_by : Bool → Bool → ℕ → ℕ → ℕ
until_by true next actors cursor = 0
until_by false true actors cursor = until_grown actors cursor
until_by false false actors cursor = until_grown actors cursor + actors + 1

-- until the first of limbo is; the most, where limbo is empty
abbrev pub until_ripe : ℕ → ℕ → ℕ → List Zeroed → ℕ
until_ripe actors cursor epoch [] = 2 * actors + 2
until_ripe actors cursor epoch (z ∷ limbo) = until_by (nat_le (z.epoch + 2) epoch) (nat_le (z.epoch + 1) epoch) actors cursor

until_most : (actors cursor : ℕ) → 1 ≤ cursor → (now next : Bool) → until_by now next actors cursor ≤ 2 * actors + 2
until_most actors cursor counts true next = omega arith
until_most actors cursor counts false true = omega (arith, counts)
until_most actors cursor counts false false = omega (arith, counts)

pub ripe_most : (actors cursor epoch : ℕ) → 1 ≤ cursor → (limbo : List Zeroed) → until_ripe actors cursor epoch limbo ≤ 2 * actors + 2
ripe_most actors cursor epoch counts [] = omega arith
ripe_most actors cursor epoch counts (z ∷ limbo) = until_most actors cursor counts _ _

-- an actor is passed
passed_nearer : (actors cursor : ℕ) → cursor ≤ actors → (now next : Bool) → now ≡ false → until_by now next actors (cursor + 1) + 1 ≤ until_by now next actors cursor
passed_nearer actors cursor within true next young = absurd (false≢true (sym young))
passed_nearer actors cursor within false true young = omega (arith, within)
passed_nearer actors cursor within false false young = omega (arith, within)

-- the epoch grows
grown_nearer : (actors cursor epoch since : ℕ) → since ≤ epoch → (now next now' next' : Bool) → nat_le (since + 2) epoch ≡ now → nat_le (since + 1) epoch ≡ next →
    nat_le (since + 2) (epoch + 1) ≡ now' → nat_le (since + 1) (epoch + 1) ≡ next' → now ≡ false → until_by now' next' actors 1 + 1 ≤ until_by now next actors cursor
grown_nearer actors cursor epoch since low true next now' next' a b c d young = absurd (false≢true (sym young))
grown_nearer actors cursor epoch since low false true true next' a b c d young = omega arith
grown_nearer actors cursor epoch since low false true false next' a b c d young =
    let old = leb-true (since + 1) epoch b in let late = leb-false (since + 2) (epoch + 1) c in absurd (omega (arith, old, late))
grown_nearer actors cursor epoch since low false false true next' a b c d young = omega arith
grown_nearer actors cursor epoch since low false false false true a b c d young = omega arith
grown_nearer actors cursor epoch since low false false false false a b c d young =
    let late = leb-false (since + 1) (epoch + 1) d in absurd (omega (arith, low, late))

-- ---- one step

-- a slot is freed, or the next one is nearer
pub data Nears (actors : ℕ) (before after : State) : Type 0 where
  frees : length after.heap.free ≡ suc (length before.heap.free) → Nears actors before after
  nears : length after.heap.free ≡ length before.heap.free →
      until_ripe actors after.cursor after.epoch after.limbo + 1 ≤ until_ripe actors before.cursor before.epoch before.limbo → Nears actors before after

-- nobody has recorded an epoch where nothing runs
none_pinned : (xs : List (Option Operation)) (k : ℕ) → list_any is_some xs ≡ false → slice_index_or (map pin_of xs) k None ≡ None
none_pinned [] k idle = refl
none_pinned (None ∷ xs) zero idle = refl
none_pinned (None ∷ xs) (suc k) idle = none_pinned xs k idle
none_pinned (Some operation ∷ xs) k idle = absurd (false≢true (sym idle))

module _ (state : State) (I : IsSafe state) (lies : LimboLies state) (idle : is_busy state ≡ false)
    (z : Zeroed) (limbo : List Zeroed) (first : state.limbo ≡ z ∷ limbo) where
  abbrev pins : List (Option ℕ)
  pins = map pin_of state.actors

  abbrev settled_so : Swept × Reclaimer → State
  settled_so done = settled state (swept_with state done).1

  -- the first of limbo waits
  waits : (is_in_use state.heap z.at && is_zero state.heap (outside state) z.at) ≡ true
  waits =
      let zero_there : IsZero state z.at = All-head (λ y. IsZero state y.at) z limbo (subst (λ l. All (λ y. IsZero state y.at) l) first (zeros_stand state I)) in
      and_from _ _ (any_times z.at (in_use state.heap) ∙ lt-ltb 0 (times z.at (in_use state.heap)) (live_in_use state.heap z.at (in_use_lives state.heap z.at zero_there.0)))
      (eq-eqb _ 0 zero_there.1)

  -- so it stays there
  stays : (epoch : ℕ) → (more : List Zeroed) × (limbo_after state.heap (outside state) epoch state.limbo ≡ z ∷ more)
  stays epoch = (
    _,
    ap (λ l. limbo_after state.heap (outside state) epoch l) first
        ∙ ap (λ b. (if b then z ∷ filter (λ y. is_in_use state.heap y.at && is_zero state.heap (outside state) y.at) limbo
        else filter (λ y. is_in_use state.heap y.at && is_zero state.heap (outside state) y.at) limbo)
        ++ map (λ r. record { at = r; epoch = epoch }) (newly_zero state.heap (outside state) (z ∷ limbo))) waits,
  )

  low : z.epoch ≤ state.epoch
  low =
      let recent = subst (λ l. All (λ y. (y.epoch ≤ state.epoch) × (state.epoch ≤ y.epoch + 2)) l) first lies.1 in
      (All-head (λ y. (y.epoch ≤ state.epoch) × (state.epoch ≤ y.epoch + 2)) z limbo recent).0

  young_by : (b : Bool) → (if b then Some z.at else None) ≡ None → b ≡ false
  young_by true e = cc e
  young_by false e = refl

  before_is : until_ripe (length pins) state.cursor state.epoch state.limbo ≡ until_by (nat_le (z.epoch + 2) state.epoch) (nat_le (z.epoch + 1) state.epoch) (length pins) state.cursor
  before_is = ap (until_ripe (length pins) state.cursor state.epoch) first

  module _ (young : nat_le (z.epoch + 2) state.epoch ≡ false) where
    passes : state.cursor ≤ length pins → (passed : Bool) → passed ≡ true → Nears (length pins) state (settled_so (scanned (reclaimer_of state) passed))
    passes within false e = absurd (false≢true e)
    passes within true e =
        let (more, is) = stays state.epoch in
        nears refl
        (subst (λ n. until_ripe (length pins) (state.cursor + 1) state.epoch (limbo_after state.heap (outside state) state.epoch state.limbo) + 1 ≤ n) (sym before_is)
        (subst (λ l. until_ripe (length pins) (state.cursor + 1) state.epoch l + 1 ≤ until_by (nat_le (z.epoch + 2) state.epoch) (nat_le (z.epoch + 1) state.epoch) (length pins) state.cursor)
        (sym is) (passed_nearer (length pins) state.cursor within _ _ young)))

    grows : Nears (length pins) state (settled_so (advanced (reclaimer_of state)))
    grows =
        let (more, is) = stays (state.epoch + 1) in
        nears refl
        (subst (λ n. until_ripe (length pins) 1 (state.epoch + 1) (limbo_after state.heap (outside state) (state.epoch + 1) state.limbo) + 1 ≤ n) (sym before_is)
        (subst (λ l. until_ripe (length pins) 1 (state.epoch + 1) l + 1 ≤ until_by (nat_le (z.epoch + 2) state.epoch) (nat_le (z.epoch + 1) state.epoch) (length pins) state.cursor) (sym is)
        (grown_nearer (length pins) state.cursor state.epoch z.epoch low _ _ _ _ refl refl refl refl young)))

    scans : (b : Bool) → nat_le state.cursor (length pins) ≡ b →
        Nears (length pins) state (settled_so (if b then scanned (reclaimer_of state) (is_passed state.epoch (slice_index_or pins (state.cursor - 1) None)) else advanced (reclaimer_of state)))
    scans true e = passes (leb-true state.cursor (length pins) e) _ (ap (is_passed state.epoch) (none_pinned state.actors (state.cursor - 1) idle))
    scans false e = grows

  by_due : (due : Option Ref) → ripe state.epoch (z ∷ limbo) ≡ due → Nears (length pins) state (settled_so (sweep_by pins (reclaimer_of state) due))
  unfolding freed
  by_due (Some at) e = frees refl
  by_due None e = scans (young_by (nat_le (z.epoch + 2) state.epoch) e) _ refl

  sweep_nears : Nears (length pins) state (settled_so (sweep_by pins (reclaimer_of state) (ripe state.epoch state.limbo)))
  sweep_nears = by_due (ripe state.epoch state.limbo) (ap (ripe state.epoch) (sym first))

-- ---- the cursor counts actors from 1

swept_counts : (pins : List (Option ℕ)) (r : Reclaimer) (due : Option Ref) → 1 ≤ r.cursor → 1 ≤ (sweep_by pins r due).1.cursor
swept_counts pins r (Some at) h = h
swept_counts pins r None h = by (nat_le r.cursor (length pins))
  where
    by : (b : Bool) → 1 ≤ (if b then scanned r (is_passed r.epoch (slice_index_or pins (r.cursor - 1) None)) else advanced r).1.cursor
    by true = omega (arith, h)
    by false = omega arith

cursor_counts : (state : State) (s : Step) (o : Outcome) (after : State) → Moves state s o after → 1 ≤ state.cursor → 1 ≤ after.cursor
cursor_counts state s o after (Begins {actor} {call} {number} d) h = omega (arith, h, ap (λ (p : ℕ × ℕ). p.1) (begin_times state actor call (begun_operation state call number)))
cursor_counts state s o after (Goes {actor} {operation} d is a g) h =
    let same : (gone state actor operation).cursor ≡ state.cursor = (acted_framed _ (handle_of operation.call) (action_of state operation)).cursor in omega (arith, h, same)
cursor_counts state s o after (Ends d is a) h = h
cursor_counts state s o after (GivesUp d is a) h = h
cursor_counts state s o after (Sweeps spent) h = swept_counts (map pin_of state.actors) (reclaimer_of state) (ripe state.epoch state.limbo) h

pub counts_along : (limits : Bounds) (steps : List Step) → 1 ≤ (run limits steps).cursor
unfolding first_state
counts_along limits = along limits (λ state. 1 ≤ state.cursor) (omega arith) (λ steps s o after m h. cursor_counts (run limits steps) s o after m h)

-- a step of the sweep frees a slot or comes nearer to it, and nothing runs behind it
pub move_nears : (state : State) → IsSafe state → LimboLies state → is_busy state ≡ false → state.limbo ≢ [] → (actors : ℕ) → length state.actors ≡ actors → (o : Outcome) (after : State) →
    Moves state step.Sweep o after → Nears actors state after × (is_busy after ≡ false)
move_nears state I lies idle some actors many o after (Sweeps spent) = (subst (λ n. Nears n state after) (length-map _ _ ∙ many) (by_limbo state.limbo refl), idle)
  where
    by_limbo : (limbo : List Zeroed) → state.limbo ≡ limbo → Nears (length (map pin_of state.actors)) state after
    by_limbo [] none = absurd (some none)
    by_limbo (z ∷ limbo) first = sweep_nears state I lies idle z limbo first
