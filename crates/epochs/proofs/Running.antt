-- What was referred to while an operation ran isn't freed while it runs.
use Rattle.std.proofs.Common.{◌≡◌, ℕ, zero, suc, ◌+◌, ◌-◌, ◌<◌, ◌≤◌, ◌&&◌, not, nat_le, Bool, true, false, cond, List, map, filter, length}
use Rattle.std.proofs.Common.{take, get_or, All, Option, Some, None, refl, sym, ap, ◌∙◌, subst, inl, inr, arith, eqb-true}
use Rattle.std.proofs.lemmas.Bool.{cases_lt, false≢true}
use Rattle.std.proofs.lemmas.List.{get_or_past}
use Rattle.std.proofs.lemmas.Option.{none-some}
use Rattle.std.proofs.lemmas.List.Elements.{All-append, All-weaker, All-take, All-drop, All-map, All-filter, filter_passes}
use Rattle.std.specs.Prelude.{slice_index_or}
use Rattle.slot_arena.specs.declared.refs.Ref.{Ref}
use Rattle.slot_arena.specs.Heaps.{Heap, in_use}
use Rattle.slot_arena.specs.Counts.{count_of}
use Rattle.slot_arena.specs.Times.{times}
use Rattle.epochs.specs.declared.limbo.Zeroed.{Zeroed}
use Rattle.epochs.specs.Limbo.{is_zero, is_in, is_in_use, newly_zero, limbo_after}
use Rattle.epochs.specs.Sweeping.{Reclaimer, ripe, scanned, advanced, is_passed, sweep_by, swept_once, IsOlder}
use Rattle.epochs.specs.Memories.{Memory, reclaimer_of, freed_by, staying}
use Rattle.epochs.specs.Laws.{IsCall, RunningKeeps}
use Rattle.epochs.proofs.Listing.{all_members}
use Rattle.epochs.proofs.Rising.{times-by_birth, filter_in}

-- ---- the epoch never falls

pub sweep_rises : (pins : List (Option ℕ)) (r : Reclaimer) (o : Option Ref) → r.epoch ≤ (sweep_by pins r o).1.epoch
sweep_rises pins r (Some at) = omega arith
sweep_rises pins r None = by_test (nat_le r.cursor (length pins))
  where
    by_test : (b : Bool) → r.epoch ≤ (cond b (scanned r (is_passed r.epoch (slice_index_or pins (r.cursor - 1) None))) (advanced r)).1.epoch
    by_test true = omega arith
    by_test false = omega arith

call_rises : (before after : Memory) → IsCall before after → before.epoch ≤ after.epoch
call_rises before after (inl stays) = let is = stays.1 in omega arith
call_rises before after (inr (inl settles)) = let is = settles.1 in omega arith
call_rises before after (inr (inr (did, (swept, limbo, older)))) =
    let is : after.epoch ≡ (swept_once before.pins (reclaimer_of before)).1.epoch = ap (λ p. p.1.epoch) swept in
    omega (arith, sweep_rises before.pins (reclaimer_of before) (ripe before.epoch before.limbo))

-- ---- a slot that is referred to isn't in limbo

right_one : (b c : Bool) → (b && c) ≡ true → c ≡ true
right_one true c told = told
right_one false c told = absurd (false≢true told)

left_one : (b c : Bool) → (b && c) ≡ true → b ≡ true
left_one true c told = refl
left_one false c told = absurd (false≢true told)

module _ (heap : Heap) (outside : List Ref) (epoch : ℕ) (limbo : List Zeroed) (r : Ref) (some : 0 < count_of heap outside r) where
  not_zero : is_zero heap outside r ≡ true → ⊥
  not_zero told = let none = eqb-true (count_of heap outside r) 0 told in omega arith

  pub counted_out : All (λ z. z.at ≡ r → ⊥) (limbo_after heap outside epoch limbo)
  counted_out =
      All-append (λ (z : Zeroed). z.at ≡ r → ⊥) (staying heap outside limbo) (map (λ q. record { at = q; epoch = epoch }) (newly_zero heap outside limbo))
      (All-weaker (λ z. (is_in_use heap z.at && is_zero heap outside z.at) ≡ true) (λ z. z.at ≡ r → ⊥)
      (λ z told same. not_zero (sym (ap (is_zero heap outside) same) ∙ right_one (is_in_use heap z.at) (is_zero heap outside z.at) told))
      (staying heap outside limbo) (filter_passes (λ z. is_in_use heap z.at && is_zero heap outside z.at) limbo))
      (All-map (λ (z : Zeroed). z.at ≡ r → ⊥) (λ q. record { at = q; epoch = epoch }) (newly_zero heap outside limbo)
      (All-weaker (λ q. 0 < times q (newly_zero heap outside limbo)) (λ q. q ≡ r → ⊥) new (newly_zero heap outside limbo) (all_members (newly_zero heap outside limbo))))
    where
      test : Ref → Bool
      test q = is_zero heap outside q && not (is_in limbo q)

      new : (q : Ref) → 0 < times q (newly_zero heap outside limbo) → q ≡ r → ⊥
      new q member same =
          let found = filter_in test q (in_use heap) (omega (arith, member, times-by_birth q (filter test (in_use heap)))) in
          not_zero (sym (ap (is_zero heap outside) same) ∙ left_one (is_zero heap outside q) (not (is_in limbo q)) found.1)

-- ---- what enters limbo later has a later epoch

abbrev Late : Ref → ℕ → Zeroed → Type 0
Late r recorded z = z.at ≡ r → recorded ≤ z.epoch

settles_late : (heap : Heap) (outside : List Ref) (epoch : ℕ) (limbo : List Zeroed) (r : Ref) (recorded : ℕ) → recorded ≤ epoch → All (Late r recorded) limbo
    → All (Late r recorded) (limbo_after heap outside epoch limbo)
settles_late heap outside epoch limbo r recorded enough all =
    All-append (Late r recorded) (staying heap outside limbo) (map (λ q. record { at = q; epoch = epoch }) (newly_zero heap outside limbo))
    (All-filter (λ z. is_in_use heap z.at && is_zero heap outside z.at) (Late r recorded) limbo all)
    (All-map (Late r recorded) (λ q. record { at = q; epoch = epoch }) (newly_zero heap outside limbo) (λ k d within same. enough))

call_late : (before after : Memory) (r : Ref) (recorded : ℕ) → IsCall before after → recorded ≤ before.epoch → All (Late r recorded) before.limbo → All (Late r recorded) after.limbo
call_late before after r recorded (inl stays) enough all = subst (All (Late r recorded)) (sym stays.0) all
call_late before after r recorded (inr (inl settles)) enough all =
    subst (All (Late r recorded)) (sym settles.0) (settles_late before.heap before.outside before.epoch before.limbo r recorded enough all)
call_late before after r recorded (inr (inr (did, (swept, limbo, older)))) enough all =
    subst (All (Late r recorded)) (sym limbo) (All-drop (Late r recorded) (freed_by did) before.limbo all)

module _ (memories : ℕ → Memory) (calls : (t : ℕ) → IsCall (memories t) (memories (t + 1))) where
  rises : (d t u : ℕ) → u ≡ t + d → (memories t).epoch ≤ (memories u).epoch
  rises zero t u is = let same = ap (λ i. (memories i).epoch) is_t in omega arith
    where
      is_t : u ≡ t
      is_t = omega arith
  rises (suc d) t u is =
      let before = rises d t (t + d) refl in
      let step = call_rises (memories (t + d)) (memories (t + d + 1)) (calls (t + d)) in
      let next : u ≡ t + d + 1 = omega arith in
      let same = ap (λ i. (memories i).epoch) next in
      omega arith

  late : (r : Ref) (recorded seen : ℕ) → recorded ≤ (memories seen).epoch → All (Late r recorded) (memories seen).limbo → (d u : ℕ) → u ≡ seen + d → All (Late r recorded) (memories u).limbo
  late r recorded seen enough all zero u is = subst (λ i. All (Late r recorded) (memories i).limbo) is_seen all
    where
      is_seen : seen ≡ u
      is_seen = omega arith
  late r recorded seen enough all (suc d) u is =
      let grown = rises d seen (seen + d) refl in
      let next : seen + d + 1 ≡ u = omega arith in
      subst (λ i. All (Late r recorded) (memories i).limbo) next
      (call_late (memories (seen + d)) (memories (seen + d + 1)) r recorded (calls (seen + d)) (omega arith) (late r recorded seen enough all d (seen + d) refl))

-- an actor has recorded an epoch: it is one of the actors
recorded_within : (pins : List (Option ℕ)) (actor recorded : ℕ) → get_or pins actor None ≡ Some recorded → actor < length pins
recorded_within pins actor recorded is = elim (cases_lt actor (length pins)) [
  | inl within ↦ within
  | inr past ↦ absurd (none-some recorded (sym (get_or_past pins actor None past) ∙ is))
]

pub running_keeps : RunningKeeps
running_keeps memories calls begun seen now actor r did after before (limbo, settled) some runs (swept, left, older) =
    All-both (take (freed_by did) (memories now).limbo) older (All-take (Late r recorded) (freed_by did) (memories now).limbo all)
  where
    recorded : ℕ
    recorded = (memories begun).epoch

    all : All (Late r recorded) (memories now).limbo
    all =
        late memories calls r recorded seen (rises memories calls (seen - begun) begun seen (omega arith))
        (All-weaker (λ z. z.at ≡ r → ⊥) (Late r recorded) (λ z apart same. absurd (apart same)) (memories seen).limbo
        (subst (All (λ z. z.at ≡ r → ⊥)) (sym settled) (counted_out (memories seen).heap (memories seen).outside (memories seen).epoch limbo r some)))
        (now - seen) now (omega arith)

    All-both : (zs : List Zeroed) → All (λ z. All (IsOlder z.epoch) (memories now).pins) zs → All (Late r recorded) zs → All (λ z. z.at ≡ r → ⊥) zs
    All-both zs old young k d within same =
        let old_one : IsOlder (get_or zs k d).epoch (get_or (memories now).pins actor None) = old k d within actor None (recorded_within (memories now).pins actor recorded runs) in
        let less : (get_or zs k d).epoch < recorded = subst (IsOlder (get_or zs k d).epoch) runs old_one in
        let least = young k d within same in
        omega arith
