-- What a put comes to, and a put of an absent key.
use Rattle.std.specs.Prelude.{◌≡◌, ◌⊎◌, ℕ, Bool, true, false, not, ◌&&◌, ◌==◌, if◌then◌else◌, Option, Result, Ok, IfOk, IfErr}
use Rattle.std.specs.FinMap as map
use Rattle.std.proofs.Common.{refl, sym, ap, inl, inr, ◌∙◌}
use Rattle.ctrie_map.specs.Vocabulary.{hash_of, Reply, Found, Crowded, is_crowded, others, put_if_absent_in, KeyMap}
use Rattle.history.specs.declared.calls.Call.TheVariants as call
use Rattle.history.specs.Effects.{put_in}
use Rattle.ctrie_map.specs.declared.errors.MapError.{MapError}
use Rattle.ctrie_map.specs.Changes.{Changes, HasLife, HasRoom, IsCrowdedAt, Refuses, set_if_absent}
use Rattle.ctrie_map.specs.Maps.{MapState, handles_of}
use Rattle.ctrie_map.specs.Performing.{Performs}
use Rattle.ctrie_map.specs.Telling.{found_in}
use Rattle.ctrie_map.proofs.Changing.{ComesTo, Writes, comes, done_so, refused_so}

module _ (before : MapState) (h k v : ℕ) where
  abbrev hash : ℕ → ℕ
  hash = hash_of before.core.limits.hash

  -- ---- put

  abbrev put_here : KeyMap → Reply × KeyMap
  put_here m = put_in hash m k v

  put_by : (m : KeyMap) → Writes (handles_of before) h m → (b : Bool) → is_crowded hash m k ≡ b →
      (IsCrowdedAt before h k × (put_here m ≡ (Crowded, m)))
      ⊎ ((a : Option ℕ) × (found_in (Ok (put_here m).0) ≡ Ok a) × ((a ≡ map.get m k) × HasRoom before k m) × ((put_here m).1 ≡ map.insert m k v))
  put_by m at true e = inl ((m, at, e), ap (λ b. if b then (Crowded, m) else (Found (map.get m k), map.insert m k v)) e)
  put_by m at false e =
      let is : put_here m ≡ (Found (map.get m k), map.insert m k v) = ap (λ b. if b then (Crowded, m) else (Found (map.get m k), map.insert m k v)) e in
      inr (map.get m k, ap (λ p. found_in (Ok p.0)) is, (refl, e), ap (λ p. p.1) is)

  abbrev PutDone : MapState → Option ℕ → Type 0
  PutDone after told = HasLife before × Changes before h (λ m. (told ≡ map.get m k) × HasRoom before k m) (λ m. map.insert m k v) after

  abbrev PutRefused : MapState → MapError → Type 0
  PutRefused after = Refuses before (call.Put h k v) (IsCrowdedAt before h k) after

  puts : (after : MapState) (result : Result Reply MapError) → Performs result before (call.Put h k v) after → ComesTo (PutDone after) (PutRefused after) (found_in result)
  puts after result p =
      comes found_in refl refl (λ copy. refl) (λ e. refl) before h (call.Put h k v) put_here (λ o. refl) (IsCrowdedAt before h k)
      (λ a m. (a ≡ map.get m k) × HasRoom before k m) (λ m. map.insert m k v) (λ m at. put_by m at (is_crowded hash m k) refl) after result p

  pub put_done : (after : MapState) (result : Result Reply MapError) (told : Result (Option ℕ) MapError) → told ≡ found_in result →
      Performs result before (call.Put h k v) after → IfOk told (PutDone after)
  put_done after result told is p = done_so (PutDone after) (PutRefused after) (found_in result) told is (puts after result p)

  pub put_refused : (after : MapState) (result : Result Reply MapError) (told : Result (Option ℕ) MapError) → told ≡ found_in result →
      Performs result before (call.Put h k v) after → IfErr told (PutRefused after)
  put_refused after result told is p = refused_so (PutDone after) (PutRefused after) (found_in result) told is (puts after result p)

  -- ---- put if absent

  abbrev absent_here : KeyMap → Reply × KeyMap
  absent_here m = put_if_absent_in hash m k v

  absent_by : (m : KeyMap) → Writes (handles_of before) h m → (there : Bool) → map.contains_key m k ≡ there → (b : Bool) → is_crowded hash m k ≡ b →
      (IsCrowdedAt before h k × (absent_here m ≡ (Crowded, m)))
      ⊎ ((a : Option ℕ) × (found_in (Ok (absent_here m).0) ≡ Ok a) × ((a ≡ map.get m k) × HasRoom before k m) × ((absent_here m).1 ≡ set_if_absent k v m))
  absent_by m at true t b e =
      let room : is_crowded hash m k ≡ false = ap (λ x. not x && (others hash m k == 32)) t in
      let is : absent_here m ≡ (Found (map.get m k), m) = ap (λ x. if x then (Found (map.get m k), m) else put_in hash m k v) t in
      inr (map.get m k, ap (λ p. found_in (Ok p.0)) is, (refl, room), ap (λ p. p.1) is ∙ sym (ap (λ x. if x then m else map.insert m k v) t))
  absent_by m at false t true e =
      let is : absent_here m ≡ put_in hash m k v = ap (λ x. if x then (Found (map.get m k), m) else put_in hash m k v) t in
      inl ((m, at, e), is ∙ ap (λ b. if b then (Crowded, m) else (Found (map.get m k), map.insert m k v)) e)
  absent_by m at false t false e =
      let is : absent_here m ≡ (Found (map.get m k), map.insert m k v) =
      ap (λ x. if x then (Found (map.get m k), m) else put_in hash m k v) t ∙ ap (λ b. if b then (Crowded, m) else (Found (map.get m k), map.insert m k v)) e in
      inr (map.get m k, ap (λ p. found_in (Ok p.0)) is, (refl, e), ap (λ p. p.1) is ∙ sym (ap (λ x. if x then m else map.insert m k v) t))

  abbrev AbsentDone : MapState → Option ℕ → Type 0
  AbsentDone after told = HasLife before × Changes before h (λ m. (told ≡ map.get m k) × HasRoom before k m) (set_if_absent k v) after

  abbrev AbsentRefused : MapState → MapError → Type 0
  AbsentRefused after = Refuses before (call.PutIfAbsent h k v) (IsCrowdedAt before h k) after

  absent_puts : (after : MapState) (result : Result Reply MapError) → Performs result before (call.PutIfAbsent h k v) after →
      ComesTo (AbsentDone after) (AbsentRefused after) (found_in result)
  absent_puts after result p =
      comes found_in refl refl (λ copy. refl) (λ e. refl) before h (call.PutIfAbsent h k v) absent_here (λ o. refl) (IsCrowdedAt before h k)
      (λ a m. (a ≡ map.get m k) × HasRoom before k m) (set_if_absent k v)
      (λ m at. absent_by m at (map.contains_key m k) refl (is_crowded hash m k) refl) after result p

  pub absent_done : (after : MapState) (result : Result Reply MapError) (told : Result (Option ℕ) MapError) → told ≡ found_in result →
      Performs result before (call.PutIfAbsent h k v) after → IfOk told (AbsentDone after)
  absent_done after result told is p = done_so (AbsentDone after) (AbsentRefused after) (found_in result) told is (absent_puts after result p)

  pub absent_refused : (after : MapState) (result : Result Reply MapError) (told : Result (Option ℕ) MapError) → told ≡ found_in result →
      Performs result before (call.PutIfAbsent h k v) after → IfErr told (AbsentRefused after)
  absent_refused after result told is p = refused_so (AbsentDone after) (AbsentRefused after) (found_in result) told is (absent_puts after result p)
