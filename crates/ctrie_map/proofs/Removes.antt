-- What calls come to that remove keys.
use Rattle.std.specs.Prelude.{◌≡◌, ℕ, Bool, Option, Result, IfOk, IfErr}
use Rattle.std.specs.FinMap as map
use Rattle.std.proofs.Common.{refl, inr}
use Rattle.history.specs.declared.calls.Call.TheVariants as call
use Rattle.ctrie_map.specs.Vocabulary.{Reply, Cleared, has_value, remove_in, remove_if_in}
use Rattle.ctrie_map.specs.declared.errors.MapError.{MapError}
use Rattle.ctrie_map.specs.Changes.{Changes, HasLife, IsAny, Refuses, removed_if_it_has}
use Rattle.ctrie_map.specs.Maps.{MapState}
use Rattle.ctrie_map.specs.Performing.{Performs}
use Rattle.ctrie_map.specs.Telling.{done_in, found_in, truth_in}
use Rattle.ctrie_map.proofs.Changing.{ComesTo, comes, done_so, refused_so}

-- ---- remove

module _ (before : MapState) (h k : ℕ) where
  abbrev RemoveDone : MapState → Option ℕ → Type 0
  RemoveDone after told = HasLife before × Changes before h (λ m. told ≡ map.get m k) (λ m. map.remove m k) after

  abbrev RemoveRefused : MapState → MapError → Type 0
  RemoveRefused after = Refuses before (call.Remove h k) ⊥ after

  removes : (after : MapState) (result : Result Reply MapError) → Performs result before (call.Remove h k) after → ComesTo (RemoveDone after) (RemoveRefused after) (found_in result)
  removes after result p =
      comes found_in refl refl (λ copy. refl) (λ e. refl) before h (call.Remove h k) (λ m. remove_in m k) (λ o. refl) ⊥ (λ told m. told ≡ map.get m k)
      (λ m. map.remove m k) (λ m at. inr (_, refl, refl, refl)) after result p

  pub remove_done : (after : MapState) (result : Result Reply MapError) (told : Result (Option ℕ) MapError) → told ≡ found_in result →
      Performs result before (call.Remove h k) after → IfOk told (RemoveDone after)
  remove_done after result told is p = done_so (RemoveDone after) (RemoveRefused after) (found_in result) told is (removes after result p)

  pub remove_refused : (after : MapState) (result : Result Reply MapError) (told : Result (Option ℕ) MapError) → told ≡ found_in result →
      Performs result before (call.Remove h k) after → IfErr told (RemoveRefused after)
  remove_refused after result told is p = refused_so (RemoveDone after) (RemoveRefused after) (found_in result) told is (removes after result p)

-- ---- remove if

module _ (before : MapState) (h k v : ℕ) where
  abbrev RemoveIfDone : MapState → Bool → Type 0
  RemoveIfDone after told = HasLife before × Changes before h (λ m. told ≡ has_value m k v) (removed_if_it_has k v) after

  abbrev RemoveIfRefused : MapState → MapError → Type 0
  RemoveIfRefused after = Refuses before (call.RemoveIf h k v) ⊥ after

  remove_ifs : (after : MapState) (result : Result Reply MapError) → Performs result before (call.RemoveIf h k v) after → ComesTo (RemoveIfDone after) (RemoveIfRefused after) (truth_in result)
  remove_ifs after result p =
      comes truth_in refl refl (λ copy. refl) (λ e. refl) before h (call.RemoveIf h k v) (λ m. remove_if_in m k v) (λ o. refl) ⊥ (λ told m. told ≡ has_value m k v)
      (removed_if_it_has k v) (λ m at. inr (_, refl, refl, refl)) after result p

  pub remove_if_done : (after : MapState) (result : Result Reply MapError) (told : Result (Bool) MapError) → told ≡ truth_in result →
      Performs result before (call.RemoveIf h k v) after → IfOk told (RemoveIfDone after)
  remove_if_done after result told is p = done_so (RemoveIfDone after) (RemoveIfRefused after) (truth_in result) told is (remove_ifs after result p)

  pub remove_if_refused : (after : MapState) (result : Result Reply MapError) (told : Result (Bool) MapError) → told ≡ truth_in result →
      Performs result before (call.RemoveIf h k v) after → IfErr told (RemoveIfRefused after)
  remove_if_refused after result told is p = refused_so (RemoveIfDone after) (RemoveIfRefused after) (truth_in result) told is (remove_ifs after result p)

-- ---- clear

module _ (before : MapState) (h : ℕ) where
  abbrev ClearDone : MapState → Unit {0} → Type 0
  ClearDone after told = HasLife before × Changes before h IsAny (λ m. map.empty) after

  abbrev ClearRefused : MapState → MapError → Type 0
  ClearRefused after = Refuses before (call.Clear h) ⊥ after

  clears : (after : MapState) (result : Result Reply MapError) → Performs result before (call.Clear h) after → ComesTo (ClearDone after) (ClearRefused after) (done_in result)
  clears after result p =
      comes done_in refl refl (λ copy. refl) (λ e. refl) before h (call.Clear h) (λ m. (Cleared, map.empty)) (λ o. refl) ⊥ (λ told. IsAny)
      (λ m. map.empty) (λ m at. inr (tt, refl, tt, refl)) after result p

  pub clear_done : (after : MapState) (result : Result Reply MapError) (told : Result (Unit {0}) MapError) → told ≡ done_in result →
      Performs result before (call.Clear h) after → IfOk told (ClearDone after)
  clear_done after result told is p = done_so (ClearDone after) (ClearRefused after) (done_in result) told is (clears after result p)

  pub clear_refused : (after : MapState) (result : Result Reply MapError) (told : Result (Unit {0}) MapError) → told ≡ done_in result →
      Performs result before (call.Clear h) after → IfErr told (ClearRefused after)
  clear_refused after result told is p = refused_so (ClearDone after) (ClearRefused after) (done_in result) told is (clears after result p)
