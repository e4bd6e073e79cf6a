-- What calls come to that change a key which has a value.
use Rattle.std.specs.Prelude.{◌≡◌, ℕ, Bool, Option, Result, IfOk, IfErr}
use Rattle.std.specs.FinMap as map
use Rattle.std.proofs.Common.{refl, inr}
use Rattle.history.specs.declared.calls.Call.TheVariants as call
use Rattle.ctrie_map.specs.Vocabulary.{Reply, has_value, replace_in, replace_if_in}
use Rattle.ctrie_map.specs.declared.errors.MapError.{MapError}
use Rattle.ctrie_map.specs.Changes.{Changes, HasLife, Refuses, set_if_it_has, set_if_there}
use Rattle.ctrie_map.specs.Maps.{MapState}
use Rattle.ctrie_map.specs.Performing.{Performs}
use Rattle.ctrie_map.specs.Telling.{found_in, truth_in}
use Rattle.ctrie_map.proofs.Changing.{ComesTo, comes, done_so, refused_so}

-- ---- replace

module _ (before : MapState) (h k v : ℕ) where
  abbrev ReplaceDone : MapState → Option ℕ → Type 0
  ReplaceDone after told = HasLife before × Changes before h (λ m. told ≡ map.get m k) (set_if_there k v) after

  abbrev ReplaceRefused : MapState → MapError → Type 0
  ReplaceRefused after = Refuses before (call.Replace h k v) ⊥ after

  replaces : (after : MapState) (result : Result Reply MapError) → Performs result before (call.Replace h k v) after → ComesTo (ReplaceDone after) (ReplaceRefused after) (found_in result)
  replaces after result p =
      comes found_in refl refl (λ copy. refl) (λ e. refl) before h (call.Replace h k v) (λ m. replace_in m k v) (λ o. refl) ⊥ (λ told m. told ≡ map.get m k)
      (set_if_there k v) (λ m at. inr (_, refl, refl, refl)) after result p

  pub replace_done : (after : MapState) (result : Result Reply MapError) (told : Result (Option ℕ) MapError) → told ≡ found_in result →
      Performs result before (call.Replace h k v) after → IfOk told (ReplaceDone after)
  replace_done after result told is p = done_so (ReplaceDone after) (ReplaceRefused after) (found_in result) told is (replaces after result p)

  pub replace_refused : (after : MapState) (result : Result Reply MapError) (told : Result (Option ℕ) MapError) → told ≡ found_in result →
      Performs result before (call.Replace h k v) after → IfErr told (ReplaceRefused after)
  replace_refused after result told is p = refused_so (ReplaceDone after) (ReplaceRefused after) (found_in result) told is (replaces after result p)

-- ---- replace if

module _ (before : MapState) (h k a b : ℕ) where
  abbrev ReplaceIfDone : MapState → Bool → Type 0
  ReplaceIfDone after told = HasLife before × Changes before h (λ m. told ≡ has_value m k a) (set_if_it_has k a b) after

  abbrev ReplaceIfRefused : MapState → MapError → Type 0
  ReplaceIfRefused after = Refuses before (call.ReplaceIf h k a b) ⊥ after

  replace_ifs : (after : MapState) (result : Result Reply MapError) → Performs result before (call.ReplaceIf h k a b) after → ComesTo (ReplaceIfDone after) (ReplaceIfRefused after) (truth_in result)
  replace_ifs after result p =
      comes truth_in refl refl (λ copy. refl) (λ e. refl) before h (call.ReplaceIf h k a b) (λ m. replace_if_in m k a b) (λ o. refl) ⊥ (λ told m. told ≡ has_value m k a)
      (set_if_it_has k a b) (λ m at. inr (_, refl, refl, refl)) after result p

  pub replace_if_done : (after : MapState) (result : Result Reply MapError) (told : Result (Bool) MapError) → told ≡ truth_in result →
      Performs result before (call.ReplaceIf h k a b) after → IfOk told (ReplaceIfDone after)
  replace_if_done after result told is p = done_so (ReplaceIfDone after) (ReplaceIfRefused after) (truth_in result) told is (replace_ifs after result p)

  pub replace_if_refused : (after : MapState) (result : Result Reply MapError) (told : Result (Bool) MapError) → told ≡ truth_in result →
      Performs result before (call.ReplaceIf h k a b) after → IfErr told (ReplaceIfRefused after)
  replace_if_refused after result told is p = refused_so (ReplaceIfDone after) (ReplaceIfRefused after) (truth_in result) told is (replace_ifs after result p)
