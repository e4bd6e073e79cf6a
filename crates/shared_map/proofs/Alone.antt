-- What one shard answers to a request that is about it.
use Rattle.std.proofs.Common.{◌≡◌, ◌≢◌, ◌⊎◌, inl, inr, ℕ, ◌%◌, List, length, Option, Some, None, Result, Ok, Err, IsOk, option_map, refl, sym, ap, subst, ◌∙◌, slice_set}
use Rattle.std.specs.Prelude.{IfOk, IfErr}
use Rattle.std.specs.Global.{Vec}
use Rattle.std.specs.FinMap as maps
use Rattle.std.proofs.lemmas.Option.{same_Some}
use Rattle.shared_map.specs.Vocabulary.{HashKind, Call}
use Rattle.ctrie_map.specs.Calling.{Calls}
use Rattle.ctrie_map.specs.Costs.{WorksUpTo, work_of_call}
use Rattle.ctrie_map.specs.declared.errors.MapError.TheVariants.{Memory}
use Rattle.ctrie_map.specs.declared.errors.MapError.{MapError}
use Rattle.ctrie_map.specs.Maps.{MapState, handles_of}
use Rattle.ctrie_map.specs.Reading.{RefusesReading, read_of, reading}
use Rattle.sharded_gate.specs.Shards.{AnswersAlone}
use Rattle.shared_map.specs.Answering.{AnswersAll, MapAnswers}
use Rattle.shared_map.specs.declared.asks.Answer.TheVariants as answer
use Rattle.shared_map.specs.Asking.{TellsFull}
use Rattle.shared_map.specs.Asks.{Replied, Told, about, key_in, place_asked, place_of, told_as}
use Rattle.shared_map.specs.Beneath.proof_core.specs.Scanning.{scanned}
use Rattle.shared_map.specs.Readings.{entries_in}
use Rattle.shared_map.specs.Shards.{AreShards, world_of_all}
use Rattle.shared_map.specs.declared.asks.Ask.{Ask}
use Rattle.shared_map.specs.declared.asks.Ask.TheVariants.{Do, Scan}
use Rattle.shared_map.specs.declared.asks.Request.{Request}
use Rattle.shared_map.proofs.KeyCalls.{key_call_answers}
use Rattle.shared_map.proofs.OfShards as shards
use Rattle.shared_map.proofs.Places.{set_found}
use Rattle.shared_map.proofs.Scanned.{reads}

-- a shard that a call has is that of its key
keyed : (f : ℕ → ℕ) (o : Option ℕ) (shard : ℕ) → option_map f o ≡ Some shard → (k : ℕ) × (o ≡ Some k) × (f k ≡ shard)
keyed f None shard e = cc
keyed f (Some k) shard e = (k, refl, (let same : f k ≡ shard = cc in same))

module _ (seat : ℕ) (s t : MapState) (request : Request) where
  pub called_alone : (call : Call) (replied : Replied) → request.ask ≡ Do call → request.hash ≡ s.core.limits.hash → Calls replied s call t →
      TellsFull s call replied → WorksUpTo (work_of_call call) s t → AnswersAlone MapAnswers about seat s request (told_as answer.Reply replied) t
  called_alone call replied ask_is hash_is calls full works whole shard at is hash are =
      let (k, key, here) = keyed (λ key. place_of request.hash (length whole) key) (key_in call) shard
      (ap (place_asked request.hash (length whole)) (sym ask_is) ∙ is) in
      let same : request.hash ≡ hash = hash_is ∙ shards.hash_is hash whole are shard s at in
      let (answers, next) = key_call_answers hash whole are shard s t at k (ap (λ h. place_of h (length whole) k) (sym same) ∙ here) call key replied calls full works in
      record {
        shards = next;
        answered = λ e. subst (λ a. AnswersAll hash whole a (told_as answer.Reply replied) (slice_set whole shard t)) (sym ask_is) (replied, refl, answers);
        strange = λ apart. absurd (apart same);
      }

  pub strange_alone : request.hash ≢ s.core.limits.hash → AnswersAlone MapAnswers about seat s request (Err Memory) s
  strange_alone apart whole shard at is hash are =
      let stays = set_found whole shard s at in record {
        shards = subst (AreShards hash) (sym stays) are;
        answered = λ e. absurd (apart (e ∙ sym (shards.hash_is hash whole are shard s at)));
        strange = λ _. (refl, stays);
      }

  -- ---- a scan

  module _ (h room : ℕ) (cursor : Option ℕ) where
    -- what the shard's own map tells
    abbrev own_part : Result (List (ℕ × ℕ)) MapError
    own_part = reading s h (λ m. scanned s.core.limits.hash cursor room (maps.entries m))

    abbrev TellsPart : Told → Result (List (ℕ × ℕ)) MapError → Type 0
    TellsPart told part = (told ≡ told_as answer.Part part) ⊎ ((told ≡ Err Memory) × IsOk part)

    told_so : (part : Result (Vec (ℕ × ℕ)) MapError) (told : Told) → IfOk part (λ entries. own_part ≡ Ok entries.items) → IfErr part (RefusesReading own_part) →
        IfOk part (λ entries. told ≡ Ok (answer.Part entries.items)) → IfErr part (λ error. told ≡ Err error) → TellsPart told own_part
    told_so (Ok entries) told is none tells fails = inl (tells ∙ sym (ap (told_as answer.Part) is))
    told_so (Err error) told none (inl is) fits tells = inl (tells ∙ sym (ap (told_as answer.Part) is))
    told_so (Err error) told none (inr (memory, could)) fits tells = inr (tells ∙ ap Err memory, could)

    pub scanned_alone : (number : ℕ) (part : Result (Vec (ℕ × ℕ)) MapError) (told : Told) → request.ask ≡ Scan h number cursor room → request.hash ≡ s.core.limits.hash → t ≡ s →
        IfOk part (λ entries. own_part ≡ Ok entries.items) → IfErr part (RefusesReading own_part) →
        IfOk part (λ entries. told ≡ Ok (answer.Part entries.items)) → IfErr part (λ error. told ≡ Err error) → AnswersAlone MapAnswers about seat s request told t
    scanned_alone number part told ask_is hash_is stays entries refused tells fails whole shard at is hash are =
        let its : s.core.limits.hash ≡ hash = shards.hash_is hash whole are shard s at in
        let here : number % length whole ≡ shard = same_Some (number % length whole) shard (ap (place_asked request.hash (length whole)) (sym ask_is) ∙ is) in
        let part_is : own_part ≡ read_of (λ m. scanned hash cursor room (entries_in hash (length whole) (number % length whole) m)) (maps.get (world_of_all whole) h) =
        ap (λ kind. read_of (λ m. scanned kind cursor room (maps.entries m)) (maps.get (handles_of s) h)) its
        ∙ reads hash whole are shard s at h (scanned hash cursor room)
        ∙ ap (λ i. read_of (λ m. scanned hash cursor room (entries_in hash (length whole) i m)) (maps.get (world_of_all whole) h)) (sym here) in
        let same = shards.same_after hash whole are shard s at t stays in record {
          shards = subst (AreShards hash) (sym same) are;
          answered = λ e. subst (λ a. AnswersAll hash whole a told (slice_set whole shard t)) (sym ask_is) (same, subst (TellsPart told) part_is (told_so part told entries refused tells fails));
          strange = λ apart. absurd (apart (hash_is ∙ its));
        }

  -- ---- any other is about all

  no_place : (hash : HashKind) (many : ℕ) (ask : Ask) → ((call : Call) → ask ≢ Do call) → ((h number room : ℕ) (cursor : Option ℕ) → ask ≢ Scan h number cursor room) → place_asked hash many ask ≡ None
  no_place hash many (Do call) other apart = absurd (other call refl)
  no_place hash many (Scan h number cursor room) other apart = absurd (apart h number room cursor refl)
  no_place hash many ask other apart = refl

  pub none_alone : (told : Told) → ((call : Call) → request.ask ≢ Do call) → ((h number room : ℕ) (cursor : Option ℕ) → request.ask ≢ Scan h number cursor room) →
      AnswersAlone MapAnswers about seat s request told t
  none_alone told other apart whole shard at is hash are =
      let bad : None ≡ Some shard = sym (no_place request.hash (length whole) request.ask other apart) ∙ is in cc
