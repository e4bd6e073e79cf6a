-- What is answered by shards of which there is one is answered by this map alone.
use Rattle.std.proofs.Common.{◌≡◌, ℕ, ◌*◌, false, List, [], ◌∷◌, length, map, Option, Some, None, option_map, slice_get}
use Rattle.std.proofs.Common.{Ok, Err, refl, sym, ap, subst, ◌∙◌, arith, one-mul}
use Rattle.std.specs.FinMap as maps
use Rattle.std.proofs.lemmas.Bool.{true≢false}
use Rattle.std.proofs.lemmas.List.Sums.{sum_by-cons}
use Rattle.std.proofs.lemmas.Option.{same_Some}
use Rattle.shared_map.specs.Vocabulary.{hash_of, HashKind, Call, Reply, HandleMap}
use Rattle.history.specs.declared.calls.Call.TheVariants as call
use Rattle.history.specs.declared.replies.Reply.TheVariants as reply
use Rattle.ctrie_map.specs.Calling.{Calls, IsRead}
use Rattle.ctrie_map.specs.Changes.{denial_among}
use Rattle.ctrie_map.specs.Cores.{is_worn_out}
use Rattle.ctrie_map.specs.Costs.{WorksUpTo, work_of_call}
use Rattle.ctrie_map.specs.declared.errors.MapError.{MapError}
use Rattle.ctrie_map.specs.declared.errors.MapError.TheVariants as error
use Rattle.ctrie_map.specs.Maps.{HasThen, MapState, handles_of}
use Rattle.ctrie_map.specs.Names.{IsNext}
use Rattle.ctrie_map.specs.Performing.{EffectAmong, Performs, effect_among}
use Rattle.ctrie_map.specs.Reading.{read_of}
use Rattle.shared_map.specs.Answering.{AreBegun, CallsAll, ChangesAll, HaveThen, RepliesAll, WorkUpTo}
use Rattle.shared_map.specs.Asking.{TellsFull}
use Rattle.shared_map.specs.Asks.{Replied, key_in, place_of}
use Rattle.shared_map.specs.Laws.{OneShardIsAMap}
use Rattle.shared_map.specs.Shards.{IsNoneTight, LackSlots, concerned, is_any_worn_out, those_at, world_of_all}
use Rattle.shared_map.proofs.OnePlace.{only_place}
use Rattle.shared_map.proofs.OneShard.{or_none}
use Rattle.shared_map.proofs.United.{united_one}

module _ (s : MapState) where
  abbrev hash : HashKind
  hash = s.core.limits.hash

  abbrev before : List MapState
  before = s ∷ []

  world_is : world_of_all before ≡ handles_of s
  world_is = united_one (handles_of s)

  -- each call is about it
  by_key : (key : Option ℕ) → those_at (option_map (place_of hash 1) key) before ≡ before
  by_key None = refl
  by_key (Some k) = ap (λ i. those_at (Some i) before) (only_place hash k)

  about : (c : Call) → concerned hash c before ≡ before
  about c = by_key (key_in c)

  worn_is : (c : Call) → is_any_worn_out (concerned hash c before) ≡ is_worn_out s.core
  worn_is c = ap (λ xs. is_any_worn_out xs) (about c) ∙ or_none (is_worn_out s.core)

  denial_is : (c : Call) → denial_among (world_of_all before) c ≡ denial_among (handles_of s) c
  denial_is c = ap (λ w. denial_among w c) world_is

  -- what becomes of it
  become : (world : HandleMap) (last : ℕ) (after : List MapState) → HaveThen before world last after → (t : MapState) × (after ≡ t ∷ []) × HasThen s world last t
  become world last [] p = absurd (let none = ap length p.0 in omega (arith, none))
  become world last (t ∷ []) p = (t, refl, (same_Some t.core.limits s.core.limits (ap (λ ls. slice_get ls 0) p.0), p.1, sym (united_one (handles_of t)) ∙ p.2))
  become world last (t ∷ u ∷ us) p = absurd (let more = ap length p.0 in omega (arith, more))

  works : (t : MapState) (c : Call) → WorkUpTo (length (concerned hash c before) * work_of_call c) before (t ∷ []) → WorksUpTo (work_of_call c) s t
  works t c w =
      let a = sum_by-cons (λ (s : MapState). s.core.steps) s [] in
      let b = sum_by-cons (λ (s : MapState). s.core.steps) t [] in
      let e = sum_by-cons (λ (s : MapState). length s.core.heap.free) s [] in
      let d = sum_by-cons (λ (s : MapState). length s.core.heap.free) t [] in
      let v : WorkUpTo (work_of_call c) before (t ∷ []) =
      subst (λ n. WorkUpTo n before (t ∷ [])) (ap (λ xs. length xs * work_of_call c) (about c) ∙ one-mul (work_of_call c)) w in
      (omega (arith, a, b, v.0), omega (arith, a, b, e, d, v.1))

  module _ (c : Call) (after : List MapState) where
    abbrev Does : Replied → Type 0
    Does told = (t : MapState) × (after ≡ t ∷ []) × Performs told s c t

    begun : AreBegun hash before c → (denial_among (handles_of s) c ≡ None) × (is_worn_out s.core ≡ false)
    begun p = (sym (denial_is c) ∙ p.0, sym (worn_is c) ∙ p.1)

    effect_is : (opens : Option ℕ) (answer : Reply) (next : HandleMap) → EffectAmong (hash_of hash) (world_of_all before) c opens answer next →
        EffectAmong (hash_of hash) (handles_of s) c opens answer next
    effect_is opens answer next effect = ap (λ w. effect_among (hash_of hash) w c opens) (sym world_is) ∙ effect

    by_reply : (answer : Reply) → ChangesAll hash before c (Ok answer) after → Does (Ok answer)
    by_reply reply.NoSlots p =
        let (t, is, stays) = become (world_of_all before) s.names.last after p.2 in
        (t, is, (begun p.0, (subst (λ xs. LackSlots c xs) (about c) p.1, (stays.0, stays.1, stays.2 ∙ world_is))))
    by_reply (reply.Opened copy) (b, roomy, (number, (next, effect, then))) =
        let (t, is, has) = become next copy after then in
        (t, is, (begun b, (subst (λ w. IsNext s.names.last w copy) world_is number, (next, effect_is (Some copy) (reply.Opened copy) next effect, has))))
    by_reply answer p =
        let (t, is, becomes) = become p.2.1 s.names.last after p.2.3 in
        (t, is, (begun p.0, (p.2.0, p.2.1, effect_is p.2.0 answer p.2.1 p.2.2, becomes)))

    by_error : (why : MapError) → ChangesAll hash before c (Err why) after → Does (Err why)
    by_error error.WornOut p = (s, p.2, (sym (denial_is c) ∙ p.0, sym (worn_is c) ∙ p.1, refl))
    by_error why p = (s, p.1, (sym (denial_is c) ∙ p.0, refl))

    by_change : (told : Replied) → ChangesAll hash before c told after → Does told
    by_change (Ok answer) p = by_reply answer p
    by_change (Err why) p = by_error why p

  calls : (c : Call) (told : Replied) (after : List MapState) → CallsAll hash before c told after → (t : MapState) × (after ≡ t ∷ []) × Calls told s c t
  calls (call.Get h k) told after p =
      (s, p.0, (refl, p.1 ∙ ap (λ w. read_of (λ m. reply.Found (maps.get m k)) (maps.get w h)) world_is))
  calls (call.Entries h) told after p =
      (s, p.0, (refl, subst (λ w. IsRead (read_of (λ m. reply.Pairs (maps.entries m)) (maps.get w h)) told) world_is p.1))
  calls (call.Count h) told after p =
      (s, p.0, (refl, p.1 ∙ ap (λ w. read_of (λ m. reply.Count (maps.len m)) (maps.get w h)) world_is))
  calls c told after p = by_change c after told p

  -- where it is full for the call, it is told so
  full_change : (c : Call) (after : List MapState) (told : Replied) → ChangesAll hash before c told after → TellsFull s c told
  full_change c after (Ok reply.NoSlots) p full = refl
  full_change c after (Ok answer) p full = absurd (subst (λ xs. IsNoneTight c xs) (about c) p.1 full)
  full_change c after (Err error.WornOut) p full = absurd (true≢false (sym p.1 ∙ worn_is c ∙ full.1))
  full_change c after (Err why) p full = let bad : Some why ≡ None = sym p.0 ∙ denial_is c ∙ full.0 in cc

  tells_full : (c : Call) (told : Replied) (after : List MapState) → CallsAll hash before c told after → TellsFull s c told
  tells_full (call.Get h k) told after p full = absurd (true≢false (sym full.2))
  tells_full (call.Entries h) told after p full = absurd (true≢false (sym full.2))
  tells_full (call.Count h) told after p full = absurd (true≢false (sym full.2))
  tells_full c told after p full = full_change c after told p full

  answers : (c : Call) (told : Replied) (after : List MapState) → RepliesAll hash before c told after →
      (t : MapState) × (after ≡ t ∷ []) × Calls told s c t × TellsFull s c told × WorksUpTo (work_of_call c) s t
  answers c told after p =
      let (t, is, does) = calls c told after p.0 in
      (t, is, does, tells_full c told after p.0, works t c (subst (λ xs. WorkUpTo (length (concerned hash c before) * work_of_call c) before xs) is p.1))

pub one_shard_is_a_map : OneShardIsAMap
one_shard_is_a_map map = (world_is map, answers map)
