-- A map in one shard answers as this shard alone.
use Rattle.std.proofs.Common.{◌≡◌, ℕ, ◌*◌, Bool, true, false, ◌||◌, List, [], ◌∷◌}
use Rattle.std.proofs.Common.{length, map, Option, Some, None, Ok, Err, refl, sym, ap, subst, ◌∙◌, arith, one-mul}
use Rattle.std.specs.FinMap as maps
use Rattle.std.proofs.lemmas.List.Sums.{sum_by-cons}
use Rattle.shared_map.specs.Vocabulary.{hash_of, HashKind, Call, Reply, HandleMap}
use Rattle.history.specs.declared.calls.Call.TheVariants as call
use Rattle.history.specs.declared.replies.Reply.TheVariants as reply
use Rattle.ctrie_map.specs.Calling.{Calls, IsRead}
use Rattle.ctrie_map.specs.Changes.{denial_among}
use Rattle.ctrie_map.specs.Cores.{is_worn_out}
use Rattle.ctrie_map.specs.Costs.{WorksUpTo, work_of_call}
use Rattle.ctrie_map.specs.declared.errors.MapError.{MapError}
use Rattle.ctrie_map.specs.declared.errors.MapError.TheVariants as error
use Rattle.ctrie_map.specs.Maps.{MapState, handles_of}
use Rattle.ctrie_map.specs.Names.{IsNext}
use Rattle.ctrie_map.specs.Performing.{Answers, EffectAmong, IsBegun, Performs, effect_among}
use Rattle.ctrie_map.specs.Reading.{read_of}
use Rattle.shared_map.specs.Answering.{CallsAll, ChangesAll, RepliesAll, WorkUpTo}
use Rattle.shared_map.specs.Asking.{TellsFull}
use Rattle.shared_map.specs.Asks.{Replied, key_in}
use Rattle.shared_map.specs.Shards.{AreShards, IsNoneTight, LackSlots, concerned, is_any_worn_out, world_of_all}
use Rattle.shared_map.specs.Uniting.{kind_of}
use Rattle.shared_map.proofs.OnePlace.{only_place}
use Rattle.shared_map.proofs.United.{united_one}

-- each map is the only shard of one map
pub one_is : (s : MapState) → AreShards s.core.limits.hash (s ∷ [])
one_is s = record {
  kinds = λ h. kind_of (maps.get (handles_of s) h);
  some = omega arith;
  few = omega arith;
  hashed = (refl, tt);
  alike = ((λ h. refl), tt);
  own = ((λ h k some. only_place s.core.limits.hash k), tt);
}

pub or_none : (b : Bool) → (b || false) ≡ b
or_none true = refl
or_none false = refl

module _ (hash : HashKind) (s t : MapState) (hash_is : s.core.limits.hash ≡ hash) where
  abbrev before : List MapState
  before = s ∷ []

  abbrev after : List MapState
  after = t ∷ []

  pub world_is : world_of_all before ≡ handles_of s
  world_is = united_one (handles_of s)

  pub world_then : world_of_all after ≡ handles_of t
  world_then = united_one (handles_of t)

  pub limits_are : t.core.limits ≡ s.core.limits → map (λ (s : MapState). s.core.limits) after ≡ map (λ (s : MapState). s.core.limits) before
  limits_are same = ap (λ l. l ∷ []) same

  pub shards_are : t.core.limits ≡ s.core.limits → AreShards hash after
  shards_are same = subst (λ h. AreShards h after) (ap (λ (l : _). l.hash) same ∙ hash_is) (one_is t)

  pub works : (most : ℕ) → WorksUpTo most s t → WorkUpTo (1 * most) before after
  works most w =
      let a = sum_by-cons (λ (s : MapState). s.core.steps) s [] in
      let b = sum_by-cons (λ (s : MapState). s.core.steps) t [] in
      let e = sum_by-cons (λ (s : MapState). length s.core.heap.free) s [] in
      let d = sum_by-cons (λ (s : MapState). length s.core.heap.free) t [] in
      subst (λ n. WorkUpTo n before after) (sym (one-mul most)) (omega (arith, a, b, w.0), omega (arith, a, b, e, d, w.1))

  -- ---- a change

  module _ (c : Call) (about : concerned hash c before ≡ before) where
    denial_is : denial_among (world_of_all before) c ≡ denial_among (handles_of s) c
    denial_is = ap (λ w. denial_among w c) world_is

    effect_is : (opens : Option ℕ) (answer : Reply) (next : HandleMap) → EffectAmong (hash_of s.core.limits.hash) (handles_of s) c opens answer next →
        EffectAmong (hash_of hash) (world_of_all before) c opens answer next
    effect_is opens answer next effect =
        ap (λ w. effect_among (hash_of hash) w c opens) world_is ∙ ap (λ h. effect_among (hash_of h) (handles_of s) c opens) (sym hash_is) ∙ effect

    by_reply : (answer : Reply) → TellsFull s c (Ok answer) → IsBegun s c → Answers s c answer t → ChangesAll hash before c (Ok answer) after × (t.core.limits ≡ s.core.limits)
    by_reply reply.NoSlots full begun p = (
      (
        (denial_is ∙ begun.0, ap (λ xs. is_any_worn_out xs) about ∙ or_none (is_worn_out s.core) ∙ begun.1),
        subst (λ xs. LackSlots c xs) (sym about) p.0,
        (limits_are p.1.0, p.1.1, world_then ∙ p.1.2 ∙ sym world_is),
      ),
      p.1.0,
    )
    by_reply (reply.Opened copy) full begun (number, (next, effect, has)) = (
      (
        (denial_is ∙ begun.0, ap (λ xs. is_any_worn_out xs) about ∙ or_none (is_worn_out s.core) ∙ begun.1),
        subst (λ xs. IsNoneTight c xs) (sym about) (λ f. let e = full f in cc),
        (
          subst (λ w. IsNext s.names.last w copy) (sym world_is) number,
          (next, effect_is (Some copy) (reply.Opened copy) next effect, (limits_are has.0, has.1, world_then ∙ has.2)),
        ),
      ),
      has.0,
    )
    by_reply answer full begun p = (
      (
        (denial_is ∙ begun.0, ap (λ xs. is_any_worn_out xs) about ∙ or_none (is_worn_out s.core) ∙ begun.1),
        subst (λ xs. IsNoneTight c xs) (sym about) (λ f. let e = full f in cc),
        (
          p.0,
          p.1,
          effect_is p.0 answer p.1 p.2,
          (limits_are p.3.0, p.3.1, world_then ∙ p.3.2),
        ),
      ),
      p.3.0,
    )

    by_error : (why : MapError) → Performs (Err why) s c t → ChangesAll hash before c (Err why) after × (t.core.limits ≡ s.core.limits)
    by_error error.WornOut p = (
      (denial_is ∙ p.0, ap (λ xs. is_any_worn_out xs) about ∙ or_none (is_worn_out s.core) ∙ p.1, ap (λ x. x ∷ []) p.2),
      ap (λ (s : MapState). s.core.limits) p.2,
    )
    by_error why p = ((denial_is ∙ p.0, ap (λ x. x ∷ []) p.1), ap (λ (s : MapState). s.core.limits) p.1)

    changes : (told : Replied) → TellsFull s c told → Performs told s c t → ChangesAll hash before c told after × (t.core.limits ≡ s.core.limits)
    changes (Ok answer) full p = by_reply answer full p.0 p.1
    changes (Err why) full p = by_error why p

  abbrev Whole : Call → Replied → Type 0
  Whole c told = RepliesAll hash before c told after × AreShards hash after

  by_change : (c : Call) (told : Replied) → (ChangesAll hash before c told after → CallsAll hash before c told after) → concerned hash c before ≡ before →
      Performs told s c t → TellsFull s c told → WorksUpTo (work_of_call c) s t → Whole c told
  by_change c told is about p full w =
      let (change, limits) = changes c about told full p in
      ((is change, subst (λ (xs : List MapState). WorkUpTo (length xs * work_of_call c) before after) (sym about) (works (work_of_call c) w)), shards_are limits)

  -- each call that is about all shards
  pub one_answers : (c : Call) (told : Replied) → key_in c ≡ None → Calls told s c t → TellsFull s c told → WorksUpTo (work_of_call c) s t → Whole c told
  one_answers (call.Clear h) told none p full w = by_change (call.Clear h) told (λ x. x) refl p full w
  one_answers (call.Snapshot h) told none p full w = by_change (call.Snapshot h) told (λ x. x) refl p full w
  one_answers (call.Freeze h) told none p full w = by_change (call.Freeze h) told (λ x. x) refl p full w
  one_answers (call.Close h) told none p full w = by_change (call.Close h) told (λ x. x) refl p full w
  one_answers (call.Entries h) told none p full w = (
    (
      (
        ap (λ x. x ∷ []) p.0,
        subst (λ w. IsRead (read_of (λ m. reply.Pairs (maps.entries m)) (maps.get w h)) told) (sym world_is) p.1,
      ),
      works (work_of_call (call.Entries h)) w,
    ),
    shards_are (ap (λ (s : MapState). s.core.limits) p.0),
  )
  one_answers (call.Count h) told none p full w = (
    (
      (
        ap (λ x. x ∷ []) p.0,
        p.1 ∙ ap (λ w. read_of (λ m. reply.Count (maps.len m)) (maps.get w h)) (sym world_is),
      ),
      works (work_of_call (call.Count h)) w,
    ),
    shards_are (ap (λ (s : MapState). s.core.limits) p.0),
  )
  one_answers (call.Get h k) told none p full w = cc
  one_answers (call.Put h k v) told none p full w = cc
  one_answers (call.PutIfAbsent h k v) told none p full w = cc
  one_answers (call.Replace h k v) told none p full w = cc
  one_answers (call.ReplaceIf h k a b) told none p full w = cc
  one_answers (call.Remove h k) told none p full w = cc
  one_answers (call.RemoveIf h k v) told none p full w = cc
