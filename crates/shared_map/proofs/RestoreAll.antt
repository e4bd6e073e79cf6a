-- A restore in all shards is one of the whole.
use Rattle.std.proofs.Common.{◌≡◌, ◌≢◌, ◌⊎◌, inl, inr, ℕ, ◌≤◌, ◌*◌, Bool, true, false, ◌&&◌, not, nat_eq, nat_le, if◌then◌else◌}
use Rattle.std.proofs.Common.{List, [], ◌∷◌, length, map, Option, Some, None, option_map, Result, Ok, Err}
use Rattle.std.proofs.Common.{refl, sym, ap, ap₂, subst, ◌∙◌, arith}
use Rattle.std.specs.FinMap as maps
use Rattle.std.proofs.lemmas.Bool.{cases_eq}
use Rattle.std.proofs.lemmas.Option.{same_Some}
use Rattle.shared_map.specs.Vocabulary.{HashKind, Access, Writable, ReadOnly, Snapshot, naming, HandleMap, HandleState, KeyMap, handle_limit}
use Rattle.ctrie_map.specs.Changes.{IsFullFor}
use Rattle.ctrie_map.specs.Costs.{WorksUpTo}
use Rattle.ctrie_map.specs.Denials.{denial_by, is_frozen}
use Rattle.ctrie_map.specs.declared.errors.MapError.{MapError}
use Rattle.ctrie_map.specs.declared.errors.MapError.TheVariants as error
use Rattle.ctrie_map.specs.Maps.{MapState, handles_of}
use Rattle.ctrie_map.specs.Reading.{writability_by}
use Rattle.ctrie_map.specs.Restoring.{HasLifeIfTried, IsFullToRestore, RefusesRestore, Restores, is_worn_out_to_restore, restore_denial_by}
use Rattle.ctrie_map.specs.Sharding.{may_lack_slots}
use Rattle.ctrie_map.proofs.Named.{at_other, at_same}
use Rattle.shared_map.specs.Answering.{AnswersAll, RestoresAll, WorkUpTo}
use Rattle.shared_map.specs.Asks.{Told, answer_to_restore, told_as}
use Rattle.shared_map.specs.Restores.{RestoresAmong, restore_denial_among, work_of_a_restore}
use Rattle.shared_map.specs.Restoring.{AreUndenied, ComesTo, IsRestoredAlone, RestoresEach, RestoresOne, restore_denial_from}
use Rattle.shared_map.specs.Shards.{AreShards, IsAnyTight, is_any_worn_out_to_restore, last_given, world_of_all, worlds_of}
use Rattle.shared_map.specs.Turning.{HaveBecome, turned}
use Rattle.shared_map.specs.Uniting.{AreOfKinds, kind_of, united_at}
use Rattle.shared_map.specs.Visits.{VisitedEach}
use Rattle.shared_map.specs.Wholes.{AnswersIf, KnowsFirst}
use Rattle.shared_map.specs.declared.asking.Knowing.{Knowing}
use Rattle.shared_map.specs.declared.asks.Answer.TheVariants as answer
use Rattle.shared_map.specs.declared.asks.Ask.TheVariants.{Restore}
use Rattle.shared_map.specs.declared.restoring.Restoring.{Restoring}
use Rattle.shared_map.specs.declared.turning.Turn.TheVariants as turn
use Rattle.shared_map.proofs.AllAnswers as answers
use Rattle.shared_map.proofs.Counted.{is_any_tight}
use Rattle.shared_map.proofs.OfShards as shards
use Rattle.shared_map.proofs.OneShard as one
use Rattle.shared_map.proofs.RestoreOne.{becomes_copy}
use Rattle.shared_map.proofs.TurnAll as all
use Rattle.shared_map.proofs.Turns.{or_first, or_second}
use Rattle.shared_map.proofs.United.{same_len, same_world, shown_as}

-- ---- each shard in turn

pub each_restored : (h copy : ℕ) (before after : Restoring) (ss ts : List MapState) → before.handle ≡ h → before.copy ≡ copy → VisitedEach RestoresOne before ss after ts →
    is_any_worn_out_to_restore ss ≡ false → is_any_tight (Snapshot copy) ss ≡ false → AreUndenied h copy ss →
    HaveBecome (turned (turn.Copy copy h Writable)) (λ last. last) work_of_a_restore ss ts
each_restored h copy before after [] [] on from each life roomy none = tt
each_restored h copy before after [] (t ∷ ts) on from each life roomy none = absurd each
each_restored h copy before after (s ∷ ss) [] on from each life roomy none = absurd each
each_restored h copy before after (s ∷ ss) (t ∷ ts) on from (between, did, each) life roomy none = (
  becomes_copy s t h copy none.0 (or_first (is_worn_out_to_restore s) (is_any_worn_out_to_restore ss) life)
      (or_first (may_lack_slots (Snapshot copy) s) (is_any_tight (Snapshot copy) ss) roomy)
      between.told (subst (λ k. ComesTo s h k between.told t) from (subst (λ k. ComesTo s k before.copy between.told t) on did.2)) did.3,
  each_restored h copy between after ss ts (did.0 ∙ on) (did.1 ∙ from) each (or_second (is_worn_out_to_restore s) (is_any_worn_out_to_restore ss) life)
      (or_second (may_lack_slots (Snapshot copy) s) (is_any_tight (Snapshot copy) ss) roomy) none.1,
)

-- ---- why it isn't begun

denied_kinds : (m : KeyMap) (o p : Option HandleState) (full : Bool) →
    restore_denial_by (option_map (shown_as m) (kind_of o)) (option_map (shown_as m) (kind_of p)) full ≡ restore_denial_by o p full
denied_kinds m None p full = refl
denied_kinds m (Some s) None full = refl
denied_kinds m (Some s) (Some t) full = refl

-- it is alike in worlds whose handles are of the same kinds
denied_alike : (kinds : ℕ → Option Access) (w v : HandleMap) → ((h : ℕ) → kind_of (maps.get w h) ≡ kinds h) → ((h : ℕ) → kind_of (maps.get v h) ≡ kinds h) →
    (h copy : ℕ) → restore_denial_among w h copy ≡ restore_denial_among v h copy
denied_alike kinds w v one other h copy =
    let full = not (nat_eq h copy) && nat_le handle_limit (maps.len v) in
    ap (λ n. restore_denial_by (maps.get w h) (maps.get w copy) (not (nat_eq h copy) && nat_le handle_limit n)) (same_len kinds w v one other)
    ∙ sym (denied_kinds maps.empty (maps.get w h) (maps.get w copy) full)
    ∙ ap₂ (λ a b. restore_denial_by (option_map (shown_as maps.empty) a) (option_map (shown_as maps.empty) b) full) (one h ∙ sym (other h)) (one copy ∙ sym (other copy))
    ∙ denied_kinds maps.empty (maps.get v h) (maps.get v copy) full

denied_from : (o p : Option HandleState) (full : Bool) → restore_denial_from (writability_by o) (writability_by p) full ≡ restore_denial_by o p full
denied_from None p full = refl
denied_from (Some s) None full = refl
denied_from (Some s) (Some t) full = by_access s.access
  where
    by_access : (a : Access) →
        restore_denial_from (writability_by (Some (shown_as s.pairs a))) (writability_by (Some t)) full ≡ restore_denial_by (Some (shown_as s.pairs a)) (Some t) full
    by_access Writable = refl
    by_access ReadOnly = refl

-- it is no other one
other_denial : (why : MapError) → error.NoHandle ≢ why → error.ReadOnly ≢ why → error.HandlesFull ≢ why → (o p : Option HandleState) (full : Bool) →
    restore_denial_by o p full ≡ Some why → ⊥
other_denial why none frozen many None p full e = none (same_Some error.NoHandle why e)
other_denial why none frozen many (Some s) None full e = none (same_Some error.NoHandle why e)
other_denial why none frozen many (Some s) (Some t) full e = by_tests (is_frozen s.access) full e
  where
    by_tests : (a b : Bool) → (if a then Some error.ReadOnly else (if b then Some error.HandlesFull else None)) ≡ Some why → ⊥
    by_tests true b e = frozen (same_Some error.ReadOnly why e)
    by_tests false true e = many (same_Some error.HandlesFull why e)
    by_tests false false e = cc

-- what isn't denied: the handle is writable, and the other is open
record AreOpen (o p : Option HandleState) : Type 0 where
  pub m : KeyMap
  pub has : o ≡ Some (shown_as m Writable)
  pub shown : HandleState
  pub there : p ≡ Some shown

undenied : (o p : Option HandleState) (full : Bool) → restore_denial_by o p full ≡ None → AreOpen o p
undenied None p full e = cc
undenied (Some s) None full e = cc
undenied (Some s) (Some t) full e = by_access s.access e
  where
    by_access : (a : Access) → restore_denial_by (Some (shown_as s.pairs a)) (Some t) full ≡ None → AreOpen (Some (shown_as s.pairs a)) (Some t)
    by_access Writable e = record { m = s.pairs; has = refl; shown = t; there = refl }
    by_access ReadOnly e = cc

-- nothing denies a restore of a writable handle from an open one, where there is a handle for it
open_undenied : (m : KeyMap) (shown : HandleState) (apart full : Bool) → (if full then Some error.HandlesFull else None) ≡ None →
    restore_denial_by (Some (shown_as m Writable)) (Some shown) (apart && full) ≡ None
open_undenied m shown apart true e = cc
open_undenied m shown true false e = refl
open_undenied m shown false false e = refl

naming_same : (w : HandleMap) (h : ℕ) (m : KeyMap) → maps.get w h ≡ Some (shown_as m Writable) → naming w h Writable m ≡ w
naming_same w h m at = same_world (naming w h Writable m) w (λ g. by_handle g (cases_eq g h))
  where
    by_handle : (g : ℕ) → (g ≡ h) ⊎ (g ≢ h) → maps.get (naming w h Writable m) g ≡ maps.get w g
    by_handle g (inl same) = ap (maps.get (naming w h Writable m)) same ∙ at_same w h (shown_as m Writable) ∙ sym at ∙ ap (maps.get w) (sym same)
    by_handle g (inr apart) = at_other w h (shown_as m Writable) g apart

-- ---- the whole

module _ (hash : HashKind) (before : List MapState) (are : AreShards hash before) (first : Knowing) (knows : KnowsFirst first before) (h copy : ℕ) where
  abbrev world : HandleMap
  world = world_of_all before

  abbrev world_kinds : (g : ℕ) → kind_of (maps.get world g) ≡ are.kinds g
  world_kinds = shards.kind_in_all hash before are

  -- the denial is that which the first shard tells
  pub denial_is : (source : Knowing) → KnowsFirst source before → first.handle ≡ h → source.handle ≡ copy →
      restore_denial_from first.writable source.writable (not (nat_eq h copy) && nat_le handle_limit first.handles) ≡ restore_denial_among world h copy
  denial_is source other on from =
      let full = not (nat_eq h copy) && nat_le handle_limit (maps.len (handles_of knows.0)) in
      let same : other.0 ≡ knows.0 = same_Some other.0 knows.0 (sym other.1 ∙ knows.1) in
      ap₂ (λ w n. restore_denial_from w source.writable (not (nat_eq h copy) && nat_le handle_limit n)) knows.2.writable knows.2.handles
      ∙ ap (λ w. restore_denial_from (writability_by (maps.get (handles_of knows.0) first.handle)) w full) other.2.writable
      ∙ ap₂ (λ g k. restore_denial_from (writability_by (maps.get (handles_of knows.0) g)) (writability_by (maps.get (handles_of other.0) k)) full) on from
      ∙ ap (λ (s : MapState). restore_denial_from (writability_by (maps.get (handles_of knows.0) h)) (writability_by (maps.get (handles_of s) copy)) full) same
      ∙ denied_from (maps.get (handles_of knows.0) h) (maps.get (handles_of knows.0) copy) full
      ∙ denied_alike are.kinds (handles_of knows.0) world (shards.kind_is hash before are 0 knows.0 knows.1) world_kinds h copy

  undenied_each : restore_denial_among world h copy ≡ None → (ss : List MapState) → AreOfKinds are.kinds (worlds_of ss) → AreUndenied h copy ss
  undenied_each none [] kinds = tt
  undenied_each none (s ∷ ss) kinds = (denied_alike are.kinds (handles_of s) world kinds.0 world_kinds h copy ∙ none, undenied_each none ss kinds.1)

  still : WorkUpTo (length before * work_of_a_restore) before before
  still = (omega arith, omega arith)

  -- it is denied
  denies_so : (why : MapError) → restore_denial_among world h copy ≡ Some why → RestoresAll hash before h copy (Err why) before
  denies_so error.Full e = absurd (other_denial error.Full (λ e. cc) (λ e. cc) (λ e. cc) (maps.get world h) (maps.get world copy) _ e)
  denies_so error.WornOut e = absurd (other_denial error.WornOut (λ e. cc) (λ e. cc) (λ e. cc) (maps.get world h) (maps.get world copy) _ e)
  denies_so why e = (e, refl)

  pub denies : (why : MapError) → restore_denial_among world h copy ≡ Some why → AnswersAll hash before (Restore h copy) (Err why) before × AreShards hash before
  denies why e = ((denies_so why e, still), are)

  -- nothing denies it
  module _ (none : restore_denial_among world h copy ≡ None) (many : 2 ≤ length before) (after : List MapState) where
    abbrev Whole : Told → Type 0
    Whole told = AnswersAll hash before (Restore h copy) told after × AreShards hash after

    are_open : AreOpen (maps.get world h) (maps.get world copy)
    are_open = undenied (maps.get world h) (maps.get world copy) _ none

    unchanged : (told : Told) → after ≡ before → RestoresAll hash before h copy told after → Whole told
    unchanged told same p =
        ((p, subst (WorkUpTo (length before * work_of_a_restore) before) (sym same) still), subst (AreShards hash) (sym same) are)

    -- the handle has its own map
    itself : h ≡ copy → after ≡ before → Whole (Ok answer.Restored)
    itself is same =
        let o = are_open in
        let shown : maps.get world copy ≡ Some (shown_as o.m Writable) = ap (maps.get world) (sym is) ∙ o.has in
        unchanged (Ok answer.Restored) same (
          refl,
          (λ _. same),
          (λ apart. absurd (apart is)),
          (
            naming world h Writable o.m,
            (shown_as o.m Writable, (o.m, o.has), shown, refl),
            (ap (map (λ (s : MapState). s.core.limits)) same, ap last_given same, ap world_of_all same ∙ sym (naming_same world h o.m o.has)),
          ),
        )

    -- that of the other one, in each shard
    another : h ≢ copy → is_any_worn_out_to_restore before ≡ false → ¬ IsAnyTight (Snapshot copy) before →
        HaveBecome (turned (turn.Copy copy h Writable)) (λ last. last) work_of_a_restore before after →
        Whole (Ok answer.Restored)
    another apart life roomy have =
        let o = are_open in
        let kind : are.kinds h ≡ Some Writable = sym (world_kinds h) ∙ ap kind_of o.has in
        let source : are.kinds copy ≡ Some o.shown.access = sym (world_kinds copy) ∙ ap kind_of o.there in
        let m = united_at (worlds_of before) copy in
        let there = all.copy_there hash before after are copy h Writable are.kinds kind (λ g apart. refl) (λ last. last) work_of_a_restore have in (
          (
            (
              refl,
              (λ same. absurd (apart same)),
              (λ _. (life, answers.many_have hash before are first knows (Snapshot copy) before many roomy)),
              (
                naming world h Writable m,
                (shown_as m o.shown.access, (o.m, o.has), shards.shown_in_all hash before are copy ∙ ap (option_map (shown_as m)) source, refl),
                (
                  all.become_limits (turned (turn.Copy copy h Writable)) (λ last. last) work_of_a_restore before after have,
                  all.become_last (turned (turn.Copy copy h Writable)) (λ last. last) work_of_a_restore before after are.some have,
                  there,
                ),
              ),
            ),
            all.become_works (turned (turn.Copy copy h Writable)) (λ last. last) work_of_a_restore before after have,
          ),
          all.copy_shards hash before after are copy h Writable are.kinds kind (λ g apart. refl) (λ last. last) work_of_a_restore have,
        )

    done : (told : _) → RestoresEach h copy before (Ok told) after → (h ≡ copy) ⊎ (h ≢ copy) → Whole (Ok told)
    done told p (inl same) = subst (λ t. Whole (Ok t)) (sym p.0) (itself same (p.1 same))
    done told p (inr apart) = subst (λ t. Whole (Ok t)) (sym p.0) (another apart (p.2 apart).0 (p.2 apart).1 (p.3 apart (undenied_each none before are.alike)))

    pub restores_answer : (told : Told) → RestoresEach h copy before told after → Whole told
    restores_answer (Ok told) p = done told p (cases_eq h copy)
    restores_answer (Err error.WornOut) p = unchanged (Err error.WornOut) p.2 (none, p.0, p.1, p.2)
    restores_answer (Err error.Full) p =
        unchanged (Err error.Full) p.3 (
          none,
          p.0,
          p.1,
          answers.many_lack hash before are first knows (Snapshot copy) before many p.2,
          (ap (map (λ (s : MapState). s.core.limits)) p.3, ap last_given p.3, ap world_of_all p.3),
        )
    restores_answer (Err why) p = absurd p

-- ---- one shard

module _ (hash : HashKind) (s t : MapState) (hash_is : s.core.limits.hash ≡ hash) (h copy : ℕ) where
  among : (next : HandleMap) → RestoresAmong (handles_of s) h copy next → RestoresAmong (world_of_all (s ∷ [])) h copy next
  among next p = subst (λ w. RestoresAmong w h copy next) (sym (one.world_is hash s t hash_is)) p

  denial_of_one : restore_denial_among (world_of_all (s ∷ [])) h copy ≡ restore_denial_among (handles_of s) h copy
  denial_of_one = ap (λ w. restore_denial_among w h copy) (one.world_is hash s t hash_is)

  refuses_one : (why : MapError) → RefusesRestore s h copy t why → HasLifeIfTried (Err why) s h copy →
      RestoresAll hash (s ∷ []) h copy (Err why) (t ∷ []) × (t.core.limits ≡ s.core.limits)
  refuses_one error.Full p life = (
    (
      denial_of_one ∙ p.0,
      life.0,
      one.or_none (is_worn_out_to_restore s) ∙ life.1,
      p.1,
      (one.limits_are hash s t hash_is p.2.0, p.2.1, one.world_then hash s t hash_is ∙ p.2.2 ∙ sym (one.world_is hash s t hash_is)),
    ),
    p.2.0,
  )
  refuses_one error.WornOut p life = (
    (denial_of_one ∙ p.0, p.1, one.or_none (is_worn_out_to_restore s) ∙ p.2, ap (λ x. x ∷ []) p.3),
    ap (λ (s : MapState). s.core.limits) p.3,
  )
  refuses_one why p life = ((denial_of_one ∙ p.0, ap (λ x. x ∷ []) p.1), ap (λ (s : MapState). s.core.limits) p.1)

  -- what is done wasn't full for the copy
  not_full_one : (done : Unit {0}) → Restores s h copy t → h ≢ copy → is_worn_out_to_restore s ≡ false → (IsFullToRestore s h copy → Ok done ≡ Err error.Full) →
      ¬ IsFullFor s (Snapshot copy)
  not_full_one done (shown, writable, at, becomes) apart life tells full =
      let room = ap (λ o. denial_by false true o (maps.len (handles_of s))) (sym at) ∙ full.0 in
      let none = ap₂ (λ o p. restore_denial_by o p (not (nat_eq h copy) && nat_le handle_limit (maps.len (handles_of s)))) writable.1 at
      ∙ open_undenied writable.0 shown (not (nat_eq h copy)) (nat_le handle_limit (maps.len (handles_of s))) room in
      let bad = tells (apart, none, life, full.3) in cc

  comes_one : (told : Result (Unit {0}) MapError) → ComesTo s h copy told t →
      RestoresAll hash (s ∷ []) h copy (told_as answer_to_restore told) (t ∷ []) × (t.core.limits ≡ s.core.limits)
  comes_one (Ok done) p =
      let (shown, writable, at, becomes) = p.0 in (
        (
          refl,
          (λ same. ap (λ x. x ∷ []) (p.1 same)),
          (λ apart. (one.or_none (is_worn_out_to_restore s) ∙ p.3 apart, not_full_one done p.0 apart (p.3 apart) p.4)),
          (
            naming (handles_of s) h Writable shown.pairs,
            among (naming (handles_of s) h Writable shown.pairs) (shown, writable, at, refl),
            (one.limits_are hash s t hash_is becomes.0, becomes.1, one.world_then hash s t hash_is ∙ becomes.2),
          ),
        ),
        becomes.0,
      )
  comes_one (Err why) p = refuses_one why p.2 p.3

  restores_one : (told : Result (Unit {0}) MapError) → ComesTo s h copy told t → WorksUpTo work_of_a_restore s t →
      AnswersAll hash (s ∷ []) (Restore h copy) (told_as answer_to_restore told) (t ∷ []) × AreShards hash (t ∷ [])
  restores_one told p works =
      let (answered, limits) = comes_one told p in
      ((answered, one.works hash s t hash_is work_of_a_restore works), one.shards_are hash s t hash_is limits)

pub if_restored_alone : (first : Knowing) (before after : List MapState) (h copy : ℕ) (told : Result (Unit {0}) MapError) → IsRestoredAlone h copy before told after →
    AnswersIf first before (Restore h copy) (told_as answer_to_restore told) after
if_restored_alone first before after h copy told (s, t, is, next, comes, works) hash are knows on =
    let hashed : AreShards hash (s ∷ []) = subst (AreShards hash) is are in
    let whole = restores_one hash s t hashed.hashed.0 h copy told comes works in (
      subst (λ xs. AnswersAll hash xs (Restore h copy) (told_as answer_to_restore told) after) (sym is)
          (subst (λ ys. AnswersAll hash (s ∷ []) (Restore h copy) (told_as answer_to_restore told) ys) (sym next) whole.0),
      subst (AreShards hash) (sym next) whole.1,
    )

module _ (first source : Knowing) (before : List MapState) (h copy : ℕ) (other : KnowsFirst source before) (from : source.handle ≡ copy) where
  abbrev denial : Option MapError
  denial = restore_denial_from first.writable source.writable (not (nat_eq h copy) && nat_le handle_limit first.handles)

  pub if_denied : (why : MapError) → denial ≡ Some why → AnswersIf first before (Restore h copy) (Err why) before
  if_denied why e hash are knows on = denies hash before are first knows h copy why (sym (denial_is hash before are first knows h copy source other on from) ∙ e)

  pub if_restored : (told : Told) (after : List MapState) → denial ≡ None → 2 ≤ length before → RestoresEach h copy before told after →
      AnswersIf first before (Restore h copy) told after
  if_restored told after e many restores hash are knows on =
      restores_answer hash before are first knows h copy (sym (denial_is hash before are first knows h copy source other on from) ∙ e) many after told restores
