-- All shards turned alike: so is the whole.
use Rattle.std.proofs.Common.{◌≡◌, ◌≢◌, inl, inr, ℕ, suc, ◌+◌, ◌*◌, ◌≤◌}
use Rattle.std.proofs.Common.{false, cond, if◌then◌else◌, List, [], ◌∷◌, length, map}
use Rattle.std.proofs.Common.{nat_cmp, eqb, eq-eqb, ne_eqb, Option, Some, None, IsSome, is_some}
use Rattle.std.proofs.Common.{option_map, option_and_then, refl, sym, ap, ap₂, subst, ◌∙◌, arith, suc-mul}
use Rattle.std.specs.FinMap as maps
use Rattle.std.proofs.lemmas.Bool.{cases_eq, true≢false}
use Rattle.std.proofs.lemmas.List.Sums.{sum_by-cons}
use Rattle.shared_map.specs.Vocabulary.{hash_of, HashKind, Access, Writable, ReadOnly, naming, with_access, HandleMap, HandleState, KeyMap}
use Rattle.history.specs.declared.calls.Call.TheVariants as call
use Rattle.ctrie_map.specs.Costs.{work_of_call}
use Rattle.ctrie_map.specs.Maps.{MapState}
use Rattle.ctrie_map.specs.Performing.{copy_call, effect_among}
use Rattle.ctrie_map.proofs.Named.{at_other, at_same, gone_other, gone_same}
use Rattle.shared_map.specs.Answering.{WorkUpTo}
use Rattle.shared_map.specs.Asks.{place_of}
use Rattle.shared_map.specs.Shards.{AreHashed, AreShards, last_given, world_of_all, worlds_of}
use Rattle.shared_map.specs.Turning.{HaveBecome, HaveTurned, call_of, last_by, map_shown, reply_of, turned}
use Rattle.shared_map.specs.Uniting.{AreOfKinds, AreOwnFrom, kind_of, pairs_of, united, united_at, value_at, value_of}
use Rattle.shared_map.specs.declared.turning.Turn.{Turn}
use Rattle.shared_map.specs.declared.turning.Turn.TheVariants as turn
use Rattle.shared_map.proofs.OfShards as shards
use Rattle.shared_map.proofs.Turned.{closes_now, emptied_at, kinds_turned, names_now, own_turned, turned_at}
use Rattle.shared_map.proofs.United.{length_mapped, shown_as}

-- ---- the lists

module _ (f : HandleMap → HandleMap) (gives : ℕ → ℕ) (most : ℕ) where
  become_worlds : (ss ts : List MapState) → HaveBecome f gives most ss ts → worlds_of ts ≡ map f (worlds_of ss)
  become_worlds [] [] have = refl
  become_worlds [] (y ∷ ts) have = absurd have
  become_worlds (x ∷ ss) [] have = absurd have
  become_worlds (x ∷ ss) (y ∷ ts) have = ap₂ (λ w ws. w ∷ ws) have.0.handles (become_worlds ss ts have.1)

  pub become_limits : (ss ts : List MapState) → HaveBecome f gives most ss ts → map (λ (s : MapState). s.core.limits) ts ≡ map (λ (s : MapState). s.core.limits) ss
  become_limits [] [] have = refl
  become_limits [] (y ∷ ts) have = absurd have
  become_limits (x ∷ ss) [] have = absurd have
  become_limits (x ∷ ss) (y ∷ ts) have = ap₂ (λ l ls. l ∷ ls) have.0.limits (become_limits ss ts have.1)

  become_length : (ss ts : List MapState) → HaveBecome f gives most ss ts → length ts ≡ length ss
  become_length [] [] have = refl
  become_length [] (y ∷ ts) have = absurd have
  become_length (x ∷ ss) [] have = absurd have
  become_length (x ∷ ss) (y ∷ ts) have = ap suc (become_length ss ts have.1)

  become_hashed : (hash : HashKind) (ss ts : List MapState) → HaveBecome f gives most ss ts → AreHashed hash ss → AreHashed hash ts
  become_hashed hash [] [] have are = tt
  become_hashed hash [] (y ∷ ts) have are = absurd have
  become_hashed hash (x ∷ ss) [] have are = absurd have
  become_hashed hash (x ∷ ss) (y ∷ ts) have are = (ap (λ (l : _). l.hash) have.0.limits ∙ are.0, become_hashed hash ss ts have.1 are.1)

  pub become_last : (ss ts : List MapState) → 1 ≤ length ss → HaveBecome f gives most ss ts → last_given ts ≡ gives (last_given ss)
  become_last [] ts some have = absurd (omega (arith, some))
  become_last (x ∷ ss) [] some have = absurd have
  become_last (x ∷ ss) (y ∷ ts) some have = have.0.last

  one_more : (n w : ℕ) → suc n * w ≡ w + n * w
  one_more n w = omega (arith, suc-mul n w)

  pub become_works : (ss ts : List MapState) → HaveBecome f gives most ss ts → WorkUpTo (length ss * most) ss ts
  become_works [] [] have = (omega arith, omega arith)
  become_works [] (y ∷ ts) have = absurd have
  become_works (x ∷ ss) [] have = absurd have
  become_works (x ∷ ss) (y ∷ ts) have =
      let rest = become_works ss ts have.1 in
      let more = one_more (length ss) most in
      let a = sum_by-cons (λ (s : MapState). s.core.steps) x ss in
      let b = sum_by-cons (λ (s : MapState). s.core.steps) y ts in
      let c = sum_by-cons (λ (s : MapState). length s.core.heap.free) x ss in
      let d = sum_by-cons (λ (s : MapState). length s.core.heap.free) y ts in
      (omega (arith, rest.0, a, b, have.0.work.0), omega (arith, rest.1, more, a, b, c, d, have.0.work.1))

-- ---- the worlds

nothing_of : {X : Type 0} (xs : List X) → length xs ≡ 0 → xs ≡ []
nothing_of [] e = refl
nothing_of (x ∷ xs) e = absurd (omega (arith, e))

abbrev pub no_pairs : KeyMap
no_pairs = maps.empty

pub empty_pairs : maps.entries no_pairs ≡ []
empty_pairs = nothing_of (maps.entries no_pairs) (sym (maps.len-entries no_pairs) ∙ maps.len-empty nat_cmp ℕ)

pub pairs_shown : (o : Option HandleState) → maps.entries (map_shown o) ≡ pairs_of o
pairs_shown None = empty_pairs
pairs_shown (Some s) = refl

pub value_shown : (k : ℕ) (o : Option HandleState) → maps.get (map_shown o) k ≡ value_of k o
value_shown k None = maps.get-empty nat_cmp k
value_shown k (Some s) = refl

module _ (hash : HashKind) (before after : List MapState) (are : AreShards hash before) where
  abbrev ws : List HandleMap
  ws = worlds_of before

  abbrev place : ℕ → ℕ
  place = place_of hash (length before)

  -- ---- one handle becomes this in each

  module _ (f : HandleMap → HandleMap) (gives : ℕ → ℕ) (most : ℕ) (have : HaveBecome f gives most before after) (later : ℕ → Option Access)
      (kinds : (w : HandleMap) → ((h : ℕ) → kind_of (maps.get w h) ≡ are.kinds h) → (h : ℕ) → kind_of (maps.get (f w) h) ≡ later h)
      (values : (w : HandleMap) (h k : ℕ) → IsSome (value_at (f w) h k) → (g : ℕ) × IsSome (value_at w g k)) where
    vs_are : worlds_of after ≡ map f ws
    vs_are = become_worlds f gives most before after have

    any_later : 1 ≤ length (map f ws)
    any_later = let e = length_mapped f ws in let some = shards.any hash before are in omega (arith, e, some)

    kinds_later : AreOfKinds later (map f ws)
    kinds_later = kinds_turned are.kinds later f kinds ws are.alike

    own_later : AreOwnFrom place 0 (map f ws)
    own_later = own_turned place f values 0 ws are.own

    pub shards_later : AreShards hash after
    shards_later =
        let long = become_length f gives most before after have in record {
          kinds = later;
          some = omega (arith, long, are.some);
          few = omega (arith, long, are.few);
          hashed = become_hashed f gives most hash before after have are.hashed;
          alike = subst (AreOfKinds later) (sym vs_are) kinds_later;
          own = subst (λ n. AreOwnFrom (place_of hash n) 0 (worlds_of after)) (sym long) (subst (AreOwnFrom place 0) (sym vs_are) own_later);
        }

    module _ (n : ℕ) (kept : (h : ℕ) → h ≢ n → later h ≡ are.kinds h)
        (stay : (w : HandleMap) (h : ℕ) → h ≢ n → pairs_of (maps.get (f w) h) ≡ pairs_of (maps.get w h)) where
      stays : (h : ℕ) → h ≢ n → united_at (map f ws) h ≡ united_at ws h
      stays h apart = turned_at f h h (λ w. stay w h apart) ws

      pub named_later : (access : Access) (m : KeyMap) → later n ≡ Some access → united_at (map f ws) n ≡ m →
          world_of_all after ≡ naming (world_of_all before) n access m
      named_later access m kind same =
          ap united vs_are
          ∙ names_now are.kinds later ws (map f ws) (shards.any hash before are) any_later are.alike kinds_later n kept stays access m kind same

      pub closed_later : later n ≡ None → world_of_all after ≡ maps.remove (world_of_all before) n
      closed_later none =
          ap united vs_are ∙ closes_now are.kinds later ws (map f ws) (shards.any hash before are) any_later are.alike kinds_later n kept stays none

  -- ---- what the whole does

  -- the number under which it opens a handle
  abbrev pub opened_by : Turn → Option ℕ
  opened_by (turn.Copy h number access) = Some number
  opened_by other = None

  pub record Does (t : Turn) : Type 0 where
    pub next : HandleMap
    pub effect : effect_among (hash_of hash) (world_of_all before) (call_of t) (opened_by t) ≡ Some (reply_of t, next)
    pub there : world_of_all after ≡ next
    pub shards_are : AreShards hash after

  -- ---- a clear

  module _ (h : ℕ) (have : HaveTurned (turn.Clear h) before after) (kind : are.kinds h ≡ Some Writable) where
    abbrev clears : HandleMap → HandleMap
    clears = turned (turn.Clear h)

    clear_at : (w : HandleMap) → maps.get (clears w) h ≡ Some (shown_as maps.empty Writable)
    clear_at w = at_same w h (shown_as maps.empty Writable)

    clear_other : (w : HandleMap) (g : ℕ) → g ≢ h → maps.get (clears w) g ≡ maps.get w g
    clear_other w g apart = at_other w h (shown_as maps.empty Writable) g apart

    clear_kinds : (w : HandleMap) → ((g : ℕ) → kind_of (maps.get w g) ≡ are.kinds g) → (g : ℕ) → kind_of (maps.get (clears w) g) ≡ are.kinds g
    clear_kinds w was g = elim (cases_eq g h) [
      | inl same ↦ ap (λ g. kind_of (maps.get (clears w) g)) same ∙ ap kind_of (clear_at w) ∙ sym kind ∙ ap are.kinds (sym same)
      | inr apart ↦ ap kind_of (clear_other w g apart) ∙ was g
    ]

    clear_values : (w : HandleMap) (g k : ℕ) → IsSome (value_at (clears w) g k) → (f : ℕ) × IsSome (value_at w f k)
    clear_values w g k some = elim (cases_eq g h) [
      | inl same ↦ absurd (true≢false (sym some ∙ ap is_some (ap (λ g. value_at (clears w) g k) same ∙ ap (value_of k) (clear_at w) ∙ maps.get-empty nat_cmp k)))
      | inr apart ↦ (g, subst IsSome (ap (value_of k) (clear_other w g apart)) some)
    ]

    clear_there : world_of_all after ≡ naming (world_of_all before) h Writable maps.empty
    clear_there =
        named_later clears (last_by (turn.Clear h)) (work_of_call (call.Clear h)) have are.kinds clear_kinds clear_values h (λ g apart. refl)
        (λ w g apart. ap pairs_of (clear_other w g apart)) Writable maps.empty kind
        (emptied_at clears h (λ w. ap pairs_of (clear_at w) ∙ empty_pairs) ws)

    pub clear_does : Does (turn.Clear h)
    clear_does = record {
      next = naming (world_of_all before) h Writable maps.empty;
      effect = ap (λ s. option_and_then (λ (m : KeyMap). Some (reply_of (turn.Clear h), naming (world_of_all before) h Writable maps.empty))
          (option_and_then (λ s. with_access Writable s.access s.pairs) s))
          (shards.shown_in_all hash before are h ∙ ap (option_map (shown_as (united_at ws h))) kind);
      there = clear_there;
      shards_are = shards_later clears (last_by (turn.Clear h)) (work_of_call (call.Clear h)) have are.kinds clear_kinds clear_values;
    }

  -- ---- a close

  module _ (h : ℕ) (have : HaveTurned (turn.Close h) before after) (access : Access) (kind : are.kinds h ≡ Some access) where
    abbrev closes : HandleMap → HandleMap
    closes = turned (turn.Close h)

    abbrev left : ℕ → Option Access
    left g = cond (eqb g h) None (are.kinds g)

    close_other : (w : HandleMap) (g : ℕ) → g ≢ h → maps.get (closes w) g ≡ maps.get w g
    close_other w g apart = gone_other w h g apart

    left_other : (g : ℕ) → g ≢ h → left g ≡ are.kinds g
    left_other g apart = ap (λ b. cond b None (are.kinds g)) (ne_eqb g h apart)

    left_none : left h ≡ None
    left_none = ap (λ b. cond b None (are.kinds h)) (eq-eqb h h refl)

    close_kinds : (w : HandleMap) → ((g : ℕ) → kind_of (maps.get w g) ≡ are.kinds g) → (g : ℕ) → kind_of (maps.get (closes w) g) ≡ left g
    close_kinds w was g = elim (cases_eq g h) [
      | inl same ↦ ap (λ g. kind_of (maps.get (closes w) g)) same ∙ ap kind_of (gone_same w h) ∙ sym left_none ∙ ap left (sym same)
      | inr apart ↦ ap kind_of (close_other w g apart) ∙ was g ∙ sym (left_other g apart)
    ]

    close_values : (w : HandleMap) (g k : ℕ) → IsSome (value_at (closes w) g k) → (f : ℕ) × IsSome (value_at w f k)
    close_values w g k some = elim (cases_eq g h) [
      | inl same ↦ absurd (true≢false (sym some ∙ ap is_some (ap (λ g. value_at (closes w) g k) same ∙ ap (value_of k) (gone_same w h))))
      | inr apart ↦ (g, subst IsSome (ap (value_of k) (close_other w g apart)) some)
    ]

    pub close_does : Does (turn.Close h)
    close_does = record {
      next = maps.remove (world_of_all before) h;
      effect = ap (λ o. option_and_then (λ (m : KeyMap). Some (reply_of (turn.Close h), maps.remove (world_of_all before) h)) (option_and_then (λ s. Some s.pairs) o))
          (shards.shown_in_all hash before are h ∙ ap (option_map (shown_as (united_at ws h))) kind);
      there = closed_later closes (last_by (turn.Close h)) (work_of_call (call.Close h)) have left close_kinds close_values h left_other (λ w g apart. ap pairs_of (close_other w g apart)) left_none;
      shards_are = shards_later closes (last_by (turn.Close h)) (work_of_call (call.Close h)) have left close_kinds close_values;
    }

  -- ---- a copy

  -- This number becomes a copy of the handle, of this kind.
  module _ (h number : ℕ) (copy : Access) (later : ℕ → Option Access) (later_at : later number ≡ Some copy)
      (later_other : (g : ℕ) → g ≢ number → later g ≡ are.kinds g) (gives : ℕ → ℕ) (most : ℕ)
      (have : HaveBecome (turned (turn.Copy h number copy)) gives most before after) where
    abbrev copies : HandleMap → HandleMap
    copies = turned (turn.Copy h number copy)

    copy_at : (w : HandleMap) → maps.get (copies w) number ≡ Some (shown_as (map_shown (maps.get w h)) copy)
    copy_at w = at_same w number (shown_as (map_shown (maps.get w h)) copy)

    copy_other : (w : HandleMap) (g : ℕ) → g ≢ number → maps.get (copies w) g ≡ maps.get w g
    copy_other w g apart = at_other w number (shown_as (map_shown (maps.get w h)) copy) g apart

    copy_kinds : (w : HandleMap) → ((g : ℕ) → kind_of (maps.get w g) ≡ are.kinds g) → (g : ℕ) → kind_of (maps.get (copies w) g) ≡ later g
    copy_kinds w was g = elim (cases_eq g number) [
      | inl same ↦ ap (λ g. kind_of (maps.get (copies w) g)) same ∙ ap kind_of (copy_at w) ∙ sym later_at ∙ ap later (sym same)
      | inr apart ↦ ap kind_of (copy_other w g apart) ∙ was g ∙ sym (later_other g apart)
    ]

    copy_values : (w : HandleMap) (g k : ℕ) → IsSome (value_at (copies w) g k) → (f : ℕ) × IsSome (value_at w f k)
    copy_values w g k some = elim (cases_eq g number) [
      | inl same ↦ (h, subst IsSome (ap (λ g. value_at (copies w) g k) same ∙ ap (value_of k) (copy_at w) ∙ value_shown k (maps.get w h)) some)
      | inr apart ↦ (g, subst IsSome (ap (value_of k) (copy_other w g apart)) some)
    ]

    pub copy_there : world_of_all after ≡ naming (world_of_all before) number copy (united_at ws h)
    copy_there =
        named_later copies gives most have later copy_kinds copy_values number later_other (λ w g apart. ap pairs_of (copy_other w g apart)) copy (united_at ws h) later_at
        (turned_at copies number h (λ w. ap pairs_of (copy_at w) ∙ pairs_shown (maps.get w h)) ws)

    pub copy_shards : AreShards hash after
    copy_shards = shards_later copies gives most have later copy_kinds copy_values

  module _ (h number : ℕ) (copy : Access) (have : HaveTurned (turn.Copy h number copy) before after) (access : Access) (kind : are.kinds h ≡ Some access)
      (free : are.kinds number ≡ None) where
    abbrev given : ℕ → Option Access
    given g = cond (eqb g number) (Some copy) (are.kinds g)

    given_other : (g : ℕ) → g ≢ number → given g ≡ are.kinds g
    given_other g apart = ap (λ b. cond b (Some copy) (are.kinds g)) (ne_eqb g number apart)

    given_at : given number ≡ Some copy
    given_at = ap (λ b. cond b (Some copy) (are.kinds number)) (eq-eqb number number refl)

    abbrev m : KeyMap
    m = united_at ws h

    not_there : maps.contains_key (world_of_all before) number ≡ false
    not_there = ap is_some (shards.shown_in_all hash before are number ∙ ap (option_map (shown_as (united_at ws number))) free)

    effect_so : (a : Access) → effect_among (hash_of hash) (world_of_all before) (copy_call a h) (Some number)
        ≡ option_and_then (λ n. if maps.contains_key (world_of_all before) number then None else Some (reply_of (turn.Copy h number a), naming (world_of_all before) number a n))
        (option_and_then (λ s. Some s.pairs) (maps.get (world_of_all before) h))
    effect_so Writable = refl
    effect_so ReadOnly = refl

    pub copy_does : Does (turn.Copy h number copy)
    copy_does = record {
      next = naming (world_of_all before) number copy m;
      effect = effect_so copy
          ∙ ap (λ o. option_and_then (λ n. if maps.contains_key (world_of_all before) number then None
          else Some (reply_of (turn.Copy h number copy), naming (world_of_all before) number copy n)) (option_and_then (λ s. Some s.pairs) o))
          (shards.shown_in_all hash before are h ∙ ap (option_map (shown_as m)) kind)
          ∙ ap (λ b. if b then None else Some (reply_of (turn.Copy h number copy), naming (world_of_all before) number copy m)) not_there;
      there = copy_there h number copy given given_at given_other (last_by (turn.Copy h number copy)) (work_of_call (copy_call copy h)) have;
      shards_are = copy_shards h number copy given given_at given_other (last_by (turn.Copy h number copy)) (work_of_call (copy_call copy h)) have;
    }
