-- The first slot of an aged chain is free for its seat, and all others hang still.
use Rattle.std.proofs.Common.{◌≡◌, ◌≢◌, ◌⊎◌, ◌==◌, ◌<◌, ◌≤◌, ◌+◌, ◌++◌, inl, inr, ℕ, zero, suc, not, List, [], ◌∷◌, Contains, Option, Some, None, refl, sym, ap, subst, ◌∙◌, append-nil, arith}
use Rattle.std.proofs.lemmas.Bool.{cases_eq}
use Rattle.std.proofs.lemmas.List.{map-append}
use Rattle.std.proofs.lemmas.List.Elements.{Contains-append_left, Contains-append_right, Contains-append_cases, Contains-push}
use Rattle.std.proofs.lemmas.Option.{none-some, same_Some}
use Rattle.lock_free.specs.declared.limbo.ByClass.{ByClass}
use Rattle.lock_free.specs.declared.limbo.Chains.{Chains}
use Rattle.lock_free.specs.declared.limbo.Limbo.{Limbo}
use Rattle.lock_free.specs.declared.reclaiming.Kind.{Kind}
use Rattle.lock_free.specs.declared.reclaiming.Kind.TheVariants.{Replaced, Single, Indirection, Main}
use Rattle.lock_free.specs.declared.rules.Retired.{Retired}
use Rattle.lock_free.specs.declared.rules.View.{View}
use Rattle.lock_free.specs.Epochs.{knowing, KnowsMore}
use Rattle.lock_free.specs.Limbos.{by_kind, chains_of, in_class, linked_by, link_to, names, no_chains, no_classes, turned, with_chains, AreHung, Hangs, HasReclaimedSome, IsLimbo}
use Rattle.lock_free.specs.Places.{count_word, IsSlot}
use Rattle.lock_free.specs.Reclaiming.{HasReclaimed, kind_of, reclaiming}
use Rattle.lock_free.specs.Rules.{IsFree, Once, pool_of}
use Rattle.lock_free.specs.Storing.{with_free}
use Rattle.lock_free.proofs.CountWords.{count_once}
use Rattle.lock_free.proofs.Drafts.{left, others_left}
use Rattle.lock_free.proofs.Hanging.{KeepsLinks, hangs_still, next_back, once_left, once_out, one_named, slot_named, word_of}
use Rattle.lock_free.proofs.Idle.{empty_has}
use Rattle.lock_free.proofs.KindsApart.{all_hung, seen_chains, with_seen}
use Rattle.lock_free.proofs.Pools.{first_or_more, first_there, contains_map, free_still, more_there, pool_same}

pub first_of : (v : View) (slot : ℕ) (first : Option ℕ) → first ≡ Some slot → (items : List Retired) → Hangs v.sizes v.links first items → (x : Retired) × (rest : List Retired) × (items ≡ x ∷ rest)
first_of v slot first is [] h = absurd (none-some slot (sym h ∙ is))
first_of v slot first is (x ∷ rest) h = (x, rest, refl)

module _ (limbo : Limbo) (v : View) (h : IsLimbo limbo v) (what : Kind) (class : ℕ) (low : class < 3) (slot : ℕ) (is : (chains_of limbo what class).aged.first ≡ Some slot) where
  abbrev chains : Chains
  chains = chains_of limbo what class

  abbrev its : AreHung v what class chains
  its = h.hung what class low

  abbrev split : (x : Retired) × (rest : List Retired) × (its.aged ≡ x ∷ rest)
  split = first_of v slot chains.aged.first is its.aged its.is_aged.hangs

  abbrev pub item : Retired
  item = split.0

  abbrev rest : List Retired
  rest = split.1

  hangs : Hangs v.sizes v.links chains.aged.first (item ∷ rest)
  hangs = subst (Hangs v.sizes v.links chains.aged.first) split.2 its.is_aged.hangs

  pub its_name : item.name ≡ slot
  its_name = same_Some item.name slot (sym hangs.0 ∙ is)

  in_aged : (x : Retired) → Contains (item ∷ rest) x → Contains its.aged x
  in_aged x c = subst (λ xs. Contains xs x) (sym split.2) c

  held : (x : Retired) → Contains (item ∷ rest) x → Contains v.retired x × (kind_of v.sizes x ≡ what) × (x.class ≡ class)
  held x c = its.held x (Contains-append_right its.young its.aged x (in_aged x c))

  pub item_held : Contains v.retired item
  item_held = (held item (first_there item rest)).0

  pub item_kind : kind_of v.sizes item ≡ what
  item_kind = (held item (first_there item rest)).1

  pub item_class : item.class ≡ class
  item_class = (held item (first_there item rest)).2

  item_small : item.class < 3
  item_small = (h.slots item item_held).0

  pub item_slot : IsSlot v.sizes class slot
  item_slot = subst (λ n. IsSlot v.sizes n slot) item_class (subst (IsSlot v.sizes item.class) its_name (h.slots item item_held).1)

  pub item_late : chains.aged.stamp + 3 ≤ v.epoch → item.stamp + 3 ≤ v.epoch
  item_late late = (let stamp = its.is_aged.stamps item (in_aged item (first_there item rest)) in omega (arith, stamp, late))

  -- ---- what hangs then

  abbrev then : View
  then = reclaiming v item.class item.name

  still_there : (x : Retired) → Contains v.retired x → x.name ≢ item.name → Contains then.retired x
  still_there x c other = others_left (λ (y : Retired). y.name) item.name v.retired x other c

  was_there : (x : Retired) → Contains then.retired x → (x.name ≢ item.name) × Contains v.retired x
  was_there x c = left (λ (y : Retired). y.name) item.name v.retired x c

  keeps : (items : List Retired) → ((x : Retired) → Contains items x → Contains v.retired x × (x.name ≢ item.name)) → KeepsLinks v.sizes v.links then.links items
  keeps items within x c n has =
      let (small, slot_of_x) = h.slots x (within x c).0 in
      others_left (λ (d : ℕ × ℕ). d.0) (word_of v.sizes item) v.links (word_of v.sizes x, n)
      (λ e. (within x c).1 (count_once v.sizes x.class x.name item.class item.name small item_small slot_of_x (h.slots item item_held).1 e).1) has

  -- ---- those of other kinds and classes

  of_other : (other : Kind) (b : ℕ) → b < 3 → ¬ ((other ≡ what) × (b ≡ class)) → AreHung then other b (chains_of limbo other b)
  of_other other b small differs =
      let o = h.hung other b small in
      let apart : (x : Retired) → Contains (o.young ++ o.aged) x → Contains v.retired x × (x.name ≢ item.name) = λ x c. (
        (o.held x c).0,
        λ same.
            (let is_item = one_named v.retired h.once x item (o.held x c).0 item_held same in
            differs (sym (o.held x c).1 ∙ ap (kind_of v.sizes) is_item ∙ item_kind, sym (o.held x c).2 ∙ ap (λ (y : Retired). y.class) is_item ∙ item_class)),
      ) in
      record {
        young = o.young;
        aged = o.aged;
        is_young = record {
          hangs = hangs_still v.sizes v.links then.links (chains_of limbo other b).young.first o.young (keeps o.young (λ x c. apart x (Contains-append_left o.young o.aged x c))) o.is_young.hangs;
          stamps = o.is_young.stamps;
        };
        is_aged = record {
          hangs = hangs_still v.sizes v.links then.links (chains_of limbo other b).aged.first o.aged (keeps o.aged (λ x c. apart x (Contains-append_right o.young o.aged x c))) o.is_aged.hangs;
          stamps = o.is_aged.stamps;
        };
        once = o.once;
        held = λ x c. (still_there x (o.held x c).0 (apart x c).1, (o.held x c).1, (o.held x c).2);
        all = λ x c e in_it. o.all x (was_there x c).1 e in_it;
      }

  -- ---- those of its kind and class

  abbrev left_over : List Retired
  left_over = its.young ++ rest

  parts : Once (names left_over) × ¬ Contains (names left_over) item.name
  parts =
      let all = subst (λ xs. Once (names (its.young ++ xs))) split.2 its.once in
      let both = once_out (names its.young) item.name (names rest) (subst Once (map-append (λ (x : Retired). x.name) its.young (item ∷ rest)) all) in
      let joined = map-append (λ (x : Retired). x.name) its.young rest in
      (subst Once (sym joined) both.0, λ c. both.1 (subst (λ ns. Contains ns item.name) joined c))

  other_name : (x : Retired) → Contains left_over x → x.name ≢ item.name
  other_name x c same = parts.1 (subst (Contains (names left_over)) same (contains_map (λ (y : Retired). y.name) left_over x c))

  was_held : (x : Retired) → Contains left_over x → Contains v.retired x × (kind_of v.sizes x ≡ what) × (x.class ≡ class)
  was_held x c = elim (Contains-append_cases its.young rest x c) [
    | inl young ↦ its.held x (Contains-append_left its.young its.aged x young)
    | inr aged ↦ held x (more_there item rest x aged)
  ]

  young_in : (x : Retired) → Contains its.young x → Contains left_over x
  young_in x c = Contains-append_left its.young rest x c

  rest_in : (x : Retired) → Contains rest x → Contains left_over x
  rest_in x c = Contains-append_right its.young rest x c

  abbrev chains_with : Option ℕ → Chains
  chains_with first = record { young = chains.young; aged = record { first = first; stamp = chains.aged.stamp } }

  of_its : AreHung then what class (chains_with hangs.1)
  of_its = record {
    young = its.young;
    aged = rest;
    is_young = record {
      hangs = hangs_still v.sizes v.links then.links chains.young.first its.young (keeps its.young (λ x c. ((was_held x (young_in x c)).0, other_name x (young_in x c)))) its.is_young.hangs;
      stamps = its.is_young.stamps;
    };
    is_aged = record {
      hangs = hangs_still v.sizes v.links then.links hangs.1 rest (keeps rest (λ x c. ((was_held x (rest_in x c)).0, other_name x (rest_in x c)))) hangs.3;
      stamps = λ x c. its.is_aged.stamps x (in_aged x (more_there item rest x c));
    };
    once = parts.0;
    held = λ x c. (still_there x (was_held x c).0 (other_name x c), (was_held x c).1, (was_held x c).2);
    all = λ x c e in_it. elim (Contains-append_cases its.young its.aged x (its.all x (was_there x c).1 e in_it)) [
      | inl young ↦ young_in x young
      | inr aged ↦ elim (first_or_more item rest x (subst (λ xs. Contains xs x) split.2 aged)) [
        | inl same ↦ absurd ((was_there x c).0 (ap (λ (y : Retired). y.name) same))
        | inr more ↦ rest_in x more
      ]
    ];
  }

  -- ---- all

  abbrev limbo_with : Option ℕ → Limbo
  limbo_with first = with_chains limbo what class (chains_with first)

  let_go : IsLimbo (limbo_with hangs.1) then
  let_go = record {
    hung = all_hung limbo then what class (chains_with hangs.1) low of_its of_other;
    once = once_left (λ (y : Retired). y.name) (λ (y : Retired). not (y.name == item.name)) v.retired h.once;
    slots = λ x c. h.slots x (was_there x c).1;
    seen = subst (λ n. n ≤ v.epoch) (sym (with_seen limbo what class (chains_with hangs.1))) h.seen;
  }

  back : linked_by (link_to hangs.1) ≡ hangs.1
  back = next_back v.sizes v.links hangs.1 rest (λ x c. (let (small, slot_of_x) = h.slots x (was_held x (rest_in x c)).0 in slot_named v.sizes x.class x.name small slot_of_x)) hangs.3

  -- ---- by the access

  module _ (link : ℕ) (w : View) (reclaimed : HasReclaimed v class slot link w) where
    is_then : then ≡ w
    is_then = ap (λ n. reclaiming v n item.name) item_class ∙ ap (reclaiming v class) its_name ∙ sym reclaimed.1

    its_link : link ≡ link_to hangs.1
    its_link =
        reclaimed.0 (link_to hangs.1)
        (subst (λ n. Contains v.links (n, link_to hangs.1)) (ap (λ n. count_word v.sizes n item.name) item_class ∙ ap (count_word v.sizes class) its_name) hangs.2)

    pub limbo_let_go : IsLimbo (limbo_with (linked_by link)) w
    limbo_let_go = subst (λ first. IsLimbo (limbo_with first) w) (sym (ap linked_by its_link ∙ back)) (subst (IsLimbo (limbo_with hangs.1)) is_then let_go)

    free_then : (b name : ℕ) → IsFree v b name → IsFree then b name
    free_then b name f = (f.0, free_still v.pool item.class item.name item_small b name f.0 f.1)

    item_free : IsFree then item.class item.name
    item_free = (item_small, subst (λ xs. Contains xs item.name) (sym (pool_same v.pool item.class _ item_small)) (Contains-push (pool_of v.pool item.class) item.name))

    or_free : (x : Retired) → Contains v.retired x → Contains then.retired x ⊎ IsFree then x.class x.name
    or_free x c = elim (cases_eq x.name item.name) [
      | inl same ↦ inr (subst (λ (y : Retired). IsFree then y.class y.name) (sym (one_named v.retired h.once x item c item_held same)) item_free)
      | inr differs ↦ inl (still_there x c differs)
    ]

    pub one_reclaimed : HasReclaimedSome v w
    one_reclaimed = subst (HasReclaimedSome v) is_then (record { is = refl; free = free_then; each = or_free })

    -- and that slot is free
    pub first_freed : (x : Retired) → Contains v.retired x → (chains_of limbo what class).aged.first ≡ Some x.name → IsFree w x.class x.name
    first_freed x c named = subst (λ y. IsFree y x.class x.name) is_then (elim (or_free x c) [
      | inl still ↦ absurd ((left (λ (y : Retired). y.name) item.name v.retired x still).0 (sym (same_Some slot x.name (sym is ∙ named)) ∙ sym its_name))
      | inr free ↦ free
    ])

-- ---- one after the other

pub none_reclaimed : (v : View) → HasReclaimedSome v v
none_reclaimed v = record { is = refl; free = λ b name f. f; each = λ x c. inl c }

pub more_reclaimed : (u v w : View) → HasReclaimedSome u v → HasReclaimedSome v w → HasReclaimedSome u w
more_reclaimed u v w first second = record {
  is = second.is ∙ ap (λ (x : View). record x { epoch = w.epoch; passed = w.passed; pool = w.pool; retired = w.retired; links = w.links }) first.is;
  free = λ b name f. second.free b name (first.free b name f);
  each = λ x c. elim (first.each x c) [ inl still ↦ second.each x still | inr free ↦ inr (second.free x.class x.name free) ];
}

-- what the seat knows of the epoch is not of this
pub knowing_reclaimed : (u v : View) → v ≡ record u { epoch = v.epoch; passed = v.passed } → HasReclaimedSome u v
knowing_reclaimed u v is = subst (HasReclaimedSome u) (sym is) (record { is = refl; free = λ b name f. f; each = λ x c. inl c })

pub knowing_limbo : (limbo : Limbo) (u v : View) → KnowsMore u v → IsLimbo limbo u → (seen : ℕ) → seen ≤ v.epoch → IsLimbo (record limbo { seen = seen }) v
knowing_limbo limbo u v more h seen low = subst (IsLimbo (record limbo { seen = seen })) (sym more.is) (record {
  hung = λ what class small.
      (let k = h.hung what class small in
      subst (AreHung (record u { epoch = v.epoch; passed = v.passed }) what class) (sym (seen_chains limbo what class seen)) (record {
        young = k.young;
        aged = k.aged;
        is_young = record { hangs = k.is_young.hangs; stamps = k.is_young.stamps };
        is_aged = record { hangs = k.is_aged.hangs; stamps = k.is_aged.stamps };
        once = k.once;
        held = k.held;
        all = k.all;
      }));
  once = h.once;
  slots = h.slots;
  seen = low;
})

pub knowing_is : (v x : View) (epoch : ℕ) → x ≡ knowing v epoch → x ≡ record v { epoch = x.epoch; passed = x.passed }
knowing_is v x epoch is = is ∙ sym (ap (λ (y : View). record v { epoch = y.epoch; passed = y.passed }) is)

pub known_epoch : (v x : View) (epoch : ℕ) → x ≡ knowing v epoch → epoch ≤ x.epoch
known_epoch v x epoch is = subst (λ n. epoch ≤ n) (sym (ap (λ (y : View). y.epoch) is)) (omega arith)

pub knowing_more : (v x : View) (epoch : ℕ) → x ≡ knowing v epoch → v.epoch ≤ epoch → KnowsMore v x
knowing_more v x epoch is low = record { is = knowing_is v x epoch is; grows = subst (λ n. v.epoch ≤ n) (sym (ap (λ (y : View). y.epoch) is)) low }

-- ---- the young chain is the aged one

module _ (limbo : Limbo) (v : View) (h : IsLimbo limbo v) (what : Kind) (class : ℕ) (low : class < 3) where
  abbrev turning : Chains
  turning = chains_of limbo what class

  abbrev those : AreHung v what class turning
  those = h.hung what class low

  none_aged : turning.aged.first ≡ None → (items : List Retired) → Hangs v.sizes v.links turning.aged.first items → items ≡ []
  none_aged is [] e = refl
  none_aged is (x ∷ others) e = absurd (none-some x.name (sym is ∙ e.0))

  turned_by : (first : Option ℕ) → turning.aged.first ≡ first → AreHung v what class (turned first turning)
  turned_by None is =
      let all_young : those.young ++ those.aged ≡ those.young = ap (λ xs. those.young ++ xs) (none_aged is those.aged those.is_aged.hangs) ∙ append-nil those.young in
      record {
        young = [];
        aged = those.young;
        is_young = record { hangs = refl; stamps = λ x c. absurd (empty_has x c) };
        is_aged = record { hangs = those.is_young.hangs; stamps = those.is_young.stamps };
        once = subst (λ xs. Once (names xs)) all_young those.once;
        held = λ x c. those.held x (Contains-append_left those.young those.aged x c);
        all = λ x c e in_it. subst (λ xs. Contains xs x) all_young (those.all x c e in_it);
      }
  turned_by (Some slot) is = those

  abbrev limbo_turned : Limbo
  limbo_turned = with_chains limbo what class (turned turning.aged.first turning)

  pub turned_limbo : IsLimbo limbo_turned v
  turned_limbo = record {
    hung = all_hung limbo v what class (turned turning.aged.first turning) low (turned_by turning.aged.first refl) (λ other b small differs. h.hung other b small);
    once = h.once;
    slots = h.slots;
    seen = subst (λ n. n ≤ v.epoch) (sym (with_seen limbo what class (turned turning.aged.first turning))) h.seen;
  }

-- ---- a seat that has retired nothing

abbrev no_limbo : Limbo
no_limbo = record { replaced = no_classes; singles = no_classes; indirections = no_classes; mains = no_classes; seen = 0 }

none_of : (what : Kind) → by_kind no_limbo what ≡ no_classes
none_of Replaced = refl
none_of Single = refl
none_of Indirection = refl
none_of Main = refl

none_in : (class : ℕ) → class < 3 → in_class no_classes class ≡ no_chains
none_in zero low = refl
none_in (suc zero) low = refl
none_in (suc (suc zero)) low = refl
none_in (suc (suc (suc class))) low = absurd (omega (arith, low))

limbo_none : (a b c d : ByClass) → a ≡ no_classes → b ≡ no_classes → c ≡ no_classes → d ≡ no_classes → record { replaced = a; singles = b; indirections = c; mains = d; seen = 0 } ≡ no_limbo
limbo_none a b c d is_a is_b is_c is_d =
    ap {B = Limbo} (λ z. record { replaced = z; singles = b; indirections = c; mains = d; seen = 0 }) is_a
    ∙ ap {B = Limbo} (λ z. record { replaced = no_classes; singles = z; indirections = c; mains = d; seen = 0 }) is_b
    ∙ ap {B = Limbo} (λ z. record { replaced = no_classes; singles = no_classes; indirections = z; mains = d; seen = 0 }) is_c
    ∙ ap {B = Limbo} (λ z. record { replaced = no_classes; singles = no_classes; indirections = no_classes; mains = z; seen = 0 }) is_d

none_so : (v : View) → v.retired ≡ [] → IsLimbo no_limbo v
none_so v is =
    let never : (x : Retired) → Contains v.retired x → ⊥ = λ x c. empty_has x (subst (λ xs. Contains xs x) is c) in
    record {
      hung = λ what class small. subst (AreHung v what class) (sym (ap (λ classes. in_class classes class) (none_of what) ∙ none_in class small)) (record {
        young = [];
        aged = [];
        is_young = record { hangs = refl; stamps = λ x c. absurd (empty_has x c) };
        is_aged = record { hangs = refl; stamps = λ x c. absurd (empty_has x c) };
        once = tt;
        held = λ x c. absurd (empty_has x c);
        all = λ x c e in_it. absurd (never x c);
      });
      once = subst (λ xs. Once (names xs)) (sym is) tt;
      slots = λ x c. absurd (never x c);
      seen = omega arith;
    }

pub none_hangs : (a b c d : ByClass) → a ≡ no_classes → b ≡ no_classes → c ≡ no_classes → d ≡ no_classes → (v : View) → v.retired ≡ [] →
    IsLimbo (record { replaced = a; singles = b; indirections = c; mains = d; seen = 0 }) v
none_hangs a b c d is_a is_b is_c is_d v is = subst (λ l. IsLimbo l v) (sym (limbo_none a b c d is_a is_b is_c is_d)) (none_so v is)

-- ---- a fresh slot more is free for a seat

pub one_taken : (v w : View) (class name : ℕ) → class < 3 → w ≡ with_free v class name → HasReclaimedSome v w
one_taken v w class name low is =
    subst (HasReclaimedSome v) (sym is) (record { is = refl; free = λ b other f. (f.0, free_still v.pool class name low b other f.0 f.1); each = λ x c. inl c })

pub none_taken : (v w : View) → w ≡ v → HasReclaimedSome v w
none_taken v w is = subst (HasReclaimedSome v) (sym is) (none_reclaimed v)
