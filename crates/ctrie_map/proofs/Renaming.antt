-- Names stay those of the core's handles: where one of its maps changes, where a name is given, taken back, or stands for another handle.
use Rattle.std.proofs.Common.{◌≡◌, ◌≢◌, ◌⊎◌, ℕ, ◌+◌, ◌-◌, ◌<◌, cond, List, length, Option, Some, None, IsSome, is_some}
use Rattle.std.proofs.Common.{get_or, set, eqb, eq-eqb, ne_eqb, refl, sym, ap, subst, inl, inr, arith, length-set, ◌∙◌}
use Rattle.std.specs.FinMap as map
use Rattle.std.proofs.lemmas.Bool.{cases_eq, cases_lt, true≢false}
use Rattle.std.proofs.lemmas.List.{get_or_past, get_or-set_same, get_or-set_other}
use Rattle.std.proofs.lemmas.List.Sums.{sum_by-set}
use Rattle.std.proofs.lemmas.Option.{same_Some}
use Rattle.ctrie_map.specs.Vocabulary.{Writable, naming, HandleMap, HandleState, KeyMap, handle_limit}
use Rattle.ctrie_map.specs.declared.names.Name.{Name}
use Rattle.ctrie_map.specs.Names.{AreNamesOf, NameTable, handles_under, how_many, name_at, with_given, with_name}
use Rattle.ctrie_map.proofs.Named.{at_other, at_same, gone_other, gone_same, len_gone, len_new, len_there, moved_away, moved_to, state_of}

-- ---- the table

no_some : (o : Option Name) → o ≡ None → IsSome o → ⊥
no_some o is some = true≢false (sym some ∙ ap is_some is)

not_both : (o : Option Name) (name : Name) → o ≡ None → o ≡ Some name → ⊥
not_both o name is other = cc (sym is ∙ other)

-- a number with a name is one of the table's
pub within : (named : List (Option Name)) (h : ℕ) → IsSome (get_or named h None) → h < length named
within named h some = elim (cases_lt h (length named)) [
  | inl lt ↦ lt
  | inr past ↦ absurd (no_some (get_or named h None) (get_or_past named h None past) some)
]

pub found_set : (named : List (Option Name)) (h : ℕ) (o : Option Name) → h < length named → (q : ℕ) → get_or (set named h o) q None ≡ cond (eqb q h) o (get_or named q None)
found_set named h o lt q = elim (cases_eq q h) [
  | inl same ↦
      ap (λ k. get_or (set named h o) k None) same ∙ get_or-set_same named h o None lt ∙ sym (ap (λ b. cond b o (get_or named q None)) (eq-eqb q h same))
  | inr other ↦ get_or-set_other named h q o None other ∙ sym (ap (λ b. cond b o (get_or named q None)) (ne_eqb q h other))
]

pub counted : (named : List (Option Name)) (h : ℕ) (o : Option Name) → h < length named →
    how_many (record { named = set named h o; last = 0 }) + cond (is_some (get_or named h None)) 1 0 ≡ how_many (record { named = named; last = 0 }) + cond (is_some o) 1 0
counted named h o lt = sum_by-set (λ x. cond (is_some x) 1 0) named h o None lt

-- ---- one map of the core has changed

module _ (world : HandleMap) (names : NameTable) (named : AreNamesOf world names) (h : ℕ) (name : Name) (is : name_at names h ≡ Some name) where
  there : IsSome (map.get world name.core)
  there = ap is_some (named.stands h name is).1

  -- who has another number stands for another handle
  others : (q : ℕ) (other : Name) → q ≢ h → name_at names q ≡ Some other → other.core ≢ name.core
  others q other apart at same = apart (named.own q h other name at is same)

  module _ (m : KeyMap) where
    abbrev pub changed : HandleMap
    changed = naming world name.core Writable m

    pub change_shows : handles_under names changed ≡ naming (handles_under names world) h name.access m
    change_shows =
        moved_to world changed names names h (Some name) only (λ q other apart at. at_other world name.core (state_of Writable m) other.core (others q other apart at)) name.access m
        (ap (λ o. shown_of o) (at_same world name.core (state_of Writable m)))
      where
        shown_of : Option HandleState → Option HandleState
        shown_of None = None
        shown_of (Some shown) = Some (state_of name.access shown.pairs)

        only : (q : ℕ) → name_at names q ≡ cond (eqb q h) (Some name) (name_at names q)
        only q = elim (cases_eq q h) [
          | inl same ↦ ap (name_at names) same ∙ is ∙ sym (ap (λ b. cond b (Some name) (name_at names q)) (eq-eqb q h same))
          | inr other ↦ sym (ap (λ b. cond b (Some name) (name_at names q)) (ne_eqb q h other))
        ]

    pub change_named : AreNamesOf changed names
    change_named = record {
      stands = λ q other at. elim (cases_eq other.core name.core) [
        | inl same ↦ (m, ap (map.get changed) same ∙ at_same world name.core (state_of Writable m))
        | inr apart ↦ let stand = named.stands q other at in (stand.0, at_other world name.core (state_of Writable m) other.core apart ∙ stand.1)
      ];
      own = named.own;
      all = λ core some. elim (cases_eq core name.core) [
        | inl same ↦ (h, name, is, sym same)
        | inr apart ↦ named.all core (subst IsSome (at_other world name.core (state_of Writable m) core apart) some)
      ];
      many = named.many ∙ sym (len_there world name.core (state_of Writable m) there);
      size = named.size;
    }

  -- ---- its number and the core's handle are closed

  abbrev pub closed : HandleMap
  closed = map.remove world name.core

  abbrev pub without : NameTable
  without = with_name names h None

  in_table : h < length names.named
  in_table = within names.named h (ap is_some is)

  only_none : (q : ℕ) → name_at without q ≡ cond (eqb q h) None (name_at names q)
  only_none q = found_set names.named h None in_table q

  pub close_shows : handles_under without closed ≡ map.remove (handles_under names world) h
  close_shows = moved_away world closed names without h None only_none (λ q other apart at. gone_other world name.core other.core (others q other apart at)) refl

  -- a name that is left was there, at another number
  left : (q : ℕ) (other : Name) → name_at without q ≡ Some other → (q ≢ h) × (name_at names q ≡ Some other)
  left q other at = elim (cases_eq q h) [
    | inl same ↦ absurd (not_both (name_at without q) other (only_none q ∙ ap (λ b. cond b None (name_at names q)) (eq-eqb q h same)) at)
    | inr apart ↦ (apart, sym (only_none q ∙ ap (λ b. cond b None (name_at names q)) (ne_eqb q h apart)) ∙ at)
  ]

  kept : (q : ℕ) → q ≢ h → name_at without q ≡ name_at names q
  kept q apart = only_none q ∙ ap (λ b. cond b None (name_at names q)) (ne_eqb q h apart)

  pub close_named : AreNamesOf closed without
  close_named = record {
    stands = λ q other at.
        let (apart, was) = left q other at in
        let stand = named.stands q other was in (stand.0, gone_other world name.core other.core (others q other apart was) ∙ stand.1);
    own = λ q p one two at by same. named.own q p one two (left q one at).1 (left p two by).1 same;
    all = λ core some. elim (cases_eq core name.core) [
      | inl same ↦ absurd (true≢false (sym some ∙ ap is_some (ap (map.get closed) same ∙ gone_same world name.core)))
      | inr apart ↦
          let (q, other, at, to) = named.all core (subst IsSome (gone_other world name.core core apart) some) in
          (q, other, kept q (λ same. apart (sym to ∙ ap (λ (n : Name). n.core) (same_Some other name (sym at ∙ ap (name_at names) same ∙ is)))) ∙ at, to)
    ];
    many = (let fewer = counted names.named h None in_table in let was = ap {B = ℕ} (λ o. cond (is_some o) 1 0) is in
        let few : how_many without ≡ how_many names - 1 = omega (arith, fewer, was) in
        few ∙ ap (λ n. n - 1) named.many ∙ sym (len_gone world name.core there));
    size = length-set names.named h None ∙ named.size;
  }

  -- ---- it stands for a new handle of the core

  module _ (new : Name) (fresh : map.get world new.core ≡ None) (m : KeyMap) where
    -- the new handle is there, and the one before is gone
    abbrev pub replaced : HandleMap
    replaced = map.remove (naming world new.core Writable m) name.core

    abbrev pub renamed : NameTable
    renamed = with_name names h (Some new)

    only_new : (q : ℕ) → name_at renamed q ≡ cond (eqb q h) (Some new) (name_at names q)
    only_new q = found_set names.named h (Some new) in_table q

    -- it is none that is named
    new_apart : (core : ℕ) → IsSome (map.get world core) → core ≢ new.core
    new_apart core some same = true≢false (sym some ∙ ap is_some (ap (map.get world) same ∙ fresh))

    still : (core : ℕ) → core ≢ name.core → core ≢ new.core → map.get replaced core ≡ map.get world core
    still core old other = gone_other (naming world new.core Writable m) name.core core old ∙ at_other world new.core (state_of Writable m) core other

    named_there : (q : ℕ) (other : Name) → name_at names q ≡ Some other → IsSome (map.get world other.core)
    named_there q other at = ap is_some (named.stands q other at).1

    new_there : map.get replaced new.core ≡ Some (state_of Writable m)
    new_there =
        gone_other (naming world new.core Writable m) name.core new.core (λ same. new_apart name.core there (sym same)) ∙ at_same world new.core (state_of Writable m)

    pub replace_shows : handles_under renamed replaced ≡ naming (handles_under names world) h new.access m
    replace_shows =
        moved_to world replaced names renamed h (Some new) only_new
        (λ q other apart at. still other.core (others q other apart at) (new_apart other.core (named_there q other at))) new.access m (ap shown_of new_there)
      where
        shown_of : Option HandleState → Option HandleState
        shown_of None = None
        shown_of (Some shown) = Some (state_of new.access shown.pairs)

    -- each name is the new one, or was there at another number
    new_or_kept : (q : ℕ) (other : Name) → name_at renamed q ≡ Some other → ((q ≡ h) × (other ≡ new)) ⊎ ((q ≢ h) × (name_at names q ≡ Some other))
    new_or_kept q other at = elim (cases_eq q h) [
      | inl same ↦ inl (same, same_Some other new (sym at ∙ only_new q ∙ ap (λ b. cond b (Some new) (name_at names q)) (eq-eqb q h same)))
      | inr apart ↦ inr (apart, sym (only_new q ∙ ap (λ b. cond b (Some new) (name_at names q)) (ne_eqb q h apart)) ∙ at)
    ]

    replace_own : (q p : ℕ) (one two : Name) → name_at renamed q ≡ Some one → name_at renamed p ≡ Some two → one.core ≡ two.core → q ≡ p
    replace_own q p one two at by same = elim (new_or_kept q one at) [
      | inl a ↦ elim (new_or_kept p two by) [
        | inl b ↦ a.0 ∙ sym b.0
        | inr b ↦ absurd (new_apart two.core (named_there p two b.1) (sym same ∙ ap (λ (n : Name). n.core) a.1))
      ]
      | inr a ↦ elim (new_or_kept p two by) [
        | inl b ↦ absurd (new_apart one.core (named_there q one a.1) (same ∙ ap (λ (n : Name). n.core) b.1))
        | inr b ↦ named.own q p one two a.1 b.1 same
      ]
    ]

    pub replace_named : AreNamesOf replaced renamed
    replace_named = record {
      stands = λ q other at. elim (new_or_kept q other at) [
        | inl a ↦ (m, ap (λ (n : Name). map.get replaced n.core) a.1 ∙ new_there)
        | inr a ↦
            let stand = named.stands q other a.1 in
            (stand.0, still other.core (others q other a.0 a.1) (new_apart other.core (named_there q other a.1)) ∙ stand.1)
      ];
      own = replace_own;
      all = λ core some. elim (cases_eq core new.core) [
        | inl same ↦ (h, new, only_new h ∙ ap (λ b. cond b (Some new) (name_at names h)) (eq-eqb h h refl), sym same)
        | inr other ↦ elim (cases_eq core name.core) [
          | inl same ↦ absurd (true≢false (sym some ∙ ap is_some (ap (map.get replaced) same ∙ gone_same (naming world new.core Writable m) name.core)))
          | inr apart ↦
              let (q, one, at, to) = named.all core (subst IsSome (still core apart other) some) in (
                q,
                one,
                only_new q
                    ∙ ap (λ b. cond b (Some new) (name_at names q))
                    (ne_eqb q h (λ same. apart (sym to ∙ ap (λ (n : Name). n.core) (same_Some one name (sym at ∙ ap (name_at names) same ∙ is)))))
                    ∙ at,
                to,
              )
        ]
      ];
      many = (let same = counted names.named h (Some new) in_table in let was = ap {B = ℕ} (λ o. cond (is_some o) 1 0) is in
          let few : how_many renamed ≡ how_many names = omega (arith, same, was) in
          let one = len_new world new.core (state_of Writable m) fresh in
          let gone = len_gone (naming world new.core Writable m) name.core
          (ap is_some (at_other world new.core (state_of Writable m) name.core (new_apart name.core there) ∙ (named.stands h name is).1)) in
          omega (arith, few, one, gone, named.many));
      size = length-set names.named h (Some new) ∙ named.size;
    }

-- ---- a name is given

module _ (world : HandleMap) (names : NameTable) (named : AreNamesOf world names) (h : ℕ) (low : h < handle_limit) (free : name_at names h ≡ None)
    (new : Name) (fresh : map.get world new.core ≡ None) (m : KeyMap) where
  abbrev pub opened : HandleMap
  opened = naming world new.core Writable m

  abbrev pub given : NameTable
  given = with_given names h new

  low_so : h < length names.named
  low_so = omega (arith, low, named.size)

  only_given : (q : ℕ) → name_at given q ≡ cond (eqb q h) (Some new) (name_at names q)
  only_given q = found_set names.named h (Some new) low_so q

  was_there : (q : ℕ) (other : Name) → name_at names q ≡ Some other → other.core ≢ new.core
  was_there q other at same = true≢false (sym (ap is_some (named.stands q other at).1) ∙ ap is_some (ap (map.get world) same ∙ fresh))

  pub open_shows : handles_under given opened ≡ naming (handles_under names world) h new.access m
  open_shows =
      moved_to world opened names given h (Some new) only_given (λ q other apart at. at_other world new.core (state_of Writable m) other.core (was_there q other at)) new.access m
      (ap shown_of (at_same world new.core (state_of Writable m)))
    where
      shown_of : Option HandleState → Option HandleState
      shown_of None = None
      shown_of (Some shown) = Some (state_of new.access shown.pairs)

  given_or_kept : (q : ℕ) (other : Name) → name_at given q ≡ Some other → ((q ≡ h) × (other ≡ new)) ⊎ ((q ≢ h) × (name_at names q ≡ Some other))
  given_or_kept q other at = elim (cases_eq q h) [
    | inl same ↦ inl (same, same_Some other new (sym at ∙ only_given q ∙ ap (λ b. cond b (Some new) (name_at names q)) (eq-eqb q h same)))
    | inr apart ↦ inr (apart, sym (only_given q ∙ ap (λ b. cond b (Some new) (name_at names q)) (ne_eqb q h apart)) ∙ at)
  ]

  open_own : (q p : ℕ) (one two : Name) → name_at given q ≡ Some one → name_at given p ≡ Some two → one.core ≡ two.core → q ≡ p
  open_own q p one two at by same = elim (given_or_kept q one at) [
    | inl a ↦ elim (given_or_kept p two by) [
      | inl b ↦ a.0 ∙ sym b.0
      | inr b ↦ absurd (was_there p two b.1 (sym same ∙ ap (λ (n : Name). n.core) a.1))
    ]
    | inr a ↦ elim (given_or_kept p two by) [
      | inl b ↦ absurd (was_there q one a.1 (same ∙ ap (λ (n : Name). n.core) b.1))
      | inr b ↦ named.own q p one two a.1 b.1 same
    ]
  ]

  pub open_named : AreNamesOf opened given
  open_named = record {
    stands = λ q other at. elim (given_or_kept q other at) [
      | inl a ↦ (m, ap (λ (n : Name). map.get opened n.core) a.1 ∙ at_same world new.core (state_of Writable m))
      | inr a ↦ let stand = named.stands q other a.1 in (stand.0, at_other world new.core (state_of Writable m) other.core (was_there q other a.1) ∙ stand.1)
    ];
    own = open_own;
    all = λ core some. elim (cases_eq core new.core) [
      | inl same ↦ (h, new, only_given h ∙ ap (λ b. cond b (Some new) (name_at names h)) (eq-eqb h h refl), sym same)
      | inr apart ↦
          let (q, one, at, to) = named.all core (subst IsSome (at_other world new.core (state_of Writable m) core apart) some) in
          (q, one, only_given q ∙ ap (λ b. cond b (Some new) (name_at names q)) (ne_eqb q h (λ same. not_both (name_at names q) one (ap (name_at names) same ∙ free) at)) ∙ at, to)
    ];
    many = (let more = counted names.named h (Some new) low_so in let was = ap {B = ℕ} (λ o. cond (is_some o) 1 0) free in
        let many : how_many given ≡ how_many names + 1 = omega (arith, more, was) in
        omega (arith, many, named.many, len_new world new.core (state_of Writable m) fresh));
    size = length-set names.named h (Some new) ∙ named.size;
  }
