-- What lists of entries hold together, key by key, and what nodes of these entries hold.
use Rattle.std.proofs.Common.{◌≡◌, ◌≢◌, ℕ, suc, ◌<◌, ◌≤◌, nat_lt, if◌then◌else◌, Bool, true, false, cond, List, [], ◌∷◌, ◌++◌, map}
use Rattle.std.proofs.Common.{flat_map, length, take, drop, insert, remove, slice_set, slice_index_or, Option, Some, None, nat_cmp, refl, sym, ap, subst, ◌∙◌, arith, eqb-true}
use Rattle.std.proofs.lemmas.List.{set_split, take-append-drop, append-nil}
use Rattle.std.proofs.Math.Seq.{split_at}
use Rattle.std.specs.Ordering.{eq_by_cmp}
use Rattle.std.specs.Cmp.{nat_cmp_total, unsigned_tied}
use Rattle.std.specs.FinMap as finmap
use Rattle.std.specs.FinMap.{find, get, get-entries, get-empty, get-insert, get-remove, get-from_entries, same_map, nat_cmp-IsAntisymmetric}
use Rattle.slot_arena.specs.declared.refs.Ref.{Ref}
use Rattle.slot_arena.specs.declared.nodes.Node.{Node}
use Rattle.slot_arena.specs.Heaps.{no_ref, entries_of}
use Rattle.nodes.specs.Builders.{by_index}
use Rattle.nodes.specs.Contents.{KeyMap, one_pair, union_of, Lack, InsertsPair, UpdatesPair, RemovesPair, KeepsContent, HasPairs, HasContent}

-- the first value, if there is one, and else the second
abbrev or_second : Option ℕ → Option ℕ → Option ℕ
or_second None other = other
or_second (Some value) other = Some value

or_none : (a : Option ℕ) → or_second a None ≡ a
or_none None = refl
or_none (Some value) = refl

or_or : (a b c : Option ℕ) → or_second (or_second a b) c ≡ or_second a (or_second b c)
or_or None b c = refl
or_or (Some value) b c = refl

abbrev is_key : ℕ → ℕ → Bool
is_key = eq_by_cmp nat_cmp

same_key : (q k : ℕ) → is_key q k ≡ true → q ≡ k
same_key q k at = eqb-true q k (sym (unsigned_tied q k) ∙ at)

find_joined : (q : ℕ) (es fs : List (ℕ × ℕ)) → find nat_cmp q (es ++ fs) ≡ or_second (find nat_cmp q es) (find nat_cmp q fs)
find_joined q [] fs = refl
find_joined q (e ∷ es) fs = by_key (is_key q e.0) (find_joined q es fs)
  where
    by_key : (b : Bool) → find nat_cmp q (es ++ fs) ≡ or_second (find nat_cmp q es) (find nat_cmp q fs) →
        cond b (Some e.1) (find nat_cmp q (es ++ fs)) ≡ or_second (cond b (Some e.1) (find nat_cmp q es)) (find nat_cmp q fs)
    by_key true rest = refl
    by_key false rest = rest

get-one_pair : (k v q : ℕ) → get (one_pair k v) q ≡ cond (is_key q k) (Some v) None
get-one_pair k v q = get-insert nat_cmp_total finmap.empty k v q ∙ ap (cond (is_key q k) (Some v)) (get-empty nat_cmp q)

module _ (held : Ref → KeyMap) where
  -- the first value of a key that is held at one of these
  abbrev value_in : List Ref → ℕ → Option ℕ
  value_in [] q = None
  value_in (r ∷ rs) q = or_second (get (held r) q) (value_in rs q)

  get-union_of : (rs : List Ref) (q : ℕ) → get (union_of held rs) q ≡ value_in rs q
  unfolding union_of
  get-union_of rs q = get-from_entries nat_cmp_total (flat_map (λ r. finmap.entries (held r)) rs) q ∙ found rs
    where
      found : (rs : List Ref) → find nat_cmp q (flat_map (λ r. finmap.entries (held r)) rs) ≡ value_in rs q
      found [] = refl
      found (r ∷ rs) =
          find_joined q (finmap.entries (held r)) (flat_map (λ r. finmap.entries (held r)) rs)
          ∙ ap (λ o. or_second o (find nat_cmp q (flat_map (λ r. finmap.entries (held r)) rs))) (sym (get-entries (held r) q)) ∙ ap (or_second (get (held r) q)) (found rs)

  value_joined : (rs qs : List Ref) (q : ℕ) → value_in (rs ++ qs) q ≡ or_second (value_in rs q) (value_in qs q)
  value_joined [] qs q = refl
  value_joined (r ∷ rs) qs q = ap (or_second (get (held r) q)) (value_joined rs qs q) ∙ sym (or_or (get (held r) q) (value_in rs q) (value_in qs q))

  -- what a list holds, and one without its middle
  get-parts : (front back : List Ref) (r : Ref) (q : ℕ) → get (union_of held (front ++ r ∷ back)) q ≡ or_second (value_in front q) (or_second (get (held r) q) (value_in back q))
  get-parts front back r q = get-union_of (front ++ r ∷ back) q ∙ value_joined front (r ∷ back) q

  get-others : (front back : List Ref) (q : ℕ) → get (union_of held (front ++ back)) q ≡ or_second (value_in front q) (value_in back q)
  get-others front back q = get-union_of (front ++ back) q ∙ value_joined front back q

  none_there : (front back : List Ref) (key q : ℕ) → Lack held (front ++ back) key → is_key q key ≡ true → or_second (value_in front q) (value_in back q) ≡ None
  none_there front back key q lack at = sym (get-others front back q) ∙ ap (get (union_of held (front ++ back))) (same_key q key at) ∙ lack

put_between : (a o b : Option ℕ) (v : ℕ) (here : Bool) → (here ≡ true → or_second a b ≡ None) →
    or_second a (or_second (cond here (Some v) o) b) ≡ cond here (Some v) (or_second a (or_second o b))
put_between None o b v true none = refl
put_between (Some value) o b v true none = absurd (let bad : Some value ≡ None = none refl in cc)
put_between a o b v false none = refl

taken_between : (a b : Option ℕ) (v : ℕ) (here : Bool) → (here ≡ true → or_second a b ≡ None) →
    or_second a b ≡ cond here None (or_second a (or_second (cond here (Some v) None) b))
taken_between a b v true none = none refl
taken_between a b v false none = refl

module _ (held : Ref → KeyMap) (front back : List Ref) (key value : ℕ) (lack : Lack held (front ++ back) key) where
  -- another one in the middle, which has a pair more or another value
  updated_between : (r s : Ref) → held s ≡ finmap.insert (held r) key value → union_of held (front ++ s ∷ back) ≡ finmap.insert (union_of held (front ++ r ∷ back)) key value
  updated_between r s has = same_map nat_cmp_total nat_cmp-IsAntisymmetric _ _ (λ q.
      get-parts held front back s q
      ∙ ap (λ o. or_second (value_in held front q) (or_second o (value_in held back q))) (ap (λ m. get m q) has ∙ get-insert nat_cmp_total (held r) key value q)
      ∙ put_between (value_in held front q) (get (held r) q) (value_in held back q) value (is_key q key) (none_there held front back key q lack)
      ∙ ap (cond (is_key q key) (Some value)) (sym (get-parts held front back r q)) ∙ sym (get-insert nat_cmp_total (union_of held (front ++ r ∷ back)) key value q))

  -- one more in the middle, with one pair
  inserted_between : (s : Ref) → held s ≡ one_pair key value → union_of held (front ++ s ∷ back) ≡ finmap.insert (union_of held (front ++ back)) key value
  inserted_between s has = same_map nat_cmp_total nat_cmp-IsAntisymmetric _ _ (λ q.
      get-parts held front back s q
      ∙ ap (λ o. or_second (value_in held front q) (or_second o (value_in held back q))) (ap (λ m. get m q) has ∙ get-one_pair key value q)
      ∙ put_between (value_in held front q) None (value_in held back q) value (is_key q key) (none_there held front back key q lack)
      ∙ ap (cond (is_key q key) (Some value)) (sym (get-others held front back q)) ∙ sym (get-insert nat_cmp_total (union_of held (front ++ back)) key value q))

  -- without the one in the middle, which has one pair
  removed_between : (r : Ref) → held r ≡ one_pair key value → union_of held (front ++ back) ≡ finmap.remove (union_of held (front ++ r ∷ back)) key
  removed_between r has = same_map nat_cmp_total nat_cmp-IsAntisymmetric _ _ (λ q.
      get-others held front back q ∙ taken_between (value_in held front q) (value_in held back q) value (is_key q key) (none_there held front back key q lack)
      ∙ ap (cond (is_key q key) None)
      (ap (λ o. or_second (value_in held front q) (or_second o (value_in held back q))) (sym (ap (λ m. get m q) has ∙ get-one_pair key value q)) ∙ sym (get-parts held front back r q))
      ∙ sym (get-remove nat_cmp_total (union_of held (front ++ r ∷ back)) key q))

-- ---- nodes of these entries

pub inserts : (entries : List Ref) (position : ℕ) (entry : Ref) (node : Node) → entries_of node ≡ insert entries position entry → InsertsPair entries entry node
inserts entries p entry node all held key value has lack =
    let whole : take p entries ++ drop p entries ≡ entries = take-append-drop p entries in
    ap (union_of held) all
    ∙ inserted_between held (take p entries) (drop p entries) key value (subst (λ es. Lack held es key) (sym whole) lack) entry has
    ∙ ap (λ es. finmap.insert (union_of held es) key value) whole

pub appends : (entries : List Ref) (entry : Ref) (node : Node) → entries_of node ≡ entries ++ entry ∷ [] → InsertsPair entries entry node
appends entries entry node all held key value has lack =
    let whole : entries ++ [] ≡ entries = append-nil entries in
    ap (union_of held) all
    ∙ inserted_between held entries [] key value (subst (λ es. Lack held es key) (sym whole) lack) entry has
    ∙ ap (λ es. finmap.insert (union_of held es) key value) whole

pub updates : (entries : List Ref) (position : ℕ) (entry : Ref) (node : Node) → position < length entries → entries_of node ≡ slice_set entries position entry →
    UpdatesPair entries position entry node
updates entries p entry node within all held key value has lack =
    ap (union_of held) (all ∙ set_split entries p entry within)
    ∙ updated_between held (take p entries) (drop (suc p) entries) key value lack (slice_index_or entries p no_ref) entry has
    ∙ ap (λ es. finmap.insert (union_of held es) key value) (sym (split_at entries p no_ref within))

pub removes : (entries : List Ref) (position : ℕ) (node : Node) → position < length entries → entries_of node ≡ remove entries position → RemovesPair entries position node
removes entries p node within all held key value has lack =
    ap (union_of held) all
    ∙ removed_between held (take p entries) (drop (suc p) entries) key value lack (slice_index_or entries p no_ref) has
    ∙ ap (λ es. finmap.remove (union_of held es) key) (sym (split_at entries p no_ref within))

pub keeps : (entries : List Ref) (node : Node) → entries_of node ≡ entries → KeepsContent entries node
unfolding union_of
keeps entries node all held others same =
    ap (union_of held) all
    ∙ ap finmap.from_entries (sym (pairs_of entries) ∙ ap (flat_map finmap.entries) (sym same) ∙ pairs_of others)
  where
    pairs_of : (rs : List Ref) → flat_map finmap.entries (map held rs) ≡ flat_map (λ r. finmap.entries (held r)) rs
    pairs_of [] = refl
    pairs_of (r ∷ rs) = ap (λ es. finmap.entries (held r) ++ es) (pairs_of rs)

union_alone : (held : Ref → KeyMap) (entry : Ref) → union_of held (entry ∷ []) ≡ held entry
union_alone held entry = same_map nat_cmp_total nat_cmp-IsAntisymmetric _ _ (λ q. get-union_of held (entry ∷ []) q ∙ or_none (get (held entry) q))

pub holds_alone : (entry : Ref) (node : Node) → entries_of node ≡ entry ∷ [] → HasContent entry node
holds_alone entry node all held = ap (union_of held) all ∙ union_alone held entry

-- two of them, in either order
module _ (old single : Ref) (node : Node) where
  lacks_other : (held : Ref → KeyMap) (old_key old_value key : ℕ) → old_key ≢ key → held old ≡ one_pair old_key old_value → Lack held (old ∷ []) key
  lacks_other held old_key old_value key apart has =
      ap (λ m. get m key) (union_alone held old ∙ has) ∙ get-one_pair old_key old_value key ∙ other (is_key key old_key) refl
    where
      other : (b : Bool) → is_key key old_key ≡ b → cond b (Some old_value) None ≡ None
      other true at = absurd (apart (sym (same_key key old_key at)))
      other false at = refl

  pub holds_both : entries_of node ≡ old ∷ single ∷ [] → HasPairs old single node
  holds_both all held old_key old_value key value apart has_old has_single =
      ap (union_of held) all
      ∙ inserted_between held (old ∷ []) [] key value (lacks_other held old_key old_value key apart has_old) single has_single
      ∙ ap (λ m. finmap.insert m key value) (union_alone held old ∙ has_old)

  holds_both_turned : entries_of node ≡ single ∷ old ∷ [] → HasPairs old single node
  holds_both_turned all held old_key old_value key value apart has_old has_single =
      ap (union_of held) all
      ∙ inserted_between held [] (old ∷ []) key value (lacks_other held old_key old_value key apart has_old) single has_single
      ∙ ap (λ m. finmap.insert m key value) (union_alone held old ∙ has_old)

  pub holds_by_index : (a b : ℕ) → entries_of node ≡ by_index a b old single → HasPairs old single node
  holds_by_index a b all = by_order (nat_lt a b) all
    where
      by_order : (b : Bool) → entries_of node ≡ (if b then old ∷ single ∷ [] else single ∷ old ∷ []) → HasPairs old single node
      by_order true = holds_both
      by_order false = holds_both_turned

-- the only entry
pub alone : (entries : List Ref) (r : Ref) → 1 ≤ length entries → length entries < 2 → slice_index_or entries 0 r ∷ [] ≡ entries
alone [] r some few = absurd (omega arith)
alone (entry ∷ []) r some few = refl
alone (entry ∷ other ∷ entries) r some few = absurd (omega arith)
