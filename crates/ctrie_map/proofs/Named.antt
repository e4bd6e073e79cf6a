-- The handles under names, and what becomes of them when one of the core's maps or one of the names changes.
use Rattle.std.proofs.Common.{◌≡◌, ◌≢◌, ℕ, zero, suc, ◌+◌, ◌-◌, ◌<◌, Bool, true, false, cond, List, [], ◌∷◌, Option, Some, None, IsSome, is_some, option_map}
use Rattle.std.proofs.Common.{get_or, nat_cmp, eqb, eq-eqb, ne_eqb, refl, sym, ap, arith, ◌∙◌}
use Rattle.std.specs.Cmp.{nat_cmp_total, unsigned_tied}
use Rattle.std.specs.FinMap as map
use Rattle.std.specs.FinMap.{get-empty, get-insert, get-remove, len-empty, len-insert, len-remove, same_map, nat_cmp-IsAntisymmetric}
use Rattle.std.specs.List.{count_by}
use Rattle.std.proofs.lemmas.Bool.{true≢false}
use Rattle.std.proofs.lemmas.List.Sums.{sum_by-cons}
use Rattle.ctrie_map.specs.Vocabulary.{Access, naming, HandleMap, HandleState, KeyMap}
use Rattle.ctrie_map.specs.declared.names.Name.{Name}
use Rattle.ctrie_map.specs.Names.{AreNamesOf, NameTable, handles_under, name_at, named_from, shown_by, with_shown}

-- ---- finite maps of handles

abbrev pub state_of : Access → KeyMap → HandleState
state_of access m = record { access = access; pairs = m }

pub at_same : (w : HandleMap) (h : ℕ) (s : HandleState) → map.get (map.insert w h s) h ≡ Some s
at_same w h s = get-insert nat_cmp_total w h s h ∙ ap (λ b. cond b (Some s) (map.get w h)) (unsigned_tied h h ∙ eq-eqb h h refl)

pub at_other : (w : HandleMap) (h : ℕ) (s : HandleState) (q : ℕ) → q ≢ h → map.get (map.insert w h s) q ≡ map.get w q
at_other w h s q apart = get-insert nat_cmp_total w h s q ∙ ap (λ b. cond b (Some s) (map.get w q)) (unsigned_tied q h ∙ ne_eqb q h apart)

pub gone_same : (w : HandleMap) (h : ℕ) → map.get (map.remove w h) h ≡ None
gone_same w h = get-remove nat_cmp_total w h h ∙ ap (λ b. cond b None (map.get w h)) (unsigned_tied h h ∙ eq-eqb h h refl)

pub gone_other : (w : HandleMap) (h q : ℕ) → q ≢ h → map.get (map.remove w h) q ≡ map.get w q
gone_other w h q apart = get-remove nat_cmp_total w h q ∙ ap (λ b. cond b None (map.get w q)) (unsigned_tied q h ∙ ne_eqb q h apart)

pub same_handles : (w v : HandleMap) → ((q : ℕ) → map.get w q ≡ map.get v q) → w ≡ v
same_handles w v same = same_map nat_cmp_total nat_cmp-IsAntisymmetric w v same

pub len_new : (w : HandleMap) (h : ℕ) (s : HandleState) → map.get w h ≡ None → map.len (map.insert w h s) ≡ map.len w + 1
len_new w h s none = len-insert nat_cmp_total w h s ∙ ap (λ b. cond b (map.len w) (map.len w + 1)) (ap is_some none)

pub len_there : (w : HandleMap) (h : ℕ) (s : HandleState) → IsSome (map.get w h) → map.len (map.insert w h s) ≡ map.len w
len_there w h s some = len-insert nat_cmp_total w h s ∙ ap (λ b. cond b (map.len w) (map.len w + 1)) some

pub len_gone : (w : HandleMap) (h : ℕ) → IsSome (map.get w h) → map.len (map.remove w h) ≡ map.len w - 1
len_gone w h some = len-remove nat_cmp_total w h ∙ ap (λ b. cond b (map.len w - 1) (map.len w)) some

-- ---- what a number names

module _ (world : HandleMap) where
  abbrev from : ℕ → List (Option Name) → HandleMap
  from = named_from world

  shown_same : (w : HandleMap) (n : ℕ) (o : Option HandleState) → map.get w n ≡ None → map.get (with_shown w n o) n ≡ o
  shown_same w n None none = none
  shown_same w n (Some shown) none = at_same w n shown

  shown_other : (w : HandleMap) (n : ℕ) (o : Option HandleState) (q : ℕ) → q ≢ n → map.get (with_shown w n o) q ≡ map.get w q
  shown_other w n None q apart = refl
  shown_other w n (Some shown) q apart = at_other w n shown q apart

  none_below : (n : ℕ) (names : List (Option Name)) (q : ℕ) → q < n → map.get (from n names) q ≡ None
  none_below n [] q lt = get-empty nat_cmp q
  none_below n (name ∷ names) q lt = shown_other (from (suc n) names) n (shown_by world name) q (λ e. omega (arith, e, lt)) ∙ none_below (suc n) names q (omega (arith, lt))

  found_at : (n : ℕ) (names : List (Option Name)) (k : ℕ) → map.get (from n names) (n + k) ≡ shown_by world (get_or names k None)
  found_at n [] k = get-empty nat_cmp (n + k)
  found_at n (name ∷ names) zero =
      let none : n + 0 ≡ n = omega arith in
      ap (map.get (from n (name ∷ names))) none ∙ shown_same (from (suc n) names) n (shown_by world name) (none_below (suc n) names n (omega arith))
  found_at n (name ∷ names) (suc k) =
      let same : n + suc k ≡ suc n + k = omega arith in
      shown_other (from (suc n) names) n (shown_by world name) (n + suc k) (λ e. omega (arith, e)) ∙ ap (map.get (from (suc n) names)) same ∙ found_at (suc n) names k

  -- a number is the handle that its name shows
  pub shows : (names : NameTable) (q : ℕ) → map.get (handles_under names world) q ≡ shown_by world (name_at names q)
  unfolding handles_under
  shows names q = let none : 0 + q ≡ q = omega arith in ap (map.get (from 0 names.named)) (sym none) ∙ found_at 0 names.named q

  -- where each name stands for a handle they are as many
  len_with : (w : HandleMap) (n : ℕ) (o : Option HandleState) → map.get w n ≡ None → map.len (with_shown w n o) ≡ cond (is_some o) 1 0 + map.len w
  len_with w n None none = omega arith
  len_with w n (Some shown) none = len_new w n shown none ∙ omega arith

  len_from : (n : ℕ) (names : List (Option Name)) → ((k : ℕ) → IsSome (get_or names k None) → IsSome (shown_by world (get_or names k None))) →
      map.len (from n names) ≡ count_by is_some names
  len_from n [] stand = len-empty nat_cmp HandleState
  len_from n (name ∷ names) stand =
      len_with (from (suc n) names) n (shown_by world name) (none_below (suc n) names n (omega arith))
      ∙ ap (λ m. cond (is_some (shown_by world name)) 1 0 + m) (len_from (suc n) names (λ k some. stand (suc k) some))
      ∙ ap (λ b. cond b 1 0 + count_by is_some names) (both name (stand 0))
      ∙ sym (sum_by-cons (λ o. cond (is_some o) 1 0) name names)
    where
      both : (o : Option Name) → (IsSome o → IsSome (shown_by world o)) → is_some (shown_by world o) ≡ is_some o
      both None so = refl
      both (Some x) so = so refl

  pub stands_so : (names : NameTable) → AreNamesOf world names → (k : ℕ) (o : Option Name) → name_at names k ≡ o → IsSome o → IsSome (shown_by world o)
  stands_so names named k None is some = cc some
  stands_so names named k (Some name) is some =
      let stand = named.stands k name is in ap (λ o. is_some (option_map (λ shown. state_of name.access shown.pairs) o)) stand.1

  -- so many handles are open in the core too
  pub as_many : (names : NameTable) → AreNamesOf world names → map.len (handles_under names world) ≡ map.len world
  unfolding handles_under
  as_many names named = len_from 0 names.named (λ k some. stands_so names named k (name_at names k) refl some) ∙ named.many

-- ---- where one of the names changes, or what it stands for

module _ (world after : HandleMap) (names new : NameTable) (h : ℕ) (name : Option Name) (only : (q : ℕ) → name_at new q ≡ cond (eqb q h) name (name_at names q))
    (rest : (q : ℕ) (other : Name) → q ≢ h → name_at names q ≡ Some other → map.get after other.core ≡ map.get world other.core) where
  stays_shown : (q : ℕ) → q ≢ h → (o : Option Name) → name_at names q ≡ o → shown_by after o ≡ shown_by world o
  stays_shown q apart None is = refl
  stays_shown q apart (Some other) is = ap (option_map (λ shown. state_of other.access shown.pairs)) (rest q other apart is)

  -- that handle alone is another one
  pub moved : (q : ℕ) → map.get (handles_under new after) q ≡ cond (eqb q h) (shown_by after name) (map.get (handles_under names world) q)
  moved q = shows after new q ∙ ap (shown_by after) (only q) ∙ by_key (eqb q h) refl
    where
      by_key : (b : Bool) → eqb q h ≡ b → shown_by after (cond b name (name_at names q)) ≡ cond b (shown_by after name) (map.get (handles_under names world) q)
      by_key true e = refl
      by_key false e = stays_shown q (λ same. true≢false (sym (eq-eqb q h same) ∙ e)) (name_at names q) refl ∙ sym (shows world names q)

  -- it names this
  pub moved_to : (access : Access) (m : KeyMap) → shown_by after name ≡ Some (state_of access m) → handles_under new after ≡ naming (handles_under names world) h access m
  moved_to access m is =
      same_handles (handles_under new after) (naming (handles_under names world) h access m)
      (λ q. moved q ∙ ap (λ o. cond (eqb q h) o (map.get (handles_under names world) q)) is
      ∙ sym (get-insert nat_cmp_total (handles_under names world) h (state_of access m) q
      ∙ ap (λ b. cond b (Some (state_of access m)) (map.get (handles_under names world) q)) (unsigned_tied q h)))

  -- it is gone
  pub moved_away : shown_by after name ≡ None → handles_under new after ≡ map.remove (handles_under names world) h
  moved_away is =
      same_handles (handles_under new after) (map.remove (handles_under names world) h)
      (λ q. moved q ∙ ap (λ o. cond (eqb q h) o (map.get (handles_under names world) q)) is
      ∙ sym (get-remove nat_cmp_total (handles_under names world) h q ∙ ap (λ b. cond b None (map.get (handles_under names world) q)) (unsigned_tied q h)))
