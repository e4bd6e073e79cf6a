-- What it comes to that a key is given what a closure answers.
use Rattle.std.specs.Prelude.{◌≡◌, ◌≢◌, ℕ, Bool, true, false, cond, not, if◌then◌else◌, Option, Some, None, is_some, Result, Ok, IfOk}
use Rattle.std.specs.Cmp.{nat_cmp_total, unsigned_tied}
use Rattle.std.specs.FinMap as map
use Rattle.std.specs.FinMap.{get-insert, get-remove, same_map, nat_cmp-IsAntisymmetric}
use Rattle.std.proofs.Common.{refl, sym, ap, subst, inl, inr, eqb, eqb-true, ◌∙◌}
use Rattle.ctrie_map.specs.Vocabulary.{Access, Writable, ReadOnly as Frozen, Put, naming, HandleState, KeyMap}
use Rattle.ctrie_map.specs.declared.errors.MapError.{MapError}
use Rattle.ctrie_map.specs.Changes.{Changes, HasLife, HasRoom, IsCrowdedAt, Refuses, set_if_absent}
use Rattle.ctrie_map.specs.Denials.{is_frozen}
use Rattle.ctrie_map.specs.Drafts.{HasMap}
use Rattle.ctrie_map.specs.Maps.{Becomes, MapState, handles_of}
use Rattle.ctrie_map.specs.Reading.{read_of, reading, writability, writability_by}
use Rattle.ctrie_map.specs.Updating.{HasRoomFor, IsThereOrMade, IsUpdate, RefusesMaking, RefusesUpdate, giving, with_value}
use Rattle.ctrie_map.proofs.Changing.{naming_same}
use Rattle.ctrie_map.proofs.Setting.{one_map}

-- ---- whether the handle's map may be changed

abbrev HasOne : Option HandleState → Type 0
HasOne shown = (m : KeyMap) × (shown ≡ Some (record { access = Writable; pairs = m }))

writable_so : (access : Access) (pairs : KeyMap) → not (is_frozen access) ≡ true → HasOne (Some (record { access = access; pairs = pairs }))
writable_so Writable pairs e = (pairs, refl)
writable_so Frozen pairs e = absurd (cc e)

writable_by : (shown : Option HandleState) → writability_by shown ≡ Ok true → HasOne shown
writable_by None e = absurd (cc e)
writable_by (Some shown) e = let b : not (is_frozen shown.access) ≡ true = cc e in writable_so shown.access shown.pairs b

-- so the key's value is read of it
pub read_there : (now : MapState) (h key : ℕ) → writability now h ≡ Ok true → (told : Result (Option ℕ) MapError) → told ≡ reading now h (λ m. map.get m key) →
    IfOk told (λ value. (m : KeyMap) × HasMap (handles_of now) h m × (value ≡ map.get m key))
read_there now h key may told is =
    let (m, at) = writable_by (map.get (handles_of now) h) may in
    let reads : told ≡ Ok (map.get m key) = is ∙ ap (read_of (λ n. map.get n key)) at in
    subst (λ t. IfOk t (λ value. (m : KeyMap) × HasMap (handles_of now) h m × (value ≡ map.get m key))) (sym reads) (m, at, refl)

-- ---- finite maps

abbrev value_at : Bool → Option ℕ → Option ℕ → Option ℕ
value_at here new old = cond here new old

by_key : (m : KeyMap) (key q : ℕ) (value : Option ℕ) → map.get m key ≡ value → (b : Bool) → eqb q key ≡ b → value_at b value (map.get m q) ≡ map.get m q
by_key m key q value has true e = sym has ∙ ap (map.get m) (sym (eqb-true q key e))
by_key m key q value has false e = refl

-- a key that is given what it has
with_value_same : (m : KeyMap) (key : ℕ) (value : Option ℕ) → map.get m key ≡ value → with_value key value m ≡ m
with_value_same m key None has =
    same_map nat_cmp_total nat_cmp-IsAntisymmetric (map.remove m key) m
    (λ q. get-remove nat_cmp_total m key q ∙ ap (λ b. value_at b None (map.get m q)) (unsigned_tied q key) ∙ by_key m key q None has (eqb q key) refl)
with_value_same m key (Some value) has =
    same_map nat_cmp_total nat_cmp-IsAntisymmetric (map.insert m key value) m
    (λ q. get-insert nat_cmp_total m key value q ∙ ap (λ b. value_at b (Some value) (map.get m q)) (unsigned_tied q key) ∙ by_key m key q (Some value) has (eqb q key) refl)

there_same : (m : KeyMap) (key value there : ℕ) → map.get m key ≡ Some there → set_if_absent key value m ≡ m
there_same m key value there has = ap (λ o. if is_some o then m else map.insert m key value) has

absent_set : (m : KeyMap) (key value : ℕ) → map.get m key ≡ None → map.insert m key value ≡ set_if_absent key value m
absent_set m key value none = sym (ap (λ o. if is_some o then m else map.insert m key value) none)

-- ---- the calls

-- what a put and a remove come to that give the key this value, or none
pub put_given : (before : MapState) (handle key value : ℕ) (o : Option ℕ) → o ≡ Some value → (after : MapState) (told : Option ℕ) →
    HasLife before × Changes before handle (λ m. (told ≡ map.get m key) × HasRoom before key m) (λ m. map.insert m key value) after →
    HasLife before × Changes before handle (HasRoomFor before key o) (with_value key o) after
put_given before handle key value o is after told (life, (m, at, so, becomes)) =
    subst (λ o. HasLife before × Changes before handle (HasRoomFor before key o) (with_value key o) after) (sym is) (life, (m, at, so.1, becomes))

pub remove_given : (before : MapState) (handle key : ℕ) (o : Option ℕ) → o ≡ None → (after : MapState) (told : Option ℕ) →
    HasLife before × Changes before handle (λ m. told ≡ map.get m key) (λ m. map.remove m key) after →
    HasLife before × Changes before handle (HasRoomFor before key o) (with_value key o) after
remove_given before handle key o is after told (life, (m, at, so, becomes)) =
    subst (λ o. HasLife before × Changes before handle (HasRoomFor before key o) (with_value key o) after) (sym is) (life, (m, at, tt, becomes))

module _ (before : MapState) (handle key : ℕ) (m : KeyMap) (at : HasMap (handles_of before) handle m) where
  -- the same map is told of
  told_same : (n : KeyMap) → HasMap (handles_of before) handle n → n ≡ m
  told_same n there = one_map (map.get (handles_of before) handle) n m there at

  stays : (n : KeyMap) → n ≡ m → Becomes before (naming (handles_of before) handle Writable n) before
  stays n same = (refl, refl, sym (ap (naming (handles_of before) handle Writable) same ∙ naming_same (handles_of before) handle m at))

  module _ (Answers : Option ℕ → Option ℕ → Type 0) (old value : Option ℕ) (is : old ≡ map.get m key) (answered : Answers old value) where
    answered_there : Answers (map.get m key) value
    answered_there = subst (λ o. Answers o value) is answered

    pub update_same : old ≡ value → Changes before handle (IsUpdate Answers before key value) (with_value key value) before
    update_same same =
        let has : map.get m key ≡ value = sym is ∙ same in (m, at, (answered_there, inl has), stays (with_value key value m) (with_value_same m key value has))

    pub update_done : (after : MapState) → HasLife before × Changes before handle (HasRoomFor before key value) (with_value key value) after →
        Changes before handle (IsUpdate Answers before key value) (with_value key value) after
    update_done after (life, (n, there, room, becomes)) =
        let so : n ≡ m = told_same n there in (
          m,
          at,
          (answered_there, inr (life, subst (HasRoomFor before key value) so room)),
          subst (λ k. Becomes before (naming (handles_of before) handle Writable (with_value key value k)) after) so becomes,
        )

    pub update_refused : old ≢ value → (after : MapState) (why : MapError) → Refuses before (giving handle key value) (IsCrowdedAt before handle key) after why →
        RefusesUpdate Answers before handle key after why
    update_refused other after why refuses = inr (m, at, (value, answered_there, (λ same. other (is ∙ same)), refuses))

  module _ (Answers : ℕ → Type 0) (old : Option ℕ) (is : old ≡ map.get m key) (value : ℕ) where
    pub found_there : old ≡ Some value → Changes before handle (IsThereOrMade Answers before key value) (set_if_absent key value) before
    found_there found =
        let has : map.get m key ≡ Some value = sym is ∙ found in (m, at, inl has, stays (set_if_absent key value m) (there_same m key value value has))

    module _ (none : old ≡ None) (answered : Answers value) (after : MapState) where
      pub made_done : (told : Option ℕ) → HasLife before × Changes before handle (λ k. (told ≡ map.get k key) × HasRoom before key k) (λ k. map.insert k key value) after →
          Changes before handle (IsThereOrMade Answers before key value) (set_if_absent key value) after
      made_done told (life, (n, there, so, becomes)) =
          let same : n ≡ m = told_same n there in
          let lacks : map.get m key ≡ None = sym is ∙ none in (
            m,
            at,
            inr (lacks, answered, life, subst (HasRoom before key) same so.1),
            subst (λ k. Becomes before (naming (handles_of before) handle Writable k) after) (ap (λ k. map.insert k key value) same ∙ absent_set m key value lacks) becomes,
          )

      pub made_refused : (why : MapError) → Refuses before (Put handle key value) (IsCrowdedAt before handle key) after why → RefusesMaking Answers before handle key after why
      made_refused why refuses = inr (m, at, sym is ∙ none, (value, answered, refuses))
