-- Calls that change the map of a writable handle, seen in the finite map.
use Rattle.std.specs.Prelude.{◌≡◌, ◌≢◌, ◌⊎◌, ℕ, Bool, true, false, cond, Option, Some, None, option_and_then, Result, Ok, Err, IfOk, IfErr}
use Rattle.std.specs.Cmp.{nat_cmp_total, unsigned_tied}
use Rattle.std.specs.FinMap as map
use Rattle.std.specs.FinMap.{get-insert, same_map, nat_cmp-IsAntisymmetric}
use Rattle.std.proofs.Common.{refl, sym, ap, subst, inl, inr, eqb, eqb-true, ◌∙◌}
use Rattle.std.proofs.lemmas.Option.{same_Some}
use Rattle.ctrie_map.specs.Vocabulary.{hash_of, Access, Writable, ReadOnly, Call, Reply, Crowded, NoSlots, Opened, changing, naming, with_access, HandleMap, HandleState, KeyMap, handle_of}
use Rattle.ctrie_map.specs.Vocabulary.{opens_handle}
use Rattle.ctrie_map.specs.declared.errors.MapError.{MapError}
use Rattle.ctrie_map.specs.declared.errors.MapError.TheVariants as error
use Rattle.ctrie_map.specs.Changes.{Changes, HasLife, LacksSlots, Refuses, changes_map, denial_in}
use Rattle.ctrie_map.specs.Maps.{MapState, Becomes, Stays, handles_of}
use Rattle.ctrie_map.specs.Performing.{Answers, IsBegun, Performs, effect_among}
use Rattle.ctrie_map.proofs.Denying.{IsDenial, told_by}

-- ---- results

-- one thing holds of what is told, and another one of an error
abbrev pub ComesTo : {A : Type 0} → (A → Type 0) → (MapError → Type 0) → Result A MapError → Type 0
ComesTo P Q (Ok told) = P told
ComesTo P Q (Err why) = Q why

if_ok : {A : Type 0} (P : A → Type 0) (Q : MapError → Type 0) (result : Result A MapError) → ComesTo P Q result → IfOk result P
if_ok P Q (Ok told) p = p
if_ok P Q (Err why) p = tt

if_err : {A : Type 0} (P : A → Type 0) (Q : MapError → Type 0) (result : Result A MapError) → ComesTo P Q result → IfErr result Q
if_err P Q (Ok told) p = tt
if_err P Q (Err why) p = p

-- the same, of what is told
pub done_so : {A : Type 0} (P : A → Type 0) (Q : MapError → Type 0) (said told : Result A MapError) → told ≡ said → ComesTo P Q said → IfOk told P
done_so P Q said told is p = if_ok P Q told (subst (ComesTo P Q) (sym is) p)

pub refused_so : {A : Type 0} (P : A → Type 0) (Q : MapError → Type 0) (said told : Result A MapError) → told ≡ said → ComesTo P Q said → IfErr told Q
refused_so P Q said told is p = if_err P Q told (subst (ComesTo P Q) (sym is) p)

-- ---- what a change says

-- the handle names this writable map
abbrev pub Writes : HandleMap → ℕ → KeyMap → Type 0
Writes world handle m = map.get world handle ≡ Some (record { access = Writable; pairs = m })

abbrev writing : KeyMap → HandleState
writing m = record { access = Writable; pairs = m }

-- a handle that names it already names it
pub naming_same : (world : HandleMap) (handle : ℕ) (m : KeyMap) → Writes world handle m → naming world handle Writable m ≡ world
naming_same world handle m at =
    same_map nat_cmp_total nat_cmp-IsAntisymmetric (naming world handle Writable m) world
    (λ q. get-insert nat_cmp_total world handle (writing m) q ∙ ap (λ b. cond b (Some (writing m)) (map.get world q)) (unsigned_tied q handle) ∙ by_key q (eqb q handle) refl)
  where
    by_key : (q : ℕ) (b : Bool) → eqb q handle ≡ b → cond b (Some (writing m)) (map.get world q) ≡ map.get world q
    by_key q true e = sym at ∙ ap (map.get world) (sym (eqb-true q handle e))
    by_key q false e = refl

module _ (world : HandleMap) (handle : ℕ) (change : KeyMap → Reply × KeyMap) (answer : Reply) (next : HandleMap) where
  abbrev Says : Option HandleState → Type 0
  Says shown = (m : KeyMap) × (shown ≡ Some (record { access = Writable; pairs = m })) × (answer ≡ (change m).0) × (next ≡ naming world handle Writable (change m).1)

  abbrev result_of : Option KeyMap → Option (Reply × HandleMap)
  result_of = option_and_then (λ m. Some ((change m).0, naming world handle Writable (change m).1))

  by_access : (access : Access) (pairs : KeyMap) → result_of (with_access Writable access pairs) ≡ Some (answer, next) → Says (Some (record { access = access; pairs = pairs }))
  by_access Writable pairs e =
      let same = same_Some ((change pairs).0, naming world handle Writable (change pairs).1) (answer, next) e in (pairs, refl, ap (λ p. p.0) (sym same), ap (λ p. p.1) (sym same))
  by_access ReadOnly pairs e = cc e

  by_shown : (shown : Option HandleState) → result_of (option_and_then (λ s. with_access Writable s.access s.pairs) shown) ≡ Some (answer, next) → Says shown
  by_shown None e = cc e
  by_shown (Some shown) e = by_access shown.access shown.pairs e

  -- a change that has an effect is one of a writable map
  pub says : changing world handle change ≡ Some (answer, next) → Says (map.get world handle)
  says e = by_shown (map.get world handle) e

-- ---- what a call comes to

-- only these deny a call
pub told_of : (before : MapState) (c : Call) (told : MapError) → denial_in before c ≡ Some told → IsDenial told
told_of before c told e = told_by (changes_map c) (opens_handle c) (map.get (handles_of before) (handle_of c)) (map.len (handles_of before)) told e

module _ {A : Type 0} (said : Result Reply MapError → Result A MapError) (full : said (Ok NoSlots) ≡ Err error.Full) (crowded : said (Ok Crowded) ≡ Err error.Crowded)
    (opened : (copy : ℕ) → said (Ok (Opened copy)) ≡ Err error.Full) (as_told : (why : MapError) → said (Err why) ≡ Err why)
    (before : MapState) (handle : ℕ) (c : Call) (change : KeyMap → Reply × KeyMap)
    (is : (opens : Option ℕ) → effect_among (hash_of before.core.limits.hash) (handles_of before) c opens ≡ changing (handles_of before) handle change) (Crowds : Type 0)
    (Told : A → KeyMap → Type 0) (to : KeyMap → KeyMap) where
  -- it is crowded there, or the change is done
  abbrev pub Outcome : KeyMap → Type 0
  Outcome m = (Crowds × (change m ≡ (Crowded, m))) ⊎ ((a : A) × (said (Ok (change m).0) ≡ Ok a) × Told a m × ((change m).1 ≡ to m))

  abbrev pub Comes : MapState → Result A MapError → Type 0
  Comes after =
      ComesTo (λ a. HasLife before × Changes before handle (Told a) to after) (Refuses before c Crowds after)

  module _ (outcome : (m : KeyMap) → Writes (handles_of before) handle m → Outcome m) (after : MapState) where
    -- the three ways of an answer
    data Way (answer : Reply) : Type 0 where
      wants : LacksSlots before c → Stays before after → said (Ok answer) ≡ Err error.Full → Way answer
      crowds : Crowds → Stays before after → said (Ok answer) ≡ Err error.Crowded → Way answer
      does : (m : KeyMap) (a : A) → Writes (handles_of before) handle m → Told a m → Becomes before (naming (handles_of before) handle Writable (to m)) after →
          said (Ok answer) ≡ Ok a → Way answer

    by_outcome : (answer : Reply) (m : KeyMap) → Writes (handles_of before) handle m → answer ≡ (change m).0 →
        Becomes before (naming (handles_of before) handle Writable (change m).1) after → Outcome m → Way answer
    by_outcome answer m at e becomes (inl (crowd, same)) =
        let stays : Stays before after =
        subst (λ w. Becomes before w after) (ap (λ (p : Reply × KeyMap). naming (handles_of before) handle Writable p.1) same ∙ naming_same (handles_of before) handle m at) becomes in
        crowds crowd stays (ap (λ a. said (Ok a)) (e ∙ ap (λ (p : Reply × KeyMap). p.0) same) ∙ crowded)
    by_outcome answer m at e becomes (inr (a, told, so, there)) =
        does m a at so (subst (λ n. Becomes before (naming (handles_of before) handle Writable n) after) there becomes) (ap (λ r. said (Ok r)) e ∙ told)

    by_effect : (answer : Reply) (opens : Option ℕ) (next : HandleMap) → effect_among (hash_of before.core.limits.hash) (handles_of before) c opens ≡ Some (answer, next) →
        Becomes before next after → Way answer
    by_effect answer opens next effect_is becomes =
        let (m, at, e, there) = says (handles_of before) handle change answer next (sym (is opens) ∙ effect_is) in
        by_outcome answer m at e (subst (λ w. Becomes before w after) there becomes) (outcome m at)

    -- it opens no handle
    opens_none : (copy : ℕ) (m : KeyMap) → Outcome m → Opened copy ≢ (change m).0
    opens_none copy m (inl (crowd, same)) = λ e. cc (e ∙ ap (λ (p : Reply × KeyMap). p.0) same)
    opens_none copy m (inr (a, told, so, there)) = λ e. cc (sym (opened copy) ∙ ap (λ r. said (Ok r)) e ∙ told)

    way : (answer : Reply) → Answers before c answer after → Way answer
    way NoSlots p = wants p.0 p.1 full
    way (Opened copy) (number, (next, effect, has)) =
        let (m, at, e, there) = says (handles_of before) handle change (Opened copy) next (sym (is (Some copy)) ∙ effect) in absurd (opens_none copy m (outcome m at) e)
    way answer p = by_effect answer p.0 p.1 p.2 p.3

    by_way : (answer : Reply) → IsBegun before c → Way answer → Comes after (said (Ok answer))
    by_way answer begun (wants lacks stays e) = subst (Comes after) (sym e) (begun.0, begun.1, lacks, stays)
    by_way answer begun (crowds crowd stays e) = subst (Comes after) (sym e) (begun.0, begun.1, crowd, stays)
    by_way answer begun (does m a at so becomes e) = subst (Comes after) (sym e) (begun.1, (m, at, so, becomes))

    by_error : (why : MapError) → Performs (Err why) before c after → Comes after (Err why)
    by_error error.WornOut p = p
    by_error error.Full p = absurd (told_of before c error.Full p.0)
    by_error error.Crowded p = absurd (told_of before c error.Crowded p.0)
    by_error why p = p

    pub comes : (result : Result Reply MapError) → Performs result before c after → Comes after (said result)
    comes (Ok answer) p = by_way answer p.0 (way answer p.1)
    comes (Err why) p = subst (Comes after) (sym (as_told why)) (by_error why p)
