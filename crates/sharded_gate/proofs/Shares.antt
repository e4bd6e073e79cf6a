-- What a slot has of a whole in shards.
use Rattle.std.specs.Prelude.{◌≡◌, ℕ, zero, suc, ◌<◌, ◌≤◌, ◌==◌, Bool, true, false, cond, List, [], ◌∷◌, ◌++◌, length, Option, Some, slice_get}
use Rattle.std.proofs.Common.{refl, sym, ap, ◌∙◌, eq-eqb, append-nil, arith}
use Rattle.std.proofs.lemmas.Bool.{eqb-true}
use Rattle.std.proofs.lemmas.List.{append_cancel_left}
use Rattle.std.proofs.lemmas.List.Elements.{filter-append}
use mathlib.Core.Option as table
use mathlib.Core.Option.{some-injective, some-ne-none}
use lib.ListN.{get_elem?}
use Rattle.gate.specs.declared.objects.Entry.{Entry}
use Rattle.gate.specs.Logs.{Logged}
use Rattle.sharded_gate.specs.Shards.{LoggedShard, is_about, calls_about, logged_shard, shard_of}

-- ---- lists

pub slice_get_by : {X : Type 0} (xs : List X) (i : ℕ) (x : X) → get_elem? xs i ≡ table.some x → slice_get xs i ≡ Some x
slice_get_by [] i x e = absurd (some-ne-none x (sym e))
slice_get_by (y ∷ xs) zero x e = ap Some (some-injective y x e)
slice_get_by (y ∷ xs) (suc i) x e = slice_get_by xs i x e

pub past : {X : Type 0} (xs : List X) (i : ℕ) → length xs ≤ i → get_elem? xs i ≡ table.none
past [] i far = refl
past (x ∷ xs) zero far = absurd (omega (arith, far))
past (x ∷ xs) (suc i) far = past xs i (omega (arith, far))

pub in_range : {X : Type 0} (xs : List X) (i : ℕ) (x : X) → get_elem? xs i ≡ table.some x → i < length xs
in_range [] i x e = absurd (some-ne-none x (sym e))
in_range (y ∷ xs) zero x e = omega arith
in_range (y ∷ xs) (suc i) x e = omega (arith, in_range xs i x e)

pub at_middle : {X : Type 0} (before : List X) (x : X) (later : List X) → get_elem? (before ++ x ∷ later) (length before) ≡ table.some x
at_middle [] x later = refl
at_middle (y ∷ before) x later = at_middle before x later

-- lists of one length, of which the one has what the other has, are the same
pub same_list : {X : Type 0} (xs ys : List X) → length xs ≡ length ys → ((i : ℕ) (x : X) → get_elem? ys i ≡ table.some x → get_elem? xs i ≡ table.some x) → xs ≡ ys
same_list [] [] long has = refl
same_list [] (y ∷ ys) long has = absurd (omega (arith, long))
same_list (x ∷ xs) [] long has = absurd (omega (arith, long))
same_list (x ∷ xs) (y ∷ ys) long has =
    ap (λ z. z ∷ xs) (some-injective x y (has 0 y refl)) ∙ ap (λ zs. y ∷ zs) (same_list xs ys (omega (arith, long)) (λ i z at. has (suc i) z at))

-- ---- logs

module _ {C A : Type 0} (about : C → Option ℕ) where
  -- one call more that is about the shard, and one that isn't
  pub one_more_about : (shard : ℕ) (log : List (Entry C A)) (e : Entry C A) → is_about (about e.call) shard ≡ true → calls_about about shard (log ++ e ∷ []) ≡ calls_about about shard log ++ e ∷ []
  one_more_about shard log e yes_about =
      filter-append (λ (x : Entry C A). is_about (about x.call) shard) log (e ∷ []) ∙ ap (λ es. calls_about about shard log ++ es) (rw yes_about refl)

  pub one_more_else : (shard : ℕ) (log : List (Entry C A)) (e : Entry C A) → is_about (about e.call) shard ≡ false → calls_about about shard (log ++ e ∷ []) ≡ calls_about about shard log
  one_more_else shard log e not_about =
      filter-append (λ (x : Entry C A). is_about (about x.call) shard) log (e ∷ []) ∙ ap (λ es. calls_about about shard log ++ es) (rw not_about refl) ∙ append-nil (calls_about about shard log)

  grown_by : (shard : ℕ) (log : List (Entry C A)) (d e : Entry C A) (b : Bool) → is_about (about d.call) shard ≡ b → calls_about about shard (log ++ d ∷ []) ≡ calls_about about shard log ++
      e ∷ [] → d ≡ e
  grown_by shard log d e true is grown =
      let ends = append_cancel_left (calls_about about shard log) (d ∷ []) (e ∷ []) (sym (one_more_about shard log d is) ∙ grown) in
      some-injective d e (ap (λ xs. get_elem? xs 0) ends)
  grown_by shard log d e false is grown =
      let ends = append_cancel_left (calls_about about shard log) [] (e ∷ []) (append-nil (calls_about about shard log) ∙ sym (one_more_else shard log d is) ∙ grown) in
      absurd (some-ne-none e (ap (λ xs. get_elem? xs 0) (sym ends)))

  -- the call that came into the log of a shard is the one that came into the log
  pub grown : (shard : ℕ) (log : List (Entry C A)) (d e : Entry C A) → calls_about about shard (log ++ d ∷ []) ≡ calls_about about shard log ++ e ∷ [] → d ≡ e
  grown shard log d e more = grown_by shard log d e (is_about (about d.call) shard) refl more

-- ---- slots

module _ {O C A : Type 0} (shards : ℕ) (about : C → Option ℕ) where
  -- the whole has so many shards, and this one so, with its calls
  pub record IsShard (whole : Logged (List O) C A) (shard : ℕ) (x : LoggedShard O C A) : Type 0 where
    pub many : length whole.object ≡ shards
    pub object : get_elem? whole.object shard ≡ table.some x.object
    pub log : calls_about about shard whole.log ≡ x.log

  logged_by : (log : List (Entry C A)) (found : table.Option O) (x : LoggedShard O C A) → logged_shard log found ≡ table.some x → (found ≡ table.some x.object) × (log ≡ x.log)
  logged_by log table.none x e = absurd (some-ne-none x (sym e))
  logged_by log (table.some object) x e = let same = some-injective _ x e in (ap (λ (s : LoggedShard O C A). table.some s.object) same, ap (λ (s : LoggedShard O C A). s.log) same)

  shard_by : (b : Bool) (found : table.Option (LoggedShard O C A)) (x : LoggedShard O C A) → cond b found table.none ≡ table.some x → (b ≡ true) × (found ≡ table.some x)
  shard_by true found x e = (refl, e)
  shard_by false found x e = absurd (some-ne-none x (sym e))

  pub of_shard : (whole : Logged (List O) C A) (shard : ℕ) (x : LoggedShard O C A) → shard_of shards about whole shard ≡ table.some x → IsShard whole shard x
  of_shard whole shard x e =
      let h = shard_by (length whole.object == shards) (logged_shard (calls_about about shard whole.log) (get_elem? whole.object shard)) x e in
      let l = logged_by (calls_about about shard whole.log) (get_elem? whole.object shard) x h.1 in
      record { many = eqb-true (length whole.object) shards h.0; object = l.0; log = l.1 }

  sized : (whole : Logged (List O) C A) (shard : ℕ) → length whole.object ≡ shards →
      shard_of shards about whole shard ≡ logged_shard (calls_about about shard whole.log) (get_elem? whole.object shard)
  sized whole shard many = ap (λ b. cond b (logged_shard (calls_about about shard whole.log) (get_elem? whole.object shard)) table.none) (eq-eqb (length whole.object) shards many)

  pub to_shard : (whole : Logged (List O) C A) (shard : ℕ) (x : LoggedShard O C A) → IsShard whole shard x → shard_of shards about whole shard ≡ table.some x
  to_shard whole shard x is =
      sized whole shard is.many ∙ ap (λ o. logged_shard (calls_about about shard whole.log) o) is.object
      ∙ ap (λ log. table.some (record { object = x.object; log = log })) is.log

  -- two wholes in which the shard and its calls are the same
  pub same_shard : (whole other : Logged (List O) C A) (shard : ℕ) → length whole.object ≡ shards → length other.object ≡ shards → get_elem? whole.object shard ≡ get_elem? other.object shard →
      calls_about about shard whole.log ≡ calls_about about shard other.log → shard_of shards about whole shard ≡ shard_of shards about other shard
  same_shard whole other shard many much object log =
      sized whole shard many ∙ ap (λ o. logged_shard (calls_about about shard whole.log) o) object
      ∙ ap (λ l. logged_shard l (get_elem? other.object shard)) log ∙ sym (sized other shard much)

  -- no slot has what is past the last shard
  pub no_shard : (whole : Logged (List O) C A) (shard : ℕ) → length whole.object ≡ shards → shards ≤ shard → shard_of shards about whole shard ≡ table.none
  no_shard whole shard many far =
      sized whole shard many ∙ ap (λ o. logged_shard (calls_about about shard whole.log) o) (past whole.object shard (omega (arith, many, far)))
