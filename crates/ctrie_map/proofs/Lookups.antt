-- What is read of a core at rest is what the finite maps say.
use Rattle.std.specs.Prelude.{◌≡◌, ℕ, length, List, Option, Some, None, Result, Ok, Err, IsOk, IsSome}
use Rattle.std.specs.FinMap as map
use Rattle.std.specs.Ordering.{nat_cmp}
use Rattle.std.proofs.Common.{refl, sym, ap, subst, inl, inr, ◌∙◌}
use Rattle.ctrie_map.specs.Vocabulary.{Refusal, HandleState, KeyMap, Root, content_at, RefusesContent, State, root_at, Reply}
use Rattle.ctrie_map.specs.Beneath.map_worlds.proofs.Shown.{states_show}
use Rattle.machine_core.proofs.Found.{found_along_is}
use Rattle.machine_core.specs.Finding.{found_along}
use Rattle.ctrie_map.specs.Beneath.map_worlds.specs.Worlds.{world_of}
use Rattle.ctrie_map.specs.Beneath.proof_straight.specs.Resting.{IsOfRun}
use Rattle.ctrie_map.specs.Beneath.proof_order.specs.Laws.Orders.{Names}
use Rattle.ctrie_map.specs.declared.errors.MapError.{MapError}
use Rattle.ctrie_map.specs.declared.errors.MapError.TheVariants as error
use Rattle.ctrie_map.specs.Calling.{IsRead}
use Rattle.ctrie_map.specs.Maps.{MapState, handles_of}
use Rattle.ctrie_map.specs.Performing.{of_refusal}
use Rattle.ctrie_map.specs.Reading.{RefusesReading, core_reading, read_of, reading}

-- one thing is told
pub same_told : {A : Type 0} (r : Result A MapError) (a b : A) → r ≡ Ok a → r ≡ Ok b → a ≡ b
same_told (Ok x) a b e h =
    let p : x ≡ a = cc e in
    let q : x ≡ b = cc h in
    sym p ∙ q
same_told (Err why) a b e h = absurd (cc e)

-- what is read can be worked on
pub mapped_by : {A B : Type 0} (f : A → B) (shown : Option HandleState) (read : KeyMap → A) (a : A) → read_of read shown ≡ Ok a → read_of (λ m. f (read m)) shown ≡ Ok (f a)
mapped_by f None read a e = cc e
mapped_by f (Some shown) read a e = let same : read shown.pairs ≡ a = cc e in ap (λ x. Ok (f x)) same

pub mapped : {A B : Type 0} (f : A → B) (state : MapState) (h : ℕ) (read : KeyMap → A) (a : A) → reading state h read ≡ Ok a → reading state h (λ m. f (read m)) ≡ Ok (f a)
mapped f state h read a e = mapped_by f (map.get (handles_of state) h) read a e

refused_by : {A B : Type 0} (shown : Option HandleState) (read : KeyMap → A) (other : KeyMap → B) (why : MapError) → read_of read shown ≡ Err why → read_of other shown ≡ Err why
refused_by None read other why e = cc e
refused_by (Some shown) read other why e = cc e

-- what is refused is, whatever is read
pub refused : {A B : Type 0} (state : MapState) (h : ℕ) (read : KeyMap → A) (other : KeyMap → B) (why : MapError) → reading state h read ≡ Err why → reading state h other ≡ Err why
refused state h read other why e = refused_by (map.get (handles_of state) h) read other why e

readable_so : {A B : Type 0} (shown : Option HandleState) (read : KeyMap → A) (other : KeyMap → B) → IsOk (read_of read shown) → IsOk (read_of other shown)
readable_so None read other p = cc p
readable_so (Some shown) read other p = refl

-- so is what is made of what would be read
pub read_refused : {A : Type 0} (state : MapState) (h : ℕ) (read : KeyMap → A) (other : KeyMap → Reply) (why : MapError) → RefusesReading (reading state h read) why →
    IsRead (reading state h other) (Err why)
read_refused state h read other why (inl e) = inl (sym (refused state h read other why e))
read_refused state h read other why (inr e) = inr (ap Err e.0, readable_so (map.get (handles_of state) h) read other e.1)

-- entries are counted
pub len_by : (shown : Option HandleState) (entries : List (ℕ × ℕ)) → read_of (λ m. map.entries m) shown ≡ Ok entries → read_of (λ m. map.len m) shown ≡ Ok (length entries)
len_by None entries e = cc e
len_by (Some shown) entries e = let same : map.entries shown.pairs ≡ entries = cc e in ap Ok (map.len-entries shown.pairs ∙ ap length same)

-- what could be read of the core can be, whatever is read
pub refuses_alike : {A B : Type 0} (state : State) (h : ℕ) (read : KeyMap → A) (other : KeyMap → B) (why : MapError) → RefusesReading (core_reading state h read) why →
    RefusesReading (core_reading state h other) why
refuses_alike state h read other why (inl e) = inl (refused_by (map.get (world_of state) h) read other why e)
refuses_alike state h read other why (inr e) = inr (e.0, readable_so (map.get (world_of state) h) read other e.1)

module _ (state : State) (run : IsOfRun state) (h : ℕ) where
  shown_so : Names (root_at state h) (content_at state h) (map.get (world_of state) h)
  shown_so =
      subst (λ s. Names (root_at s h) (content_at s h) (map.get (world_of s) h)) (sym run.is) (states_show state.limits run.steps run.limits run.keys h)

  closed_by : {A : Type 0} (read : KeyMap → A) (o : Option Root) (pairs : List (ℕ × ℕ)) (shown : Option HandleState) → o ≡ None → Names o pairs shown → read_of read shown ≡ Err error.NoHandle
  closed_by read None pairs shown e names = ap (read_of read) names
  closed_by read (Some root) pairs shown e names = cc e

  -- nothing is read of a handle that isn't open
  pub closed : {A : Type 0} (read : KeyMap → A) → root_at state h ≡ None → core_reading state h read ≡ Err error.NoHandle
  closed read e = closed_by read (root_at state h) (content_at state h) (map.get (world_of state) h) e shown_so

  value_by : (key : ℕ) (o : Option Root) (pairs : List (ℕ × ℕ)) (shown : Option HandleState) → IsSome o → Names o pairs shown → read_of (λ m. map.get m key) shown ≡ Ok (map.find nat_cmp key pairs)
  value_by key None pairs shown some names = cc some
  value_by key (Some root) pairs shown some (m, is, same) = ap (read_of (λ n. map.get n key)) is ∙ ap Ok (map.get-entries m key ∙ ap (map.find nat_cmp key) same)

  pub value_read : (key : ℕ) → IsSome (root_at state h) → core_reading state h (λ m. map.get m key) ≡ Ok (found_along state h key)
  value_read key some =
      value_by key (root_at state h) (content_at state h) (map.get (world_of state) h) some shown_so ∙ ap Ok (sym (found_along_is state run h key some))

  entries_by : (o : Option Root) (pairs : List (ℕ × ℕ)) (shown : Option HandleState) → IsSome o → Names o pairs shown → read_of (λ m. map.entries m) shown ≡ Ok pairs
  entries_by None pairs shown some names = cc some
  entries_by (Some root) pairs shown some (m, is, same) = ap (read_of (λ n. map.entries n)) is ∙ ap Ok same

  pub entries_read : IsSome (root_at state h) → core_reading state h (λ m. map.entries m) ≡ Ok (content_at state h)
  entries_read some = entries_by (root_at state h) (content_at state h) (map.get (world_of state) h) some shown_so

  is_open : (o : Option Root) → (o ≡ None → ⊥) → IsSome o
  is_open None there = absurd (there refl)
  is_open (Some root) there = refl

  -- what is refused is told so
  pub refuses : (why : Refusal) (told : MapError) → told ≡ of_refusal why → RefusesContent state h why → RefusesReading (core_reading state h (λ m. map.entries m)) told
  refuses why told e (inl none) = inl (closed (λ m. map.entries m) none.0 ∙ ap Err (sym (e ∙ ap of_refusal none.1)))
  refuses why told e (inr lacking) = inr (e ∙ ap of_refusal lacking.1, subst IsOk (sym (entries_read (is_open (root_at state h) lacking.0))) refl)
