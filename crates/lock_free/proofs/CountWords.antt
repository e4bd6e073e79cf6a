-- Words of counts are apart from each other, and from all words that nodes, offers, handles and seats have.
use Rattle.std.proofs.Common.{◌≡◌, ◌≢◌, ◌<◌, ◌≤◌, ◌⊎◌, inl, inr, ℕ, zero, suc, List, set, slice_index, refl, sym, ap, subst, ◌∙◌, arith}
use Rattle.std.proofs.lemmas.List.{get_or-set_other, set-get_or}
use Rattle.lock_free.specs.declared.sizes.Sizes.{Sizes}
use Rattle.lock_free.specs.Counts.{IsCount}
use Rattle.lock_free.specs.Places.{count_word, epoch_word, first_slot_word, glance_word, pin_word, root_word, words_of, IsSlot, IsTaken, HaveTaken}
use Rattle.lock_free.proofs.EpochStays.{Elsewhere}
use Rattle.lock_free.proofs.Geometry.{IsWordOf, above, root_below, root_far}

module _ (sizes : Sizes) where
  slot_count_above : (class name : ℕ) → class < 3 → IsSlot sizes class name → first_slot_word sizes ≤ count_word sizes class name
  slot_count_above zero name low h = omega (arith, h.first)
  slot_count_above (suc zero) name low h = omega (arith, h.first)
  slot_count_above (suc (suc zero)) name low h = omega (arith, h.first)
  slot_count_above (suc (suc (suc class))) name low h = absurd (omega (arith, low))

  pub count_above : (word : ℕ) → IsCount sizes word → first_slot_word sizes ≤ word
  count_above word h = let far = slot_count_above h.class h.name h.small h.slot in subst (λ n. first_slot_word sizes ≤ n) (sym h.is) far

  slot_count_inside : (class name : ℕ) → class < 3 → IsSlot sizes class name → count_word sizes class name < words_of sizes
  slot_count_inside zero name low h = omega (arith, h.first, h.few)
  slot_count_inside (suc zero) name low h = omega (arith, h.first, h.few)
  slot_count_inside (suc (suc zero)) name low h = omega (arith, h.first, h.few)
  slot_count_inside (suc (suc (suc class))) name low h = absurd (omega (arith, low))

  pub count_inside : (word : ℕ) → IsCount sizes word → word < words_of sizes
  count_inside word h = subst (λ n. n < words_of sizes) (sym h.is) (slot_count_inside h.class h.name h.small h.slot)

  -- no word of a slot's is a count's
  slot_count_beside : (b x c y j : ℕ) → b < 3 → c < 3 → IsSlot sizes b x → IsSlot sizes c y → IsWordOf c y j → count_word sizes b x ≢ j
  slot_count_beside zero x zero y j p q g h w e = omega (arith, g.first, h.first, h.few, w.high, e)
  slot_count_beside zero x (suc zero) y j p q g h w e = omega (arith, g.first, h.first, h.few, w.high, e)
  slot_count_beside zero x (suc (suc zero)) y j p q g h w e = omega (arith, g.first, h.first, h.few, w.high, e)
  slot_count_beside (suc zero) x zero y j p q g h w e = omega (arith, g.first, h.first, h.few, w.high, e)
  slot_count_beside (suc zero) x (suc zero) y j p q g h w e = omega (arith, g.first, h.first, w.low, w.high, e)
  slot_count_beside (suc zero) x (suc (suc zero)) y j p q g h w e = omega (arith, g.first, g.few, h.first, w.low, e)
  slot_count_beside (suc (suc zero)) x zero y j p q g h w e = omega (arith, g.first, h.first, h.few, w.high, e)
  slot_count_beside (suc (suc zero)) x (suc zero) y j p q g h w e = omega (arith, g.first, h.first, h.few, w.high, e)
  slot_count_beside (suc (suc zero)) x (suc (suc zero)) y j p q g h w e = omega (arith, g.first, h.first, w.low, w.high, e)
  slot_count_beside (suc (suc (suc b))) x c y j p q g h w e = absurd (omega (arith, p))
  slot_count_beside b x (suc (suc (suc c))) y j p q g h w e = absurd (omega (arith, q))

  -- two slots don't have one count
  pub count_once : (b x c y : ℕ) → b < 3 → c < 3 → IsSlot sizes b x → IsSlot sizes c y → count_word sizes b x ≡ count_word sizes c y → (b ≡ c) × (x ≡ y)
  count_once zero x zero y p q g h e = (refl, omega (arith, e))
  count_once zero x (suc zero) y p q g h e = absurd (omega (arith, g.first, h.first, h.few, e))
  count_once zero x (suc (suc zero)) y p q g h e = absurd (omega (arith, g.first, h.first, h.few, e))
  count_once (suc zero) x zero y p q g h e = absurd (omega (arith, g.first, g.few, h.first, e))
  count_once (suc zero) x (suc zero) y p q g h e = (refl, omega (arith, e))
  count_once (suc zero) x (suc (suc zero)) y p q g h e = absurd (omega (arith, g.first, g.few, h.first, e))
  count_once (suc (suc zero)) x zero y p q g h e = absurd (omega (arith, g.first, g.few, h.first, e))
  count_once (suc (suc zero)) x (suc zero) y p q g h e = absurd (omega (arith, g.first, h.first, h.few, e))
  count_once (suc (suc zero)) x (suc (suc zero)) y p q g h e = (refl, omega (arith, e))
  count_once (suc (suc (suc b))) x c y p q g h e = absurd (omega (arith, p))
  count_once b x (suc (suc (suc c))) y p q g h e = absurd (omega (arith, q))

  -- a slot has one class
  pub one_class : (b c x : ℕ) → b < 3 → c < 3 → IsSlot sizes b x → IsSlot sizes c x → b ≡ c
  one_class zero zero x p q g h = refl
  one_class zero (suc zero) x p q g h = absurd (omega (arith, g.first, g.few, h.first))
  one_class zero (suc (suc zero)) x p q g h = absurd (omega (arith, g.first, g.few, h.first))
  one_class (suc zero) zero x p q g h = absurd (omega (arith, g.first, h.few, h.first))
  one_class (suc zero) (suc zero) x p q g h = refl
  one_class (suc zero) (suc (suc zero)) x p q g h = absurd (omega (arith, g.first, g.few, h.first))
  one_class (suc (suc zero)) zero x p q g h = absurd (omega (arith, g.first, h.few, h.first))
  one_class (suc (suc zero)) (suc zero) x p q g h = absurd (omega (arith, g.first, h.few, h.first))
  one_class (suc (suc zero)) (suc (suc zero)) x p q g h = refl
  one_class (suc (suc (suc b))) c x p q g h = absurd (omega (arith, p))
  one_class b (suc (suc (suc c))) x p q g h = absurd (omega (arith, q))

  pub slot_taken : (words : List ℕ) → HaveTaken sizes words → (class name : ℕ) → class < 3 → IsTaken sizes words class name → IsSlot sizes class name
  slot_taken words have class name low h = record { number = h.number; few = (let most = have class low in omega (arith, h.few, most)); first = h.first }

  pub count_beside : (words : List ℕ) → HaveTaken sizes words → (word : ℕ) → IsCount sizes word → (class name j : ℕ) → class < 3 → IsTaken sizes words class name → IsWordOf class name j → j ≢ word
  count_beside words have word h class name j low taken its e =
      slot_count_beside h.class h.name class name j h.small low h.slot (slot_taken words have class name low taken) its (sym h.is ∙ sym e)

  pub count_not_epoch : (word : ℕ) → IsCount sizes word → word ≢ epoch_word
  count_not_epoch word h e = let far = count_above word h in omega (arith, far, e)

  pub count_not_glance : (word : ℕ) → IsCount sizes word → word ≢ glance_word
  count_not_glance word h e = let far = count_above word h in omega (arith, far, e)

-- ---- a word that no slot has

-- it comes after those of handles and seats, and is none of a slot that was handed out
pub record IsBesideSlots (sizes : Sizes) (words : List ℕ) (word : ℕ) : Type 0 where
  pub far : first_slot_word sizes ≤ word
  pub beside : (class name j : ℕ) → class < 3 → IsTaken sizes words class name → IsWordOf class name j → j ≢ word

pub count_beside_slots : (sizes : Sizes) (words : List ℕ) → HaveTaken sizes words → (word : ℕ) → IsCount sizes word → IsBesideSlots sizes words word
count_beside_slots sizes words have word is = record { far = count_above sizes word is; beside = count_beside sizes words have word is }

-- ---- where an access leaves all counts

-- the word is no count's, nor the epoch's or that of glances
abbrev pub Apart : Sizes → ℕ → Type 0
Apart sizes word = (2 ≤ word) × ((c : ℕ) → IsCount sizes c → c ≢ word)

pub before_apart : (sizes : Sizes) (word : ℕ) → 2 ≤ word → word < first_slot_word sizes → Apart sizes word
before_apart sizes word far low = (far, λ c is same. (let far = count_above sizes c is in omega (arith, low, far, same)))

pub handle_apart : (sizes : Sizes) (handle : ℕ) → handle < 256 → Apart sizes (root_word handle)
handle_apart sizes handle low = before_apart sizes (root_word handle) (root_far handle) (let where_it_is = root_below handle low in omega (arith, where_it_is.1))

pub pin_apart : (sizes : Sizes) (actor : ℕ) → actor ≤ sizes.seats → Apart sizes (pin_word actor)
pin_apart sizes actor most = before_apart sizes (pin_word actor) (omega arith) (omega (arith, most))

pub slot_apart : (sizes : Sizes) (words : List ℕ) → HaveTaken sizes words → (class name j : ℕ) → class < 3 → IsTaken sizes words class name → IsWordOf class name j → Apart sizes j
slot_apart sizes words have class name j low taken its = (
  (let far = above sizes words have class name j low taken its in omega (arith, far)),
  λ c is same. count_beside sizes words have c is class name j low taken its (sym same),
)

-- an access of this word, which leaves f of what it has, leaves the epoch and all counts
abbrev pub Beside : Sizes → ℕ → (ℕ → ℕ) → List ℕ → Type 0
Beside sizes word f words = Apart sizes word ⊎ (f (slice_index words word) ≡ slice_index words word)

pub elsewhere_so : (sizes : Sizes) (word : ℕ) (f : ℕ → ℕ) (words : List ℕ) → Beside sizes word f words → Elsewhere word f words
elsewhere_so sizes word f words (inl apart) = inl (λ e. (let far = apart.0 in omega (arith, far, e)))
elsewhere_so sizes word f words (inr same) = inr same

-- or the word that counts glances
abbrev pub Aside : ℕ → (ℕ → ℕ) → List ℕ → Type 0
Aside word f words = (word ≢ glance_word) ⊎ (f (slice_index words word) ≡ slice_index words word)

pub aside_so : (sizes : Sizes) (word : ℕ) (f : ℕ → ℕ) (words : List ℕ) → Beside sizes word f words → Aside word f words
aside_so sizes word f words (inl apart) = inl (λ e. (let far = apart.0 in omega (arith, far, e)))
aside_so sizes word f words (inr same) = inr same

pub stays_aside : (words : List ℕ) (word : ℕ) (f : ℕ → ℕ) → Aside word f words → slice_index (set words word (f (slice_index words word))) glance_word ≡ slice_index words glance_word
stays_aside words word f (inl differs) = get_or-set_other words word glance_word (f (slice_index words word)) 0 (λ e. differs (sym e))
stays_aside words word f (inr same) = ap (λ n. slice_index (set words word n) glance_word) same ∙ ap (λ ws. slice_index ws glance_word) (set-get_or words word 0)

pub count_same : (sizes : Sizes) (word : ℕ) (f : ℕ → ℕ) (words : List ℕ) → Beside sizes word f words → (c : ℕ) → IsCount sizes c →
    slice_index (set words word (f (slice_index words word))) c ≡ slice_index words c
count_same sizes word f words (inl apart) c is = get_or-set_other words word c (f (slice_index words word)) 0 (apart.1 c is)
count_same sizes word f words (inr same) c is = ap (λ n. slice_index (set words word n) c) same ∙ ap (λ ws. slice_index ws c) (set-get_or words word 0)
