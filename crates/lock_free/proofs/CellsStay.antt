-- What stands in cells stays there, and stays nobody's, where an access changes no cell's word; and so does what is loose.
use Rattle.history.specs.declared.calls.Call.{Call}
use Rattle.std.proofs.Common.{◌≡◌, ◌≢◌, ◌<◌, ◌≤◌, ℕ, zero, suc, List, inl, inr, set, slice_index, length, refl, sym, ap, subst, ◌∙◌, arith}
use Rattle.std.proofs.lemmas.Bool.{cases_eq}
use Rattle.std.proofs.lemmas.List.{get_or-set_other, get_or-set_same}
use mathlib.Core.Option.{some}
use lib.ListN.{get_elem?}
use Rattle.atomic_table.specs.Table as Table
use Rattle.atomic_table.proofs.Lists.{at_set}
use Rattle.lock_free.specs.declared.accounts.Account.{Account}
use Rattle.lock_free.specs.declared.rules.View.{View}
use Rattle.lock_free.specs.declared.sizes.Sizes.{Sizes}
use Rattle.lock_free.specs.Cells.{loose_link, AreCells, IsAside, IsCell, IsFree, IsLoose, Stores}
use Rattle.lock_free.specs.Counts.{IsCount}
use Rattle.lock_free.specs.Links.{link_in}
use Rattle.lock_free.specs.Places.{cell_word, count_word, first_cell_word, pin_word, root_word, HaveTaken, IsSlot, IsTaken}
use Rattle.lock_free.specs.Rules.{Standing, IsKept, IsSpare}
use Rattle.lock_free.proofs.CountWords.{slot_taken}
use Rattle.lock_free.proofs.Geometry.{IsWordOf, root_below}
use Rattle.lock_free.proofs.LinksStay.{SameLinks}

-- a word before all cells is none of theirs
pub beside_cell : (sizes : Sizes) (words : List ℕ) (j x : ℕ) → j < first_cell_word sizes → (class number : ℕ) → IsCell class number → slice_index (set words j x) (cell_word sizes class number) ≡
    slice_index words (cell_word sizes class number)
beside_cell sizes words j x before class number cell = get_or-set_other words j (cell_word sizes class number) x 0 (λ e. omega (arith, before, e))

-- words of handles and pins are such
pub handle_before : (sizes : Sizes) (handle : ℕ) → handle < 256 → root_word handle < first_cell_word sizes
handle_before sizes handle low = let where_it_is = root_below handle low in omega (arith, where_it_is.1)

pub pin_before : (sizes : Sizes) (actor : ℕ) → actor ≤ sizes.seats → pin_word actor < first_cell_word sizes
pin_before sizes actor most = omega (arith, most)

-- and those of slots and of counts
module _ (sizes : Sizes) where
  slot_before : (class name j : ℕ) → class < 3 → IsSlot sizes class name → IsWordOf class name j → j < first_cell_word sizes
  slot_before zero name j low h its = omega (arith, h.first, h.few, its.high)
  slot_before (suc zero) name j low h its = omega (arith, h.first, h.few, its.high)
  slot_before (suc (suc zero)) name j low h its = omega (arith, h.first, h.few, its.high)
  slot_before (suc (suc (suc class))) name j low h its = absurd (omega (arith, low))

  pub before_cells : (words : List ℕ) → HaveTaken sizes words → (class name j : ℕ) → class < 3 → IsTaken sizes words class name → IsWordOf class name j → j < first_cell_word sizes
  before_cells words have class name j low taken its = slot_before class name j low (slot_taken sizes words have class name low taken) its

  word_before : (class name : ℕ) → class < 3 → IsSlot sizes class name → count_word sizes class name < first_cell_word sizes
  word_before zero name low h = omega (arith, h.first, h.few)
  word_before (suc zero) name low h = omega (arith, h.first, h.few)
  word_before (suc (suc zero)) name low h = omega (arith, h.first, h.few)
  word_before (suc (suc (suc class))) name low h = absurd (omega (arith, low))

  pub count_before : (word : ℕ) → IsCount sizes word → word < first_cell_word sizes
  count_before word h = let low = word_before h.class h.name h.small h.slot in subst (λ n. n < first_cell_word sizes) (sym h.is) low

pub aside_small : (sizes : Sizes) (words : List ℕ) (class name : ℕ) → IsAside sizes words class name → class < 3
aside_small sizes words class name (inl (number, h)) = h.0.0
aside_small sizes words class name (inr h) = h.0

-- ---- no slot is loose that wasn't

abbrev pub NoneLoosened : Sizes → List ℕ → List ℕ → Type 0
NoneLoosened sizes words words_then = (class name : ℕ) → IsLoose sizes words_then class name → IsLoose sizes words class name

-- where no link has changed
pub links_loosen_none : (sizes : Sizes) (words words_then : List ℕ) → SameLinks sizes words words_then → NoneLoosened sizes words words_then
links_loosen_none sizes words words_then same class name h =
    let link = same (count_word sizes class name) (record { class = class; small = h.0; name = name; slot = h.1; is = refl }) in (h.0, h.1, subst (λ n. loose_link ≤ n) link h.2)

-- where a word has that is no count's
pub word_loosens_none : (sizes : Sizes) (words : List ℕ) (j x : ℕ) → ((c : ℕ) → IsCount sizes c → c ≢ j) → NoneLoosened sizes words (set words j x)
word_loosens_none sizes words j x apart = links_loosen_none sizes words (set words j x) (λ c is. ap link_in (get_or-set_other words j c x 0 (apart c is)))

-- where the word of a count has, whose slot was loose if it is then
pub count_loosens_none : (sizes : Sizes) (words : List ℕ) (j x : ℕ) → j < length words → (loose_link ≤ link_in x → loose_link ≤ link_in (slice_index words j)) →
    NoneLoosened sizes words (set words j x)
count_loosens_none sizes words j x within was class name h = elim (cases_eq (count_word sizes class name) j) [
  | inl same ↦
      let there : slice_index (set words j x) (count_word sizes class name) ≡ x = ap (slice_index (set words j x)) same ∙ get_or-set_same words j x 0 within in
      (h.0, h.1, subst (λ c. loose_link ≤ link_in (slice_index words c)) (sym same) (was (subst (λ n. loose_link ≤ link_in n) there h.2)))
  | inr differs ↦ (h.0, h.1, subst (λ n. loose_link ≤ link_in n) (get_or-set_other words j (count_word sizes class name) x 0 differs) h.2)
]

module _ (sizes : Sizes) (s : Table.State Call View) (kept : IsKept sizes s) (id : ℕ) (v : View) (at : get_elem? s.views id ≡ some v) (later : View) where
  -- Which of those that were spare are so still, if they weren't free for the seat; and none of these is free for it then.
  module _ (account : Account) (stands : Standing) (words : List ℕ)
      (same : (class number : ℕ) → IsCell class number → slice_index words (cell_word sizes class number) ≡ slice_index s.words (cell_word sizes class number))
      (loose : NoneLoosened sizes s.words words)
      (spare : (class name : ℕ) → class < 3 → IsTaken sizes s.words class name → IsSpare sizes kept.account kept.stands name → ((b : ℕ) → IsFree v b name → ⊥) →
      IsTaken sizes words class name × IsSpare sizes account stands name)
      (free : (class name b : ℕ) → IsAside sizes s.words class name → IsTaken sizes s.words class name → IsSpare sizes kept.account kept.stands name → IsFree later b name → IsFree v b name) where
    stored : (class number name : ℕ) → Stores sizes words class number name → Stores sizes s.words class number name
    stored class number name h = (h.0, ap link_in (sym (same class number h.0)) ∙ h.1, h.2)

    was : (class name : ℕ) → IsAside sizes words class name → IsAside sizes s.words class name
    was class name (inl (number, h)) = inl (number, stored class number name h)
    was class name (inr h) = inr (loose class name h)

    not_its : (class name : ℕ) → IsAside sizes words class name → (b : ℕ) → IsFree later b name → ⊥
    not_its class name h b f =
        let w = was class name h in
        let x = kept.cells.spare class name w in
        kept.cells.nobodys class name w id v b at (free class name b w x.0 x.1 f)

    pub cells_stay : AreCells sizes (IsSpare sizes account stands) words (set s.views id later)
    cells_stay = record {
      spare = λ class name h.
          (let w = was class name h in
          let x = kept.cells.spare class name w in
          spare class name (aside_small sizes s.words class name w) x.0 x.1 (λ b f. kept.cells.nobodys class name w id v b at f));
      nobodys = λ class name h k x b e f. elim (at_set s.views id k later x e) [
        | inl p ↦ not_its class name h b (subst (λ (y : View). IsFree y b name) (sym p.1) f)
        | inr p ↦ kept.cells.nobodys class name (was class name h) k x b p.1 f
      ];
      once = λ b c m n name g h. kept.cells.once b c m n name (stored b m name g) (stored c n name h);
      apart = λ b c m name g h. kept.cells.apart b c m name (stored b m name g) (loose c name h);
    }

  -- where a slot that was free for the seat is spare no more, and each other one that was is so still
  pub cells_spent : (account : Account) (stands : Standing) (words : List ℕ) → ((class number : ℕ) → IsCell class number → slice_index words (cell_word sizes class number) ≡ slice_index s.words
      (cell_word sizes class number)) → NoneLoosened sizes s.words words → (class name : ℕ) → IsFree v class name → ((b n : ℕ) → b < 3 → IsTaken sizes s.words b n → IsTaken sizes words b n) →
      ((n : ℕ) → n ≢ name → IsSpare sizes kept.account kept.stands n → IsSpare sizes account stands n) → ((b n : ℕ) → IsFree later b n → IsFree v b n) →
      AreCells sizes (IsSpare sizes account stands) words (set s.views id later)
  cells_spent account stands words same loose class name own taken spare free =
      cells_stay account stands words same loose (λ c n low was is no. (taken c n low was, spare n (λ e. no class (subst (IsFree v class) (sym e) own)) is)) (λ c n b it was is f. free b n f)

  -- where each that was spare is so still, and a word before all cells has changed that is no count's, or none has
  pub cells_step : (account : Account) (stands : Standing) (j x : ℕ) → j < first_cell_word sizes → ((c : ℕ) → IsCount sizes c → c ≢ j) →
      ((class name : ℕ) → class < 3 → IsTaken sizes s.words class name → IsTaken sizes (set s.words j x) class name) →
      ((name : ℕ) → IsSpare sizes kept.account kept.stands name → IsSpare sizes account stands name) → ((b name : ℕ) → IsFree later b name → IsFree v b name) →
      AreCells sizes (IsSpare sizes account stands) (set s.words j x) (set s.views id later)
  cells_step account stands j x before apart taken spare free =
      cells_stay account stands (set s.words j x) (beside_cell sizes s.words j x before) (word_loosens_none sizes s.words j x apart) (λ c n low was is no. (taken c n low was, spare n is))
      (λ c n b it was is f. free b n f)

  pub cells_still : (account : Account) (stands : Standing) → ((name : ℕ) → IsSpare sizes kept.account kept.stands name → IsSpare sizes account stands name) →
      ((b name : ℕ) → IsFree later b name → IsFree v b name) → AreCells sizes (IsSpare sizes account stands) s.words (set s.views id later)
  cells_still account stands spare free =
      cells_stay account stands s.words (λ c n cell. refl) (λ c n h. h) (λ c n low was is no. (was, spare n is)) (λ c n b it was is f. free b n f)

  -- where no step was taken, and no word has changed
  pub cells_seen : ((b name : ℕ) → IsFree later b name → IsFree v b name) → AreCells sizes (IsSpare sizes kept.account kept.stands) s.words (set s.views id later)
  cells_seen free = cells_still kept.account kept.stands (λ n is. is) free

  -- where a word before all cells has that is no count's
  pub cells_beside : (j x : ℕ) → j < first_cell_word sizes → ((c : ℕ) → IsCount sizes c → c ≢ j) →
      ((class name : ℕ) → class < 3 → IsTaken sizes s.words class name → IsTaken sizes (set s.words j x) class name) →
      ((b name : ℕ) → IsFree later b name → IsFree v b name) → AreCells sizes (IsSpare sizes kept.account kept.stands) (set s.words j x) (set s.views id later)
  cells_beside j x before apart taken free = cells_step kept.account kept.stands j x before apart taken (λ n is. is) free
