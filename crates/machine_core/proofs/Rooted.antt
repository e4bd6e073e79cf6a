-- How root words change at rest, and what is held then.
use Rattle.std.proofs.Common.{arith, ◌≡◌, ℕ, ◌+◌, ◌<◌, ◌==◌, ◌||◌, ◌⊎◌, inl, inr, false, is_some, List, [], ◌∷◌, flat_map, get_or, set, length, Option, Some, None, if◌then◌else◌}
use Rattle.std.proofs.Common.{refl, sym, ap, ◌∙◌, subst, eq-eqb, ne_eqb, length-set}
use Rattle.std.proofs.lemmas.Bool.{cases_eq}
use Rattle.std.proofs.lemmas.List.Elements.{All-head, All-tail}
use Rattle.std.proofs.lemmas.List.{get_or-set_other, get_or-set_same, set-set}
use Rattle.machine_core.specs.Vocabulary.{Ref, AreLive, IsLive, Heap, times, Descriptor, Root, RootWord, Offer, Plain, opened, opened_root, outside, refs_of_operation, is_number, State, rewritten}
use Rattle.machine_core.specs.Vocabulary.{root_at, with_root, with_word, Course, with_offer, Draft, held_with, redrafted, root_refs, Table, opened_in, with_root_in, IsDraft}
use Rattle.slot_arena.proofs.Times.{times-append}
use Rattle.epochs.specs.Memories.{Memory}
use Rattle.machine_core.specs.Beneath.rdcss_root.specs.Holding.{Moves}
use Rattle.machine_core.specs.declared.parts.Parts.{Parts}
use Rattle.proof_core.proofs.Claims.{one_live}
use Rattle.machine_core.specs.Rooting.{HoldsBeside, IsCourse, writable}

-- ---- what is held

-- a root word was written, and the rest given up
pub beside_given : (before middle after : Memory) (roots now : List (Option Root)) (made : List Ref) (spare : ℕ) → HoldsBeside before roots made (spare + 4) → Moves before middle roots now 4 →
    ((r : Ref) → times r after.outside + times r made ≡ times r middle.outside + times r []) → HoldsBeside after now [] spare
beside_given before middle after roots now made spare holds moves gives = record {
  held = λ r. omega (arith, holds.held r, moves.outside r, gives r);
  room = λ r. omega (arith, holds.room r, moves.more r, gives r);
}

-- what is held is what the state has with these root words
pub held_moved : (base : State) (old roots : List (Option Root)) (private before after : List Ref) (r : Ref) → base.roots ≡ old → times r before ≡ times r (held_with base private) →
    times r after + times r (root_refs old) + times r private ≡ times r before + times r (root_refs roots) → times r after ≡ times r (held_with (record base { roots = roots }) [])
held_moved base old roots private before after r same held moves =
    omega (
      arith,
      held,
      moves,
      ap (λ rs. times r (root_refs rs)) same,
      times-append r (outside base) private,
      times-append r (root_refs base.roots) (flat_map refs_of_operation base.actors),
      times-append r (outside (record base { roots = roots })) [],
      times-append r (root_refs roots) (flat_map refs_of_operation base.actors),
    )

-- an offer's successor is live
pub successor_lives : (heap : Heap) (a b c : Ref) (rest : List Ref) → AreLive heap (a ∷ b ∷ c ∷ rest) → AreLive heap (c ∷ [])
successor_lives heap a b c rest all = one_live heap c (All-head (IsLive heap) c rest (All-tail (IsLive heap) b (c ∷ rest) (All-tail (IsLive heap) a (b ∷ c ∷ rest) all)))

-- ---- root words

-- a word of a writable handle is written
pub word_is_root : (base : State) (handle : ℕ) (word w : RootWord) → root_at base handle ≡ writable word → with_word base handle w ≡ with_root base handle (writable w)
word_is_root base handle word w is = ap (λ o. record base { roots = set base.roots handle (rewrites o) }) is
  where
    rewrites : Option Root → Option Root
    rewrites None = None
    rewrites (Some root) = Some (record root { word = w })

-- what is written twice is as if the first had not been
pub root_again : (base : State) (handle : ℕ) (x y : Option Root) → with_root (with_root base handle x) handle y ≡ with_root base handle y
root_again base handle x y = ap (λ rs. record base { roots = rs }) (set-set base.roots handle x y)

-- a handle is opened in the state as in the table
pub opened_roots : (base : State) (table : Table) (offer : Descriptor) (opens : Option ℕ) → base.roots ≡ table.roots → (opened base offer opens).roots ≡ (opened_in table offer opens).roots
opened_roots base table offer None same = same
opened_roots base table offer (Some handle) same = ap (λ rs. set rs handle (Some (opened_root offer offer.second))) same

pub opened_is : (base : State) (offer : Descriptor) (opens : Option ℕ) → record base { roots = (opened base offer opens).roots } ≡ opened base offer opens
opened_is base offer None = refl
opened_is base offer (Some handle) = refl

-- ---- a course

-- a draft is one of any next generation
pub draft_rebased : (state : State) (generations : ℕ) (draft : Draft) (memory : Memory) → IsDraft state draft memory → IsDraft (record state { generations = generations }) draft memory
draft_rebased state generations draft memory is = record { heap = is.heap; limbo = is.limbo; held = is.held; epoch = is.epoch; settled = is.settled }

-- the parts are counted anew
pub course_counted : (course : Course) (parts after : Parts) (begun steps : ℕ) → after ≡ record parts { begun = begun; steps = steps } → IsCourse course parts → IsCourse course after
course_counted course parts after begun steps same is = subst (IsCourse course) (sym same) (record { draft = is.draft; roots = is.roots; generations = is.generations })

module _ (base : State) (draft : Draft) (handle : ℕ) (word : RootWord) (offer : Descriptor) (found : root_at base handle ≡ writable word) where
  abbrev offered : State
  offered = with_root base handle (writable (Offer offer))

  abbrev swapped : State
  swapped = with_root offered handle (writable (Plain offer.successor))

  swapped_is : swapped ≡ with_word base handle (Plain offer.successor)
  swapped_is = root_again base handle (writable (Offer offer)) (writable (Plain offer.successor)) ∙ sym (word_is_root base handle word (Plain offer.successor) found)

  -- the heap has come as far as behind the offer
  pub swapped_draft : (memory : Memory) →
      IsDraft (opened swapped offer offer.opens)
      (redrafted (opened swapped offer offer.opens) (redrafted offered draft draft.heap [] draft.newest) draft.heap [] draft.newest) memory →
      IsDraft (with_offer (record { base = base; draft = draft }) handle offer).base (with_offer (record { base = base; draft = draft }) handle offer).draft memory
  swapped_draft memory is =
      subst (λ s. IsDraft (opened s offer offer.opens)
      (redrafted (opened s offer offer.opens) (redrafted (with_word base handle (Offer offer)) draft draft.heap [] draft.newest) draft.heap [] draft.newest) memory) swapped_is
      (subst (λ s. IsDraft (opened swapped offer offer.opens)
      (redrafted (opened swapped offer offer.opens) (redrafted s draft draft.heap [] draft.newest) draft.heap [] draft.newest) memory)
      (sym (word_is_root base handle word (Offer offer) found)) is)

  pub swapped_roots : (first after : Table) → offered.roots ≡ first.roots → after ≡ opened_in (with_root_in first handle (writable (Plain offer.successor))) offer offer.opens →
      (opened (with_word base handle (Plain offer.successor)) offer offer.opens).roots ≡ after.roots
  swapped_roots first after same is =
      opened_roots (with_word base handle (Plain offer.successor)) (with_root_in first handle (writable (Plain offer.successor))) offer offer.opens
      (ap (λ (s : State). s.roots) (sym swapped_is) ∙ ap (λ rs. set rs handle (writable (Plain offer.successor))) same)
      ∙ ap (λ (t : Table). t.roots) (sym is)

  pub swapped_generations : (opened (with_word base handle (Plain offer.successor)) offer offer.opens).generations ≡ base.generations
  swapped_generations = ap (λ (s : State). s.generations) (sym (opened_is (with_word base handle (Plain offer.successor)) offer offer.opens))

-- ---- which handles are open

pub some_set : (roots : List (Option Root)) (i : ℕ) (root : Root) (h : ℕ) → h < length roots → is_some (get_or (set roots i (Some root)) h None) ≡ (i == h || is_some (get_or roots h None))
some_set roots i root h within = by (cases_eq h i)
  where
    by : ((h ≡ i) ⊎ (h ≡ i → ⊥)) → is_some (get_or (set roots i (Some root)) h None) ≡ (i == h || is_some (get_or roots h None))
    by (inl same) =
        ap is_some (ap (get_or_at (set roots i (Some root))) same ∙ get_or-set_same roots i (Some root) None (subst (λ n. n < length roots) same within))
        ∙ ap (λ b. b || is_some (get_or roots h None)) (sym (eq-eqb i h (sym same)))
      where
        get_or_at : List (Option Root) → ℕ → Option Root
        get_or_at rs n = get_or rs n None
    by (inr apart) =
        ap is_some (get_or-set_other roots i h (Some root) None apart) ∙ ap (λ b. b || is_some (get_or roots h None)) (sym (ne_eqb i h (λ same. apart (sym same))))

-- a handle that is open stays so where it gets another word
some_written : (roots : List (Option Root)) (i : ℕ) (root was : Root) (h : ℕ) → get_or roots i None ≡ Some was → h < length roots →
    is_some (get_or (set roots i (Some root)) h None) ≡ is_some (get_or roots h None)
some_written roots i root was h is within = some_set roots i root h within ∙ by (cases_eq h i)
  where
    by : ((h ≡ i) ⊎ (h ≡ i → ⊥)) → (i == h || is_some (get_or roots h None)) ≡ is_some (get_or roots h None)
    by (inl same) = ap (λ b. b || is_some (get_or roots h None)) (eq-eqb i h (sym same)) ∙ sym (ap (λ n. is_some (get_or roots n None)) same ∙ ap is_some is)
    by (inr apart) = ap (λ b. b || is_some (get_or roots h None)) (ne_eqb i h (λ same. apart (sym same)))

some_worded : (base : State) (i : ℕ) (w : RootWord) (was : Root) (h : ℕ) → root_at base i ≡ Some was → h < length base.roots →
    is_some (get_or (with_word base i w).roots h None) ≡ is_some (get_or base.roots h None)
some_worded base i w was h is within =
    ap (λ o. is_some (get_or (set base.roots i (rewritten w o)) h None)) is ∙ some_written base.roots i (record was { word = w }) was h is within

-- beside what was open that handle is which the offer opens
pub some_opened : (base : State) (i : ℕ) (w : RootWord) (was : Root) (offer : Descriptor) (opens : Option ℕ) (h : ℕ) → root_at base i ≡ Some was → h < length base.roots →
    is_some (get_or (opened (with_word base i w) offer opens).roots h None) ≡ (is_number h opens || is_some (get_or base.roots h None))
some_opened base i w was offer None h is within = some_worded base i w was h is within
some_opened base i w was offer (Some n) h is within =
    some_set (with_word base i w).roots n (opened_root offer offer.second) h (omega (arith, within, length-set base.roots i (rewritten w (root_at base i))))
    ∙ ap (λ b. n == h || b) (some_worded base i w was h is within)

-- where a handle is closed
pub some_closed : (roots : List (Option Root)) (i h : ℕ) → i < length roots → is_some (get_or (set roots i None) h None) ≡ (if i == h then false else is_some (get_or roots h None))
some_closed roots i h within = by (cases_eq h i)
  where
    by : ((h ≡ i) ⊎ (h ≡ i → ⊥)) → is_some (get_or (set roots i None) h None) ≡ (if i == h then false else is_some (get_or roots h None))
    by (inl same) =
        ap (λ n. is_some (get_or (set roots i None) n None)) same ∙ ap is_some (get_or-set_same roots i None None within)
        ∙ ap (λ b. if b then false else is_some (get_or roots h None)) (sym (eq-eqb i h (sym same)))
    by (inr apart) =
        ap is_some (get_or-set_other roots i h None None apart) ∙ ap (λ b. if b then false else is_some (get_or roots h None)) (sym (ne_eqb i h (λ same. apart (sym same))))
