-- Halves of words, and the entries that they are.
use Rattle.std.proofs.Common.{◌≡◌, ◌<◌, ◌≤◌, ◌+◌, ◌*◌, ◌^◌, ℕ, suc, Bool, true, false, List, [], ◌∷◌, ◌++◌, refl, sym, ap, ap₂, subst, ◌∙◌, arith, take, drop, get_or, length}
use Rattle.std.proofs.lemmas.List.{map-append, map-set, length-map, take_more}
use Rattle.std.proofs.lemmas.List.Elements.{All-cons, All-nil, All-head, All-tail, All-append, All-take, All-drop, All-set}
use Rattle.trie_words.specs.Codes.{bit, entry_code, entry_of, IsEntry}
use Rattle.trie_words.specs.declared.entries.Entry.{Entry}
use Rattle.trie_words.proofs.Parts.{entry_back}
use Rattle.lock_free.specs.declared.changing.Edit.{Edit}
use Rattle.lock_free.specs.declared.changing.Edit.TheVariants as edit
use Rattle.lock_free.specs.Changing.{edited, CanEdit}
use Rattle.lock_free.specs.Halves.{entries_of_halves, halves_edited, halves_of, AreHalves, FitsHalf, IsHalf}
use Rattle.lock_free.specs.SeenEntries.{AreFit}
use Rattle.lock_free.proofs.MainChanges.{map_insert, map_remove}

-- ---- one

pub code_small : (entry : Entry) → IsEntry entry → IsHalf (entry_code entry)
code_small entry small = by entry.own entry.is_single
  where
    by : (a b : Bool) → entry.slot + 2 ^ 27 * bit a + 2 ^ 28 * bit b < 2 ^ 29
    by true true = omega (arith, small)
    by true false = omega (arith, small)
    by false true = omega (arith, small)
    by false false = omega (arith, small)

-- ---- all

pub codes_back : (entries : List Entry) → AreFit entries → entries_of_halves (halves_of entries) ≡ entries
codes_back [] fit = refl
codes_back (e ∷ es) fit = ap₂ (λ (x : Entry) xs. x ∷ xs) (entry_back e (All-head IsEntry e es fit)) (codes_back es (All-tail IsEntry e es fit))

pub codes_small : (entries : List Entry) → AreFit entries → AreHalves (halves_of entries)
codes_small [] fit = All-nil IsHalf
codes_small (e ∷ es) fit =
    All-cons IsHalf (entry_code e) (halves_of es) (code_small e (All-head IsEntry e es fit)) (codes_small es (All-tail IsEntry e es fit))

-- ---- after a change

pub edited_is : (halves : List ℕ) (place : ℕ) (e : Edit) → FitsHalf e → entries_of_halves (halves_edited halves place e) ≡ edited (entries_of_halves halves) place e
edited_is halves place (edit.Insert entry) fits =
    map_insert entry_of halves place (entry_code entry) ∙ ap (λ x. edited (entries_of_halves halves) place (edit.Insert x)) (entry_back entry fits)
edited_is halves place (edit.Update position entry) fits =
    map-set entry_of halves position (entry_code entry) ∙ ap (λ x. edited (entries_of_halves halves) place (edit.Update position x)) (entry_back entry fits)
edited_is halves place (edit.Remove position) fits = map_remove entry_of halves position
edited_is halves place (edit.Entomb single) fits = refl

pub edited_small : (halves : List ℕ) (place : ℕ) (e : Edit) → FitsHalf e → AreHalves halves → AreHalves (halves_edited halves place e)
edited_small halves place (edit.Insert entry) fits small =
    All-append IsHalf (take place halves) (entry_code entry ∷ drop place halves) (All-take IsHalf place halves small)
    (All-cons IsHalf (entry_code entry) (drop place halves) (code_small entry fits) (All-drop IsHalf place halves small))
edited_small halves place (edit.Update position entry) fits small = All-set IsHalf halves position (entry_code entry) (code_small entry fits) small
edited_small halves place (edit.Remove position) fits small =
    All-append IsHalf (take position halves) (drop (suc position) halves) (All-take IsHalf position halves small) (All-drop IsHalf (suc position) halves small)
edited_small halves place (edit.Entomb single) fits small = small

pub can_edit_halves : (halves : List ℕ) (place : ℕ) (e : Edit) → CanEdit (entries_of_halves halves) place e → CanEdit halves place e
can_edit_halves halves place (edit.Insert entry) can = let same = length-map halves entry_of in (subst (λ k. place ≤ k) same can.0, subst (λ k. k < 32) same can.1)
can_edit_halves halves place (edit.Update position entry) can = subst (λ k. position < k) (length-map halves entry_of) can
can_edit_halves halves place (edit.Remove position) can = subst (λ k. position < k) (length-map halves entry_of) can
can_edit_halves halves place (edit.Entomb single) can = tt

pub edited_few : (halves : List ℕ) (place : ℕ) (e : Edit) → FitsHalf e → length (edited (entries_of_halves halves) place e) ≤ 32 → length (halves_edited halves place e) ≤ 32
edited_few halves place e fits few =
    subst (λ k. k ≤ 32) (sym (ap length (edited_is halves place e fits)) ∙ length-map (halves_edited halves place e) entry_of) few

-- with one more
pub halves_more : (halves : List ℕ) (half : ℕ) → AreHalves halves → IsHalf half → AreHalves (halves ++ half ∷ [])
halves_more halves half small one = All-append IsHalf halves (half ∷ []) small (All-cons IsHalf half [] one (All-nil IsHalf))

pub entries_more : (halves : List ℕ) (half : ℕ) → entries_of_halves (halves ++ half ∷ []) ≡ entries_of_halves halves ++ entry_of half ∷ []
entries_more halves half = map-append entry_of halves (half ∷ [])

pub codes_more : (entries : List Entry) (n : ℕ) (d : Entry) → n < length entries → halves_of (take (n + 1) entries) ≡ halves_of (take n entries) ++ entry_code (get_or entries n d) ∷ []
codes_more entries n d low = ap halves_of (take_more entries n d low) ∙ map-append entry_code (take n entries) (get_or entries n d ∷ [])
