-- A main node is made from the one before, with one change of its entries.
use Rattle.std.proofs.Common.{◌≡◌, ◌≤◌, ◌++◌, ◌∷◌, ℕ, suc, List, [], refl, sym, ap, ◌∙◌, length, map, take, take_all, drop, length-set, arith}
use Rattle.std.specs.Prelude.{insert, remove, slice_set}
use Rattle.std.proofs.lemmas.List.{map-append, map-set, take-map, drop-map, drop_all}
use Rattle.std.proofs.lemmas.List.Edits.{length-insert, length-remove}
use Rattle.arrayvec.specs.ArrayVec.{ArrayVec}
use Rattle.trie_words.specs.declared.entries.Entry.{Entry}
use Rattle.machine_model.specs.Beneath.ctrie_base.specs.Paths.{position_of}
use Rattle.machine_model.specs.Beneath.slot_arena.specs.declared.refs.Ref.{Ref}
use Rattle.machine_model.specs.Beneath.slot_arena.specs.declared.nodes.Node.TheVariants.{Branch, List as Listed}
use Rattle.machine_model.specs.Beneath.slot_arena.specs.Heaps.{entries_from}
use Rattle.machine_model.specs.declared.building.Change.{Change}
use Rattle.machine_model.specs.declared.building.Change.TheVariants as change
use Rattle.machine_model.specs.Building.{changed}
use Rattle.lock_free.specs.declared.changing.Edit.{Edit}
use Rattle.lock_free.specs.declared.changing.Edit.TheVariants as edit
use Rattle.lock_free.specs.declared.rules.View.{View}
use Rattle.lock_free.specs.Changing.{edited, edited_bitmap, CanEdit, IsChange, IsNoTomb}
use Rattle.lock_free.specs.SeenEntries.{entry_to, unowned, AreEntriesTo}

-- ---- changes of lists

abbrev pub refs_edited : List Ref → ℕ → Change → List Ref
refs_edited refs place (change.Insert single) = insert refs place single
refs_edited refs place (change.Update position entry) = slice_set refs position entry
refs_edited refs place (change.Remove position) = remove refs position
refs_edited refs place (change.Entomb single) = refs

module _ {A B : Type 0} (f : A → B) where
  pub map_insert : (xs : List A) (i : ℕ) (x : A) → map f (insert xs i x) ≡ insert (map f xs) i (f x)
  map_insert xs i x =
      map-append f (take i xs) (x ∷ drop i xs) ∙ ap (λ ys. ys ++ f x ∷ map f (drop i xs)) (sym (take-map f i xs)) ∙ ap (λ ys. take i (map f xs) ++ f x ∷ ys) (sym (drop-map f i xs))

  pub map_remove : (xs : List A) (i : ℕ) → map f (remove xs i) ≡ remove (map f xs) i
  map_remove xs i =
      map-append f (take i xs) (drop (suc i) xs) ∙ ap (λ ys. ys ++ map f (drop (suc i) xs)) (sym (take-map f i xs)) ∙ ap (λ ys. take i (map f xs) ++ ys) (sym (drop-map f (suc i) xs))

module _ (v : View) (entries : List Entry) (refs : List Ref) (to : AreEntriesTo v entries refs) (place : ℕ) where
  pub edited_to : (e : Edit) (c : Change) → IsChange v e c → AreEntriesTo v (edited entries place e) (refs_edited refs place c)
  edited_to (edit.Insert entry) (change.Insert single) is =
      map_insert unowned entries place entry ∙ ap (λ xs. insert xs place (unowned entry)) to ∙ ap (insert (map (entry_to v) refs) place) is ∙ sym (map_insert (entry_to v) refs place single)
  edited_to (edit.Update position entry) (change.Update at other) (same, is) =
      map-set unowned entries position entry ∙ ap (λ xs. slice_set xs position (unowned entry)) to ∙ ap (slice_set (map (entry_to v) refs) position) is
      ∙ ap (λ k. slice_set (map (entry_to v) refs) k (entry_to v other)) same ∙ sym (map-set (entry_to v) refs at other)
  edited_to (edit.Remove position) (change.Remove at) same =
      map_remove unowned entries position ∙ ap (λ xs. remove xs position) to ∙ ap (remove (map (entry_to v) refs)) same ∙ sym (map_remove (entry_to v) refs at)
  edited_to (edit.Entomb name) (change.Entomb single) is = to
  edited_to (edit.Insert entry) c is = absurd is
  edited_to (edit.Update position entry) c is = absurd is
  edited_to (edit.Remove position) c is = absurd is
  edited_to (edit.Entomb name) c is = absurd is

pub edited_few : (entries : List Entry) (place : ℕ) (e : Edit) → CanEdit entries place e → length entries ≤ 32 → length (edited entries place e) ≤ 32
edited_few entries place (edit.Insert entry) (low, room) few = let more = length-insert entries place entry low in omega (arith, more, room)
edited_few entries place (edit.Update position entry) low few = let same = length-set entries position entry in omega (arith, same, few)
edited_few entries place (edit.Remove position) low few = let less = length-remove entries position low in omega (arith, less, few)
edited_few entries place (edit.Entomb single) low few = few

-- what the definition makes of them
pub branch_changed : (v : View) (e : Edit) (c : Change) → IsChange v e c → IsNoTomb e → (flag bitmap : ℕ) (es : ArrayVec Ref) →
    changed flag (Branch bitmap es) c ≡ Branch (edited_bitmap bitmap flag e) (entries_from (refs_edited es.items (position_of flag bitmap) c))
branch_changed v (edit.Insert entry) (change.Insert single) is kept flag bitmap es = refl
branch_changed v (edit.Update position entry) (change.Update at other) is kept flag bitmap es = refl
branch_changed v (edit.Remove position) (change.Remove at) is kept flag bitmap es = refl
branch_changed v (edit.Entomb name) c is kept flag bitmap es = absurd kept
branch_changed v (edit.Insert entry) c is kept flag bitmap es = absurd is
branch_changed v (edit.Update position entry) c is kept flag bitmap es = absurd is
branch_changed v (edit.Remove position) c is kept flag bitmap es = absurd is

insert_last : (rs : List Ref) (r : Ref) → insert rs (length rs) r ≡ rs ++ r ∷ []
insert_last rs r = ap (λ xs. xs ++ r ∷ drop (length rs) rs) (take_all (length rs) rs (omega arith)) ∙ ap (λ xs. rs ++ r ∷ xs) (drop_all (length rs) rs (omega arith))

pub list_changed : (v : View) (e : Edit) (c : Change) → IsChange v e c → IsNoTomb e → (flag : ℕ) (es : ArrayVec Ref) →
    changed flag (Listed es) c ≡ Listed (entries_from (refs_edited es.items (length es.items) c))
list_changed v (edit.Insert entry) (change.Insert single) is kept flag es = ap (λ rs. Listed (entries_from rs)) (sym (insert_last es.items single))
list_changed v (edit.Update position entry) (change.Update at other) is kept flag es = refl
list_changed v (edit.Remove position) (change.Remove at) is kept flag es = refl
list_changed v (edit.Entomb name) c is kept flag es = absurd kept
list_changed v (edit.Insert entry) c is kept flag es = absurd is
list_changed v (edit.Update position entry) c is kept flag es = absurd is
list_changed v (edit.Remove position) c is kept flag es = absurd is
