-- BUILD's last line over a list.
use Rattle.std.proofs.Common.{◌≡◌, ◌<◌, ◌≤◌, ℕ, List, sym, ap, subst, ◌∙◌, length, arith}
use Rattle.arrayvec.specs.ArrayVec.{ArrayVec}
use Rattle.trie_words.specs.declared.entries.Entry.{Entry}
use Rattle.trie_words.specs.declared.headers.Shape.TheVariants as shape
use Rattle.trie_words.specs.declared.names.Name.{Name}
use Rattle.machine_model.specs.Beneath.slot_arena.specs.declared.refs.Ref.{Ref}
use Rattle.machine_model.specs.Beneath.slot_arena.specs.declared.nodes.Node.TheVariants.{List as Listed}
use Rattle.machine_model.specs.Beneath.slot_arena.specs.Heaps.{node_at, entries_from, entries_of}
use Rattle.machine_model.specs.Beneath.slot_arena.specs.Refs.{slot_of}
use Rattle.machine_model.specs.declared.actions.Action.TheVariants as act
use Rattle.machine_model.specs.Building.{changed}
use Rattle.lock_free.specs.declared.changing.Edit.{Edit}
use Rattle.lock_free.specs.declared.changing.Edit.TheVariants as edit
use Rattle.lock_free.specs.declared.rules.View.{View}
use Rattle.lock_free.specs.Changing.{edited, CanEdit, HasPlaceFor, IsChanging, IsNoTomb}
use Rattle.lock_free.specs.Loading.{now, IsAt, IsSound}
use Rattle.lock_free.specs.SeenEntries.{HasSeenEntries, IsAtList}
use Rattle.lock_free.proofs.Counts.{list_few, list_counted}
use Rattle.lock_free.proofs.GivenBack.{node_is}
use Rattle.lock_free.proofs.KnownLines.{has_place}
use Rattle.lock_free.proofs.MainChanges.{refs_edited, list_changed}
use Rattle.lock_free.proofs.MainLooks.{list_says}
use Rattle.lock_free.proofs.ChangedMains.{flag_is, its_node, size, edited_there, make_there}

module _ (n : ℕ) (v : View) (sound : IsSound n v) (name : Name) (count : ℕ) (flag : ℕ) (e : Edit) (h : IsChanging v name (shape.List count) flag e) where
  pub list_is : (es : ArrayVec Ref) × (h.known.slot.node ≡ Listed es)
  list_is = list_says v.account (slot_of h.main) h.known.slot.node h.header.shape count h.is_shape h.known.is_shape

  abbrev pub refs : List Ref
  refs = list_is.0.items

  pub refs_are : entries_of h.known.slot.node ≡ refs
  refs_are = ap entries_of list_is.1

  pub counted : count ≡ length refs
  counted = list_counted v.account (slot_of h.main) h.known.slot.node h.header.shape count list_is.0 h.is_shape list_is.1 h.known.is_shape

  pub few : length refs ≤ 32
  few = list_few n v sound h.main h.known.slot h.known.used list_is.0 list_is.1

  module _ (w : View) (entries : List Entry) (g : HasSeenEntries v name.slot (count) entries w) where
    its_size : length entries ≡ length refs
    its_size = size n v sound name (shape.List count) flag e h refs refs_are counted few w entries g

    pub list_can : CanEdit entries count e
    list_can = by e (has_place n v sound name (shape.List count) flag e h)
      where
        by : (d : Edit) → HasPlaceFor (shape.List count) flag d → CanEdit entries count d
        by (edit.Insert entry) has = (subst (λ k. k ≤ length entries) (sym (counted ∙ sym its_size)) (omega arith), subst (λ k. k < 32) (counted ∙ sym its_size) has)
        by (edit.Update position entry) has = subst (λ k. position < k) (counted ∙ sym its_size) has
        by (edit.Remove position) has = subst (λ k. position < k) (counted ∙ sym its_size) has
        by (edit.Entomb single) has = tt

    module _ (kept : IsNoTomb e) (sound_w : IsSound n w) where
      pub new_node : its_node n v sound name (shape.List count) flag e h ≡ Listed (entries_from (refs_edited refs count h.its))
      new_node =
          ap (λ f. changed f (node_at (now v).heap h.main) h.its) (flag_is n v sound name (shape.List count) flag e h)
          ∙ ap (λ x. changed flag x h.its) (node_is (now v) h.main h.known.slot h.known.used ∙ list_is.1) ∙ list_changed v e h.its h.is_change kept flag list_is.0
          ∙ ap (λ k. Listed (entries_from (refs_edited refs k h.its))) (sym counted)

      pub list_ready : IsAtList w (edited entries count e)
      list_ready = (
        refs_edited refs count h.its,
        subst (λ x. IsAt w (act.Make x)) new_node (make_there n v sound name (shape.List count) flag e h refs refs_are counted few w entries g sound_w),
        edited_there n v sound name (shape.List count) flag e h refs refs_are counted few w entries g count,
      )
