-- BUILD's last line over a branch.
use Rattle.std.proofs.Common.{◌≡◌, ◌<◌, ◌≤◌, ◌^◌, ◌*◌, ℕ, false, List, sym, ap, subst, ◌∙◌, length, count_ones, arith}
use Rattle.arrayvec.specs.ArrayVec.{ArrayVec}
use Rattle.trie_words.specs.declared.entries.Entry.{Entry}
use Rattle.trie_words.specs.declared.headers.Shape.TheVariants as shape
use Rattle.trie_words.specs.declared.names.Name.{Name}
use Rattle.machine_model.specs.Beneath.ctrie_base.specs.Hashes.{hash_of}
use Rattle.machine_model.specs.Beneath.ctrie_base.specs.Paths.{index_at, position_of}
use Rattle.machine_model.specs.Beneath.slot_arena.specs.declared.refs.Ref.{Ref}
use Rattle.machine_model.specs.Beneath.slot_arena.specs.declared.nodes.Node.TheVariants.{Branch}
use Rattle.machine_model.specs.Beneath.slot_arena.specs.Heaps.{node_at, entries_from, entries_of}
use Rattle.machine_model.specs.Beneath.slot_arena.specs.Refs.{slot_of}
use Rattle.machine_model.specs.declared.actions.Action.TheVariants as act
use Rattle.machine_model.specs.Building.{changed}
use Rattle.machine_model.specs.Calls.{key_of}
use Rattle.machine_model.specs.Paths.{depth_of}
use Rattle.nodes.specs.Levels.{has_flag}
use Rattle.lock_free.specs.declared.changing.Edit.{Edit}
use Rattle.lock_free.specs.declared.changing.Edit.TheVariants as edit
use Rattle.lock_free.specs.declared.rules.View.{View}
use Rattle.lock_free.specs.Changing.{edited, edited_bitmap, CanEdit, HasPlaceFor, IsChanging, IsNoTomb}
use Rattle.lock_free.specs.Loading.{now, IsAt, IsSound}
use Rattle.lock_free.specs.SeenEntries.{HasSeenEntries, IsAtBranch}
use Rattle.lock_free.proofs.Counts.{entries_counted, entries_few, place_least, room_there}
use Rattle.lock_free.proofs.GivenBack.{node_is}
use Rattle.lock_free.proofs.KnownLines.{has_place}
use Rattle.lock_free.proofs.MainChanges.{refs_edited, branch_changed}
use Rattle.lock_free.proofs.MainLooks.{branch_says}
use Rattle.lock_free.proofs.ChangedMains.{flag_is, its_node, size, edited_there, make_there}

-- ---- a branch

module _ (n : ℕ) (v : View) (sound : IsSound n v) (name : Name) (bitmap : ℕ) (flag : ℕ) (e : Edit) (h : IsChanging v name (shape.Branch bitmap) flag e) where
  pub branch_is : (es : ArrayVec Ref) × (h.known.slot.node ≡ Branch bitmap es)
  branch_is = branch_says v.account (slot_of h.main) h.known.slot.node h.header.shape bitmap h.is_shape h.known.is_shape

  abbrev pub refs : List Ref
  refs = branch_is.0.items

  pub refs_are : entries_of h.known.slot.node ≡ refs
  refs_are = ap entries_of branch_is.1

  pub counted : count_ones bitmap ≡ length refs
  counted = sym (entries_counted n v sound h.main h.known.slot h.known.used bitmap branch_is.0 branch_is.1)

  pub few : length refs ≤ 32
  few = entries_few n v sound h.main h.known.slot h.known.used bitmap branch_is.0 branch_is.1

  abbrev index : ℕ
  index = index_at (hash_of v.sizes.hash (key_of h.on.0.call)) (5 * depth_of h.path)

  flag_so : flag ≡ 2 ^ index
  flag_so = h.is_flag h.on.0 h.on.1

  pub branch_room : has_flag bitmap flag ≡ false → length refs < 32
  branch_room has =
      room_there n v sound h.main h.known.slot h.known.used bitmap branch_is.0 branch_is.1 index (omega arith) (subst (λ f. has_flag bitmap f ≡ false) flag_so has)

  module _ (w : View) (entries : List Entry) (g : HasSeenEntries v name.slot (count_ones bitmap) entries w) where
    its_size : length entries ≡ length refs
    its_size = size n v sound name (shape.Branch bitmap) flag e h refs refs_are counted few w entries g

    pub branch_can : CanEdit entries (position_of flag bitmap) e
    branch_can = by e (has_place n v sound name (shape.Branch bitmap) flag e h)
      where
        by : (d : Edit) → HasPlaceFor (shape.Branch bitmap) flag d → CanEdit entries (position_of flag bitmap) d
        by (edit.Insert entry) has = (
          subst (λ f. position_of f bitmap ≤ length entries) (sym flag_so)
              (subst (λ k. position_of (2 ^ index) bitmap ≤ k) (sym its_size) (place_least n v sound h.main h.known.slot h.known.used bitmap branch_is.0 branch_is.1 index)),
          subst (λ k. k < 32) (sym its_size)
              (branch_room has),
        )
        by (edit.Update position entry) has = subst (λ k. position < k) (counted ∙ sym its_size) has
        by (edit.Remove position) has = subst (λ k. position < k) (counted ∙ sym its_size) has
        by (edit.Entomb single) has = tt

    module _ (kept : IsNoTomb e) (sound_w : IsSound n w) where
      pub new_node : its_node n v sound name (shape.Branch bitmap) flag e h ≡ Branch (edited_bitmap bitmap flag e) (entries_from (refs_edited refs (position_of flag bitmap) h.its))
      new_node =
          ap (λ f. changed f (node_at (now v).heap h.main) h.its) (flag_is n v sound name (shape.Branch bitmap) flag e h)
          ∙ ap (λ x. changed flag x h.its) (node_is (now v) h.main h.known.slot h.known.used ∙ branch_is.1) ∙ branch_changed v e h.its h.is_change kept flag bitmap branch_is.0

      pub branch_ready : IsAtBranch w (edited_bitmap bitmap flag e) (edited entries (position_of flag bitmap) e)
      branch_ready = (
        refs_edited refs (position_of flag bitmap) h.its,
        subst (λ x. IsAt w (act.Make x)) new_node (make_there n v sound name (shape.Branch bitmap) flag e h refs refs_are counted few w entries g sound_w),
        edited_there n v sound name (shape.Branch bitmap) flag e h refs refs_are counted few w entries g (position_of flag bitmap),
      )
