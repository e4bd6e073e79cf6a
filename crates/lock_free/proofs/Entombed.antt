-- BUILD's last line where one single alone is left; and what its main node can't be.
use Rattle.std.proofs.Common.{◌≡◌, ℕ, true, refl, sym, ap, subst, ◌∙◌}
use Rattle.std.proofs.lemmas.Bool.{true≢false}
use Rattle.trie_words.specs.declared.entries.Entry.{Entry}
use Rattle.trie_words.specs.declared.headers.Shape.{Shape}
use Rattle.trie_words.specs.declared.headers.Shape.TheVariants as shape
use Rattle.trie_words.specs.declared.names.Name.{Name}
use Rattle.machine_model.specs.Beneath.slot_arena.specs.declared.refs.Ref.{Ref}
use Rattle.machine_model.specs.Beneath.slot_arena.specs.declared.nodes.Node.{Node}
use Rattle.machine_model.specs.Beneath.slot_arena.specs.declared.nodes.Node.TheVariants.{Indirection, Branch, Single, Tomb, List as Listed}
use Rattle.machine_model.specs.Beneath.slot_arena.specs.Heaps.{node_at}
use Rattle.machine_model.specs.Beneath.slot_arena.specs.Refs.{slot_of}
use Rattle.machine_model.specs.declared.actions.Action.TheVariants as act
use Rattle.machine_model.specs.declared.building.Change.{Change}
use Rattle.machine_model.specs.declared.building.Change.TheVariants as change
use Rattle.machine_model.specs.Building.{changed}
use Rattle.machine_model.specs.Paths.{flag_in}
use Rattle.proof_memory.specs.Wants.{AllHold, change_wants, flag_on, is_branch_or_list}
use Rattle.proof_memory.proofs.Claims.Uses.{meets_of, safe_of}
use Rattle.lock_free.specs.declared.changing.Edit.{Edit}
use Rattle.lock_free.specs.declared.changing.Edit.TheVariants as edit
use Rattle.lock_free.specs.declared.rules.View.{View}
use Rattle.lock_free.specs.Accounts.{place_of}
use Rattle.lock_free.specs.Changing.{IsChange, IsChanging}
use Rattle.lock_free.specs.Live.{IsLive}
use Rattle.lock_free.specs.Loading.{now, IsAt, IsSound}
use Rattle.lock_free.specs.Nodes.{is_single}
use Rattle.lock_free.specs.Passing.{IsPlaced}
use Rattle.lock_free.proofs.Asked.{live_in_use}
use Rattle.lock_free.proofs.ChangedMains.{o, claims, kind, at_make}
use Rattle.lock_free.proofs.GivenBack.{node_is}
use Rattle.lock_free.proofs.MainLooks.{tomb_says}
use Rattle.lock_free.proofs.TombSingles.{same_kind}

-- the single that is left
left_in : (v : View) (name : Name) (c : Change) → IsChange v (edit.Entomb name) c → (single : Ref) × (c ≡ change.Entomb single) × (place_of v.account single ≡ name.slot)
left_in v name (change.Entomb single) is = (single, refl, is)
left_in v name (change.Insert single) is = absurd is
left_in v name (change.Update position entry) is = absurd is
left_in v name (change.Remove position) is = absurd is

entombed : (flag : ℕ) (node : Node) (single : Ref) → is_branch_or_list node ≡ true → changed flag node (change.Entomb single) ≡ Tomb single
entombed flag (Branch bitmap entries) single is = refl
entombed flag (Listed singles) single is = refl
entombed flag (Indirection generation main) single is = absurd (true≢false (sym is))
entombed flag (Single key value) single is = absurd (true≢false (sym is))
entombed flag (Tomb other) single is = absurd (true≢false (sym is))

module _ (n : ℕ) (v : View) (sound : IsSound n v) (name : Name) (what : Shape) (flag : ℕ) (e : Edit) (h : IsChanging v name what flag e) where
  module _ (single : Name) (is : e ≡ edit.Entomb single) where
    left : (r : Ref) × (h.its ≡ change.Entomb r) × (place_of v.account r ≡ single.slot)
    left = left_in v single h.its (subst (λ d. IsChange v d h.its) is h.is_change)

    used : (c : Change) → c ≡ change.Entomb left.0 → AllHold (IsLive (now v)) (now v).heap
        (change_wants h.main (flag_on v.sizes.hash (o n v sound name what flag e h).call h.path) h.former c) → IsLive (now v) left.0
    used c same wants = safe_of (subst (λ d. AllHold (IsLive (now v)) (now v).heap (change_wants h.main (flag_on v.sizes.hash (o n v sound name what flag e h).call h.path) h.former d)) same wants).0

    pub tomb_ready : (r : Ref) × IsAt v (act.Make (Tomb r)) × IsPlaced v r single.slot
    tomb_ready =
        let u = live_in_use v.sizes v.account sound.bounds left.0 (used h.its left.1 (claims n v sound name what flag e h).1.1.1) in (
          left.0,
          subst (λ x. IsAt v (act.Make x))
              (ap (λ c. changed (flag_in (now v) (o n v sound name what flag e h) h.path) (node_at (now v).heap h.main) c) left.1
              ∙ entombed (flag_in (now v) (o n v sound name what flag e h) h.path) (node_at (now v).heap h.main) left.0
              (subst (λ x. is_branch_or_list x ≡ true) (sym (node_is (now v) h.main h.known.slot h.known.used)) (kind n v sound name what flag e h)))
              (at_make n v sound name what flag e h),
          (u, left.2),
        )

    -- it is the single that is left
    pub tomb_left : h.its ≡ change.Entomb tomb_ready.0
    unfolding tomb_ready
    tomb_left = left.1

    single_by : (c : Change) → c ≡ change.Entomb left.0 → AllHold (IsLive (now v)) (now v).heap
        (change_wants h.main (flag_on v.sizes.hash (o n v sound name what flag e h).call h.path) h.former c) → is_single (node_at (now v).heap left.0) ≡ true
    single_by c same wants =
        same_kind (node_at (now v).heap left.0)
        (meets_of (subst (λ d. AllHold (IsLive (now v)) (now v).heap (change_wants h.main (flag_on v.sizes.hash (o n v sound name what flag e h).call h.path) h.former d)) same wants).0)

    pub left_is_single : is_single (node_at (now v).heap tomb_ready.0) ≡ true
    unfolding tomb_ready
    left_is_single = single_by h.its left.1 (claims n v sound name what flag e h).1.1.1

  -- it is no tomb
  pub no_tomb : (entry : Entry) → what ≡ shape.Tomb entry → ⊥
  no_tomb entry is =
      let s = tomb_says v.account (slot_of h.main) h.known.slot.node h.header.shape entry (h.is_shape ∙ is) h.known.is_shape in
      true≢false (sym (kind n v sound name what flag e h) ∙ ap is_branch_or_list s.1)
