-- After CLEAN the key's path ends one level higher: the entry of the tombed indirection is the tomb's single.
use Rattle.std.proofs.Common.{◌≡◌, ℕ, ◌<◌, ◌≤◌, inl, inr, Bool, true, false, List, [], ◌∷◌, length, slice_index_or, refl, sym, ap, subst, ◌∙◌, arith}
use Rattle.std.proofs.lemmas.Bool.{cases_lt, true≢false}
use Rattle.std.proofs.lemmas.List.{get_or_past}
use Rattle.arrayvec.specs.ArrayVec.{ArrayVec}
use Rattle.proof_obstruction_free.specs.Vocabulary.{position_of, Ref, Indirection, Branch, Single, Tomb, entries_from, entries_of, bitmap_of, no_ref, contracted, is_branch}
use Rattle.proof_obstruction_free.specs.Beneath.slot_arena.proofs.Joining.{whole}
use Rattle.proof_obstruction_free.specs.Beneath.proof_memory.specs.Wants.{is_indirection}
use Rattle.proof_obstruction_free.specs.Beneath.proof_generations.proofs.Falling.NoRef.{no_node}
use Rattle.proof_obstruction_free.specs.Alone.{Lone, Has, node}
use Rattle.proof_obstruction_free.specs.Keys.{Leads, IsOf, IsEnd, IsCleaned, IsNoTomb, flag_at}
use Rattle.proof_obstruction_free.proofs.Renew.Nodes.{tomb_single, few_entries}

-- a branch that is made has just these entries
made_branch : (may : Bool) (bitmap : ℕ) (done : List Ref) (b : ℕ) (es : ArrayVec Ref) → contracted may bitmap done ≡ Branch b es → (b ≡ bitmap) × (es ≡ entries_from done)
made_branch true bitmap [] b es is = let same : Branch bitmap (entries_from []) ≡ Branch b es = is in (cc, cc)
made_branch true bitmap (x ∷ []) b es is = let bad : Tomb x ≡ Branch b es = is in absurd (let worse : false ≡ true = ap is_branch bad in true≢false (sym worse))
made_branch true bitmap (x ∷ y ∷ more) b es is = let same : Branch bitmap (entries_from (x ∷ y ∷ more)) ≡ Branch b es = is in (cc, cc)
made_branch false bitmap done b es is = let same : Branch bitmap (entries_from done) ≡ Branch b es = is in (cc, cc)

-- a tomb is made of one entry alone
pub one_left : (a : Lone) (may : Bool) (bitmap : ℕ) (done : List Ref) → (IsNoTomb a (contracted may bitmap done) → ⊥) → length done ≡ 1
one_left a true bitmap [] tomb = absurd (tomb tt)
one_left a true bitmap (x ∷ []) tomb = refl
one_left a true bitmap (x ∷ y ∷ more) tomb = absurd (tomb tt)
one_left a false bitmap done tomb = absurd (tomb tt)

module _ (a : Lone) where
  -- an indirection is something else than what stands nowhere, or a single
  link_somewhere : (below : Ref) (g : ℕ) → IsOf a below g → below ≡ no_ref → ⊥
  link_somewhere below g (m, is) none =
      let branch : is_branch (node a below) ≡ true = ap (λ r. is_branch (node a r)) none ∙ ap is_branch (no_node a.run a.last (omega arith)) in
      true≢false (sym branch ∙ ap is_branch is)

  pub link_no_single : (below : Ref) (g k v : ℕ) → IsOf a below g → node a below ≡ Single k v → ⊥
  link_no_single below g k v (m, is) single = let bad : Indirection g m ≡ Single k v = sym is ∙ single in true≢false (ap is_indirection bad)

  module _ (depth : ℕ) (main below : Ref) (g : ℕ) (leads : Leads a depth main below) (of : IsOf a below g) where
    -- where the entry for the key stands
    abbrev pub place : ℕ
    place = position_of (flag_at a depth) leads.bitmap

    pub inside : place < length (entries_of (node a main))
    inside = elim (cases_lt place (length leads.entries.items)) [
      | inl lt ↦ subst (λ n. place < length (entries_of n)) (sym leads.branch) lt
      | inr past ↦ absurd (link_somewhere below g of (sym leads.entry ∙ get_or_past leads.entries.items place no_ref past))
    ]

    pub entry_is : slice_index_or (entries_of (node a main)) place no_ref ≡ below
    entry_is = ap (λ n. slice_index_or (entries_of n) place no_ref) leads.branch ∙ leads.entry

    module _ (u : ℕ) (tomb single : Ref) (has : Has a u below tomb) (is : node a tomb ≡ Tomb single) (done : List Ref) (size : length done ≡ length (entries_of (node a main)))
        (each : (k : ℕ) → k < length done → IsCleaned a u (slice_index_or (entries_of (node a main)) k no_ref) (slice_index_or done k no_ref)) where
      -- the tomb's single stands there now
      pub put_there : slice_index_or done place no_ref ≡ single
      put_there = (subst (λ r. IsCleaned a u r (slice_index_or done place no_ref)) entry_is (each place (omega (arith, inside, size)))).0 tomb single has is

      -- so an entry changed
      pub not_same : done ≡ entries_of (node a main) → ⊥
      not_same same =
          let (k, v, node_is) = tomb_single a tomb single is in
          let here : single ≡ below = sym put_there ∙ ap (λ es. slice_index_or es place no_ref) same ∙ entry_is in
          link_no_single below g k v of (subst (λ r. node a r ≡ Single k v) here node_is)

      -- and the key's path ends
      pub ends_there : (may : Bool) (fresh : Ref) → node a fresh ≡ contracted may (bitmap_of (node a main)) done → IsEnd a depth fresh
      ends_there may fresh made other h to link =
          let (same_bitmap, same_entries) = made_branch may (bitmap_of (node a main)) done to.bitmap to.entries (sym made ∙ to.branch) in
          let room : length done ≤ 32 = omega (arith, few_entries a main leads.bitmap leads.entries leads.branch, size, ap (λ n. length (entries_of n)) leads.branch) in
          let items : to.entries.items ≡ done = ap (λ (es : ArrayVec Ref). es.items) same_entries ∙ whole done room in
          let at : position_of (flag_at a depth) to.bitmap ≡ place = ap (position_of (flag_at a depth)) (same_bitmap ∙ ap bitmap_of leads.branch) in
          let its : other ≡ single = sym to.entry ∙ ap (λ es. slice_index_or es (position_of (flag_at a depth) to.bitmap) no_ref) items ∙ ap (λ n. slice_index_or done n no_ref) at ∙ put_there in
          let (k, v, node_is) = tomb_single a tomb single is in
          link_no_single other h k v link (subst (λ r. node a r ≡ Single k v) (sym its) node_is)
