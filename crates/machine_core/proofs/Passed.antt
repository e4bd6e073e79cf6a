-- The way down past indirections of any generation: what a look finds there, and that it stays behind a renewal above it.
use Rattle.std.proofs.Common.{◌≡◌, inl, inr, ℕ, suc, ◌+◌, ◌*◌, ◌^◌, ◌<◌, ◌≤◌, true, false, List, [], ◌∷◌, ◌++◌, All, length, get_or, Option, Some, None, refl, sym, ap, ◌∙◌, subst, arith}
use Rattle.std.proofs.Math.Seq.{get_or-append_seam}
use Rattle.std.proofs.lemmas.Bool.{cases_eq, false≢true}
use Rattle.std.proofs.lemmas.List.{append_assoc, length-append}
use Rattle.arrayvec.specs.ArrayVec.{ArrayVec}
use Rattle.machine_core.specs.Vocabulary.{index_at, position_of, Node, Branch, Indirection, Single, Tomb, List as Listed, Slot, Ref, IsLive, is_indirection, Heap, entries_of, entry_at, main_at}
use Rattle.machine_core.specs.Vocabulary.{main_of, node_at, node_of, no_ref, prev_at, stored, slot_of, most_levels, State, flag_of, IsInUse, AnEntry, is as held, AreRenewable, IsRenewable}
use Rattle.machine_model.proofs.Grown.{standing_parts}
use Rattle.machine_core.specs.Beneath.proof_memory.proofs.Claims.Nodes.{main_read}
use Rattle.machine_core.specs.Beneath.proof_memory.proofs.Claims.Uses.{Meets, safe_of}
use Rattle.machine_core.specs.Beneath.proof_memory.proofs.Holding.Lives.{in_use_lives}
use Rattle.machine_core.specs.Beneath.proof_straight.proofs.Change.Slots.{node_again, prev_stays, same_stored}
use Rattle.machine_core.specs.declared.descending.Entry.{Entry}
use Rattle.machine_core.specs.declared.descending.Entry.TheVariants.{Vacant, Own, Other}
use Rattle.machine_core.specs.declared.descending.Place.{Place}
use Rattle.machine_core.specs.Descending.{IsBelow, IsHere, Stands}
use Rattle.machine_core.specs.Renewing.{AreDecided, EndsPast, IsDecided, IsOver, LeadsOn, here, past}
use Rattle.proof_core.specs.Tries.{IsTrie}
use Rattle.proof_core.proofs.Tries.{entries_meet, entry_meets, level_entry, level_over, nodes_safe, one_slot}

-- what isn't the default stands
single_stands : (heap : Heap) (r : Ref) (key value : ℕ) → node_at heap r ≡ Single key value → (slot : Slot) × (stored heap r ≡ Some slot)
unfolding node_at
single_stands heap r key value single = by (stored heap r) refl single
  where
    by : (o : Option Slot) → stored heap r ≡ o → node_of o ≡ Single key value → (slot : Slot) × (stored heap r ≡ Some slot)
    by None e wrong = absurd (cc wrong)
    by (Some slot) e same = (slot, e)

-- references to one slot find one node
one_node : (heap : Heap) (r q : Ref) → slot_of r ≡ slot_of q → node_at heap r ≡ node_at heap q
unfolding node_at
one_node heap r q same = ap node_of (same_stored heap r q same)

-- ---- where the way goes on

pub goes_past : (heap : Heap) (hash key : ℕ) (place : Place) (node : Node) (depth : ℕ) (main : Ref) → LeadsOn heap hash key place node depth main → depth < place.depth →
    (below : Ref) × IsOver heap main (flag_of hash depth) below × LeadsOn heap hash key place node (suc depth) below
goes_past heap hash key place node depth main (here stands own) less = absurd (omega (arith, less))
goes_past heap hash key place node depth main (past {below = b} over rest) less = (b, over, rest)

-- no way is longer than down to the place
not_past : (heap : Heap) (hash key : ℕ) (place : Place) (node : Node) (depth : ℕ) (main : Ref) → LeadsOn heap hash key place node depth main → depth ≤ place.depth
not_past heap hash key place node depth main (here stands own) = omega arith
not_past heap hash key place node depth main (past {below = b} over rest) = let more = not_past heap hash key place node (suc depth) b rest in omega (arith, more)

pub ends_here : (heap : Heap) (hash key : ℕ) (place : Place) (node : Node) (depth : ℕ) (main : Ref) → LeadsOn heap hash key place node depth main → depth ≡ place.depth →
    (main ≡ place.main) × IsHere heap place.main place.flag key place.position place.entry × (node_at heap place.main ≡ node)
ends_here heap hash key place node depth main (here stands own) same = (refl, stands, own)
ends_here heap hash key place node depth main (past {below = b} over rest) same = absurd (let more = not_past heap hash key place node (suc depth) b rest in omega (arith, more, same))

-- ---- branches that can be renewed

pub decided_first : (heap : Heap) (main : Ref) → AreDecided heap main 0
decided_first heap main k less = absurd (omega (arith, less))

pub decided_next : (heap : Heap) (main : Ref) (i : ℕ) (entry : Ref) → AreDecided heap main i → entry ≡ entry_at heap main i → IsDecided heap (node_at heap entry) → AreDecided heap main (i + 1)
decided_next heap main i entry before at one k less = elim (cases_eq k i) [
  | inl same ↦ subst (λ n. IsDecided heap (node_at heap (entry_at heap main n))) (sym same) (subst (λ r. IsDecided heap (node_at heap r)) at one)
  | inr differ ↦ before k (omega (arith, less, differ))
]

pub decided_all : (heap : Heap) (main : Ref) (i count : ℕ) → AreDecided heap main i → count ≤ i → AreDecided heap main count
decided_all heap main i count before enough k less = before k (omega (arith, less, enough))

pub over_from : (heap : Heap) (main : Ref) (flag generation : ℕ) (at : Ref) → IsBelow heap main flag generation at → AreDecided heap main (length (entries_of (node_at heap main))) →
    length (entries_of (node_at heap main)) ≤ 32 → IsOver heap main flag (main_at heap at)
over_from heap main flag generation at h all few = record {
  bitmap = h.bitmap;
  entries = h.entries;
  generation = generation;
  decided = h.decided;
  branch = h.branch;
  few = subst (λ n. length (entries_of n) ≤ 32) h.branch few;
  flagged = h.flagged;
  renewable = subst (λ n. AreDecided heap main (length (entries_of n))) h.branch all;
  is = ap (node_at heap) (sym h.entry) ∙ h.is ∙ ap (Indirection generation) (sym (ap main_of h.is));
}

-- ---- how a look comes there

-- what leads on from this indirection leads on from the root
pub record CameDown (heap : Heap) (root : Ref) (hash key depth : ℕ) (indirection : Ref) : Type 0 where
  pub back : (p : Place) (node : Node) → LeadsOn heap hash key p node depth (main_at heap indirection) → LeadsOn heap hash key p node 0 (main_at heap root)

pub came_first : (heap : Heap) (root : Ref) (hash key : ℕ) → CameDown heap root hash key 0 root
came_first heap root hash key = record { back = λ p node on. on }

pub came_further : (heap : Heap) (root : Ref) (hash key depth : ℕ) (indirection : Ref) (main : Ref) (flag : ℕ) (at : Ref) → CameDown heap root hash key depth indirection →
    main ≡ main_at heap indirection → flag ≡ flag_of hash depth → IsOver heap main flag (main_at heap at) → CameDown heap root hash key (depth + 1) at
came_further heap root hash key depth indirection main flag at so_far m f over = record {
  back = λ p node on.
      so_far.back p node (past (subst (λ x. IsOver heap (main_at heap indirection) x (main_at heap at)) f (subst (λ r. IsOver heap r flag (main_at heap at)) m over))
      (subst (λ d. LeadsOn heap hash key p node d (main_at heap at)) (let same : depth + 1 ≡ suc depth = omega arith in same) on));
}

pub came_there : (heap : Heap) (root : Ref) (hash key : ℕ) (place : Place) → CameDown heap root hash key place.depth place.indirection → place.main ≡ main_at heap place.indirection →
    place.flag ≡ flag_of hash place.depth → 0 < place.flag → place.depth < most_levels → IsHere heap place.main place.flag key place.position place.entry →
    EndsPast heap root hash key place
came_there heap root hash key place so_far m f lit deep stands = record {
  leads = so_far.back place (node_at heap place.main) (subst (LeadsOn heap hash key place (node_at heap place.main) place.depth) m (here stands refl));
  flag = f;
  lit = lit;
  deep = deep;
}

module _ (heap : Heap) (root : Ref) (t : IsTrie heap root) where
  abbrev S : Ref → Type 0
  S = IsInUse heap

  pub over_used : (r : Ref) → S r → is_indirection (node_at heap r) ≡ true → S (main_at heap r)
  over_used r used e = safe_of (main_read S heap (nodes_safe heap root t) (held used e))

  -- ---- a branch that can be renewed

  renewable_by : (state : State) → state.heap ≡ heap → (entry : Ref) (node : Node) → S entry → node_at heap entry ≡ node → IsDecided heap node → IsRenewable state entry node
  renewable_by state same entry (Indirection g w) used at decided =
      let over : main_at heap entry ≡ w = ap main_of at in (
        ap (λ h. prev_at h (main_at h entry)) same ∙ ap (prev_at heap) over ∙ decided,
        subst (λ h. IsLive h (main_at h entry)) (sym same) (in_use_lives heap (main_at heap entry) (over_used entry used (ap is_indirection at))),
      )
  renewable_by state same entry (Single key value) used at decided = tt
  renewable_by state same entry (Branch bitmap entries) used at decided = absurd decided
  renewable_by state same entry (Tomb single) used at decided = absurd decided
  renewable_by state same entry (Listed singles) used at decided = absurd decided

  module _ (state : State) (same : state.heap ≡ heap) (main : Ref) (bitmap : ℕ) (entries : ArrayVec Ref) (used : S main) (branch : node_at heap main ≡ Branch bitmap entries)
      (decided : AreDecided heap main (length entries.items)) where
    renewable_from : (before rest : List Ref) → before ++ rest ≡ entries.items → AreRenewable state rest
    renewable_from before [] all = tt
    renewable_from before (entry ∷ rest) all =
        let k = length before in
        let within : k < length entries.items = omega (arith, ap length all, length-append before (entry ∷ rest)) in
        let at : entry_at heap main k ≡ entry = ap (λ node. get_or (entries_of node) k no_ref) branch ∙ ap (λ l. get_or l k no_ref) (sym all) ∙ get_or-append_seam before entry rest no_ref in
        let met : Meets S heap AnEntry entry =
        subst (Meets S heap AnEntry) (ap (λ l. get_or l k no_ref) (sym all) ∙ get_or-append_seam before entry rest no_ref)
        (entries_meet heap root t main bitmap entries used branch k no_ref within) in (
          subst (λ h. IsRenewable state entry (node_at h entry)) (sym same)
              (renewable_by state same entry (node_at heap entry) met.0 refl (subst (λ r. IsDecided heap (node_at heap r)) at (decided k within))),
          renewable_from (before ++ entry ∷ []) rest (append_assoc before (entry ∷ []) rest ∙ all),
        )

    pub all_renewable : AreRenewable state entries.items
    all_renewable = renewable_from [] entries.items refl

  -- ---- behind a change of an indirection above

  module _ (after : Heap) (i : Ref) (used : S i) (kind : is_indirection (node_at heap i) ≡ true)
      (stays : (r : Ref) (slot : Slot) → stored heap r ≡ Some slot → (slot_of r ≡ slot_of i → ⊥) → stored after r ≡ Some slot) where
    apart_kind : (r : Ref) → is_indirection (node_at heap r) ≡ false → slot_of r ≡ slot_of i → ⊥
    apart_kind r other same = false≢true (sym other ∙ ap is_indirection (one_node heap r i same) ∙ kind)

    apart_level : (r : Ref) → S r → t.level i < t.level r → slot_of r ≡ slot_of i → ⊥
    apart_level r at less same = omega (arith, less, ap t.level (one_slot heap root t r i at used same))

    stored_same : (r : Ref) → (slot : Slot) × (stored heap r ≡ Some slot) → (slot_of r ≡ slot_of i → ⊥) → (node_at after r ≡ node_at heap r) × (prev_at after r ≡ prev_at heap r)
    stored_same r (slot, at) apart = (node_again heap after r slot at (stays r slot at apart), prev_stays heap after r slot at (stays r slot at apart))

    in_use_same : (r : Ref) → S r → (slot_of r ≡ slot_of i → ⊥) → (node_at after r ≡ node_at heap r) × (prev_at after r ≡ prev_at heap r)
    in_use_same r (slot, at) apart = stored_same r (slot, (standing_parts heap r slot at).0) apart

    single_same : (r : Ref) (key value : ℕ) → node_at heap r ≡ Single key value → node_at after r ≡ Single key value
    single_same r key value at = (stored_same r (single_stands heap r key value at) (apart_kind r (ap is_indirection at))).0 ∙ at

    decided_same : (entry : Ref) (node : Node) → S entry → node_at heap entry ≡ node → (is_indirection node ≡ true → t.level i < t.level entry) → IsDecided heap node →
        IsDecided after (node_at after entry)
    decided_same entry (Indirection g w) at is lower decided =
        let under = lower refl in
        let main : w ≡ main_at heap entry = sym (ap main_of is) in
        let over = over_used entry at (ap is_indirection is) in
        let high : t.level (main_at heap entry) ≡ t.level entry = level_over heap root t entry at (ap is_indirection is) in
        let kept = (in_use_same (main_at heap entry) over (apart_level (main_at heap entry) over (omega (arith, high, under)))).1 in
        subst (IsDecided after) (sym ((in_use_same entry at (apart_level entry at under)).0 ∙ is)) (ap (prev_at after) main ∙ kept ∙ ap (prev_at heap) (sym main) ∙ decided)
    decided_same entry (Single key value) at is lower decided = subst (IsDecided after) (sym (single_same entry key value is)) tt
    decided_same entry (Branch bitmap entries) at is lower decided = absurd decided
    decided_same entry (Tomb single) at is lower decided = absurd decided
    decided_same entry (Listed singles) at is lower decided = absurd decided

    stands_same : (main : Ref) (bitmap flag key position : ℕ) (entry : Entry) → entry_at after main position ≡ entry_at heap main position → Stands heap main bitmap flag key position entry →
        Stands after main bitmap flag key position entry
    stands_same main bitmap flag key position Vacant same stands = stands
    stands_same main bitmap flag key position (Own value) same (flagged, at) =
        (flagged, ap (node_at after) same ∙ single_same (entry_at heap main position) key value at)
    stands_same main bitmap flag key position Other same (flagged, (other, value, at, differs)) =
        (flagged, (other, value, ap (node_at after) same ∙ single_same (entry_at heap main position) other value at, differs))

    branch_same : (main : Ref) (bitmap : ℕ) (entries : ArrayVec Ref) → S main → node_at heap main ≡ Branch bitmap entries →
        (node_at after main ≡ node_at heap main) × (prev_at after main ≡ prev_at heap main)
    branch_same main bitmap entries at branch = in_use_same main at (apart_kind main (ap is_indirection branch))

    entry_same : (main : Ref) (position : ℕ) → node_at after main ≡ node_at heap main → entry_at after main position ≡ entry_at heap main position
    entry_same main position same = ap (λ node. get_or (entries_of node) position no_ref) same

    here_same : (main : Ref) (flag key position : ℕ) (entry : Entry) → S main → IsHere heap main flag key position entry → IsHere after main flag key position entry
    here_same main flag key position entry at h =
        let (node, word) = branch_same main h.bitmap h.entries at h.branch in
        record {
          bitmap = h.bitmap;
          entries = h.entries;
          decided = word ∙ h.decided;
          branch = node ∙ h.branch;
          at = h.at;
          stands = stands_same main h.bitmap flag key position entry (entry_same main position node) h.stands;
        }

    over_same : (main : Ref) (n : ℕ) (below : Ref) → S main → t.level i ≤ t.level main → IsOver heap main (2 ^ n) below →
        IsOver after main (2 ^ n) below × S below × (t.level i ≤ t.level below)
    over_same main n below at lower h =
        let (node, word) = branch_same main h.bitmap h.entries at h.branch in
        let (met, within) = entry_meets heap root t main h.bitmap n h.entries at h.branch h.flagged in
        let position = position_of (2 ^ n) h.bitmap in
        let entry = entry_at heap main position in
        let high = level_entry heap root t main h.bitmap position h.entries at h.branch within (ap is_indirection h.is) in
        let over : main_at heap entry ≡ below = ap main_of h.is in
        let used_below = subst S over (over_used entry met.0 (ap is_indirection h.is)) in
        let level_below = ap t.level (sym over) ∙ level_over heap root t entry met.0 (ap is_indirection h.is) in (
          record {
            bitmap = h.bitmap;
            entries = h.entries;
            generation = h.generation;
            decided = word ∙ h.decided;
            branch = node ∙ h.branch;
            few = h.few;
            flagged = h.flagged;
            renewable = λ k less.
                let one = entry_at heap main k in
                let used_one = (subst (λ es. All (Meets S heap AnEntry) es) (sym (ap entries_of h.branch)) (entries_meet heap root t main h.bitmap h.entries at h.branch) k no_ref
                (omega (arith, less, ap (λ node. length (entries_of node)) h.branch))).0 in
                subst (λ r. IsDecided after (node_at after r)) (sym (entry_same main k node))
                (decided_same one (node_at heap one) used_one refl
                (λ e. omega (arith, level_entry heap root t main h.bitmap k h.entries at h.branch less e, lower)) (h.renewable k less));
            is = ap (node_at after) (entry_same main position node) ∙ (in_use_same entry met.0 (apart_level entry met.0 (omega (arith, high, lower)))).0 ∙ h.is;
          },
          used_below,
          omega (arith, level_below, high, lower),
        )

    pub leads_on_still : (hash key : ℕ) (place : Place) (node : Node) (depth : ℕ) (main : Ref) → S main → t.level i ≤ t.level main → LeadsOn heap hash key place node depth main →
        LeadsOn after hash key place node depth main
    leads_on_still hash key place node depth main at lower (here stands own) =
        here (here_same place.main place.flag key place.position place.entry at stands) ((branch_same place.main stands.bitmap stands.entries at stands.branch).0 ∙ own)
    leads_on_still hash key place node depth main at lower (past {below = b} over rest) =
        let (over_now, used_below, lower_still) = over_same main (index_at hash (5 * depth)) b at lower over in
        past over_now (leads_on_still hash key place node (suc depth) b used_below lower_still rest)
