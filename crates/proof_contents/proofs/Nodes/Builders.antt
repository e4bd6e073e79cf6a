-- What the builders do to the map that is a node's content.
use Rattle.std.proofs.Common.{◌≡◌, ◌≢◌, ℕ, suc, ◌==◌, Bool, true, false, cond, [], ◌∷◌, length, slice_index_or, Option, Some, None, refl, sym, ap, ap₂, subst, ◌∙◌, arith, eqb-true}
use Rattle.std.specs.FinMap.{get}
use Rattle.proof_contents.specs.Vocabulary.{hash_of, Ref, Node, Branch, Single, no_ref, entries_from, index_in, updated, renewed}
use Rattle.proof_contents.specs.Nodes.Branches.{standing, at_place}
use Rattle.proof_contents.specs.Nodes.Looking.{Found, Absent, Has, Below, look_at, or_else, value_by, find_at, value_in}
use Rattle.proof_contents.specs.Nodes.Changing.{Changes, look}
use Rattle.proof_contents.specs.Laws.{Place, Puts, Removes, BranchInserts, BranchUpdates, BranchRemoves, BranchEntombs, PairsPut, ListInserts, ListUpdates, ListRemoves}
use Rattle.proof_contents.specs.Laws.{ListEntombs, Replaces, kept, renews, cleans, RenewedKeeps, ContractedKeeps, entry_there, position_there}
use Rattle.proof_contents.proofs.Nodes.Branches.{before, standing_at, flagged, unflagged, differ}
use Rattle.proof_contents.proofs.Nodes.Changes.{look_place, look_branch, look-same, look-other, inserted_changes, updated_changes, removed_changes}
use Rattle.proof_contents.proofs.Nodes.Lists.{or_else-absent, list_inserted_changes, list_updated_changes, list_removed_changes, list_entombed_changes}
use Rattle.proof_contents.proofs.Nodes.Tombs.{before-lt, entombed_changes}
use Rattle.proof_contents.proofs.Nodes.Refilling.{refilled, refilled-places, refilled-none, refilled-some}
use Rattle.proof_contents.proofs.Nodes.Beside.{beside-was, beside-is, beside-elsewhere}
use Rattle.proof_contents.proofs.Nodes.Chains.{chain_says}
use Rattle.proof_contents.proofs.Nodes.Maps.{get-inserted, get-removed}

module _ (place : Place) where
  abbrev hash : ℕ → ℕ
  hash q = hash_of place.kind q

  abbrev below : ℕ → Ref → Option ℕ
  below q = find_at place.node place.main (hash_of place.kind) q place.levels (suc place.depth)

  abbrev says : ℕ → Node → Found
  says q n = look place.node (hash_of place.kind) place.depth q n

  -- a change of one key, as a put or a removal
  changes_put : (old new : Node) (key value : ℕ) (was : Found) → Changes place.node (hash_of place.kind) place.depth key old new was (Has value) → Puts place old new key value
  changes_put old new key value was c m holds q = at_key (q == key) refl ∙ sym (get-inserted m key value q)
    where
      at_key : (b : Bool) → (q == key) ≡ b → value_by (below q) (says q new) ≡ cond b (Some value) (get m q)
      at_key true same = ap (λ k. value_by (below q) (says k new)) (eqb-true q key same) ∙ ap (value_by (below q)) c.after
      at_key false apart = ap (value_by (below q)) (c.others q (differ q key apart)) ∙ holds q

  changes_remove : (old new : Node) (key : ℕ) (was : Found) → Changes place.node (hash_of place.kind) place.depth key old new was Absent → Removes place old new key
  changes_remove old new key was c m holds q = at_key (q == key) refl ∙ sym (get-removed m key q)
    where
      at_key : (b : Bool) → (q == key) ≡ b → value_by (below q) (says q new) ≡ cond b None (get m q)
      at_key true same = ap (λ k. value_by (below q) (says k new)) (eqb-true q key same) ∙ ap (value_by (below q)) c.after
      at_key false apart = ap (value_by (below q)) (c.others q (differ q key apart)) ∙ holds q

-- ---- own updates

pub branch_inserts : BranchInserts
branch_inserts place bitmap key value entries places single h no_flag is =
    changes_put place _ _ key value _ (inserted_changes place.node (hash_of place.kind) place.depth bitmap entries places h key value single
    (unflagged bitmap entries.items places h (index_in (hash_of place.kind key) place.depth) no_flag) is)

pub branch_updates : BranchUpdates
branch_updates place bitmap key former value entries single f was is =
    changes_put place _ _ key value _ (updated_changes place.node (hash_of place.kind) place.depth bitmap entries f.0.0 f.0.1 key former value _ single
    (flagged bitmap entries.items f.0.0 f.0.1 (index_in (hash_of place.kind key) place.depth) no_ref f.1) was is)

pub branch_removes : BranchRemoves
branch_removes place bitmap key former entries f was =
    changes_remove place _ _ key _ (removed_changes place.node (hash_of place.kind) place.depth bitmap entries f.0.0 f.0.1 key former _
    (flagged bitmap entries.items f.0.0 f.0.1 (index_in (hash_of place.kind key) place.depth) no_ref f.1) was)

pub branch_entombs : BranchEntombs
branch_entombs place bitmap key former other value entries places h in_place flag two was is =
    changes_remove place _ _ key _ (entombed_changes place.node (hash_of place.kind) place.depth bitmap entries places h key former other value _ in_place two
    (flagged bitmap entries.items places h (index_in (hash_of place.kind key) place.depth) no_ref flag) was is)

pub list_inserts : ListInserts
list_inserts place key value singles single room none is =
    changes_put place _ _ key value _ (list_inserted_changes place.node (hash_of place.kind) place.depth singles key value single room none is)

pub list_updates : ListUpdates
list_updates place p key former value singles single are most lt was is =
    changes_put place _ _ key value _ (list_updated_changes place.node (hash_of place.kind) place.depth singles p key former value single are most lt was is)

pub list_removes : ListRemoves
list_removes place p key former singles are most lt was =
    changes_remove place _ _ key _ (list_removed_changes place.node (hash_of place.kind) place.depth singles p key former are most lt was)

pub list_entombs : ListEntombs
list_entombs place p key former singles are two lt was =
    changes_remove place _ _ key _ (list_entombed_changes place.node (hash_of place.kind) place.depth singles p key former are two lt was)

-- ---- a pair

-- the values of singles need nothing below
single_value : (node : Ref → Node) (q k v : ℕ) (entry : Ref) (f g : Ref → Option ℕ) → node entry ≡ Single k v →
    value_by f (look_at q entry (node entry)) ≡ value_by g (look_at q entry (node entry))
single_value node q k v entry f g is = ap (λ n. value_by f (look_at q entry n)) is ∙ by_test (k == q) ∙ sym (ap (λ n. value_by g (look_at q entry n)) is)
  where
    by_test : (b : Bool) → value_by f (cond b (Has v) Absent) ≡ value_by g (cond b (Has v) Absent)
    by_test true = refl
    by_test false = refl

pub pairs_put : PairsPut
pairs_put place bitmap key value other own generation entries single link word f entry apart is link_is chain m holds q =
    by_index (index q == index key) refl ∙ sym (get-inserted m key value q)
  where
    index : ℕ → ℕ
    index k = index_in (hash_of place.kind k) place.depth

    old_entry : Ref
    old_entry = entry_there place key bitmap entries

    at : at_place f.0.0 (index key) ≡ Some old_entry
    at = flagged bitmap entries.items f.0.0 f.0.1 (index key) no_ref f.1

    through : value_by (below place q) (Below link) ≡ value_by (λ r. None) (or_else (look_at q old_entry (place.node old_entry)) (look_at q single (place.node single)))
    through =
        chain_says place.node place.kind other key old_entry single own value entry is place.main place.levels (suc place.depth) link q apart chain

    at_key : (b : Bool) → (q == key) ≡ b → index q ≡ index key →
        value_by (λ r. None) (or_else (look_at q old_entry (place.node old_entry)) (look_at q single (place.node single))) ≡ cond b (Some value) (get m q)
    at_key true same here =
        let same' = eqb-true q key same in
        ap (value_by (λ r. None)) (ap₂ or_else (look-other place.node q other own old_entry entry (λ e. apart (sym e ∙ same')))
        (look-same place.node q value single (is ∙ ap (λ k. Single k value) (sym same'))))
    at_key false away here =
        ap (value_by (λ r. None)) (ap (or_else (look_at q old_entry (place.node old_entry))) (look-other place.node q key value single is (differ q key away))
        ∙ or_else-absent (look_at q old_entry (place.node old_entry)))
        ∙ single_value place.node q other own old_entry (λ r. None) (below place q) entry
        ∙ sym (ap (value_by (below place q)) (beside-was place.node (hash_of place.kind) place.depth bitmap entries f.0.0 f.0.1 key old_entry link at q here)) ∙ holds q

    not_key : (b : Bool) → (q == key) ≡ b → index q ≢ index key → get m q ≡ cond b (Some value) (get m q)
    not_key true same away = absurd (away (ap index (eqb-true q key same)))
    not_key false apart' away = refl

    by_index : (b : Bool) → (index q == index key) ≡ b →
        value_in place.node place.main (hash_of place.kind) q place.levels place.depth (updated bitmap entries.items (position_there place key bitmap) link) ≡ cond (q == key) (Some value) (get m q)
    by_index true same =
        let here = eqb-true (index q) (index key) same in
        ap (value_by (below place q)) (beside-is place.node (hash_of place.kind) place.depth bitmap entries f.0.0 f.0.1 key old_entry link at q generation word link_is here)
        ∙ through ∙ at_key (q == key) refl here
    by_index false apart' =
        let away = differ (index q) (index key) apart' in
        ap (value_by (below place q)) (beside-elsewhere place.node (hash_of place.kind) place.depth bitmap entries f.0.0 f.0.1 key old_entry link at q away)
        ∙ holds q ∙ not_key (q == key) refl away

-- ---- repairs

-- an entry that replaces another gives the same
replaced_gives : (place : Place) (levels q : ℕ) (entry other : Ref) → place.levels ≡ suc levels → Replaces place.node place.main entry other →
    value_by (below place q) (look_at q other (place.node other)) ≡ value_by (below place q) (look_at q entry (place.node entry))
unfolding find_at
replaced_gives place levels q entry other left (kept same) = ap (λ r. value_by (below place q) (look_at q r (place.node r))) (sym same)
replaced_gives place levels q entry other left (renews g h word word' is new same) =
    ap (λ n. value_by (below place q) (look_at q other n)) new
    ∙ ap (λ l. find_at place.node place.main (hash_of place.kind) q l (suc place.depth) other) left
    ∙ ap (λ m. value_in place.node place.main (hash_of place.kind) q levels (suc place.depth) (place.node m)) same
    ∙ sym (ap (λ l. find_at place.node place.main (hash_of place.kind) q l (suc place.depth) entry) left)
    ∙ sym (ap (λ n. value_by (below place q) (look_at q entry n)) is)
replaced_gives place levels q entry other left (cleans g key value word is single tomb) =
    single_value place.node q key value other (below place q) (find_at place.node place.main (hash_of place.kind) q levels (suc (suc place.depth))) single
    ∙ sym (ap (λ n. value_in place.node place.main (hash_of place.kind) q levels (suc place.depth) n) tomb)
    ∙ sym (ap (λ l. find_at place.node place.main (hash_of place.kind) q l (suc place.depth) entry) left)
    ∙ sym (ap (λ n. value_by (below place q) (look_at q entry n)) is)

pub renewed_keeps : RenewedKeeps
renewed_keeps place bitmap levels entries others places left h count replaces m holds q = by_place (at_place places x) refl ∙ holds q
  where
    x : ℕ
    x = index_in (hash_of place.kind q) place.depth

    whole : length entries.items ≡ length (standing places)
    whole = ap length h.stand

    old_is : says place q (Branch bitmap entries) ≡ look_place place.node q (at_place places x)
    old_is = look_branch place.node q bitmap x entries places h

    new_is : says place q (renewed bitmap others) ≡ look_place place.node q (at_place (refilled places others) x)
    new_is = look_branch place.node q bitmap x (entries_from others) (refilled places others) (refilled-places bitmap entries.items others places h count)

    by_place : (found : Option Ref) → at_place places x ≡ found → value_by (below place q) (says place q (renewed bitmap others)) ≡ value_by (below place q) (says place q (Branch bitmap entries))
    by_place None at =
        ap (value_by (below place q)) (new_is ∙ ap (look_place place.node q) (refilled-none places others x at) ∙ sym (old_is ∙ ap (look_place place.node q) at))
    by_place (Some entry) at =
        let here : slice_index_or entries.items (before places x) no_ref ≡ entry = ap (λ es. slice_index_or es (before places x) no_ref) h.stand ∙ standing_at places x entry no_ref at in
        ap (value_by (below place q)) (new_is ∙ ap (look_place place.node q) (refilled-some places others x entry no_ref (count ∙ whole) at))
        ∙ replaced_gives place levels q entry (slice_index_or others (before places x) no_ref) left
        (subst (λ e. Replaces place.node place.main e (slice_index_or others (before places x) no_ref)) here (replaces (before places x) (omega (arith, before-lt places x entry at, whole))))
        ∙ sym (ap (value_by (below place q)) (old_is ∙ ap (look_place place.node q) at))

pub contracted_keeps : ContractedKeeps
contracted_keeps place bitmap levels x key value entries entry single places left h one at placed is replaces m holds q = by_place (at_place places z) refl ∙ holds q
  where
    z : ℕ
    z = index_in (hash_of place.kind q) place.depth

    old_is : says place q (Branch bitmap entries) ≡ look_place place.node q (at_place places z)
    old_is = look_branch place.node q bitmap z entries places h

    list : standing places ≡ entry ∷ []
    list = sym h.stand ∙ one

    by_place : (found : Option Ref) → at_place places z ≡ found → value_by (below place q) (look_at q single (place.node single)) ≡ value_by (below place q) (says place q (Branch bitmap entries))
    by_place None none =
        ap (value_by (below place q)) (look-other place.node q key value single is (λ same. absurd (let bad : Some entry ≡ None =
        sym at ∙ ap (at_place places) (sym placed ∙ ap (λ k. index_in (hash_of place.kind k) place.depth) (sym same)) ∙ none in cc))
        ∙ sym (old_is ∙ ap (look_place place.node q) none))
    by_place (Some e) some =
        let first : before places z ≡ 0 = omega (arith, before-lt places z e some, ap length list) in
        let same : e ≡ entry = sym (standing_at places z e no_ref some) ∙ ap₂ (λ es n. slice_index_or es n no_ref) list first in
        replaced_gives place levels q entry single left replaces
        ∙ sym (ap (value_by (below place q)) (old_is ∙ ap (look_place place.node q) some ∙ ap (λ r. look_at q r (place.node r)) same))
