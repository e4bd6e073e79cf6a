-- What a change of one key makes, and brings about.
use Rattle.std.specs.Prelude.{ℕ, zero, suc, ◌+◌, ◌-◌, slice_set, Option}
use Rattle.proof_straight.specs.Vocabulary.{Call, Node, Indirection, Single, Ref, node_at, main_at, entry_at, generation_at, flag_of, pair, renewed, rung, position_of, Change, changed, old_hash}
use Rattle.proof_straight.specs.Vocabulary.{pair_depth, changed_reply, key_of, value_of, State, key_hash, Record}
use Rattle.arrayvec.specs.ArrayVec.{ArrayVec}
use Rattle.machine_model.specs.declared.building.Change.TheVariants as change
use Rattle.proof_straight.specs.Drafts.{Draft, after_call, first_draft, swapped_in, with_made}
use Rattle.proof_straight.specs.Places.{read_in}
use Rattle.proof_straight.specs.Recorded.{changed_record}
use Rattle.proof_straight.specs.Running.{ComesTo}

-- the call makes its new single
abbrev pub with_single : State → Call → Draft
with_single state call = with_made state (first_draft state) (Single (key_of call) (value_of call))

-- the main node of an indirection of this depth after a change of the call's key
abbrev pub changed_main : State → Call → ℕ → Ref → Change → Node
changed_main state call depth indirection c =
    changed (flag_of (key_hash state (key_of call)) depth) (node_at state.heap (main_at state.heap indirection)) c

-- the call makes that node, swaps it in and commits it
abbrev pub with_change : State → Call → ℕ → Ref → Draft → Change → Draft
with_change state call depth indirection draft c =
    swapped_in state (with_made state draft (changed_main state call depth indirection c)) indirection (main_at state.heap indirection)

-- The call has changed its key's value, which was former, in so many steps beside its begin and its end. It committed its main node in the last but one of them.
abbrev pub ChangesTo : State → Record → ℕ → Call → Ref → (depth n : ℕ) → (former : Option ℕ) → Draft → Type 0
ChangesTo state past actor call root depth n former draft =
    ComesTo state past actor call n (changed_reply call former) (after_call state draft (n + 2))
    (changed_record past state actor call root (read_in state depth) (state.steps + (n - 1)) draft.newest (changed_reply call former))

-- ---- two keys whose paths part below

-- the depth of the main node of the call's key and of that of the single at this position of an indirection of this depth
abbrev pub parts_at : State → Call → ℕ → Ref → ℕ → ℕ
parts_at state call depth indirection position =
    pair_depth state (old_hash state (main_at state.heap indirection) position) (key_hash state (key_of call)) depth

-- an indirection over the newest node
abbrev pub with_link : State → Ref → Draft → Draft
with_link state root draft = with_made state draft (Indirection (generation_at state.heap root) draft.newest)

-- indirections down to so many levels below this depth, each but the lowest over a branch of one entry, made from the newest node upwards
unfoldable pub with_links : State → Call → Ref → (depth levels : ℕ) → Draft → Draft
with_links state call root depth zero draft = with_link state root draft
with_links state call root depth (suc levels) draft =
    with_links state call root depth levels
    (with_made state (with_link state root draft) (rung (key_hash state (key_of call)) (depth + levels) (with_link state root draft).newest))

-- the call makes its single, the main node of both singles so many levels below that of the topmost indirection, and the way to it
abbrev pub with_pair : State → Call → Ref → (depth : ℕ) → Ref → (position levels : ℕ) → Draft
with_pair state call root depth indirection position levels =
    with_links state call root (depth + 1) levels
    (with_made state (with_single state call)
    (pair state.limits.hash (depth + 1 + levels) (old_hash state (main_at state.heap indirection) position) (key_hash state (key_of call))
    (entry_at state.heap (main_at state.heap indirection) position) (with_single state call).newest))

-- ---- a single that is left alone

-- the single that is left
abbrev pub single_left : State → Ref → ℕ → Ref
single_left state indirection position = entry_at state.heap (main_at state.heap indirection) (1 - position)

-- the call swaps a tomb of it in
abbrev pub with_tomb : State → Call → (depth : ℕ) → Ref → ℕ → Draft
with_tomb state call depth indirection position =
    with_change state call depth indirection (first_draft state) (change.Entomb (single_left state indirection position))

-- the main node above, of this bitmap and these entries at this depth, with the single in the place of the tomb
abbrev pub contracted_node : State → Call → (depth bitmap : ℕ) → ArrayVec Ref → Ref → Node
contracted_node state call depth bitmap entries single =
    renewed bitmap (slice_set entries.items (position_of (flag_of (key_hash state (key_of call)) depth) bitmap) single)

-- the call swaps that one in
abbrev pub with_contraction : State → Call → (depth deep : ℕ) → (above : Ref) → (bitmap : ℕ) → ArrayVec Ref → (indirection : Ref) → (position : ℕ) → Draft
with_contraction state call depth deep above bitmap entries indirection position =
    swapped_in state
    (with_made state (with_tomb state call deep indirection position) (contracted_node state call depth bitmap entries (single_left state indirection position)))
    above (main_at state.heap above)
