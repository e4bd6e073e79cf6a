-- What a step changes in the order, in the closed generations and in the handles: one constructor for each kind of change.
use Rattle.std.proofs.Common.{◌≡◌, ℕ, ◌==◌, ◌&&◌, Bool, true, false, cond, inl, inr, List, set, get_or, length, Option, Some, None, refl, sym, ap, ◌∙◌, subst, arith}
use native.Mathlib.Decide.{ℕ_discrete}
use Rattle.std.proofs.lemmas.Bool.{cases_lt, true≢false, false≢true}
use Rattle.std.proofs.lemmas.List.{get_or_past, get_or-set_same, length-set}
use Rattle.proof_order.specs.Vocabulary.{Access, Writable, ref_to, Reply, Ref, Operation, Action, Line, Root, RootWord, Plain, Offer, Descriptor, State, root_at, word_of, word_at, root_of}
use Rattle.proof_order.specs.Vocabulary.{rewritten, with_word, line_action, read_of, stands_in, is_plain, is_carried_out, if_changed, acted, completed, carried_out, opened, opened_root}
use Rattle.proof_order.specs.Vocabulary.{new_root_taken, committed_in, carried_by, generation_at, settles}
use Rattle.proof_order.specs.Beneath.machine_model.specs.declared.actions.Action.TheVariants as act
use Rattle.proof_order.specs.Beneath.machine_model.specs.declared.lines.Line.TheVariants as line
use Rattle.proof_order.specs.Beneath.machine_model.proofs.Found.{found_elsewhere}
use Rattle.proof_generations.proofs.Handles.Footings.{plain_root}

-- ---- the roots of handles

-- the one that is open at first
abbrev pub first_root : Option Root
first_root = Some (record { access = Writable; word = Plain (ref_to 2 1) })

-- the kind of an open handle, and its root
abbrev pub footing_of : Option Root → Option (Access × Ref)
footing_of None = None
footing_of (Some root) = Some (root.access, root_of root.word)

abbrev pub footing : State → ℕ → Option (Access × Ref)
footing state handle = footing_of (root_at state handle)

-- a word with the same root leaves the root
rewritten_footing : (word : RootWord) (o : Option Root) → root_of word ≡ root_of (word_of o) → footing_of (rewritten word o) ≡ footing_of o
rewritten_footing word None e = refl
rewritten_footing word (Some root) e = ap (λ r. Some (root.access, r)) e

written_here : (state : State) (handle : ℕ) (word : RootWord) → root_of word ≡ root_of (word_at state handle) → footing (with_word state handle word) handle ≡ footing state handle
written_here state handle word e = elim (cases_lt handle (length state.roots)) [
  | inl within ↦
      ap footing_of (get_or-set_same state.roots handle (rewritten word (root_at state handle)) None within) ∙ rewritten_footing word (root_at state handle) e
  | inr past ↦
      ap footing_of (get_or_past (set state.roots handle (rewritten word (root_at state handle))) handle None (rw length-set past) ∙ sym (get_or_past state.roots handle None past))
]

pub footing_written : (state : State) (handle : ℕ) (word : RootWord) → root_of word ≡ root_of (word_at state handle) → (other : ℕ) →
    footing (with_word state handle word) other ≡ footing state other
footing_written state handle word e other = elim (ℕ_discrete other handle) [
  | yes same ↦ subst (λ h. footing (with_word state handle word) h ≡ footing state h) (sym same) (written_here state handle word e)
  | no apart ↦ ap footing_of (found_elsewhere state.roots handle other (rewritten word (root_at state handle)) apart)
]

-- ---- actions that carry nothing out

-- the action carries its offer out
abbrev pub carries : State → ℕ → Action → Bool
carries state handle (act.Complete offer main) = is_carried_out (word_at state handle) offer main
carries state handle action = false

-- an offer that is found by its number is the very same one
abbrev pub Honest : State → ℕ → Action → Type 0
Honest state handle action = (offer : Descriptor) → settles action ≡ Some offer → stands_in (word_at state handle) offer ≡ true → word_at state handle ≡ Offer offer

root_taken_roots : (state : State) (main : Ref) (made : Option Ref) → (new_root_taken state main made).roots ≡ state.roots
root_taken_roots state main None = refl
root_taken_roots state main (Some made) = refl

-- nothing is told to be carried out
pub carries_none : (state : State) (handle : ℕ) (action : Action) → carries state handle action ≡ false → carried_by state handle action ≡ None
carries_none state handle (act.Complete offer main) e = ap (λ b. cond b (Some (record { generation = generation_at state.heap offer.root; operation = offer.operation })) None) e
carries_none state handle action e = refl

taken_back : (state : State) (handle : ℕ) (offer : Descriptor) (b : Bool) → (b ≡ true → word_at state handle ≡ Offer offer) → (other : ℕ) →
    footing (if_changed b (with_word state handle (Plain offer.root)) state) other ≡ footing state other
taken_back state handle offer true e other = footing_written state handle (Plain offer.root) (ap root_of (sym (e refl))) other
taken_back state handle offer false e other = refl

put_up : (state : State) (handle : ℕ) (offer : Descriptor) (b : Bool) → (b ≡ true → offer.root ≡ root_of (word_at state handle)) → (other : ℕ) →
    footing (if_changed b (with_word state handle (Offer offer)) state) other ≡ footing state other
put_up state handle offer true e other = footing_written state handle (Offer offer) (e refl) other
put_up state handle offer false e other = refl

not_carried : (state : State) (handle : ℕ) (offer : Descriptor) (stands expected : Bool) → (stands && expected) ≡ false → (stands ≡ true → word_at state handle ≡ Offer offer) → (other : ℕ) →
    footing (if_changed stands (cond expected (carried_out state handle offer) (with_word state handle (Plain offer.root))) state) other ≡ footing state other
not_carried state handle offer true true e w other = absurd (true≢false e)
not_carried state handle offer true false e w other = footing_written state handle (Plain offer.root) (ap root_of (sym (w refl))) other
not_carried state handle offer false expected e w other = refl

-- and leaves each handle's root
pub acted_footing : (state : State) (handle : ℕ) (action : Action) → carries state handle action ≡ false → Honest state handle action → (other : ℕ) →
    footing (acted state handle action) other ≡ footing state other
acted_footing state handle (act.Abort offer) e h other = taken_back state handle offer (stands_in (word_at state handle) offer) (h offer refl) other
acted_footing state handle (act.Offer offer) e h other =
    put_up state handle offer (is_plain (word_at state handle) offer.root) (plain_root (word_at state handle) offer.root) other
acted_footing state handle (act.Complete offer main) e h other = not_carried state handle offer (stands_in (word_at state handle) offer) (main == offer.expected) e (h offer refl) other
acted_footing state handle (act.MakeRoot main) e h other = ap (λ roots. footing_of (get_or roots other None)) (root_taken_roots state main _)
acted_footing state handle action e h other = refl

-- ---- an action that carries its offer out

carried_is : (state : State) (handle : ℕ) (offer : Descriptor) (stands expected : Bool) → (stands && expected) ≡ true →
    if_changed stands (cond expected (carried_out state handle offer) (with_word state handle (Plain offer.root))) state ≡ carried_out state handle offer
carried_is state handle offer true true e = refl
carried_is state handle offer true false e = absurd (false≢true e)
carried_is state handle offer false expected e = absurd (false≢true e)

pub completed_is : (state : State) (handle : ℕ) (offer : Descriptor) (main : Ref) → is_carried_out (word_at state handle) offer main ≡ true →
    completed state handle offer main ≡ carried_out state handle offer
completed_is state handle offer main e = carried_is state handle offer (stands_in (word_at state handle) offer) (main == offer.expected) e

-- the handles after a swap: the new root stands, and the handle to open is open
abbrev pub roots_swapped : State → ℕ → Descriptor → Option ℕ → List (Option Root)
roots_swapped state handle offer None = (with_word state handle (Plain offer.successor)).roots
roots_swapped state handle offer (Some n) = set (with_word state handle (Plain offer.successor)).roots n (Some (opened_root offer offer.second))

pub carried_roots : (state : State) (handle : ℕ) (offer : Descriptor) (opens : Option ℕ) →
    let after = opened (with_word state handle (Plain offer.successor)) offer opens in
    (after.roots ≡ roots_swapped state handle offer opens) × (after.heap ≡ state.heap)
carried_roots state handle offer None = (refl, refl)
carried_roots state handle offer (Some n) = (refl, refl)

-- and it is told
pub carries_some : (state : State) (handle : ℕ) (offer : Descriptor) (main : Ref) → is_carried_out (word_at state handle) offer main ≡ true →
    carried_by state handle (act.Complete offer main) ≡ Some (record { generation = generation_at state.heap offer.root; operation = offer.operation })
carries_some state handle offer main e = ap (λ b. cond b (Some (record { generation = generation_at state.heap offer.root; operation = offer.operation })) None) e

pub same_swapped : (a b : State) (handle : ℕ) (offer : Descriptor) (opens : Option ℕ) → a.roots ≡ b.roots → roots_swapped a handle offer opens ≡ roots_swapped b handle offer opens
same_swapped a b handle offer None e = ap (λ roots. set roots handle (rewritten (Plain offer.successor) (get_or roots handle None))) e
same_swapped a b handle offer (Some n) e =
    ap (λ roots. set (set roots handle (rewritten (Plain offer.successor) (get_or roots handle None))) n (Some (opened_root offer offer.second))) e

-- ---- what such actions commit

-- who carries an offer out commits nothing in that step
pub complete_commits : (state : State) (operation : Operation) (l : Line) (offer : Descriptor) (main : Ref) → line_action state operation l ≡ act.Complete offer main →
    committed_in state (read_of l) ≡ None
complete_commits state operation (line.Root l) offer main e = grind arith
complete_commits state operation (line.Key l) offer main e = grind arith
complete_commits state operation (line.Build l) offer main e = refl
complete_commits state operation (line.Swap why s) offer main e = grind arith
complete_commits state operation (line.Renew l) offer main e = grind arith
complete_commits state operation (line.Clean l) offer main e = grind arith
complete_commits state operation (line.Climb l) offer main e = grind arith
complete_commits state operation (line.Copy l) offer main e = grind arith
complete_commits state operation (line.Walk l) offer main e = grind arith
complete_commits state operation (line.End answer) offer main e = refl
complete_commits state operation line.Impossible offer main e = refl

-- nor does who ends
pub end_commits : (state : State) (operation : Operation) (l : Line) (answer : Reply) → line_action state operation l ≡ act.End answer → committed_in state (read_of l) ≡ None
end_commits state operation (line.Root l) answer e = grind arith
end_commits state operation (line.Key l) answer e = grind arith
end_commits state operation (line.Build l) answer e = refl
end_commits state operation (line.Swap why s) answer e = grind arith
end_commits state operation (line.Renew l) answer e = grind arith
end_commits state operation (line.Clean l) answer e = grind arith
end_commits state operation (line.Climb l) answer e = grind arith
end_commits state operation (line.Copy l) answer e = grind arith
end_commits state operation (line.Walk l) answer e = grind arith
end_commits state operation (line.End other) answer e = refl
end_commits state operation line.Impossible answer e = refl
