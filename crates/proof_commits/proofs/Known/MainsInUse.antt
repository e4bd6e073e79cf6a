-- The logical main node of an indirection in use is the one that the protocol's words say.
use Rattle.std.proofs.Common.{◌≡◌, ℕ, ◌≤◌, true, Some, sym, ◌∙◌, ap, subst}
use Rattle.proof_commits.specs.Vocabulary.{Ref, Slot, node_of, prev_at, main_of, logical, logical_main, Bounds, State, standing, node_under}
use Rattle.proof_commits.specs.Beneath.machine_model.proofs.Grown.{grown_in_use, node_grown, prev_grown}
use Rattle.proof_commits.specs.Protocol.{logical_at}
use Rattle.proof_commits.proofs.Known.Given.{Known}
use Rattle.proof_commits.specs.Words.{words_of}
use Rattle.proof_memory.specs.Wants.{is_indirection}

-- the logical main node of an indirection in use
pub logical_standing : (limits : Bounds) (states : ℕ → State) (last : ℕ) (known : Known limits states last) (t : ℕ) → t ≤ last → (i : Ref) (slot : Slot) →
    standing (states t).heap i ≡ Some slot → is_indirection (node_under states t i) ≡ true → logical_main (states t).heap i ≡ logical_at (words_of states known.run.records last known.closing) t i
logical_standing limits states last known t h i slot e l =
    let node : node_under states t i ≡ slot.node = ap node_of (grown_in_use states t i slot e) in
    let main = known.mains_stand t h i slot e (subst (λ x. is_indirection x ≡ true) node l) in
    let word = ap main_of (node_grown states t i slot e) in
    let stands : standing (states t).heap (main_of (node_under states t i)) ≡ Some main.0 = subst (λ x. standing (states t).heap (main_of x) ≡ Some main.0) (sym node) main.1 in
    ap (λ x. logical x (prev_at (states t).heap x)) word ∙ ap (logical (main_of (node_under states t i))) (prev_grown states t (main_of (node_under states t i)) main.0 stands)
