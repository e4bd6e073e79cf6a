-- What is known of a SWAP from the laws of a machine's runs: its handle, its generation, and that the fresh node stands nowhere before it is swapped in.
use Rattle.std.proofs.Common.{◌≡◌, ℕ, ◌≤◌, Bool, true, false, Option, Some, is_some, refl, sym, ap, ◌∙◌, subst, arith}
use Rattle.std.proofs.lemmas.Bool.{true≢false}
use Rattle.proof_obstruction_free.specs.Vocabulary.{Writable, Ref, Node, no_ref, node_of, generation_at, generation_of, Line, Purpose, SwapLine, Root, Plain, handle_of, root_at, word_of, ReadLine}
use Rattle.proof_obstruction_free.specs.Vocabulary.{grown, node_under, prev_word, AnIndirection, word_wants, meets, Is, Holds, AllHold, IsInUse, is_end, stage_of, stage_of_actor}
use Rattle.proof_obstruction_free.specs.Beneath.machine_model.specs.declared.reading.SwapLine.TheVariants as swap
use Rattle.proof_obstruction_free.specs.Beneath.slot_arena.specs.declared.nodes.Prev.TheVariants as over
use Rattle.proof_obstruction_free.specs.Beneath.proof_memory.specs.Wants.{is_indirection}
use Rattle.proof_obstruction_free.specs.Beneath.proof_memory.proofs.Safety.AtEachTime.{safe_at}
use Rattle.proof_obstruction_free.specs.Beneath.proof_memory.proofs.Safety.AtTimes.{kind_at, generation_found}
use Rattle.proof_obstruction_free.specs.Beneath.proof_memory.proofs.Claims.Uses.{safe_of}
use Rattle.proof_obstruction_free.specs.Beneath.proof_memory.proofs.Claims.Nodes.{no_main}
use Rattle.proof_obstruction_free.specs.Beneath.proof_memory.proofs.Heap.NoRef.{nothing_stands}
use Rattle.proof_obstruction_free.specs.Beneath.proof_commits.proofs.Known.Owners.{Staged}
use Rattle.proof_obstruction_free.specs.Beneath.proof_commits.proofs.Lines.Read.{generation_stays}
use Rattle.proof_obstruction_free.specs.Beneath.proof_commits.proofs.Words.Along.{protocol}
use Rattle.proof_obstruction_free.specs.Beneath.proof_commits.proofs.Known.Sounds.{sound_at}
use Rattle.proof_obstruction_free.specs.Beneath.proof_commits.proofs.Words.Stood.{Private, stands_now}
use Rattle.proof_obstruction_free.specs.Beneath.proof_generations.proofs.Handles.Operations.{has_handles_at}
use Rattle.proof_obstruction_free.specs.Beneath.proof_generations.proofs.Roots.Open.{no_close_at}
use Rattle.proof_obstruction_free.specs.Beneath.proof_generations.proofs.Handles.Running.{place_of_actor}
use Rattle.proof_obstruction_free.specs.Beneath.proof_generations.proofs.Falling.OwnSwaps.{swaps_in_own_generation}
use Rattle.proof_obstruction_free.specs.Alone.{Lone, Stands, Has, IsPlain, generation}
use Rattle.proof_obstruction_free.proofs.Swap.Steps.{known, w}
use Rattle.proof_obstruction_free.proofs.Swap.Lines.{swap_line}

link_met : (n : Node) → meets AnIndirection n ≡ true → is_indirection n ≡ true
link_met n e = grind arith

module _ (a : Lone) where
  -- what is an indirection has its generation for good
  pub generation_for_good : (t : ℕ) → t ≤ a.last → (r : Ref) → is_indirection (node_under a.states t r) ≡ true → generation_of (node_under a.states t r) ≡ generation a r
  generation_for_good t h r link = sym (generation_stays a.limits a.states a.last (known a) t r h link)

  -- ---- the root that stands in the handle's word

  -- while the operation isn't at its end the handle is open
  pub handle_open : (t : ℕ) (g : Option ℕ) (l : Line) → Stands a t g l → is_end l ≡ false → (root : Root) × (root_at (a.states t) (handle_of a.own.call) ≡ Some root) × (root.access ≡ a.own.access)
  handle_open t g l s going =
      let (k, place, at_k) = place_of_actor (a.states t) a.actor s.operation s.runs in
      let no_close = no_close_at a.run t s.until k s.operation at_k (ap is_end s.line ∙ going) in
      let (root, found, access) = (has_handles_at a.run t s.until).1.on_open k s.operation at_k no_close in
      (root, ap (λ c. root_at (a.states t) (handle_of c)) (sym s.call) ∙ found, access ∙ s.access)

  root_claim : (t : ℕ) (root : Root) (r : Ref) → t ≤ a.last → root_at (a.states t) (handle_of a.own.call) ≡ Some root → root.word ≡ Plain r →
      Holds (IsInUse (a.states t).heap) (a.states t).heap (Is r AnIndirection)
  root_claim t root r h found plain =
      let all = (safe_at a.run t h).words (handle_of a.own.call) root found in
      (subst (λ x. AllHold (IsInUse (a.states t).heap) (a.states t).heap (word_wants x)) plain all).0

  -- its generation is that of the root
  pub root_generation : (t : ℕ) (g : Option ℕ) (l : Line) → Stands a t g l → is_end l ≡ false → (r : Ref) → IsPlain a t r → generation_at (a.states t).heap r ≡ generation a r
  root_generation t g l s going r plain =
      let (root, found, access) = handle_open t g l s going in
      let claim = root_claim t root r s.until found (sym (ap word_of found) ∙ plain) in
      let (slot, is, kind) = kind_at a.states t r AnIndirection claim in
      generation_found a.states t r (safe_of claim) ∙ generation_for_good t s.until r (ap (λ o. is_indirection (node_of o)) is ∙ link_met slot.node kind)

  -- ---- a SWAP

  module _ (why : Purpose) (i replaced fresh : Ref) where
    -- it is on a writable handle
    pub swap_writable : (t : ℕ) (g : Option ℕ) (x : SwapLine) → Stands a t g (swap_line a why i replaced fresh x) → a.own.access ≡ Writable
    swap_writable t g x s =
        sym s.access
        ∙ (swaps_in_own_generation a.run t s.until a.actor s.operation s.runs why (record { indirection = i; replaced = replaced; fresh = fresh; line = x }) s.line).0

    -- into an indirection of the operation's generation
    pub swap_generation : (t : ℕ) (g : Option ℕ) (x : SwapLine) → Stands a t g (swap_line a why i replaced fresh x) → g ≡ Some (generation a i)
    swap_generation t g x s =
        sym s.generation
        ∙ (swaps_in_own_generation a.run t s.until a.actor s.operation s.runs why (record { indirection = i; replaced = replaced; fresh = fresh; line = x }) s.line).1

    fresh_private : (t : ℕ) (g : Option ℕ) → Stands a t g (swap_line a why i replaced fresh swap.Publish) → Private (w a) t fresh
    fresh_private t g s =
        let staged = (sound_at (protocol a.limits a.states a.last (known a)) t s.until).staged a.actor in
        (subst (λ x. Staged (w a) t a.actor x) (ap stage_of_actor s.runs ∙ ap stage_of s.line) staged).0

    -- what it replaces is decided
    pub replaced_decided : (t : ℕ) (g : Option ℕ) (l : ReadLine) → Stands a t g (swap_line a why i replaced fresh (swap.Deciding l)) → prev_word a.states t replaced ≡ over.None
    replaced_decided t g l s =
        let staged = (sound_at (protocol a.limits a.states a.last (known a)) t s.until).staged a.actor in
        (subst (λ x. Staged (w a) t a.actor x) (ap stage_of_actor s.runs ∙ ap stage_of s.line) staged).2.none

    -- before it is swapped in, the fresh node stands nowhere
    pub fresh_nowhere : (t : ℕ) (g : Option ℕ) → Stands a t g (swap_line a why i replaced fresh swap.Publish) → (j : Ref) → Has a t j fresh → ⊥
    fresh_nowhere t g s j has = by (is_indirection (node_under a.states t j)) refl
      where
        private : Private (w a) t fresh
        private = fresh_private t g s

        by : (b : Bool) → is_indirection (node_under a.states t j) ≡ b → ⊥
        by true link = private.apart j (stands_now link has.main)
        by false none =
            let same : fresh ≡ no_ref = sym has.main ∙ no_main (node_under a.states t j) none in
            true≢false (sym private.made ∙ ap (λ r. is_some (grown a.states t r)) same ∙ ap is_some (nothing_stands a.run t s.until))
