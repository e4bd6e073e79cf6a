-- The exchange of a main node's header decides it: the rule.
use Rattle.history.specs.declared.calls.Call.{Call}
use Rattle.std.proofs.Common.{◌≡◌, ℕ, ◌*◌, true, [], ◌∷◌, set, slice_index, Some, refl, arith, inl}
use mathlib.Core.Option.{some}
use lib.ListN.{get_elem?}
use Rattle.atomic_table.specs.Table as Table
use Rattle.trie_words.specs.Codes.{header_code}
use Rattle.machine_model.specs.Beneath.slot_arena.specs.declared.refs.Ref.{Ref}
use Rattle.machine_model.specs.Beneath.slot_arena.specs.Refs.{slot_of}
use Rattle.machine_model.specs.declared.operations.Operation.{Operation}
use Rattle.machine_model.specs.declared.steps.Step.TheVariants as step
use Rattle.machine_model.specs.States.{operation_of}
use Rattle.proof_memory.specs.Wants.{is_main_node}
use Rattle.lock_free.specs.declared.rules.View.{View}
use Rattle.lock_free.specs.declared.sizes.Sizes.{Sizes}
use Rattle.lock_free.specs.Accounts.{state_of, place_of, gone_on}
use Rattle.lock_free.specs.Deciding.{says_then, Decides}
use Rattle.machine_model.specs.Operations.{action_of}
use Rattle.lock_free.specs.Nodes.{SaysHeader, class_of}
use Rattle.lock_free.specs.Rules.{IsKept}
use Rattle.lock_free.proofs.Assembling.{AllStand, all_stand}
use Rattle.lock_free.proofs.Decided.{all_then, spare_then}
use Rattle.lock_free.proofs.Framing.{class_small, first_word}
use Rattle.lock_free.proofs.HeldStep.{alike_written, going_less, going_private, held_step, slot_beside}
use Rattle.lock_free.proofs.Lettings.{TakesNone, none_made}
use Rattle.lock_free.proofs.NodeWord.{node_word_kept}
use Rattle.lock_free.proofs.Waiting.{grown_steps}
use Rattle.lock_free.proofs.LinesStay.{lines_went, going_owes}
use Rattle.machine_model.specs.Acting.{operation_after}
use Rattle.lock_free.proofs.LetGoSince.{going_let_go}

module _ (sizes : Sizes) (s : Table.State Call View) (kept : IsKept sizes s) (id : ℕ) (v : View) (at : get_elem? s.views id ≡ some v) (operation : Operation)
    (runs : operation_of (state_of sizes kept.account) v.actor ≡ Some operation) (main replaced : Ref) (decides : Decides sizes kept.account v.actor operation main replaced)
    (here : kept.stands (slot_of main) ≡ true) (is_main : is_main_node decides.slot.node ≡ true) (value : ℕ)
    (says : (h : SaysHeader kept.account (state_of sizes kept.account) (slot_of main) decides.slot (slice_index s.words (2 * place_of kept.account main))) →
    value ≡ header_code (record { previous = says_then decides.verdict h.previous; shape = h.shape }))
    (takes : TakesNone kept.stands (state_of sizes kept.account) operation (action_of (state_of sizes kept.account) operation)) where
  abbrev all : AllStand sizes kept.account kept.stands s.words
  all = all_stand sizes s kept

  pub decide_kept : IsKept sizes (record {
    words = set s.words (2 * place_of kept.account main) value;
    homes = s.homes;
    views = set s.views id (record v { account = gone_on v.actor kept.account });
  })
  decide_kept =
      node_word_kept sizes s kept id v at operation runs (slot_of main) decides.slot (here, decides.is) (2 * place_of kept.account main)
      (first_word decides.slot.node (place_of kept.account main)) value []
      (all_then sizes kept.account v.actor operation main replaced decides kept.stands s.words all here is_main value says)
      (spare_then sizes kept.account v.actor operation main replaced decides kept.stands s.words all here is_main value says) decides.roots decides.others decides.own decides.tries v.owed
      (held_step sizes s kept id v at (gone_on v.actor kept.account) (grown_steps kept.account (gone_on v.actor kept.account) (step.Go v.actor ∷ []) refl refl) refl refl
      (alike_written (state_of sizes kept.account) (state_of sizes (gone_on v.actor kept.account)) (slot_of main) decides.slot
      (record decides.slot { prev = decides.verdict }) decides.is decides.then_is
      refl refl refl (λ r c. inl c) decides.nodes) decides.live
      (going_private sizes s kept v.actor operation runs takes (gone_on v.actor kept.account) refl (state_of sizes (gone_on v.actor kept.account)) decides.others decides.own)
      (going_less sizes s kept v.actor operation runs takes (gone_on v.actor kept.account) refl)
      (going_let_go sizes s kept v.actor operation runs takes (gone_on v.actor kept.account) refl) (record v { account = gone_on v.actor kept.account }) refl refl (λ k. omega arith)
      (lines_went sizes s kept id v at (gone_on v.actor kept.account) (record v { account = gone_on v.actor kept.account }) decides.others operation
      (operation_after (state_of sizes kept.account) operation) runs decides.own
      (going_owes sizes kept.account kept.bounds v.actor operation runs (none_made kept.stands (state_of sizes kept.account) operation (action_of (state_of sizes kept.account) operation) takes)) refl)
      (set s.words (2 * place_of kept.account main) value)
      (slot_beside sizes s kept (class_of decides.slot.node) (place_of kept.account main) (class_small decides.slot.node) (kept.nodes.within (slot_of main) decides.slot (here, decides.is))
      (2 * place_of kept.account main) (first_word decides.slot.node (place_of kept.account main)) value))
