-- Actions that draw no generation, with what they do to heap, private list and root words.
use Rattle.std.specs.Prelude.{◌≡◌, ℕ, List, Option, refl}
use Rattle.std.proofs.Common.{sym, subst}
use Rattle.snapshot.specs.Vocabulary.{Ref, Action, ReadLine, Complete, CompleteLine, Descriptor, Root, RootLine, copy_action, read_action, root_action, complete_action, complete_action_at}
use Rattle.snapshot.specs.Beneath.epochs.specs.Memories.{Memory}
use Rattle.snapshot.specs.Beneath.machine_model.specs.declared.actions.Action.TheVariants as act
use Rattle.snapshot.specs.Beneath.machine_model.specs.declared.reading.ReadLine.TheVariants as read
use Rattle.snapshot.specs.Beneath.machine_model.specs.declared.roots.CompleteLine.TheVariants as complete
use Rattle.snapshot.specs.Beneath.machine_model.specs.declared.roots.RootLine.TheVariants as root
use Rattle.snapshot.specs.Beneath.trie_parts.specs.Holding.{Acts}
use Rattle.snapshot.specs.Beneath.rdcss_root.specs.Acts.{ActsInAll}
use Rattle.snapshot.specs.Beneath.rdcss_root.proofs.Together.{by_parts}
use Rattle.snapshot.specs.declared.copy_op.Making.{Making}
use Rattle.snapshot.specs.Copies.{making_line, made_node}
use Rattle.snapshot.specs.Tasks.{with_generation}
use Rattle.snapshot.proofs.Makings.{makes}

read_draws : (generation : ℕ) (indirection : Ref) (line : ReadLine) → with_generation generation (read_action indirection line) ≡ read_action indirection line
read_draws generation indirection read.Main = refl
read_draws generation indirection (read.Prev main) = refl
read_draws generation indirection (read.AskRoot main previous) = refl
read_draws generation indirection (read.Abort main previous offer) = refl
read_draws generation indirection (read.Decide main previous told) = refl
read_draws generation indirection (read.Restore main previous) = refl

complete_draws : (generation : ℕ) (offer : Descriptor) (line : CompleteLine) → with_generation generation (complete_action_at offer line) ≡ complete_action_at offer line
complete_draws generation offer (complete.Reading line) = read_draws generation offer.root line
complete_draws generation offer (complete.Swap main) = refl

root_draws : (generation : ℕ) (l : RootLine) → with_generation generation (root_action l) ≡ root_action l
root_draws generation root.Read = refl
root_draws generation (root.Completing c) = complete_draws generation c.offer c.line

-- the same action, and the same private list
as_well : {before after : Memory} {roots roots' : List (Option Root)} {private given private' : List Ref} {action other : Action} → other ≡ action → private' ≡ given →
    ActsInAll before roots private action after roots' given → ActsInAll before roots private other after roots' private'
as_well {before} {after} {roots} {roots'} {private} {given} {private'} {action} {other} same list acts =
    subst (λ p. ActsInAll before roots private other after roots' p) (sym list) (subst (λ a. ActsInAll before roots private a after roots' given) (sym same) acts)

pub of_root : {before after : Memory} {roots roots' : List (Option Root)} {private private' : List Ref} (generation : ℕ) (l : RootLine) → private' ≡ private →
    ActsInAll before roots private (root_action l) after roots' private → ActsInAll before roots private (with_generation generation (root_action l)) after roots' private'
of_root generation l list acts = as_well (root_draws generation l) list acts

pub of_complete : {before after : Memory} {roots roots' : List (Option Root)} {private private' : List Ref} (generation : ℕ) (c : Complete) → private' ≡ private →
    ActsInAll before roots private (complete_action c) after roots' private → ActsInAll before roots private (with_generation generation (complete_action c)) after roots' private'
of_complete generation c list acts = as_well (complete_draws generation c.offer c.line) list acts

pub of_read : {before after : Memory} {private private' : List Ref} (roots : List (Option Root)) (generation : ℕ) (indirection : Ref) (line : ReadLine) →
    Acts before private (read_action indirection line) after private' →
    ActsInAll before roots private (with_generation generation (read_action indirection line)) after roots private'
of_read roots generation indirection line acts = as_well (read_draws generation indirection line) refl (by_parts roots acts)

-- a new root has the generation that is drawn
pub of_making : {before after : Memory} {private private' : List Ref} (roots : List (Option Root)) (generation : ℕ) (root : Ref) (m : Making) →
    Acts before private (act.Make (made_node generation m)) after private' →
    ActsInAll before roots private (with_generation generation (copy_action (making_line root m))) after roots private'
of_making roots generation root m acts = as_well (makes generation root m) refl (by_parts roots acts)
