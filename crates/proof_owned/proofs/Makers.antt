-- Which lines make indirections, and over which main nodes.
use Rattle.std.proofs.Common.{◌≡◌, ℕ, Some, ◌&&◌, set}
use Rattle.std.proofs.lemmas.Option.{none-some, same_Some}
use Rattle.proof_owned.specs.Beneath.slot_arena.specs.declared.refs.Ref.{Ref}
use Rattle.proof_owned.specs.Beneath.slot_arena.specs.declared.nodes.Node.{Node}
use Rattle.proof_owned.specs.Beneath.slot_arena.specs.declared.nodes.Node.TheVariants.{Indirection}
use Rattle.proof_owned.specs.Beneath.slot_arena.specs.Heaps.{node_at, entries_of, bitmap_of, empty_branch}
use Rattle.proof_owned.specs.Beneath.machine_model.specs.declared.building.BuildLine.{BuildLine}
use Rattle.proof_owned.specs.Beneath.machine_model.specs.declared.building.BuildLine.TheVariants as build
use Rattle.proof_owned.specs.Beneath.machine_model.specs.declared.copying.CopyLine.{CopyLine}
use Rattle.proof_owned.specs.Beneath.machine_model.specs.declared.copying.CopyLine.TheVariants as copy
use Rattle.proof_owned.specs.Beneath.machine_model.specs.declared.repairs.CleanLine.{CleanLine}
use Rattle.proof_owned.specs.Beneath.machine_model.specs.declared.repairs.CleanLine.TheVariants as clean
use Rattle.proof_owned.specs.Beneath.machine_model.specs.declared.repairs.ClimbLine.{ClimbLine}
use Rattle.proof_owned.specs.Beneath.machine_model.specs.declared.repairs.ClimbLine.TheVariants as climb
use Rattle.proof_owned.specs.Beneath.machine_model.specs.declared.repairs.RenewLine.{RenewLine}
use Rattle.proof_owned.specs.Beneath.machine_model.specs.declared.repairs.RenewLine.TheVariants as renew
use Rattle.proof_owned.specs.Beneath.machine_model.specs.declared.lines.Line.{Line}
use Rattle.proof_owned.specs.Beneath.machine_model.specs.declared.lines.Line.TheVariants as line
use Rattle.proof_owned.specs.Beneath.machine_model.specs.declared.operations.Operation.{Operation}
use Rattle.proof_owned.specs.Beneath.machine_model.specs.States.{State}
use Rattle.proof_owned.specs.Beneath.machine_model.specs.Paths.{flag_in, hash_in, is_below_root, above, start_of}
use Rattle.proof_owned.specs.Beneath.proof_generations.specs.Beneath.nodes.specs.Builders.{rung}
use Rattle.proof_owned.specs.Beneath.machine_model.specs.Renewing.{branch_of}
use Rattle.proof_owned.specs.Beneath.machine_model.specs.Cleaning.{leaves_single}
use Rattle.proof_owned.specs.Beneath.machine_model.specs.Climbing.{place_in}
use Rattle.proof_owned.specs.Beneath.machine_model.specs.Operations.{line_action}
use Rattle.proof_owned.specs.Beneath.proof_memory.specs.Wants.{AllHold, line_wants}
use Rattle.proof_owned.specs.Beneath.proof_memory.proofs.Claims.Uses.{meets_of}
use Rattle.proof_owned.specs.Beneath.proof_memory.proofs.Lines.Next.{pair_no_link, contracted_no_link, changed_no_link}
use Rattle.proof_owned.specs.Beneath.proof_memory.specs.Making.{made_node}
use Rattle.proof_owned.specs.Beneath.proof_generations.proofs.Counter.Made.{root_makes, key_makes, swap_makes, walk_makes, read_makes, complete_makes}

module _ (state : State) (operation : Operation) (S : Ref → Type 0) where
  -- the line makes an indirection of this generation over this main node
  abbrev pub LinkBy : Line → ℕ → Ref → Type 0
  LinkBy (line.Build (build.Link path main position below depth)) h word = below ≡ word
  LinkBy (line.Renew (renew.Link path main done child)) h word = (start_of operation ≡ h) × (child ≡ word)
  LinkBy (line.Copy l) h word = h ≡ state.generations
  LinkBy l h word = ⊥

  abbrev Wants : Line → Type 0
  Wants l = AllHold S state.heap (line_wants state.limits.hash operation.call operation.access l)

  abbrev Makes : Line → Node → Type 0
  Makes l n = made_node state (line_action state operation l) ≡ Some n

  build_by : (l : BuildLine) → Wants (line.Build l) → (h : ℕ) (word : Ref) → Makes (line.Build l) (Indirection h word) → LinkBy (line.Build l) h word
  build_by (build.Single path main s former) w h word e = let wrong : ⊥ = cc e in absurd wrong
  build_by (build.Pair path main position single depth) w h word e = absurd (pair_no_link state.limits.hash depth _ _ _ single h word (same_Some _ _ e))
  build_by (build.Link path main position below depth) w h word e =
      let both : Indirection (start_of operation) below ≡ Indirection h word = same_Some _ _ e in cc both
  build_by (build.Rung path main position below depth) w h word e =
      let both : rung (hash_in state operation) depth below ≡ Indirection h word = same_Some _ _ e in let wrong : ⊥ = cc both in absurd wrong
  build_by (build.Main path main c former) w h word e =
      absurd (changed_no_link (flag_in state operation path) (node_at state.heap main) c (meets_of w.1.1.0) h word (same_Some _ _ e))

  renew_by : (l : RenewLine) → (h : ℕ) (word : Ref) → Makes (line.Renew l) (Indirection h word) → LinkBy (line.Renew l) h word
  renew_by (renew.Entry path main done) h word e = absurd (none-some _ e)
  renew_by (renew.Read path main done r) h word e = absurd (read_makes state r.indirection r.line _ e)
  renew_by (renew.Link path main done child) h word e =
      let both : Indirection (start_of operation) child ≡ Indirection h word = same_Some _ _ e in (cc both, cc both)
  renew_by (renew.Branch path main done) h word e =
      let both : branch_of state main done ≡ Indirection h word = same_Some _ _ e in let wrong : ⊥ = cc both in absurd wrong

  clean_by : (l : CleanLine) → (h : ℕ) (word : Ref) → Makes (line.Clean l) (Indirection h word) → ⊥
  clean_by (clean.Read path r) h word e = read_makes state r.indirection r.line _ e
  clean_by (clean.Main path main) h word e = none-some _ e
  clean_by (clean.Entry path main done) h word e = none-some _ e
  clean_by (clean.Child path main done r) h word e = read_makes state r.indirection r.line _ e
  clean_by (clean.Tomb path main done child) h word e = none-some _ e
  clean_by (clean.Contracted path main done) h word e =
      contracted_no_link (is_below_root path && leaves_single state done) (bitmap_of (node_at state.heap main)) done h word (same_Some _ _ e)

  climb_by : (l : ClimbLine) → (h : ℕ) (word : Ref) → Makes (line.Climb l) (Indirection h word) → ⊥
  climb_by (climb.Read c r) h word e = read_makes state r.indirection r.line _ e
  climb_by (climb.Main c main) h word e = none-some _ e
  climb_by (climb.Contracted c main) h word e =
      let n = node_at state.heap main in
      contracted_no_link (is_below_root (above c.path)) (bitmap_of n) (set (entries_of n) (place_in state operation c main) c.single) h word (same_Some _ _ e)
  climb_by (climb.Root c l) h word e = root_makes state operation l _ e

  copy_by : (l : CopyLine) → (h : ℕ) (word : Ref) → Makes (line.Copy l) (Indirection h word) → LinkBy (line.Copy l) h word
  copy_by (copy.Read root r) h word e = absurd (read_makes state r.indirection r.line _ e)
  copy_by (copy.Successor root main) h word e = let both : Indirection state.generations main ≡ Indirection h word = same_Some _ _ e in cc both
  copy_by (copy.Second root main successor) h word e = let both : Indirection state.generations main ≡ Indirection h word = same_Some _ _ e in cc both
  copy_by (copy.Cleared root main branch) h word e = let both : Indirection state.generations branch ≡ Indirection h word = same_Some _ _ e in cc both
  copy_by (copy.Empty root main) h word e = let both : empty_branch ≡ Indirection h word = same_Some _ _ e in let wrong : ⊥ = cc both in absurd wrong
  copy_by (copy.Offer offer) h word e = absurd (none-some _ e)
  copy_by (copy.Complete c) h word e = absurd (complete_makes state c _ e)

  pub link_by : (l : Line) → Wants l → (h : ℕ) (word : Ref) → Makes l (Indirection h word) → LinkBy l h word
  link_by (line.Build l) w h word e = build_by l w h word e
  link_by (line.Renew l) w h word e = renew_by l h word e
  link_by (line.Clean l) w h word e = absurd (clean_by l h word e)
  link_by (line.Climb l) w h word e = absurd (climb_by l h word e)
  link_by (line.Copy l) w h word e = copy_by l h word e
  link_by (line.Root l) w h word e = absurd (root_makes state operation l _ e)
  link_by (line.Key l) w h word e = absurd (key_makes state operation l _ e)
  link_by (line.Swap why s) w h word e = absurd (swap_makes state operation why s _ e)
  link_by (line.Walk l) w h word e = absurd (walk_makes state operation l _ e)
  link_by (line.End answer) w h word e = absurd (none-some _ e)
  link_by line.Impossible w h word e = absurd (none-some _ e)
