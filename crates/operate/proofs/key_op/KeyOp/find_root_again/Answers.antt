use Rattle.std.specs.Prelude.{◌≡◌, refl}
use Rattle.std.proofs.Common.{◌∙◌, ap, sym}
use Rattle.operate.specs.Vocabulary.{generation_at, Gives, Climb, climb_after_root, at_heap, word_in, climb_of}
use Rattle.operate.specs.Beneath.trie_parts.specs.Tasks.{for_task}
use Rattle.operate.specs.Beneath.rdcss_root.specs.Programs.{root_of}
use Rattle.operate.proofs.Rooting.{came, unread}
use Rattle.operate.proofs.key_op.KeyOp.find_root_again.Goals as goal

pub returns-in-Done-clause-follows : goal.returns-in-Done-clause-follows
returns-in-Done-clause-follows c =
    let me = c.args.self.now in
    let heap = c.args.heap.now.heap in
    let access = me.work.swap.read.access in
    let told = c.in-Done.ensures.follows in
    let found = c.in-Done.found in
    let before = root_of me.root me.work.swap.read c.args.root_seen in
    let climb : Climb = climb_of me.path me.climb in
    let same_heap : c.step.new.heap.heap ≡ heap = c.in-Done.ensures.heap ∙ rw told.2 refl in
    let gen : c.generation_at.result ≡ generation_at heap found = c.generation_at.ensures ∙ ap (λ h. generation_at h found) same_heap in
    λ state operation w. (
      told.0,
      ap (climb_after_root (at_heap state heap me.task.hashes) (for_task me.task access operation) climb)
          (came state operation heap me.task access (word_in c.args.roots.now c.args.handle) c.step.new.read before (Gives found) w c.in-Done.ensures.access told.1)
          ∙ rw (← gen) (sym (c.climb_again.ensures.line access operation)),
      unread heap access before c.in-Done.kind _ told.2 told.0,
    )
