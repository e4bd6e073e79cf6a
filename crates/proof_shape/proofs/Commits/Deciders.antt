-- A step that commits a node decides it, and somebody is in a SWAP of it.
use Rattle.std.proofs.Common.{◌≡◌, ℕ, Option, Some, None, refl, ◌∙◌, ap, subst, arith}
use Rattle.std.proofs.lemmas.Option.{none-some, same_Some}
use Rattle.proof_shape.specs.Vocabulary.{Ref, CopyLine, KeyLine, Line, Purpose, Operation, Read, ReadLine, Swap, CleanLine, ClimbLine, RenewLine, RootLine, WalkLine, State, Verdict, Commits, Fails}
use Rattle.proof_shape.specs.Vocabulary.{Overtaken, verdict, read_action, committed_by, committed_so, read_of, line_action, action_of, committed_in, committed_now}
use Rattle.proof_shape.specs.Beneath.machine_model.specs.declared.actions.Action.TheVariants as act
use Rattle.proof_shape.specs.Beneath.machine_model.specs.declared.lines.Line.TheVariants as line
use Rattle.proof_shape.specs.Beneath.machine_model.specs.declared.reading.ReadLine.TheVariants as read

-- ---- who is in a READ takes its step

root_read_acts : (state : State) (operation : Operation) (l : RootLine) (r : Read) → read_of (line.Root l) ≡ Some r → line_action state operation (line.Root l) ≡ read_action r.indirection r.line
root_read_acts state operation l r e = grind arith

key_read_acts : (state : State) (operation : Operation) (l : KeyLine) (r : Read) → read_of (line.Key l) ≡ Some r → line_action state operation (line.Key l) ≡ read_action r.indirection r.line
key_read_acts state operation l r e = grind arith

swap_read_acts : (state : State) (operation : Operation) (why : Purpose) (s : Swap) (r : Read) → read_of (line.Swap why s) ≡ Some r →
    line_action state operation (line.Swap why s) ≡ read_action r.indirection r.line
swap_read_acts state operation why s r e = grind arith

renew_read_acts : (state : State) (operation : Operation) (l : RenewLine) (r : Read) → read_of (line.Renew l) ≡ Some r → line_action state operation (line.Renew l) ≡ read_action r.indirection r.line
renew_read_acts state operation l r e = grind arith

clean_read_acts : (state : State) (operation : Operation) (l : CleanLine) (r : Read) → read_of (line.Clean l) ≡ Some r → line_action state operation (line.Clean l) ≡ read_action r.indirection r.line
clean_read_acts state operation l r e = grind arith

climb_read_acts : (state : State) (operation : Operation) (l : ClimbLine) (r : Read) → read_of (line.Climb l) ≡ Some r → line_action state operation (line.Climb l) ≡ read_action r.indirection r.line
climb_read_acts state operation l r e = grind arith

copy_read_acts : (state : State) (operation : Operation) (l : CopyLine) (r : Read) → read_of (line.Copy l) ≡ Some r → line_action state operation (line.Copy l) ≡ read_action r.indirection r.line
copy_read_acts state operation l r e = grind arith

walk_read_acts : (state : State) (operation : Operation) (l : WalkLine) (r : Read) → read_of (line.Walk l) ≡ Some r → line_action state operation (line.Walk l) ≡ read_action r.indirection r.line
walk_read_acts state operation l r e = grind arith

pub read_acts : (state : State) (operation : Operation) (l : Line) (r : Read) → read_of l ≡ Some r → line_action state operation l ≡ read_action r.indirection r.line
read_acts state operation (line.Root l) r e = root_read_acts state operation l r e
read_acts state operation (line.Key l) r e = key_read_acts state operation l r e
read_acts state operation (line.Swap why s) r e = swap_read_acts state operation why s r e
read_acts state operation (line.Renew l) r e = renew_read_acts state operation l r e
read_acts state operation (line.Clean l) r e = clean_read_acts state operation l r e
read_acts state operation (line.Climb l) r e = climb_read_acts state operation l r e
read_acts state operation (line.Copy l) r e = copy_read_acts state operation l r e
read_acts state operation (line.Walk l) r e = walk_read_acts state operation l r e
read_acts state operation (line.Build l) r e = absurd (none-some r e)
read_acts state operation (line.End answer) r e = absurd (none-some r e)
read_acts state operation line.Impossible r e = absurd (none-some r e)

-- ---- who commits decides with a licence

pub record DecidesNode (state : State) (operation : Operation) (x : Ref) : Type 0 where
  pub indirection : Ref
  pub previous : Ref
  pub told : Option ℕ
  pub action : action_of state operation ≡ act.Decide indirection x previous told
  pub commits : verdict state.heap indirection x previous told ≡ Commits

so_by : (m x : Ref) (v : Verdict) → committed_so m v ≡ Some x → (m ≡ x) × (v ≡ Commits)
so_by m x Commits e = (same_Some m x e, refl)
so_by m x Fails e = absurd (none-some x e)
so_by m x (Overtaken licensed) e = absurd (none-some x e)

by_line : (state : State) (operation : Operation) (i : Ref) (l : ReadLine) (x : Ref) → action_of state operation ≡ read_action i l →
    committed_by state.heap i l ≡ Some x → DecidesNode state operation x
by_line state operation i (read.Decide m previous told) x a e =
    let both = so_by m x (verdict state.heap i m previous told) e in
    record {
      indirection = i;
      previous = previous;
      told = told;
      action = a ∙ ap (λ q. act.Decide i q previous told) both.0;
      commits = subst (λ q. verdict state.heap i q previous told ≡ Commits) both.0 both.1;
    }
by_line state operation i read.Main x a e = absurd (none-some x e)
by_line state operation i (read.Prev m) x a e = absurd (none-some x e)
by_line state operation i (read.AskRoot m previous) x a e = absurd (none-some x e)
by_line state operation i (read.Abort m previous offer) x a e = absurd (none-some x e)
by_line state operation i (read.Restore m previous) x a e = absurd (none-some x e)

pub decides_node : (state : State) (operation : Operation) (x : Ref) → committed_now state operation ≡ Some x → DecidesNode state operation x
decides_node state operation x e = by_read (read_of operation.line) refl e
  where
    by_read : (o : Option Read) → read_of operation.line ≡ o → committed_in state o ≡ Some x → DecidesNode state operation x
    by_read None is e = absurd (none-some x e)
    by_read (Some r) is e = by_line state operation r.indirection r.line x (read_acts state operation operation.line r is) e
