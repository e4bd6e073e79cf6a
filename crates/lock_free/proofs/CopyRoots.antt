-- COPY makes the roots of its offer, one after the other, or stops where a slot or a generation is missing.
use Rattle.std.proofs.Common.{◌≡◌, ◌++◌, ◌∷◌, ℕ, true, false, List, [], Some, None, refl, sym, ap, subst, ◌∙◌}
use Rattle.std.proofs.lemmas.Bool.{false≢true}
use Rattle.history.specs.declared.calls.Call.{Call}
use Rattle.history.specs.declared.calls.Call.TheVariants.{Clear, Snapshot}
use Rattle.history.specs.declared.replies.Reply.TheVariants as reply
use Rattle.machine_model.specs.Beneath.slot_arena.specs.declared.refs.Ref.{Ref}
use Rattle.machine_model.specs.Beneath.slot_arena.specs.Heaps.{empty_branch}
use Rattle.machine_model.specs.declared.actions.Action.TheVariants as act
use Rattle.machine_model.specs.declared.copying.CopyLine.{CopyLine}
use Rattle.machine_model.specs.declared.copying.CopyLine.TheVariants as copy
use Rattle.machine_model.specs.declared.lines.Line.{Line}
use Rattle.machine_model.specs.declared.lines.Line.TheVariants as line
use Rattle.machine_model.specs.declared.operations.Operation.{Operation}
use Rattle.machine_model.specs.Copying.{after_given, after_successor, offering}
use Rattle.machine_model.specs.GivingUp.{copy_given_up}
use Rattle.machine_model.specs.Operations.{action_of}
use Rattle.lock_free.specs.declared.copy_roots.CopyKind.TheVariants as kind
use Rattle.lock_free.specs.declared.rules.View.{View}
use Rattle.lock_free.specs.Becoming.{Follows, HasNew, HasRested, line_made}
use Rattle.lock_free.specs.CopySteps.{IsAtCopy, IsAtNewRoot, IsKind, copy_kind, given_line, HasStopped, HasNewRoot, HasRoot, HasNewRoots}
use Rattle.lock_free.specs.Loading.{now, IsAt, Runs}
use Rattle.lock_free.specs.Passing.{IsPlaced}
use Rattle.lock_free.specs.SeenEntries.{HasMadeNext}
use Rattle.lock_free.proofs.CopyReads.{copy_line}
use Rattle.lock_free.proofs.Followings.{follows_both, goes_self, placed_on}
use Rattle.lock_free.proofs.RunningOn.{still_both, still_follows, still_with}

-- ---- which copy it is

pub given_so : (call : Call) (root main : Ref) → after_given call root main ≡ line.Copy (given_line (copy_kind call) root main)
given_so (Clear h) root main = refl
given_so (Snapshot h) root main = refl
given_so call root main = refl

after_one : (call : Call) (o : Operation) (root main made : Ref) → copy_kind call ≡ kind.Freeze → after_successor o call root main made ≡ offering o root main made None
after_one (Clear h) o root main made e = refl
after_one (Snapshot h) o root main made e = let wrong : ⊥ = cc e in absurd wrong
after_one call o root main made e = refl

after_first : (call : Call) (o : Operation) (root main made : Ref) → copy_kind call ≡ kind.Snapshot → after_successor o call root main made ≡ line.Copy (copy.Second root main made)
after_first (Clear h) o root main made e = let wrong : ⊥ = cc e in absurd wrong
after_first (Snapshot h) o root main made e = refl
after_first call o root main made e = let wrong : ⊥ = cc e in absurd wrong

-- ---- it stops

module _ (v : View) (l : CopyLine) (at : IsAtCopy v l) where
  pub stands_on : (o : Operation) → Runs v o → Runs v (record o { line = line.Copy l })
  stands_on o r = subst (λ x. Runs v (record o { line = x })) (copy_line v l at o r) r

  pub stopped : copy_given_up l ≡ Some reply.NoSlots → (w : View) → w ≡ record v { pool = w.pool; drafts = w.drafts } → HasStopped v w
  stopped may w is = record {
    still = still_with v w (record v { pool = w.pool; drafts = w.drafts }) is (goes_self v.account.steps);
    stops = λ o r. (o.private, l, subst (λ x. Runs x (record o { line = line.Copy l })) (sym is) (stands_on o r), may);
  }

-- once references were counted and let go of again
pub stopped_rested : (v : View) (l : CopyLine) → IsAtCopy v l → copy_given_up l ≡ Some reply.NoSlots → (w : View) → HasRested v w → HasStopped v w
stopped_rested v l at may w rests = record {
  still = still_follows v w rests.follows;
  stops = λ o r. (o.private, l, rests.comes (record o { line = line.Copy l }) (stands_on v l at o r), may);
}

pub unchanged : (v w : View) → w ≡ v → w ≡ record v { pool = w.pool; drafts = w.drafts }
unchanged v w e = e ∙ ap (λ (x : View). record v { pool = x.pool; drafts = x.drafts }) (sym e)

-- after more has become of it
pub stopped_on : (u v w : View) (next : Operation → List Ref × Line) → Follows u v → ((o : Operation) → Runs u o → Runs v (record o { private = (next o).0; line = (next o).1 })) → HasStopped v
    w → HasStopped u w
stopped_on u v w next f comes h = record {
  still = still_both u v w (still_follows u v f) h.still;
  stops = λ o r. h.stops (record o { private = (next o).0; line = (next o).1 }) (comes o r);
}

-- ---- one root

module _ (before : View) (root main : Ref) (at : IsAtCopy before (copy.Successor root main)) (name : ℕ) (after : View) (h : HasRoot before (Some name) after) where
  abbrev new : HasNewRoot before (copy.Successor root main) name after
  new = h (copy.Successor root main) main at refl

  pub one_root_made : IsKind before kind.Freeze → HasNewRoots before kind.Freeze root main (record { successor = name; second = None }) after
  one_root_made which = record {
    successor = new.made;
    second = None;
    two = refl;
    successor_placed = new.placed;
    second_placed = tt;
    follows = new.become.follows;
    comes = λ o r. (
      o.private ++ new.made ∷ [],
      subst (λ l. Runs after (record o { private = o.private ++ new.made ∷ []; line = l })) (after_one o.call o root main new.made (which o r)) (new.become.comes o r),
    );
  }

  -- the first of two
  module _ (which : IsKind before kind.Snapshot) where
    pub first_comes : (o : Operation) → Runs before o → Runs after (record o { private = o.private ++ new.made ∷ []; line = line.Copy (copy.Second root main new.made) })
    first_comes o r = subst (λ l. Runs after (record o { private = o.private ++ new.made ∷ []; line = l })) (after_first o.call o root main new.made (which o r)) (new.become.comes o r)

    pub at_second : IsAtCopy after (copy.Second root main new.made)
    at_second = (record at.0 { private = at.0.private ++ new.made ∷ []; line = line.Copy (copy.Second root main new.made) }, first_comes at.0 at.1, refl)

    pub main_at_second : (main_name : ℕ) → IsPlaced before main main_name → IsAtNewRoot after (record { slot = main_name; own = false })
    main_at_second main_name placed =
        (copy.Second root main new.made, main, at_second, refl, placed_on before after new.become.follows main main_name placed, (λ own. absurd (false≢true own), λ b. absurd b))

    module _ (then : View) where
      pub second_missing : HasRested after then → HasStopped before then
      second_missing rests =
          stopped_on before after then (λ o. (o.private ++ new.made ∷ [], line.Copy (copy.Second root main new.made))) new.become.follows first_comes
          (stopped_rested after (copy.Second root main new.made) at_second refl then rests)

      pub both_made : (second : ℕ) → HasRoot after (Some second) then → HasNewRoots before kind.Snapshot root main (record { successor = name; second = Some second }) then
      both_made second g =
          let more = g (copy.Second root main new.made) main at_second refl in
          record {
            successor = new.made;
            second = Some more.made;
            two = refl;
            successor_placed = placed_on after then more.become.follows new.made name new.placed;
            second_placed = more.placed;
            follows = follows_both before after then new.become.follows more.become.follows;
            comes = λ o r. (
              (o.private ++ new.made ∷ []) ++ more.made ∷ [],
              more.become.comes (record o { private = o.private ++ new.made ∷ []; line = line.Copy (copy.Second root main new.made) }) (first_comes o r),
            );
          }

-- ---- an empty branch, and a root over it

module _ (before : View) (root main : Ref) (at : IsAtCopy before (copy.Empty root main)) where
  abbrev pub at_empty : IsAt before (act.Make empty_branch)
  at_empty = record {
    operation = record at.0 { is_marked = at.1.0 };
    runs = at.1.1;
    acts = subst (λ x. action_of (now before) (record at.0 { is_marked = at.1.0; line = x }) ≡ act.Make empty_branch) (sym at.2) refl;
  }

  module _ (branch : ℕ) (middle : View) (h : HasMadeNext before (Some branch) middle) where
    abbrev new_branch : HasNew before empty_branch branch middle
    new_branch = h empty_branch at_empty

    pub branch_comes : (o : Operation) → Runs before o → Runs middle (record o { private = o.private ++ new_branch.made ∷ []; line = line.Copy (copy.Cleared root main new_branch.made) })
    branch_comes o r =
        subst (λ x. Runs middle (record o { private = o.private ++ new_branch.made ∷ []; line = line_made (now before) (record o { line = x }) x new_branch.made }) → Runs middle
        (record o { private = o.private ++ new_branch.made ∷ []; line = line.Copy (copy.Cleared root main new_branch.made) }))
        (sym (copy_line before (copy.Empty root main) at o r)) (λ x. x) (new_branch.become.comes o r)

    pub at_cleared : IsAtCopy middle (copy.Cleared root main new_branch.made)
    at_cleared =
        (record at.0 { private = at.0.private ++ new_branch.made ∷ []; line = line.Copy (copy.Cleared root main new_branch.made) }, branch_comes at.0 at.1, refl)

    pub root_over_it : IsAtNewRoot middle (record { slot = branch; own = true })
    root_over_it = (copy.Cleared root main new_branch.made, new_branch.made, at_cleared, refl, new_branch.placed, (λ own. refl, λ b. refl))

    module _ (then : View) where
      pub root_missing : then ≡ record middle { pool = then.pool; drafts = then.drafts } → HasStopped before then
      root_missing is =
          stopped_on before middle then (λ o. (o.private ++ new_branch.made ∷ [], line.Copy (copy.Cleared root main new_branch.made))) new_branch.become.follows branch_comes
          (stopped middle (copy.Cleared root main new_branch.made) at_cleared refl then is)

      pub cleared_made : (name : ℕ) → HasRoot middle (Some name) then → HasNewRoots before kind.Clear root main (record { successor = name; second = None }) then
      cleared_made name g =
          let more = g (copy.Cleared root main new_branch.made) new_branch.made at_cleared refl in
          record {
            successor = more.made;
            second = None;
            two = refl;
            successor_placed = more.placed;
            second_placed = tt;
            follows = follows_both before middle then new_branch.become.follows more.become.follows;
            comes = λ o r. (
              (o.private ++ new_branch.made ∷ []) ++ more.made ∷ [],
              more.become.comes (record o { private = o.private ++ new_branch.made ∷ []; line = line.Copy (copy.Cleared root main new_branch.made) }) (branch_comes o r),
            );
          }
