-- An operation comes from line to line, whichever program it belongs to: by looking at a node, or by a READ.
use Rattle.std.proofs.Common.{◌≡◌, ℕ, Bool, Option, Some, refl, ap, subst, ◌∙◌}
use Rattle.machine_model.specs.Beneath.slot_arena.specs.declared.refs.Ref.{Ref}
use Rattle.machine_model.specs.declared.actions.Action.{Action}
use Rattle.machine_model.specs.declared.actions.Action.TheVariants as act
use Rattle.machine_model.specs.declared.lines.Line.{Line}
use Rattle.machine_model.specs.declared.operations.Operation.{Operation}
use Rattle.machine_model.specs.declared.reading.After.TheVariants.{Gives}
use Rattle.machine_model.specs.declared.reading.ReadLine.{ReadLine}
use Rattle.machine_model.specs.Acting.{operation_after, private_after, attempt_after, mark_after}
use Rattle.machine_model.specs.Calls.{handle_of}
use Rattle.machine_model.specs.Operations.{action_of, line_action, line_after, generation_from, read_of}
use Rattle.machine_model.specs.States.{State}
use Rattle.proof_memory.specs.Wants.{AllHold, line_wants}
use Rattle.lock_free.specs.declared.reading.Way.{Way}
use Rattle.lock_free.specs.declared.rules.View.{View}
use Rattle.lock_free.specs.Entries.{HasStayed}
use Rattle.lock_free.specs.GoingDown.{HasMoved}
use Rattle.lock_free.specs.Holding.{IsOn}
use Rattle.lock_free.specs.Live.{IsLive}
use Rattle.lock_free.specs.Loading.{now, seen, Runs, IsAt, IsSound, Went}
use Rattle.lock_free.specs.OfReads.{on_given}
use Rattle.lock_free.specs.Passing.{Later, HasCome, IsReading, IsOnWay}
use Rattle.lock_free.proofs.Asked.{line_stands}
use Rattle.lock_free.proofs.Comings.{runs_one}
use Rattle.lock_free.proofs.KeyMoves.{hash_is}
use Rattle.lock_free.proofs.Laters.{later_both}

-- ---- a look changes the line alone

by_action : State → Operation → Line → Option ℕ → Action → Operation
by_action state o l generation action = record o {
  private = private_after state o.private action;
  attempt = attempt_after o.attempt action;
  is_marked = mark_after o.is_marked action;
  generation = generation;
  line = l;
}

looked_step : (state : State) (o : Operation) (r : Ref) → action_of state o ≡ act.Look r → generation_from state o o.line ≡ o.generation → operation_after state o ≡ record o {
  line = line_after
      state o o.line;
}
unfolding by_action
looked_step state o r is same =
    ap (by_action state o (line_after state o o.line) (generation_from state o o.line)) is ∙ ap (λ g. by_action state o (line_after state o o.line) g (act.Look r)) same

module _ (v : View) (l : Line) (at : IsOn v l) where
  pub line_is : (o : Operation) → Runs v o → o.line ≡ l
  line_is o runs = ap (λ (z : Operation). z.line) (runs_one v o at.0 runs at.1) ∙ at.2

  abbrev its : Operation
  its = record at.0 { is_marked = at.1.0 }

  pub at_look : (r : Ref) → ((o : Operation) → line_action (now v) o l ≡ act.Look r) → IsAt v (act.Look r)
  at_look r looks = record { operation = its; runs = at.1.1; acts = ap (line_action (now v) its) at.2 ∙ looks its }

  -- what the line takes its references for they are
  pub finds_now : (n : ℕ) → IsSound n v → AllHold (IsLive (now v)) (now v).heap (line_wants v.sizes.hash at.0.call at.0.access l)
  finds_now n sound =
      subst (λ k. AllHold (IsLive (now v)) (now v).heap (line_wants k at.0.call at.0.access l)) (hash_is v.sizes v.account)
      (subst (λ x. AllHold (IsLive (now v)) (now v).heap (line_wants (now v).limits.hash at.0.call at.0.access x)) at.2 (line_stands v.sizes v.account sound.bounds v.actor its at.1.1))

  pub stays_on : (w : View) → HasStayed v w → IsOn w l
  stays_on w s = (at.0, s.comes at.0 at.1, at.2)

  pub moves_on : (w : View) (next : Line) → HasMoved (λ o. next) v w → IsOn w next
  moves_on w next m = (record at.0 { line = next }, m.comes at.0 at.1, refl)

  -- by its step
  module _ (w : View) (later : Later v w) (went : Went v w) (r : Ref) where
    abbrev state : State
    state = now (seen v went.account)

    pub moved : (next : Operation → Line) → ((o : Operation) → line_action state o l ≡ act.Look r) → ((o : Operation) → generation_from state o l ≡ o.generation) →
        ((o : Operation) (mark : Bool) → Runs v o → line_after state (record o { is_marked = mark }) l ≡ next o) → HasMoved next v w
    moved next looks keeps is = record { later = later; comes = comes }
      where
        comes : (o : Operation) → Runs v o → Runs w (record o { line = next o })
        comes o (mark, runs) =
            let there = went.waited.stays (record o { is_marked = mark }) runs in
            let o_there : Operation = record o { is_marked = there.0 } in
            let line_so : o_there.line ≡ l = line_is o (mark, runs) in
            let step = looked_step state o_there r (ap (line_action state o_there) line_so ∙ looks o_there) (ap (generation_from state o_there) line_so ∙ keeps o_there) in (
              there.0,
              went.took o_there there.1
                  ∙ ap Some (step ∙ ap (λ z. record o_there { line = z }) (ap (line_after state o_there) line_so ∙ is o there.0 (mark, runs))),
            )

  -- ---- a READ

  pub reading_on : (i : Ref) (x : ReadLine) → read_of l ≡ Some (record { indirection = i; line = x }) → IsReading v i x
  reading_on i x is = (at.0, at.1, ap read_of at.2 ∙ is)

  pub given_moved : (w : View) (main : Ref) → HasCome (Gives main) v w → HasMoved (λ o. on_given o.call l main) v w
  given_moved w main come = record {
    later = come.later;
    comes = λ o runs. subst (λ x. Runs w (record o { line = on_given o.call x main })) (line_is o runs) (come.comes o runs);
  }

-- ---- one after another

pub moved_both : (u v w : View) (f g h : Operation → Line) → ((o : Operation) (l : Line) → g (record o { line = l }) ≡ h o) → HasMoved f u v → HasMoved g v w → HasMoved h u w
moved_both u v w f g h same p q = record {
  later = later_both u v w p.later q.later;
  comes = λ o runs. subst (λ x. Runs w (record o { line = x })) (same o (f o)) (q.comes (record o { line = f o }) (p.comes o runs));
}

pub stayed_moved : (u v w : View) (f : Operation → Line) → HasStayed u v → HasMoved f v w → HasMoved f u w
stayed_moved u v w f p q = record { later = later_both u v w p.later q.later; comes = λ o runs. q.comes o (p.comes o runs) }

pub moved_so : (v w : View) (f g : Operation → Line) → ((o : Operation) → Runs v o → f o ≡ g o) → HasMoved f v w → HasMoved g v w
moved_so v w f g same m = record { later = m.later; comes = λ o runs. subst (λ x. Runs w (record o { line = x })) (same o runs) (m.comes o runs) }

-- on the same way
pub way_on : (v w : View) (l : Line) (next : Operation → Line) (way : Way) → IsOn v l → HasMoved next v w → IsOnWay v way → IsOnWay w way
way_on v w l next way at m on q s =
    let same = runs_one w q (record at.0 { line = next at.0 }) s (m.comes at.0 at.1) in
    let it = on at.0 at.1 in
    (ap (λ (z : Operation). z.access) same ∙ it.0, ap (λ (z : Operation). handle_of z.call) same ∙ it.1)
