-- COPY tries again, from the root.
use Rattle.std.proofs.Common.{◌≡◌, ◌+◌, ℕ, Bool, true, List, [], Option, Some, refl, ap, subst, ◌∙◌}
use Rattle.std.proofs.lemmas.Bool.{false≢true}
use Rattle.history.specs.declared.calls.Call.{Call}
use Rattle.history.specs.declared.calls.Call.TheVariants.{Clear, Snapshot, Freeze}
use Rattle.machine_model.specs.Beneath.slot_arena.specs.declared.refs.Ref.{Ref}
use Rattle.machine_model.specs.declared.copying.CopyLine.TheVariants as copy
use Rattle.machine_model.specs.declared.lines.Line.{Line}
use Rattle.machine_model.specs.declared.lines.Line.TheVariants as line
use Rattle.machine_model.specs.declared.operations.Operation.{Operation}
use Rattle.machine_model.specs.Calls.{handle_of}
use Rattle.machine_model.specs.Lines.{new_try}
use Rattle.machine_model.specs.Operations.{from_root}
use Rattle.machine_model.specs.Reading.{reading}
use Rattle.lock_free.specs.declared.copy_roots.CopyKind.{CopyKind}
use Rattle.lock_free.specs.declared.reading.Way.{Way}
use Rattle.lock_free.specs.declared.rooting.Rooted.{Rooted}
use Rattle.lock_free.specs.declared.rules.View.{View}
use Rattle.lock_free.specs.CopySteps.{IsAtOriginal, IsAtTry, IsCopying, HasComeTo, HasGivenOut, HasStopped, HasTried, copied_line, copies, copy_kind, tried_on}
use Rattle.lock_free.specs.Loading.{IsSound, Runs}
use Rattle.lock_free.specs.Passing.{IsOnWay}
use Rattle.lock_free.specs.Rooting.{IsAtRoot, HasRooted}
use Rattle.lock_free.specs.RunningOn.{IsStill}
use Rattle.lock_free.specs.Stocks.{Stocked, IsStock}
use Rattle.lock_free.proofs.Comings.{runs_one}
use Rattle.lock_free.proofs.RunningOn.{still_self, still_both, still_later}
use Rattle.lock_free.proofs.StockStays.{stock_later}
use Rattle.history.specs.declared.replies.Reply.TheVariants as reply
use Rattle.lock_free.specs.declared.leaving.Completing.{Completing}
use Rattle.lock_free.specs.declared.leaving.Left.{Left}
use Rattle.lock_free.specs.CopySteps.{LeavesCopy}
use Rattle.lock_free.specs.Leaving.{HasLeftOff, MayLeave}
use Rattle.lock_free.specs.RunningOn.{RunsOn}
use Rattle.lock_free.proofs.Leavings.{may_on}
use Rattle.lock_free.proofs.RunningOn.{runs_on_both, runs_on_moved}
use Rattle.lock_free.proofs.StockStays.{stock_moved}

-- a copy reads the root's main node first
read_first : (call : Call) (r : Ref) → copies call ≡ true → from_root call r ≡ line.Copy (copy.Read r (reading r))
read_first (Clear h) r e = refl
read_first (Snapshot h) r e = refl
read_first (Freeze h) r e = refl
read_first call r e = absurd (false≢true e)

-- ---- nothing has happened yet

pub none_tried : (v : View) → IsAtTry v → HasComeTo (λ o. new_try) v v
none_tried v (p, r, is, kind) = record {
  still = still_self v;
  comes = λ o s. (
    o.private,
    o.attempt,
    o.generation,
    subst (λ l. Runs v (record o { line = l })) (ap (λ (z : Operation). z.line) (runs_one v o p s r) ∙ is) s,
  );
}

-- ---- at a try

module _ (u v : View) (at : IsAtTry u) (h : HasComeTo (λ o. new_try) u v) where
  abbrev o : Operation
  o = at.0

  abbrev came : (private : List Ref) × (attempt : ℕ) × (generation : Option ℕ) × Runs v (tried_on private attempt generation new_try o)
  came = h.comes o at.1

  abbrev now_is : Operation
  now_is = tried_on came.0 came.1 came.2 new_try o

  pub at_root : IsAtRoot v
  at_root = (now_is, came.3, refl)

  pub way_still : (way : Way) → IsOnWay u way → IsOnWay v way
  way_still way on q s =
      let same = runs_one v q now_is s came.3 in
      let it = on o at.1 in
      (ap (λ (z : Operation). z.access) same ∙ it.0, ap (λ (z : Operation). handle_of z.call) same ∙ it.1)

  -- it is out of tries
  runs_v : RunsOn u v
  runs_v = record { still = h.still; runs = λ q s. (let y = h.comes q s in (tried_on y.0 y.1 y.2 new_try q, y.3, refl)) }

  may_v : MayLeave (λ call. reply.NoSlots) v
  may_v = may_on (λ call. reply.NoSlots) v new_try (now_is, came.3, refl) (λ call. refl)

  pub anew_left : RunsOn u v × MayLeave (λ call. reply.NoSlots) v
  anew_left = (runs_v, may_v)

  module _ (result : Left) (w : View) (off : HasLeftOff v result w) where
    pub rootless : RunsOn u w × MayLeave (λ call. reply.NoSlots) w
    rootless = (runs_on_both u v w runs_v (runs_on_moved v w off.next off.moved), off.leaves (λ call. reply.NoSlots) may_v)

    pub rootless_stock : (n : ℕ) → IsSound n v → (stock : Stocked) → IsStock stock v → IsStock stock w
    rootless_stock n sound stock is = stock_moved n v w sound now_is came.3 stock is off.next off.moved

  -- the root is read
  module _ (n : ℕ) (sound : IsSound n v) (given : Rooted) (w : View) (r : HasRooted v given w) where
    abbrev root_line : Operation → Line
    root_line q = line.Copy (copy.Read r.root (reading r.root))

    comes_to_read : (q : Operation) → Runs u q → (private : List Ref) × (attempt : ℕ) × Runs w (tried_on private attempt (Some given.generation) (root_line q) q)
    comes_to_read q s =
        let (private, attempt, generation, runs) = h.comes q s in
        let kind = ap (λ (z : Operation). copies z.call) (runs_one u q o s at.1) ∙ at.3 in (
          private,
          attempt,
          subst (λ l. Runs w (tried_on private attempt (Some given.generation) l q)) (read_first q.call r.root kind) (r.comes (tried_on private attempt generation new_try q) runs),
        )

    abbrev reads : (private : List Ref) × (attempt : ℕ) × Runs w (tried_on private attempt (Some given.generation) (root_line o) o)
    reads = comes_to_read o at.1

    abbrev then_is : Operation
    then_is = tried_on reads.0 reads.1 (Some given.generation) (root_line o) o

    pub at_original : IsAtOriginal w given.slot
    at_original = (r.root, (then_is, reads.2, refl), ((r.at.slot, r.at.used), r.at.place))

    still_w : IsStill u w
    still_w = still_both u v w h.still (still_later v w r.later)

    pub way_on : (way : Way) → IsOnWay u way → IsOnWay w way
    way_on way on q s =
        let same = runs_one w q then_is s reads.2 in
        let it = on o at.1 in
        (ap (λ (z : Operation). z.access) same ∙ it.0, ap (λ (z : Operation). handle_of z.call) same ∙ it.1)

    pub copying_on : (k : CopyKind) (handle : ℕ) (opens : Option ℕ) → IsCopying u k handle opens → IsCopying w k handle opens
    copying_on k handle opens c = record {
      reserved = ap (λ (x : View). x.opens) still_w.is ∙ c.reserved;
      low = c.low;
      which = λ q s. ap (λ (z : Operation). copy_kind z.call) (runs_one w q then_is s reads.2) ∙ c.which o at.1;
      on = λ q s.
          (let same = runs_one w q then_is s reads.2 in
          let its = c.on o at.1 in
          (ap (λ (z : Operation). handle_of z.call) same ∙ its.0, ap (λ (z : Operation). z.opens) same ∙ its.1));
    }

    pub stock_on : (stock : Stocked) → IsStock stock v → IsStock stock w
    unfolding comes_to_read
    stock_on stock is = stock_later n v w sound now_is came.3 stock is r.later then_is reads.2 refl

    -- ---- what a try has come to

    module _ (x : View) where
      pub tried_again : (carried : Bool) → HasTried w carried x → HasComeTo (copied_line carried) u x
      tried_again carried t = record {
        still = still_both u w x still_w t.still;
        comes = λ q s.
            (let y = comes_to_read q s in
            ([], y.1 + 1, Some given.generation, t.comes (tried_on y.0 y.1 (Some given.generation) (root_line q) q) y.2));
      }

      pub gave_out : HasStopped w x → HasGivenOut u x
      gave_out t = record {
        still = still_both u w x still_w t.still;
        stops = λ q s.
            (let y = comes_to_read q s in
            let z = t.stops (tried_on y.0 y.1 (Some given.generation) (root_line q) q) y.2 in (z.0, y.1, Some given.generation, z.1, z.2, z.3));
      }

      -- its COMPLETE is under way
      pub copy_left : (k : CopyKind) (handle : ℕ) (opens : Option ℕ) (next : Completing) → LeavesCopy w k handle opens next x → LeavesCopy u k handle opens next x
      copy_left k handle opens next l = record {
        on = runs_on_both u w x
            (record { still = still_w; runs = λ q s. (let y = comes_to_read q s in (tried_on y.0 y.1 (Some given.generation) (root_line q) q, y.2, refl)) }) l.on;
        is = l.is;
        own = l.own;
      }
