-- CLIMB as a whole.
use Rattle.std.proofs.Common.{◌≡◌, ◌<◌, ◌≤◌, ◌-◌, ◌+◌, ℕ, suc, zero, Bool, true, false, List, [], ◌∷◌, length, get_or, take, nat_lt, None, Option, Some, refl, sym, ap, ap₂, subst, ◌∙◌}
use Rattle.std.proofs.Common.{arith, if◌then◌else◌}
use Rattle.std.proofs.Math.Seq.{take-length}
use Rattle.std.proofs.lemmas.Bool.{lt-ltb, le-ltb, ltb-true, ltb-false}
use Rattle.std.proofs.lemmas.Option.{none-some, same_Some}
use Rattle.std.proofs.lemmas.List.{get_or-take, length-take-le}
use Rattle.history.specs.declared.calls.Call.{Call}
use Rattle.history.specs.declared.replies.Reply.{Reply}
use Rattle.trie_words.specs.declared.entries.Entry.{Entry}
use Rattle.machine_model.specs.Beneath.ctrie_base.specs.Hashes.{hash_of}
use Rattle.machine_model.specs.Beneath.slot_arena.specs.declared.refs.Ref.{Ref}
use Rattle.machine_model.specs.Beneath.slot_arena.specs.declared.nodes.Slot.{Slot}
use Rattle.machine_model.specs.Beneath.slot_arena.specs.Heaps.{no_ref}
use Rattle.machine_model.specs.declared.lines.Line.{Line}
use Rattle.machine_model.specs.declared.lines.Line.TheVariants as line
use Rattle.machine_model.specs.declared.operations.Operation.{Operation}
use Rattle.machine_model.specs.declared.repairs.Climb.{Climb}
use Rattle.machine_model.specs.declared.repairs.ClimbLine.TheVariants as climb
use Rattle.machine_model.specs.Calls.{changed_reply, handle_of, key_of}
use Rattle.machine_model.specs.Climbing.{climbed, climbing, higher}
use Rattle.machine_model.specs.Paths.{above, current, depth_of, is_below_root}
use Rattle.nodes.specs.Levels.{flag_of}
use Rattle.lock_free.specs.declared.climbing.Climbed.TheVariants as outcome
use Rattle.lock_free.specs.declared.reading.Way.{Way}
use Rattle.lock_free.specs.declared.rules.View.{View}
use Rattle.lock_free.specs.Climbs.{KnowsClimb, at_parent, IsAtParent, HasClimbed, IsClimbing, AnsweredOrNot, HasClimbedUp}
use Rattle.lock_free.specs.Holding.{IsOn}
use Rattle.lock_free.specs.Loading.{Runs, IsUsed, IsSound}
use Rattle.lock_free.specs.Passing.{IsPlaced, IsOnWay}
use Rattle.lock_free.specs.Repairing.{GivesUp, HasEndedBy, HasStart}
use Rattle.lock_free.specs.SeenEntries.{entry_to, unowned}
use Rattle.lock_free.proofs.Comings.{runs_one}
use Rattle.lock_free.proofs.Descents.{as_long}
use Rattle.lock_free.proofs.EntriesTo.{entry_to_on}
use Rattle.lock_free.proofs.Followings.{follows_self, follows_both, placed_on, used_on}
use Rattle.lock_free.proofs.LevelPassed.{at_index}
use Rattle.lock_free.specs.declared.leaving.Swapping.{Swapping}
use Rattle.lock_free.specs.Climbs.{HasLeftClimb, HasLeftParent}
use Rattle.lock_free.specs.Leaving.{IsClimbAfter, LeavesSwap}
use Rattle.machine_model.specs.GivingUp.{given_up}
use Rattle.lock_free.proofs.RunningOn.{runs_on_ended}
use Rattle.lock_free.proofs.SwapsBegun.{leaves_swap_on}

-- ---- lists

take_again : (xs : List Ref) (n : ℕ) → take n (take (suc n) xs) ≡ take n xs
take_again [] zero = refl
take_again [] (suc n) = refl
take_again (x ∷ xs) zero = refl
take_again (x ∷ xs) (suc n) = ap (λ ys. x ∷ ys) (take_again xs n)

-- ---- an operation that has ended there

module _ (u v : View) (f : Operation → Line) (e : HasEndedBy f u v) (o : Operation) (runs : Runs u o) where
  then_runs : (private : List Ref) × Runs v (record o { private = private; line = f o })
  then_runs = e.comes o runs

  one_then : (q : Operation) → Runs v q → record q { is_marked = false } ≡ record o { private = then_runs.0; line = f o; is_marked = false }
  one_then q runs_q = runs_one v q (record o { private = then_runs.0; line = f o }) runs_q then_runs.1

  pub way_ended : (way : Way) → IsOnWay u way → IsOnWay v way
  way_ended way on q runs_q =
      let same = one_then q runs_q in
      let it = on o runs in
      (ap (λ (z : Operation). z.access) same ∙ it.0, ap (λ (z : Operation). handle_of z.call) same ∙ it.1)

  pub start_ended : (start : ℕ) → HasStart u start → HasStart v start
  start_ended start begun q runs_q = ap (λ (z : Operation). z.generation) (one_then q runs_q) ∙ begun o runs

  call_ended : (q : Operation) → Runs v q → q.call ≡ o.call
  call_ended q runs_q = ap (λ (z : Operation). z.call) (one_then q runs_q)

ended_both : (u v w : View) (f g : Operation → Line) → ((o : Operation) (p : List Ref) (l : Line) → g (record o { private = p; line = l }) ≡ g o) → HasEndedBy f u v → HasEndedBy g v w
    → HasEndedBy g u w
ended_both u v w f g same a b = record {
  follows = follows_both u v w a.follows b.follows;
  comes = λ o runs.
      (let x = a.comes o runs in
      let y = b.comes (record o { private = x.0; line = f o }) x.1 in
      (y.0, subst (λ l. Runs w (record o { private = y.0; line = l })) (same o x.0 (f o)) y.1));
}

-- ---- whichever climb it is, what it answers is the same

abbrev shown : Bool → Climb → Operation → Line
shown b c o = if b then at_parent c else climbed o c.former

reply_in : Line → Option Reply
reply_in (line.End r) = Some r
reply_in l = None

former_in : Line → Option (Option ℕ)
former_in (line.Climb (climb.Read c r)) = Some c.former
former_in l = None

same_reply : (o : Operation) (a b : Bool) (c d : Climb) → shown a c o ≡ shown b d o → changed_reply o.call c.former ≡ changed_reply o.call d.former
unfolding reply_in former_in
same_reply o true true c d e = ap (changed_reply o.call) (same_Some c.former d.former (ap former_in e))
same_reply o false false c d e = same_Some (changed_reply o.call c.former) (changed_reply o.call d.former) (ap reply_in e)
same_reply o true false c d e = absurd (none-some (changed_reply o.call d.former) (ap reply_in e))
same_reply o false true c d e = absurd (none-some (changed_reply o.call c.former) (sym (ap reply_in e)))

-- ---- so far

-- it has come so far up
pub record Goes (v0 v : View) (c0 : Climb) (n : ℕ) (single : Entry) : Type 0 where
  pub c : Climb
  pub path_is : c.path ≡ take n c0.path
  pub former_is : c.former ≡ c0.former
  pub ended : HasEndedBy (λ o. climbing o c) v0 v
  pub names : unowned single ≡ entry_to v c.single
  pub used : (slot : Slot) × IsUsed v c.single slot
  pub alone : single.is_single ≡ true

pub record ClimbsSoFar (words : ℕ) (way : Way) (start : ℕ) (v0 v : View) (path : List ℕ) (hash : ℕ) (first : Entry) (n : ℕ) (single : Entry) : Type 0 where
  pub sound : IsSound words v
  pub on : IsOnWay v way
  pub begun : HasStart v start
  pub short : n ≤ length path
  pub going : (at : IsClimbing v0 path hash first) → Goes v0 v at.climb n single

module _ (words : ℕ) (way : Way) (start : ℕ) (v0 : View) (on0 : IsOnWay v0 way) (begun0 : HasStart v0 start) (path : List ℕ) (hash : ℕ) (first : Entry) where
  module _ (at : IsClimbing v0 path hash first) where
    abbrev c0 : Climb
    c0 = at.climb

    -- each operation that runs is there
    all_on : (o : Operation) → Runs v0 o → o.line ≡ climbing o c0
    all_on o runs =
        let same = runs_one v0 at.operation o at.runs runs in
        subst (λ (z : Operation). z.line ≡ climbing z c0) same at.on

    whole : take (length path) c0.path ≡ c0.path
    whole = ap (λ k. take k c0.path) (sym (as_long v0 c0.path path at.places)) ∙ take-length c0.path

    none_yet : Goes v0 v0 c0 (length path) first
    none_yet = record {
      c = c0;
      path_is = sym whole;
      former_is = refl;
      ended = record { follows = follows_self v0; comes = λ o runs. (o.private, subst (λ l. Runs v0 (record o { line = l })) (all_on o runs) runs) };
      names = at.names;
      used = at.used;
      alone = at.alone;
    }

    answered : (w : View) (result : Bool) → AnsweredOrNot v0 c0 result w → HasClimbedUp v0 result w
    answered w true h c on = record {
      follows = h.follows;
      comes = λ o runs.
          (let x = h.comes o runs in
          (x.0, subst (λ r. Runs w (record o { private = x.0; line = line.End r })) (same_reply o (is_below_root c0.path) (is_below_root c.path) c0 c (sym (all_on o runs) ∙ on o runs)) x.1));
    }
    answered w false h c on = record {
      follows = h.follows;
      runs = λ o runs.
          (let x = h.runs o runs in
          (x.0, x.1, x.2, x.3 ∙ ap Some (same_reply o (is_below_root c0.path) (is_below_root c.path) c0 c (sym (all_on o runs) ∙ on o runs))));
    }

  pub climbs_first : IsSound words v0 → ClimbsSoFar words way start v0 v0 path hash first (length path) first
  climbs_first sound = record { sound = sound; on = on0; begun = begun0; short = omega arith; going = none_yet }

  -- ---- one more

  module _ (v : View) (n : ℕ) (single : Entry) (s : ClimbsSoFar words way start v0 v path hash first n single) where
    module _ (at : IsClimbing v0 path hash first) where
      it : Goes v0 v at.climb n single
      it = s.going at

      long0 : length at.climb.path ≡ length path
      long0 = as_long v0 at.climb.path path at.places

      its_length : length it.c.path ≡ n
      its_length = ap length it.path_is ∙ length-take-le n at.climb.path (let l = long0 in let h = s.short in omega (arith, l, h))

      its_run : (private : List Ref) × Runs v (record at.operation { private = private; line = climbing at.operation it.c })
      its_run = it.ended.comes at.operation at.runs

      module _ (more : 2 ≤ n) where
        below : is_below_root it.c.path ≡ true
        below = ap (nat_lt 1) its_length ∙ lt-ltb 1 n (omega (arith, more))

        at_there : IsOn v (at_parent it.c)
        at_there = (
          record at.operation { private = its_run.0; line = climbing at.operation it.c },
          its_run.1,
          ap (λ b. if b then at_parent it.c else climbed at.operation it.c.former) below,
        )

        above_long : length (above it.c.path) ≡ n - 1
        above_long = length-take-le (length it.c.path - 1) it.c.path (omega arith) ∙ ap (λ m. m - 1) its_length

        in_path : (k : ℕ) → k < n → get_or it.c.path k no_ref ≡ get_or at.climb.path k no_ref
        in_path k low = ap (λ xs. get_or xs k no_ref) it.path_is ∙ get_or-take n at.climb.path k no_ref low

        tombed_is : current it.c.path ≡ get_or at.climb.path (n - 1) no_ref
        tombed_is = ap (λ m. get_or it.c.path (m - 1) no_ref) its_length ∙ in_path (n - 1) (omega (arith, more))

        parent_is : current (above it.c.path) ≡ get_or at.climb.path (n - 2) no_ref
        parent_is =
            ap (λ m. get_or (above it.c.path) (m - 1) no_ref) above_long
            ∙ get_or-take (length it.c.path - 1) it.c.path (n - 1 - 1) no_ref (let l = its_length in omega (arith, l, more))
            ∙ ap (λ m. get_or it.c.path m no_ref) (omega (arith, more)) ∙ in_path (n - 2) (omega (arith, more))

        placed : (k : ℕ) → k < length path → IsPlaced v (get_or at.climb.path k no_ref) (get_or path k 0)
        placed k low = placed_on v0 v it.ended.follows (get_or at.climb.path k no_ref) (get_or path k 0) (at_index v0 at.climb.path path at.places k low)

        deep : depth_of (above it.c.path) ≡ n - 2
        deep = ap (λ m. m - 1) above_long ∙ omega (arith, more)

        sizes_same : v.sizes ≡ v0.sizes
        sizes_same = ap (λ (x : View). x.sizes) it.ended.follows.is

        below_by : is_below_root (above it.c.path) ≡ nat_lt 2 n
        below_by = ap (nat_lt 1) above_long ∙ by_size (nat_lt 2 n) refl
          where
            by_size : (b : Bool) → nat_lt 2 n ≡ b → nat_lt 1 (n - 1) ≡ nat_lt 2 n
            by_size true e = lt-ltb 1 (n - 1) (let l = ltb-true 2 n e in omega (arith, l)) ∙ sym e
            by_size false e = le-ltb 1 (n - 1) (let l = ltb-false 2 n e in omega (arith, l)) ∙ sym e

        knows : (parent tombed flag : ℕ) → parent ≡ get_or path (n - 2) 0 → tombed ≡ get_or path (n - 1) 0 → flag ≡ flag_of hash (n - 2) → (deep_more : Bool) → deep_more ≡ nat_lt 2 n →
            KnowsClimb v it.c parent tombed flag single deep_more
        knows parent tombed flag parent_so tombed_so flag_so deep_more deeper = record {
          parent_at = subst (IsPlaced v (current (above it.c.path))) (sym parent_so) (subst (λ r. IsPlaced v r (get_or path (n - 2) 0)) (sym parent_is) (placed (n - 2) (let h = s.short
              in omega (arith, h, more))));
          tombed_at = subst (IsPlaced v (current it.c.path)) (sym tombed_so) (subst (λ r. IsPlaced v r (get_or path (n - 1) 0)) (sym tombed_is) (placed (n - 1) (let h = s.short in
              omega (arith, h, more))));
          names = it.names;
          used = it.used;
          alone = it.alone;
          flag_is = λ q runs.
              flag_so ∙ ap₂ flag_of at.hash_is (sym deep)
              ∙ ap₂ (λ h (call : Call). flag_of (hash_of h (key_of call)) (depth_of (above it.c.path))) (ap (λ z. z.hash) (sym sizes_same))
              (sym (call_ended v0 v (λ o. climbing o it.c) it.ended at.operation at.runs q runs));
          below_is = below_by ∙ sym deeper;
        }

        pub over_ready : (parent tombed flag : ℕ) → parent ≡ get_or path (n - 2) 0 → tombed ≡ get_or path (n - 1) 0 → flag ≡ flag_of hash (n - 2) → (deep_more : Bool) → deep_more ≡ nat_lt 2 n →
            IsAtParent v parent tombed flag single deep_more
        over_ready parent tombed flag parent_so tombed_so flag_so deep_more deeper = (it.c, at_there, knows parent tombed flag parent_so tombed_so flag_so deep_more deeper)

    -- ---- it is at the root

    pub at_root : (at : IsClimbing v0 path hash first) → n < 2 → HasClimbedUp v0 true v
    at_root at low c on =
        let x = it at in
        let not_below : is_below_root x.c.path ≡ false = ap (nat_lt 1) (its_length at) ∙ le-ltb 1 n (omega (arith, low)) in
        answered at v true (subst (λ f. HasEndedBy (λ o. climbed o f) v0 v) x.former_is (record {
          follows = x.ended.follows;
          comes = λ o runs.
              (let y = x.ended.comes o runs in
              (y.0, subst (λ b. Runs v (record o { private = y.0; line = shown b x.c o })) not_below y.1));
        })) c on

    -- ---- what came of it

    module _ (at : IsClimbing v0 path hash first) (more : 2 ≤ n) (w : View) (sound : IsSound words w) where
      climbs_by : (m : ℕ) (e : Entry) → m ≤ length path → ((other : IsClimbing v0 path hash first) → Goes v0 w other.climb m e) → ClimbsSoFar words way start v0 w path hash first m e
      climbs_by m e short going = record {
        sound = sound;
        on = way_ended v0 w (λ o. climbing o (going at).c) (going at).ended at.operation at.runs way on0;
        begun = start_ended v0 w (λ o. climbing o (going at).c) (going at).ended at.operation at.runs start begun0;
        short = short;
        going = going;
      }

      pub climbs_higher : (e : Entry) → HasClimbed v (outcome.Higher e) w → (m : ℕ) → m + 1 ≡ n → ClimbsSoFar words way start v0 w path hash first m e
      climbs_higher e h m is =
          climbs_by m e (let k = s.short in omega (arith, k, is))
          (λ other.
          (let x = it other in
          let up = h x.c (at_there other more) in
          record {
            c = higher x.c up.one;
            path_is = ap₂ (λ j p. take (j - 1) p) (its_length other) x.path_is ∙ ap (λ j. take (j - 1) (take j other.climb.path)) (sym is ∙ suc_is m)
                ∙ ap (λ j. take j (take (suc m) other.climb.path)) (less_is m) ∙ take_again other.climb.path m;
            former_is = x.former_is;
            ended = ended_both v0 v w (λ o. climbing o x.c) (λ o. climbing o (higher x.c up.one)) (λ o p l. refl) x.ended up.ended;
            names = up.names;
            used = up.used;
            alone = up.alone;
          }))
        where
          suc_is : (j : ℕ) → j + 1 ≡ suc j
          suc_is j = omega arith

          less_is : (j : ℕ) → suc j - 1 ≡ j
          less_is j = omega arith

      pub climbs_again : HasClimbed v outcome.Again w → ClimbsSoFar words way start v0 w path hash first n single
      climbs_again h =
          climbs_by n single s.short
          (λ other.
          (let x = it other in
          let up = h x.c (at_there other more) in
          record {
            c = x.c;
            path_is = x.path_is;
            former_is = x.former_is;
            ended = ended_both v0 v w (λ o. climbing o x.c) (λ o. climbing o x.c) (λ o p l. refl) x.ended up;
            names = x.names ∙ sym (entry_to_on v w up.follows x.c.single x.used);
            used = used_on v w up.follows x.c.single x.used;
            alone = x.alone;
          }))

      pub climbs_ended : HasClimbed v outcome.Ends w → HasClimbedUp v0 true w
      climbs_ended h c on =
          let x = it at in
          answered at w true
          (subst (λ f. HasEndedBy (λ o. climbed o f) v0 w) x.former_is
          (ended_both v0 v w (λ o. climbing o x.c) (λ o. climbed o x.c.former) (λ o p l. refl) x.ended (h x.c (at_there at more)))) c on

      pub climbs_full : HasClimbed v outcome.Full w → HasClimbedUp v0 false w
      climbs_full h c on =
          let x = it at in
          let up = h x.c (at_there at more) in
          let first_up : GivesUp (λ o. changed_reply o.call x.c.former) v0 w = record {
            follows = follows_both v0 v w x.ended.follows up.follows;
            runs = λ o runs.
                (let y = x.ended.comes o runs in
                let z = up.runs (record o { private = y.0; line = climbing o x.c }) y.1 in
                (z.0, z.1, z.2, z.3));
          } in
          answered at w false (subst (λ f. GivesUp (λ o. changed_reply o.call f) v0 w) x.former_is first_up) c on

      -- its SWAP is under way
      pub climb_left : (s2 : Swapping) → HasLeftParent v s2 w → HasLeftClimb v0 path hash first s2 w
      climb_left s2 h other =
          let x = it other in
          subst (λ f. LeavesSwap (IsClimbAfter f) v0 s2 w) x.former_is
          (leaves_swap_on (IsClimbAfter x.c.former) v0 v w s2 (runs_on_ended v0 v (λ o. climbing o x.c) x.ended) (h x.c (at_there other more)))

    -- ---- it is out of tries

    pub climb_spent : (at : IsClimbing v0 path hash first) → 2 ≤ n → HasClimbedUp v0 false v
    climb_spent at more c on =
        let x = it at in
        answered at v false (subst (λ f. GivesUp (λ o. changed_reply o.call f) v0 v) x.former_is (record {
          follows = x.ended.follows;
          runs = λ o runs. (let y = x.ended.comes o runs in (y.0, climbing o x.c, y.1, ap (λ b. given_up o.call (shown b x.c o)) (below at more)));
        })) c on
