-- The seat and its operation run on: how it is composed, and how each way in which a view goes on gives it.
use Rattle.std.proofs.Common.{◌≡◌, ◌∷◌, [], ℕ, refl, sym, ap, subst, ◌∙◌}
use Rattle.history.specs.declared.replies.Reply.{Reply}
use Rattle.machine_model.specs.Beneath.slot_arena.specs.declared.refs.Ref.{Ref}
use Rattle.machine_model.specs.declared.lines.Line.{Line}
use Rattle.machine_model.specs.declared.lines.Line.TheVariants as line
use Rattle.machine_model.specs.declared.operations.Operation.{Operation}
use Rattle.machine_model.specs.declared.steps.Step.TheVariants as step
use Rattle.machine_model.specs.GivingUp.{gave_up}
use Rattle.lock_free.specs.declared.rooting.Rooted.{Rooted}
use Rattle.lock_free.specs.declared.rules.View.{View}
use Rattle.lock_free.specs.Becoming.{Follows, HasBecome}
use Rattle.lock_free.specs.Beginning.{taking}
use Rattle.lock_free.specs.Calling.{GaveUp, once_given_up}
use Rattle.lock_free.specs.Entries.{HasStayed}
use Rattle.lock_free.specs.GoingDown.{HasMoved}
use Rattle.lock_free.specs.Loading.{seen, Runs, Saw}
use Rattle.lock_free.specs.Passing.{Later}
use Rattle.lock_free.specs.Repairing.{GivesUp, HasEndedBy}
use Rattle.lock_free.specs.Rooting.{HasRooted, rooted}
use Rattle.lock_free.specs.RunningOn.{IsStill, IsSame, RunsOn}
use Rattle.lock_free.specs.Telling.{GoesOn}
use Rattle.lock_free.proofs.Comings.{runs_one, saw_runs}
use Rattle.lock_free.proofs.Followings.{goes_self, goes_both}

-- ---- the seat is still what it was

pub still_self : (v : View) → IsStill v v
still_self v = record { is = refl; goes_on = goes_self v.account.steps }

pub still_both : (u v w : View) → IsStill u v → IsStill v w → IsStill u w
still_both u v w p q = record {
  is = q.is ∙ ap (λ (x : View). record x {
    account = w.account;
    epoch = w.epoch;
    passed = w.passed;
    pool = w.pool;
    drafts = w.drafts;
    opening = w.opening;
    offer = w.offer;
    retired = w.retired;
    owed =
        w.owed;
    links = w.links;
  }) p.is;
  goes_on = goes_both u.account.steps v.account.steps w.account.steps p.goes_on q.goes_on;
}

-- it is what it was, with these in their places
pub still_with : (v w x : View) → w ≡ record v {
  account = x.account;
  epoch = x.epoch;
  passed = x.passed;
  pool = x.pool;
  drafts = x.drafts;
  opening = x.opening;
  offer = x.offer;
  retired = x.retired;
  owed = x.owed;
  links = x.links;
} → GoesOn v.account.steps x.account.steps → IsStill v w
still_with v w x is more = record {
  is = is ∙ ap (λ (z : View). record v {
    account = z.account;
    epoch = z.epoch;
    passed = z.passed;
    pool = z.pool;
    drafts = z.drafts;
    opening = z.opening;
    offer = z.offer;
    retired = z.retired;
    owed = z.owed;
    links =
        z.links;
  })
      (sym is);
  goes_on = subst (λ (z : View). GoesOn v.account.steps z.account.steps) (sym is) more;
}

pub still_follows : (v w : View) → Follows v w → IsStill v w
still_follows v w f = still_with v w (record v {
  account = w.account;
  epoch = w.epoch;
  passed = w.passed;
  pool = w.pool;
  drafts = w.drafts;
  retired = w.retired;
  owed = w.owed;
  links =
      w.links;
}) f.is f.goes_on

pub still_later : (v w : View) → Later v w → IsStill v w
still_later v w l = still_with v w (record v { account = w.account }) l.is l.goes_on

-- ---- its operation runs on

pub same_both : (o p q : Operation) → IsSame o p → IsSame p q → IsSame o q
same_both o p q a b = b ∙ ap (λ (x : Operation). record x { private = q.private; attempt = q.attempt; is_marked = q.is_marked; generation = q.generation; line = q.line }) a

pub runs_on_self : (v : View) → RunsOn v v
runs_on_self v = record { still = still_self v; runs = λ o r. (o, r, refl) }

pub runs_on_both : (u v w : View) → RunsOn u v → RunsOn v w → RunsOn u w
runs_on_both u v w p q = record {
  still = still_both u v w p.still q.still;
  runs = λ o r. (let x = p.runs o r in let y = q.runs x.0 x.1 in (y.0, y.1, same_both o x.0 y.0 x.2 y.2));
}

pub runs_on_become : (v w : View) (next : Operation → Operation) → ((o : Operation) → IsSame o (next o)) → HasBecome next v w → RunsOn v w
runs_on_become v w next same b = record { still = still_follows v w b.follows; runs = λ o r. (next o, b.comes o r, same o) }

pub runs_on_moved : (v w : View) (next : Operation → Line) → HasMoved next v w → RunsOn v w
runs_on_moved v w next m = record { still = still_later v w m.later; runs = λ o r. (record o { line = next o }, m.comes o r, refl) }

pub runs_on_stayed : (v w : View) → HasStayed v w → RunsOn v w
runs_on_stayed v w h = record { still = still_later v w h.later; runs = λ o r. (o, h.comes o r, refl) }

pub runs_on_saw : (v w : View) → Saw v w → RunsOn v w
runs_on_saw v w s = record {
  still = still_with v w (seen v s.account) s.after_is (s.waited.waited.steps, s.waited.waited.goes_on);
  runs = λ o r. (o, saw_runs v w s o r, refl);
}

pub runs_on_ended : (v w : View) (next : Operation → Line) → HasEndedBy next v w → RunsOn v w
runs_on_ended v w next e = record { still = still_follows v w e.follows; runs = λ o r. (let x = e.comes o r in (record o { private = x.0; line = next o }, x.1, refl)) }

pub runs_on_left : (v w : View) (answer : Operation → Reply) → GivesUp answer v w → RunsOn v w
runs_on_left v w answer g = record { still = still_follows v w g.follows; runs = λ o r. (let x = g.runs o r in (record o { private = x.0; line = x.1 }, x.2, refl)) }

pub runs_on_given_up : (v w : View) (operation : Operation) (answer : Reply) → Runs v operation → GaveUp v operation answer w → RunsOn v w
runs_on_given_up v w operation answer at g = record {
  still = still_with v w (once_given_up v g.account operation.private w.drafts) g.after_is
      (goes_both v.account.steps g.account.steps (taking (step.GiveUp v.actor) g.account).steps (g.waited.waited.steps, g.waited.waited.goes_on) (step.GiveUp v.actor ∷ [], refl));
  runs = λ o r. (
    gave_up operation answer,
    g.runs,
    ap (λ (z : Operation). record z { private = []; attempt = operation.attempt; is_marked = operation.is_marked; generation = operation.generation; line = line.End answer })
        (runs_one v operation o at r),
  );
}

-- ---- ROOT

rooted_same : (r : Ref) (generation : ℕ) (o : Operation) (l : Line) → IsSame o (rooted r generation o l)
rooted_same r generation o (line.Root l) = refl
rooted_same r generation o (line.Climb l) = refl
rooted_same r generation o l = refl

pub runs_on_rooted : (v w : View) (given : Rooted) → HasRooted v given w → RunsOn v w
runs_on_rooted v w given h =
    record { still = still_later v w h.later; runs = λ o r. (rooted h.root given.generation o o.line, h.comes o r, rooted_same h.root given.generation o o.line) }
