use Rattle.std.proofs.Common.{◌-◌, get_or, inl, inr, refl, sym, ap, subst, ◌∙◌, arith}
use Rattle.std.proofs.lemmas.Bool.{cases_lt, lt-ltb, le-ltb}
use Rattle.lock_free.specs.Climbs.{HasClimbed, HasClimbedUp}
use Rattle.lock_free.proofs.ClimbsUp.{ClimbsSoFar, climb_left, climb_spent, climbs_first, over_ready, at_root, climbs_higher, climbs_again, climbs_ended, climbs_full}
use Rattle.lock_free.proofs.climbs.climb_within.Goals.{in-Higher, in-Again}
use Rattle.lock_free.proofs.climbs.climb_within.Goals as goal

pub loop-init : goal.loop-init
loop-init c = (
  refl,
  c.requires.stock,
  subst (λ k. ClimbsSoFar c.args.words.now.table_id.words c.args.way c.args.start c.args.actor.now.me.0 c.args.actor.now.me.0 c.args.path.now.items c.args.hash c.args.single k c.args.single)
      (sym c.len-length.ensures.value)
      (climbs_first c.args.words.now.table_id.words c.args.way c.args.start c.args.actor.now.me.0 c.requires.way c.requires.start c.args.path.now.items c.args.hash c.args.single c.requires.sound),
)

pub returns-then-length-lt2-clause-climbed : goal.returns-then-length-lt2-clause-climbed
returns-then-length-lt2-clause-climbed c =
    at_root c.args.words.now.table_id.words c.args.way c.args.start c.args.actor.now.me.0 c.requires.way c.requires.start c.args.path.now.items c.args.hash c.args.single
    c.loop.actor.me.0 c.loop.length c.loop.single c.loop.invariant.2 c.requires.at c.if-length-lt2.true

pub climb_over_within-requires-clause-at : goal.climb_over_within-requires-clause-at
climb_over_within-requires-clause-at c =
    over_ready c.args.words.now.table_id.words c.args.way c.args.start c.args.actor.now.me.0 c.requires.way c.requires.start c.args.path.now.items c.args.hash c.args.single
    c.loop.actor.me.0 c.loop.length c.loop.single c.loop.invariant.2 c.requires.at (let b = c.if-length-lt2.false in omega (arith, b)) _ _ _
    (ap (λ xs. get_or xs (c.loop.length - 2) 0) c.deref.ensures.0) (ap (λ xs. get_or xs (c.loop.length - 1) 0) c.deref-in-loop.ensures.0) c.flag_of-flag.ensures.flag _ refl

pub loop-preserved : goal.loop-preserved
loop-preserved c = (
  c.climb_over_within.ensures.table ∙ c.loop.invariant.0,
  c.climb_over_within.ensures.stock,
  elim c.match-climbed.branch [
    | in-Higher w ↦
        subst (λ k. ClimbsSoFar c.args.words.now.table_id.words c.args.way c.args.start c.args.actor.now.me.0 c.climb_over_within.new.actor.me.0 c.args.path.now.items c.args.hash c.args.single k
        c.match-climbed.single) (sym w.length-is)
        (subst (λ e. ClimbsSoFar c.args.words.now.table_id.words c.args.way c.args.start c.args.actor.now.me.0 c.climb_over_within.new.actor.me.0 c.args.path.now.items c.args.hash c.args.single
        (c.loop.length - 1) e) (sym w.single-is)
        (climbs_higher c.args.words.now.table_id.words c.args.way c.args.start c.args.actor.now.me.0 c.requires.way c.requires.start c.args.path.now.items c.args.hash c.args.single
        c.loop.actor.me.0 c.loop.length c.loop.single c.loop.invariant.2 c.requires.at (let b = c.if-length-lt2.false in omega (arith, b)) c.climb_over_within.new.actor.me.0
        c.climb_over_within.ensures.sound
        w.in-Higher.above (subst (λ r. HasClimbed c.loop.actor.me.0 r c.climb_over_within.new.actor.me.0) w.in-Higher.is (c.in-Ok.ensures {u = tt}).climbed) (c.loop.length - 1) (let b =
        c.if-length-lt2.false in omega (arith, b))))
    | in-Again w ↦
        subst (λ k. ClimbsSoFar c.args.words.now.table_id.words c.args.way c.args.start c.args.actor.now.me.0 c.climb_over_within.new.actor.me.0 c.args.path.now.items c.args.hash c.args.single k
        c.match-climbed.single) (sym w.length-is)
        (subst (λ e. ClimbsSoFar c.args.words.now.table_id.words c.args.way c.args.start c.args.actor.now.me.0 c.climb_over_within.new.actor.me.0 c.args.path.now.items c.args.hash c.args.single
        c.loop.length e) (sym w.single-is)
        (climbs_again c.args.words.now.table_id.words c.args.way c.args.start c.args.actor.now.me.0 c.requires.way c.requires.start c.args.path.now.items c.args.hash c.args.single
        c.loop.actor.me.0 c.loop.length c.loop.single c.loop.invariant.2 c.requires.at (let b = c.if-length-lt2.false in omega (arith, b)) c.climb_over_within.new.actor.me.0
        c.climb_over_within.ensures.sound
        (subst (λ r. HasClimbed c.loop.actor.me.0 r c.climb_over_within.new.actor.me.0) w.in-Again.is (c.in-Ok.ensures {u = tt}).climbed)))
  ],
)

pub returns-in-Ends-clause-climbed : goal.returns-in-Ends-clause-climbed
returns-in-Ends-clause-climbed c =
    climbs_ended c.args.words.now.table_id.words c.args.way c.args.start c.args.actor.now.me.0 c.requires.way c.requires.start c.args.path.now.items c.args.hash c.args.single
    c.loop.actor.me.0 c.loop.length c.loop.single c.loop.invariant.2 c.requires.at (let b = c.if-length-lt2.false in omega (arith, b)) c.climb_over_within.new.actor.me.0
    c.climb_over_within.ensures.sound
    (subst (λ r. HasClimbed c.loop.actor.me.0 r c.climb_over_within.new.actor.me.0) c.in-Ends.is (c.in-Ok.ensures {u = tt}).climbed)

pub returns-in-Full-clause-climbed : goal.returns-in-Full-clause-climbed
returns-in-Full-clause-climbed c =
    climbs_full c.args.words.now.table_id.words c.args.way c.args.start c.args.actor.now.me.0 c.requires.way c.requires.start c.args.path.now.items c.args.hash c.args.single
    c.loop.actor.me.0 c.loop.length c.loop.single c.loop.invariant.2 c.requires.at (let b = c.if-length-lt2.false in omega (arith, b)) c.climb_over_within.new.actor.me.0
    c.climb_over_within.ensures.sound
    (subst (λ r. HasClimbed c.loop.actor.me.0 r c.climb_over_within.new.actor.me.0) c.in-Full.is (c.in-Ok.ensures {u = tt}).climbed)

pub returns-in-Err-clause-table : goal.returns-in-Err-clause-table
returns-in-Err-clause-table c = c.climb_over_within.ensures.table ∙ c.loop.invariant.0

pub returns-in-Err-clause-left : goal.returns-in-Err-clause-left
returns-in-Err-clause-left c =
    climb_left c.args.words.now.table_id.words c.args.way c.args.start c.args.actor.now.me.0 c.requires.way c.requires.start c.args.path.now.items c.args.hash c.args.single
    c.loop.actor.me.0 c.loop.length c.loop.single c.loop.invariant.2 c.requires.at (let b = c.if-length-lt2.false in omega (arith, b)) c.climb_over_within.new.actor.me.0
    c.climb_over_within.ensures.sound c.in-Err.swapping
    (c.in-Err.ensures {u = tt}).left

pub returns-clause-table : goal.returns-clause-table
returns-clause-table c = c.loop.invariant.0

pub returns-clause-sound : goal.returns-clause-sound
returns-clause-sound c = c.loop.invariant.2.sound

pub returns-clause-stock : goal.returns-clause-stock
returns-clause-stock c = c.loop.invariant.1

pub returns-clause-climbed : goal.returns-clause-climbed
returns-clause-climbed c =
    elim (cases_lt c.loop.length 2) [
      | inl low ↦
          subst (λ b. HasClimbedUp c.args.actor.now.me.0 b c.loop.actor.me.0) (sym (lt-ltb c.loop.length 2 low)) (at_root c.args.words.now.table_id.words c.args.way c.args.start
          c.args.actor.now.me.0 c.requires.way c.requires.start c.args.path.now.items c.args.hash c.args.single
          c.loop.actor.me.0 c.loop.length c.loop.single c.loop.invariant.2 c.requires.at low)
      | inr more ↦
          subst (λ b. HasClimbedUp c.args.actor.now.me.0 b c.loop.actor.me.0) (sym (le-ltb c.loop.length 2 more)) (climb_spent c.args.words.now.table_id.words c.args.way c.args.start
          c.args.actor.now.me.0 c.requires.way c.requires.start c.args.path.now.items c.args.hash c.args.single
          c.loop.actor.me.0 c.loop.length c.loop.single c.loop.invariant.2 c.requires.at more)
    ]
