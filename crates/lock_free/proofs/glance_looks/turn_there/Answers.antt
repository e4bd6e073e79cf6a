use Rattle.std.proofs.Common.{sym, ◌∙◌}
use Rattle.lock_free.specs.declared.finding.Turn.TheVariants as turn
use Rattle.lock_free.specs.GoingDown.{HasTurned, IsAtMain}
use Rattle.lock_free.specs.Loading.{HasLookedAtMain}
use Rattle.lock_free.proofs.OneGlance.Together.{on_as}
use Rattle.lock_free.proofs.OneGlance.Turns.{main_there}
use Rattle.lock_free.proofs.MainLooks.{enters, finds_none}
use Rattle.lock_free.proofs.glance_looks.turn_there.Goals as goal

pub look_at_main-requires-clause-looking : goal.look_at_main-requires-clause-looking
look_at_main-requires-clause-looking c g is known = main_there _ c.args.main c.args.flag (c.requires.at g is known)

pub returns-then-not-has_flag-clause-turned : goal.returns-then-not-has_flag-clause-turned
returns-then-not-has_flag-clause-turned c =
    let n = c.args.words.now.table_id.words in
    let header = c.look_at_main.result in
    on_as n c.args.actor.now.me.0 c.look_at_main.new.actor.me.0 c.requires.glances (λ x y. HasLookedAtMain x header y) c.look_at_main.ensures.read (λ x. IsAtMain x c.args.main c.args.flag)
    (λ x y. HasTurned x turn.Absent y) c.requires.at
    (λ x y s p t looked. finds_none n n x y s t c.args.main c.args.flag p header looked c.in-Branch.bitmap c.in-Branch.is (sym c.has_flag.ensures ∙ c.if-not-has_flag.true))

pub returns-clause-turned : goal.returns-clause-turned
returns-clause-turned c =
    let n = c.args.words.now.table_id.words in
    let header = c.look_at_main.result in
    on_as n c.args.actor.now.me.0 c.look_at_main.new.actor.me.0 c.requires.glances (λ x y. HasLookedAtMain x header y) c.look_at_main.ensures.read (λ x. IsAtMain x c.args.main c.args.flag)
    (λ x y. HasTurned x (turn.Entry c.position_of-position.result) y) c.requires.at
    (λ x y s p t looked.
    enters n n x y s t c.args.main c.args.flag p header looked c.in-Branch.bitmap c.in-Branch.is c.position_of-position.result c.position_of-position.ensures.position
    (sym c.has_flag.ensures ∙ c.if-not-has_flag.false))
