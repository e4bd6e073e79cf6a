use Rattle.std.proofs.Common.{◌*◌, ◌==◌, refl, sym, subst}
use mathlib.Core.Option.{none}
use prog.Atomic.{either}
use Rattle.atomic_table.specs.Table.{Allows, step}
use Rattle.lock_free.specs.Outcomes.{HasConcluded, has_concluded}
use Rattle.lock_free.specs.Shadows.{IsShadowed}
use Rattle.lock_free.proofs.Concluded.{conclude_allowed, conclude_told}
use Rattle.lock_free.proofs.offers.conclude.Goals as goal

pub compare_exchange-found-requires : goal.compare_exchange-found-requires
compare_exchange-found-requires c =
    let sizes = c.args.words.now.key in
    let slots = c.args.words.now.table_id.slots in
    let id = c.args.actor.now.id in
    let me = c.args.actor.now.me in
    let word = 2 * c.args.offer in (
      c.requires.table,
      c.requires.within,
      subst (λ n. Allows (IsShadowed sizes) slots id me word (λ x. either (x == 0) n x) (has_concluded (step slots word 0 n none) me)) (sym c.outcome_of-outcome.ensures)
          (conclude_allowed sizes slots id me c.requires.sound.bounds.1 c.args.offer c.args.is_expected c.requires.concluding),
    )

pub returns-clause-concluded : goal.returns-clause-concluded
returns-clause-concluded c =
    let before = c.args.actor.now.me.0 in
    let after = c.compare_exchange-found.new.seat.me.0 in
    subst (λ b. HasConcluded before b after) (sym c.is_carried_out.ensures)
    (conclude_told before c.args.offer c.args.is_expected c.requires.concluding c.compare_exchange-found.result after
    (c.compare_exchange-found.ensures.2.0 c.args.offer c.args.is_expected c.requires.concluding refl c.outcome_of-outcome.ensures))
