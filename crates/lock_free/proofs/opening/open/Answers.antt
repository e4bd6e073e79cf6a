use Rattle.std.proofs.Common.{sym, ap, subst, ◌∙◌, List, ℕ, [], length}
use Rattle.history.specs.declared.calls.Call.{Call}
use Rattle.atomic_table.specs.Table.{opening}
use Rattle.lock_free.specs.Loading.{IsSound}
use Rattle.lock_free.specs.FirstViews.{first_view}
use Rattle.lock_free.specs.Shadows.{IsShadowed}
use Rattle.lock_free.proofs.OneGlance.Opened.{opens_shadowed}
use Rattle.lock_free.proofs.Opens.{first_sound, size_is}
use Rattle.lock_free.proofs.opening.open.Goals as goal

pub of_words-requires : goal.of_words-requires
of_words-requires c =
    let ok = c.are_in_range.ensures.0 c.if-not-are_in_range.false in
    subst (λ (ws : List ℕ). IsShadowed c.args.sizes (opening {S = Call} ws [] (first_view c.args.sizes))) (sym (c.as_slice.ensures.value ∙ c.in-Ok.ensures)) (opens_shadowed c.args.sizes ok)

pub returns-in-Ok-of_words-clause-sound : goal.returns-in-Ok-of_words-clause-sound
returns-in-Ok-of_words-clause-sound c =
    let ok = c.are_in_range.ensures.0 c.if-not-are_in_range.false in
    let made = c.in-Ok-of_words.ensures in
    let size = made.0 ∙ ap (λ (ws : List ℕ). length ws) (c.as_slice.ensures.value ∙ c.in-Ok.ensures) ∙ size_is c.args.sizes in
    subst (λ v. IsSound c.in-Ok-of_words.made.0.shared.table_id.words v) (sym (ap (λ me. me.0) made.4)) (first_sound c.args.sizes ok c.in-Ok-of_words.made.0.shared.table_id.words size)
