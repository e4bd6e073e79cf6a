-- The command that is built is the program's.
use Rattle.std.proofs.Common.{◌≡◌, true, false, codes, ap, ◌∙◌}
use Rattle.std.specs.Prelude.{Result, Ok, Err, IfOk}
use Rattle.clap.specs.Simple.{app_of_fields, on_top}
use Rattle.clap.specs.Words.{AddsSubcommand, App, Text, app_of, new_app, with_subcommand}
use Rattle.clap.specs.declared.builder.command.Command.TheViews.{out-Command as fields_of}
use Rattle.clap.specs.declared.builder.command.Command.{Command}
use Rattle.ctrie_words.specs.Requests.{has_globals, program, wants_file, wants_steps}

-- a subcommand is added to the command
pub added : {E : Type 0} (app : App) (before sub : Command) (made : Result Command E) → app_of sub ≡ app → has_globals sub ≡ false
    → IfOk made (λ after. AddsSubcommand before sub after) → IfOk made (λ after. app_of after ≡ with_subcommand (app_of before) app.top)
added app before sub (Ok after) is local adds = adds.shape local ∙ ap (λ (a : App). with_subcommand (app_of before) a.top) is
added app before sub (Err e) is local adds = tt

-- the command with one subcommand more
abbrev pub HasMore : Command → App → Command → Type 0
HasMore before app after = app_of after ≡ with_subcommand (app_of before) app.top

-- the program's command, from its first form on
pub program_built : {E : Type 0} (p0 p1 p2 p3 p4 p5 p6 : Command) (made : Result Command E) → app_of p0 ≡ new_app (codes "ctrie")
    → fields_of p1 ≡ record (fields_of p0) { subcommand_required = true } → HasMore p1 (wants_file (codes "run")) p2 → HasMore p2 (wants_file (codes "threads")) p3
    → HasMore p3 (wants_file (codes "check")) p4 → HasMore p4 (wants_file (codes "explain")) p5 → HasMore p5 (wants_file (codes "draw")) p6
    → IfOk made (λ p7. HasMore p6 (wants_steps (codes "order")) p7) → IfOk made (λ p7. app_of p7 ≡ program)
unfolding program
program_built p0 p1 p2 p3 p4 p5 p6 (Err e) is wanted run threads check explain draw order = tt
program_built p0 p1 p2 p3 p4 p5 p6 (Ok p7) is wanted run threads check explain draw order =
    let more = λ (sub a : App). with_subcommand a sub.top in
    let file = λ (name : Text). wants_file name in
    let wants : app_of p1 ≡ on_top (λ s. record s { subcommand_required = true }) (new_app (codes "ctrie"))
    = ap app_of_fields wanted ∙ ap (on_top (λ s. record s { subcommand_required = true })) is in
    order ∙ ap (more (wants_steps (codes "order"))) (draw ∙ ap (more (file (codes "draw"))) (explain ∙ ap (more (file (codes "explain")))
    (check ∙ ap (more (file (codes "check"))) (threads ∙ ap (more (file (codes "threads"))) (run ∙ ap (more (file (codes "run"))) wants)))))
