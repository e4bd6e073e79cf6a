-- A run: a put commits over the root's main node while an offer stands whose new root has that node.
use Rattle.std.specs.Prelude.{◌≡◌, List, ◌∷◌, ◌++◌, [], Some, None}
use Rattle.proof_owned.specs.Beneath.history.specs.declared.calls.Call.TheVariants as call
use Rattle.proof_owned.specs.Beneath.slot_arena.specs.Refs.{ref_to}
use Rattle.proof_owned.specs.Beneath.slot_arena.specs.Heaps.{main_at, logical_main}
use Rattle.proof_owned.specs.Beneath.machine_model.specs.declared.roots.RootWord.TheVariants.{Plain, Offer}
use Rattle.proof_owned.specs.Beneath.machine_model.specs.declared.steps.Step.{Step}
use Rattle.proof_owned.specs.Beneath.machine_model.specs.declared.steps.Step.TheVariants as step
use Rattle.proof_owned.specs.Beneath.machine_model.specs.States.{word_at}
use Rattle.proof_owned.specs.Beneath.machine_model.specs.Machine.{run}
use Rattle.proof_owned.specs.Beneath.machine_model.specs.Runs.{sized, taking}

abbrev pub window : List Step
window = taking 2 (call.Freeze 0) 4 ++ taking 1 (call.Put 0 1 10) 9 ++ step.Go 2 ∷ step.Go 1 ∷ []

abbrev pub OfferNamesReplaced : Type 0
OfferNamesReplaced =
    (word_at (run (sized 64 2) window) 0 ≡ Offer (record { operation = 0; attempt = 1; root = ref_to 2 1; expected = ref_to 1 0; successor = ref_to 3 2; second = None; opens = Some 1 }))
    × (main_at (run (sized 64 2) window).heap (ref_to 3 2) ≡ ref_to 1 0) × (logical_main (run (sized 64 2) window).heap (ref_to 2 1) ≡ ref_to 5 4)

-- A freeze alone: the roots of both handles have one main node, which is the older one's own.
abbrev pub TwoRootsShare : Type 0
TwoRootsShare =
    (word_at (run (sized 64 2) (taking 2 (call.Freeze 0) 9)) 0 ≡ Plain (ref_to 3 2)) × (word_at (run (sized 64 2) (taking 2 (call.Freeze 0) 9)) 1 ≡ Plain (ref_to 2 1))
    × (main_at (run (sized 64 2) (taking 2 (call.Freeze 0) 9)).heap (ref_to 3 2) ≡ ref_to 1 0) × (main_at (run (sized 64 2) (taking 2 (call.Freeze 0) 9)).heap (ref_to 2 1) ≡ ref_to 1 0)
