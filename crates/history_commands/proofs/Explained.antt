-- What a reason, or a scene that tells one, says of the verdict.
use Rattle.std.proofs.Common.{◌≡◌, ◌↔◌, ℕ, Bool, true, false, IsNone, List, Option, Some, None, refl, sym}
use Rattle.std.specs.Prelude.{IsTrue, is_none, is_some, not}
use Rattle.std.proofs.lemmas.Bool.{true≢false}
use Rattle.ctrie_base.specs.Hashes.{hash_of}
use Rattle.history.specs.declared.faults.OrderFault.{OrderFault}
use Rattle.history.proofs.Legal.{not_legal}
use Rattle.history_scene.specs.declared.scenes.Scene.{Scene}
use Rattle.history_scene.proofs.Each.{told_unless_legal}
use Rattle.history_commands.specs.Verdicts.{IsVerdict}
use Rattle.history_commands.specs.Explanations.{IsReason}
use Rattle.history_commands.specs.Pictures.{IsSceneOf}

-- the answer of a test for none
pub none_told : {A : Type 0} (option : Option A) (told : Bool) → is_some option ≡ not told → told ≡ is_none option
none_told None true same = refl
none_told None false same = absurd (true≢false (sym same))
none_told (Some x) true same = absurd (true≢false same)
none_told (Some x) false same = refl

-- two ways to say that there is none
told_none : {A : Type 0} (option : Option A) (P : Type 0) → IsNone option ↔ P → IsTrue (is_none option) ↔ P
told_none None P same = (λ none. same.0 refl, λ holds. refl)
told_none (Some x) P same = (λ none. absurd (true≢false (sym none)), λ holds. absurd (true≢false (same.1 holds)))

pub verdict_by_reason : (text : List ℕ) (reason : Option OrderFault) → IsReason text reason → IsVerdict text (is_none reason)
verdict_by_reason text None (reading, read, legal) = (reading, read, (λ none. legal, λ is. refl))
verdict_by_reason text (Some reason) (reading, read, first) =
    (reading, read, (λ none. absurd (true≢false (sym none)), λ is. absurd (not_legal (hash_of reading.hash) reading.events reading.order reason first is)))

pub verdict_by_scene : (text : List ℕ) (scene : Scene) → IsSceneOf text scene → IsVerdict text (is_none scene.reason)
verdict_by_scene text scene is =
    let reading = is.reading in (
      reading,
      is.says,
      told_none scene.reason _ (told_unless_legal (hash_of reading.hash) reading.events reading.order scene.reason is.shows.fault is.shows.reason is.shows.judged),
    )
