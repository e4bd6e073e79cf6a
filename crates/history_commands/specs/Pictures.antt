-- The picture of a history and its order.
use Rattle.std.specs.Prelude.{◌≡◌, ℕ, Bool, List, is_none}
use Rattle.ctrie_base.specs.Hashes.{hash_of}
use Rattle.history.specs.Histories.{Operation, BeginsAt}
use Rattle.history_text.specs.Reading.{Reading}
use Rattle.history_scene.specs.declared.scenes.Scene.{Scene}
use Rattle.history_scene.specs.Scenes.{IsScene}
use Rattle.history_scene.specs.Laws.{HasOneBar}
use Rattle.scene_svg.specs.Documents.{svg_text}
use Rattle.history_commands.specs.Verdicts.{SaysHistory}

-- The text is a history without a fault, and this is the scene of its events and its order.
pub record IsSceneOf (text : List ℕ) (scene : Scene) : Type 0 where
  pub reading : Reading
  pub says : SaysHistory text reading
  pub shows : IsScene (hash_of reading.hash) reading.events reading.order scene
  pub each : (id begin : ℕ) (operation : Operation) → BeginsAt reading.events begin id operation → HasOneBar reading.events id begin scene

-- these bytes are the picture of some scene, which tells a reason unless this verdict is that the order is legal
abbrev pub ShowsVerdict : Bool → List ℕ → Type 0
ShowsVerdict legal bytes = (scene : Scene) × (legal ≡ is_none scene.reason) × (bytes ≡ svg_text scene)

-- these bytes are the picture of that scene, which tells a reason unless the order is legal
abbrev pub IsPicture : List ℕ → Bool → List ℕ → Type 0
IsPicture text legal bytes = (scene : Scene) × IsSceneOf text scene × (legal ≡ is_none scene.reason) × (bytes ≡ svg_text scene)
