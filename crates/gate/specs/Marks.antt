-- What a mark has: one item alone in a list.
use Rattle.std.specs.Prelude.{◌≡◌, List, [], ◌∷◌}
use Rattle.std.specs.Coded.{Coded, Coded-set, coded_list}
use mathlib.Core.Path.{sym, ap, ◌∙◌}
use mathlib.Core.HLevel.{Σ_prop_path}

abbrev first_or : {T : Type 0} → T → List T → T
first_or other [] = other
first_or other (item ∷ items) = item

-- there is one such item at most
pub alone_prop : {T : Type 0} → Coded T → (items : List T) → IsProp ((value : T) × (items ≡ value ∷ []))
alone_prop code items = λ x y. Σ_prop_path (λ value. Coded-set (coded_list code) items (value ∷ [])) (ap (λ xs. first_or x.0 xs) (sym x.1 ∙ y.1))
