-- What is written of a list, element by element.
use Rattle.std.proofs.Common.{◌≡◌, ℕ, ◌+◌, ◌<◌, List, [], ◌∷◌, ◌++◌, length, take, get_or, refl, sym, ap, ◌∙◌, append_assoc, arith, zero-add, add-zero, length-take-le}
use Rattle.std.specs.List.{flat_map}
use Rattle.std.proofs.lemmas.List.{take_more, append-nil}
use Rattle.std.proofs.lemmas.List.Concat.{flat_map-append}
use Rattle.history_scene.specs.declared.scenes.Scene.{Scene}
use Rattle.scene_svg.specs.Geometry.{width_of, bottom_of}
use Rattle.scene_svg.specs.Marks.{first_marks, marks_text, lane_text, lanes_from, lanes_text}

-- one element more
pub written_more : {X : Type 0} (f : X → List ℕ) (xs : List X) (i : ℕ) (d : X) → i < length xs → flat_map f (take i xs) ++ f (get_or xs i d) ≡ flat_map f (take (i + 1) xs)
written_more f xs i d lt =
    sym (ap (flat_map f) (take_more xs i d lt) ∙ flat_map-append f (take i xs) (get_or xs i d ∷ []) ∙ ap (λ (t : List ℕ). flat_map f (take i xs) ++ t) (append-nil (f (get_or xs i d))))

pub written_item : {X : Type 0} (f : X → List ℕ) (xs : List X) (i : ℕ) (x : X) → i < length xs → x ≡ get_or xs i x → flat_map f (take i xs) ++ f x ≡ flat_map f (take (i + 1) xs)
written_item f xs i x lt is = ap (λ y. flat_map f (take i xs) ++ f y) is ∙ written_more f xs i x lt

pub marks_are : (scene : Scene) → marks_text scene ≡ first_marks (bottom_of scene) scene.events
unfolding marks_text
marks_are scene = refl

pub lanes_are : (scene : Scene) → lanes_text scene ≡ lanes_from (width_of scene) 0 scene.actors.items
unfolding lanes_text
lanes_are scene = refl

lanes_push : (width lane : ℕ) (actors : List ℕ) (actor : ℕ) → lanes_from width lane actors ++ lane_text width (lane + length actors) actor ≡ lanes_from width lane (actors ++ actor ∷ [])
lanes_push width lane [] actor = ap (λ n. lane_text width n actor) (add-zero lane) ∙ sym (append-nil (lane_text width lane actor))
lanes_push width lane (a ∷ actors) actor =
    append_assoc (lane_text width lane a) (lanes_from width (lane + 1) actors) (lane_text width (lane + length (a ∷ actors)) actor)
    ∙ ap (λ n. lane_text width lane a ++ (lanes_from width (lane + 1) actors ++ lane_text width n actor)) (let same : lane + length (a ∷ actors) ≡ (lane + 1) + length actors = omega arith in same)
    ∙ ap (λ (t : List ℕ). lane_text width lane a ++ t) (lanes_push width (lane + 1) actors actor)

-- one lane more
pub lanes_more : (width : ℕ) (actors : List ℕ) (i d : ℕ) → i < length actors
    → lanes_from width 0 (take i actors) ++ lane_text width i (get_or actors i d) ≡ lanes_from width 0 (take (i + 1) actors)
lanes_more width actors i d lt =
    ap (λ n. lanes_from width 0 (take i actors) ++ lane_text width n (get_or actors i d)) (sym (zero-add (length (take i actors)) ∙ length-take-le i actors (omega (arith, lt))))
    ∙ lanes_push width 0 (take i actors) (get_or actors i d) ∙ ap (lanes_from width 0) (sym (take_more actors i d lt))
