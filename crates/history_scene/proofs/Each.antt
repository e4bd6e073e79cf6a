-- Each operation that has begun has exactly one bar.
use Rattle.std.proofs.Common.{◌≡◌, ◌↔◌, ◌<◌, ◌+◌, ℕ, List, take, length, Option, Some, None, IsNone, IfSome, refl, sym, ap, ◌∙◌, arith, add-one}
use Rattle.std.specs.Prelude.{String}
use Rattle.std.specs.Option.{option_map}
use Rattle.std.specs.declared.alloc.Global.{Global}
use Rattle.std.proofs.lemmas.Bool.{true≢false}
use Rattle.std.proofs.lemmas.Option.{slice_get_within}
use Rattle.std.proofs.lemmas.List.{take_all}
use Rattle.history.specs.declared.replies.Reply.{Reply}
use Rattle.history.specs.declared.events.Event.{Event}
use Rattle.history.specs.declared.events.Event.TheVariants.{Begin}
use Rattle.history.specs.declared.faults.OrderFault.{OrderFault}
use Rattle.history.specs.Histories.{Operation, BeginsAt, EndsAt, HasEnded, begun, IsWellFormed}
use Rattle.history.specs.Orders.{IsLegal}
use Rattle.history.specs.Faults.{IsFirstFault, Judges}
use Rattle.history.proofs.Places.{at_within}
use Rattle.history.proofs.Begins.{begins_once, begun_more, begun_grows}
use Rattle.history.proofs.Legal.{not_legal}
use Rattle.history_text.specs.FaultTexts.{fault_text}
use Rattle.history_scene.specs.declared.scenes.Bar.{Bar}
use Rattle.history_scene.specs.Scenes.{Ends, IsBar, text_in}
use Rattle.history_scene.specs.Laws.{HasEachOperation}
use Rattle.history.proofs.OneFault.{ends_once}

-- an operation's id is below the number of those that have begun
below_begun : (history : List Event) (id begin : ℕ) (operation : Operation) → IsWellFormed history → BeginsAt history begin id operation → id < begun history
below_begun history id begin operation well begins =
    let here : id ≡ begun (take begin history) = (well begin (Begin id operation.actor operation.call operation.opens) begins).0 in
    let more = begun_more history begin id operation begins in
    let within = slice_get_within history begin (Begin id operation.actor operation.call operation.opens) begins in
    let grows = begun_grows history (begin + 1) (length history) (omega arith) in
    let all : begun (take (length history) history) ≡ begun history = ap begun (take_all (length history) history (omega arith)) in
    let next : begun (take (begin + 1) history) ≡ begun (take begin history) + 1 = ap (λ n. begun (take n history)) (add-one begin) ∙ more ∙ sym (add-one (begun (take begin history))) in
    omega arith

-- the end of a bar is the only end of its operation
end_is : (history : List Event) (id end : ℕ) (answer : Reply) (to : Option ℕ) (told : Option Reply) → IsWellFormed history → Ends history id to told → EndsAt history end id answer → to ≡ Some end
end_is history id end answer None None well ends at = absurd (ends answer (end, at))
end_is history id end answer None (Some told) well ends at = absurd ends
end_is history id end answer (Some to) None well ends at = absurd ends
end_is history id end answer (Some to) (Some told) well ends at = ap (λ (k : ℕ). Some k) (ends_once history to end id told answer well ends at)

open_is : (history : List Event) (id : ℕ) (to : Option ℕ) (told : Option Reply) → Ends history id to told → ((answer : Reply) → ¬ HasEnded history id answer) → to ≡ None
open_is history id None told ends never = refl
open_is history id (Some to) None ends never = absurd ends
open_is history id (Some to) (Some told) ends never = absurd (never told (to, ends))

pub each_operation : HasEachOperation
each_operation hash history order scene id begin operation well is begins =
    let below = below_begun history id begin operation well begins in
    let size = is.bars.0 in
    let found = at_within scene.bars.items id (omega arith) in
    let bar : Bar = found.0 in
    let shown : IsBar history order is.fault id bar = is.bars.1 id bar found.1 in (
      bar,
      id,
      found.1,
      shown.shows,
      record {
        from = begins_once history bar.from begin id shown.operation operation well shown.begins begins;
        to = λ end answer at. end_is history id end answer bar.to shown.answer well shown.ends at;
        open_end = λ never. open_is history id bar.to shown.answer shown.ends never;
      },
      λ other more at same. let other_shown : IsBar history order is.fault other more = is.bars.1 other more at in sym other_shown.shows ∙ same,
    )

-- the first fault, if there is one
pub judges_of : (hash : ℕ → ℕ) (history : List Event) (order : List ℕ) (fault : Option OrderFault) → IsNone fault ↔ IsLegal hash history order → IfSome fault (λ f. IsFirstFault hash history order f)
    → Judges hash history order fault
judges_of hash history order None exact first = exact.0 refl
judges_of hash history order (Some fault) exact first = first

-- a reason is told exactly where the order isn't legal
pub told_unless_legal : (hash : ℕ → ℕ) (history : List Event) (order : List ℕ) (reason : Option (String Global)) (fault : Option OrderFault) → text_in reason ≡ option_map fault_text fault
    → Judges hash history order fault → IsNone reason ↔ IsLegal hash history order
told_unless_legal hash history order None None same judged = (λ none. judged, λ legal. refl)
told_unless_legal hash history order None (Some fault) same judged = let wrong : ⊥ = cc same in absurd wrong
told_unless_legal hash history order (Some text) None same judged = let wrong : ⊥ = cc same in absurd wrong
told_unless_legal hash history order (Some text) (Some fault) same judged = (λ none. absurd (true≢false none), λ legal. absurd (not_legal hash history order fault judged legal))
