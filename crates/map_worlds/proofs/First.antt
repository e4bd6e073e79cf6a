-- The first state shows the first world.
use Rattle.std.proofs.Common.{◌≡◌, ℕ, List, [], ◌∷◌, refl, sym, ◌∙◌, subst}
use Rattle.std.proofs.lemmas.List.Elements.{All-nil}
use Rattle.map_worlds.specs.Beneath.history.specs.declared.events.Event.{Event}
use Rattle.map_worlds.specs.Beneath.history.specs.Orders.{Answered, RecallsEach, Replays}
use Rattle.map_worlds.specs.Beneath.history.specs.Worlds.{HandleMap, first_world}
use Rattle.map_worlds.specs.Beneath.ctrie_base.specs.Hashes.{hash_of}
use Rattle.map_worlds.specs.Beneath.machine_model.specs.declared.steps.Bounds.{Bounds}
use Rattle.map_worlds.specs.Beneath.machine_model.specs.Keys.{FitsKey}
use Rattle.map_worlds.specs.Beneath.machine_model.specs.Machine.{run}
use Rattle.map_worlds.specs.Beneath.places.specs.Places.{ids_by_place}
use Rattle.proof_linearizable.proofs.Legal.{every_order_is_legal}
use Rattle.map_worlds.specs.Laws.{FirstIsShown}
use Rattle.map_worlds.proofs.Shown.{shown_is_one}
use Rattle.map_worlds.specs.Beneath.machine_model.specs.Records.{order_of, record_of, record_from}

nothing_ordered : (limits : Bounds) → order_of (record_of limits []) ≡ []
unfolding record_from ids_by_place
nothing_ordered limits = refl

stays_first : (hash : ℕ → ℕ) (history : List Event) (calls : List Answered) (world : HandleMap) → RecallsEach history [] calls → Replays hash calls first_world world → world ≡ first_world
stays_first hash history [] world recalled replayed = replayed
stays_first hash history (one ∷ more) world recalled replayed = absurd recalled

pub first_is_shown : FirstIsShown
first_is_shown limits ok =
    let (world, explains, shows) = every_order_is_legal limits [] ok (All-nil FitsKey) in
    let (calls, recalled, replayed) = explains.replayed in
    sym (shown_is_one world (run limits []) shows)
    ∙ stays_first (hash_of limits.hash) (record_of limits []).events calls world (subst (λ ids. RecallsEach (record_of limits []).events ids calls) (nothing_ordered limits) recalled) replayed
