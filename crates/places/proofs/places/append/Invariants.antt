use Rattle.std.proofs.Common.{◌≡◌, ◌++◌, map, take}
use Rattle.places.proofs.places.append.Given as goal

-- the ids of the places so far stand behind what was there
abbrev pub invariant-loop-place : goal.invariant-loop-place
invariant-loop-place l = l.order.items ≡ l.initial.order.items ++ map (λ place. place.id) (take l.place-index l.place-items)
