use Rattle.std.proofs.Common.{Some}
use Rattle.std.proofs.lemmas.List.Elements.{All-pop}
use Rattle.concurrent_map.specs.Seats.{IsSeatOf}
use Rattle.example_words.proofs.filling.has_room.Goals as goal

pub put_all-requires : goal.put_all-requires
put_all-requires g c = (All-pop (λ seat. IsSeatOf c.in_ok-map.map seat) c.in_ok-map.seats.items c.pop.new.self.items (Some c.in-Some.seat) c.in-Some.ensures.items c.in_ok-map.ensures.seats).1
