use Rattle.std.proofs.Common.{ap, ◌∙◌, take}
use Rattle.shared_map.specs.Shards.{worlds_of}
use Rattle.shared_map.proofs.Least.{least_of_all}
use Rattle.shared_map.proofs.parts.part_all.Goals as goal

pub returns-clause-part : goal.returns-clause-part
returns-clause-part g c =
    c.from_vec.ensures ∙ c.truncate.ensures.items ∙ ap (take c.args.room) c.in_ok-pairs.ensures.listed
    ∙ least_of_all c.args.after c.args.room c.args.handle (worlds_of (g.S.Shards.items c.args.shards.now))
