use Rattle.std.proofs.Common.{◌∙◌, ap, length}
use Rattle.std.specs.Prelude.{unwrap_or}
use Rattle.places.proofs.Cuts.{above, found}
use Rattle.places.proofs.places.reach.Goals as goal

pub returns-clause-reach : goal.returns-clause-reach
returns-clause-reach c =
    c.unwrap_or.ensures ∙ ap (λ o. unwrap_or o (length c.args.places.now)) c.first_behind.ensures ∙ found (above c.args.closing) c.args.places.now
