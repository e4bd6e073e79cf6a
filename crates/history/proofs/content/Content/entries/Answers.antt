use Rattle.std.proofs.Common.{◌≡◌, ◌∙◌, sym, ap, ◌++◌, append-nil, rules}
use Rattle.history.proofs.EntryMaps.{entries_made}
use Rattle.history.proofs.content.Content.entries.Goals as goal

pub returns-clause-pairs : goal.returns-clause-pairs
returns-clause-pairs c =
    let all : c.into_iter-key-iterator.result ≡ c.self.inside.pairs.entries = search rules in
    rw (← c.self.view_is) (c.from_vec.ensures ∙ sym (append-nil c.loop-key.pairs.items) ∙ ap (λ rest. c.loop-key.pairs.items ++ rest) (sym c.in-None.ensures.steps.0) ∙ c.loop-key.invariant
    ∙ all ∙ sym (entries_made c.self.inside.pairs.entries c.self.invariant.rising))
