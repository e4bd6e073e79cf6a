-- No order is legal for the events that the text says with the line of an order of nothing.
use Rattle.std.proofs.Common.{◌≡◌, [], Ok, ap, ◌∙◌, subst}
use Rattle.ctrie_base.specs.Hashes.{hash_of}
use Rattle.history_text.specs.Views.{given}
use Rattle.order_search.specs.declared.searching.Search.{Search}
use Rattle.order_search.specs.declared.searching.Search.TheVariants.{NotThere}
use Rattle.order_search.specs.Searching.{HasNoOrder}
use Rattle.history_commands.specs.Verdicts.{SaysHistory}
use Rattle.history_commands.proofs.Appended.{none_legal}
use Rattle.history_commands.proofs.ordering.looked_for.Goals as goal

pub returns-in-Ok-clause-not_there : goal.returns-in-Ok-clause-not_there
returns-in-Ok-clause-not_there c = λ is.
    let read = given c.in_ok-given.given in
    let same : c.in-Ok.search ≡ NotThere = cc is in
    let none = c.find_order.ensures.not_there (c.in-Ok.is ∙ ap (λ (s : Search). Ok s) same) in
    let never = subst (λ es. HasNoOrder (hash_of read.hash) es) c.as_slice-2.ensures.value none in
    let says = subst (λ xs. SaysHistory xs read) (c.as_slice.ensures.value ∙ c.in_ok-first.ensures) c.in_ok-given.ensures.given in
    none_legal c.args.text.now [] read says never
