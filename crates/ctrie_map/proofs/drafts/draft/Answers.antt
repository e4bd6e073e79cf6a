use Rattle.std.proofs.Common.{sym, subst, ◌∙◌}
use Rattle.ctrie_map.specs.Drafts.{IsDraftOf}
use Rattle.ctrie_map.proofs.Denying.{copy_allowed}
use Rattle.ctrie_map.proofs.Drafting.{drafted}
use Rattle.ctrie_map.proofs.drafts.draft.Goals as goal

pub perform-requires-clause-allowed : goal.perform-requires-clause-allowed
perform-requires-clause-allowed c = copy_allowed c.args.core.now.state c.args.handle c.requires.writable.0 c.requires.writable.1 c.requires.room

pub returns-clause-drafted : goal.returns-clause-drafted
returns-clause-drafted c =
    subst (λ d. IsDraftOf c.args.handle c.args.core.now.state d c.perform.new.core.state) (sym c.number.ensures)
    (drafted c.args.core.now.state c.args.handle c.requires.writable c.requires.room c.requires.life c.perform.new.core.state c.perform.result c.perform.ensures.carries
    c.perform.ensures.leads
    c.in_ok-draft.draft (sym c.opened.ensures ∙ c.in_ok-draft.was))
