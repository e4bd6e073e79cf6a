-- What a look leads to.
use Rattle.std.specs.Prelude.{◌≡◌, Option, None}
use Rattle.std.proofs.Common.{sym, ap, subst, ◌∙◌}
use Rattle.snapshot.specs.Vocabulary.{Kind, Line, Operation, Read, kind_of, line_action, line_after, read_of, State}
use Rattle.ctrie_base.specs.declared.kinds.Kind.TheVariants as kind
use Rattle.snapshot.specs.Beneath.gcas.specs.declared.next.Next.{Next}
use Rattle.snapshot.specs.Beneath.gcas.specs.declared.next.Next.TheVariants.{More, AskRoot, Done}
use Rattle.snapshot.specs.Beneath.gcas.specs.declared.read.ReadAt.{ReadAt}
use Rattle.snapshot.specs.Beneath.gcas.specs.Reads.{ReadsAlong, committed_so}
use Rattle.snapshot.specs.Beneath.trie_parts.specs.Steps.{StepsOn}
use Rattle.snapshot.specs.declared.walk.Walked.{Walked}
use Rattle.snapshot.specs.Walks.{NextIs}

-- a look commits nothing
along : (state : State) (operation : Operation) (read : Option Read) (k : Kind) (place : ReadAt) → read ≡ None → k ≡ kind.Look → ReadsAlong state.heap operation.access read k place
along state operation read k place none look =
    subst (λ o. ReadsAlong state.heap operation.access o k place) (sym none) (ap (λ q. committed_so q place) look)

pub by_next : (state : State) (operation : Operation) (before after line : Line) (place : ReadAt) (behind : Walked → Line) (next : Next Walked) →
    kind_of (line_action state operation before) ≡ kind.Look → line_after state operation before ≡ line → read_of before ≡ None → NextIs line after behind next →
    StepsOn state operation before after place behind next
by_next state operation before after line place behind (More k) look leads none is = (look ∙ sym is.0, leads ∙ is.1, along state operation (read_of before) k place none is.0)
by_next state operation before after line place behind AskRoot look leads none is = absurd is
by_next state operation before after line place behind (Done k walked) look leads none is =
    (look ∙ sym is.0, leads ∙ is.1, along state operation (read_of before) k place none is.0)
