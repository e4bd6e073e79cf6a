-- What a step that is taken apart from the others comes to.
use Rattle.operate.specs.Vocabulary.{Next, KeyReply}
use Rattle.operate.specs.Beneath.gcas.specs.declared.next.Next.TheVariants as next
use Rattle.operate.specs.declared.went.Went.{Went}
use Rattle.operate.specs.declared.went.Went.TheVariants.{More, AskRoot}

abbrev pub next_of : Went → Next KeyReply
next_of (More kind) = next.More kind
next_of AskRoot = next.AskRoot
