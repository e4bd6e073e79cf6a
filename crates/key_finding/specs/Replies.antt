-- Replies to calls on one key, as the definition's.
use Rattle.key_finding.specs.Beneath.history.specs.declared.replies.Reply.{Reply}
use Rattle.key_finding.specs.Beneath.history.specs.declared.replies.Reply.TheVariants as reply
use Rattle.key_finding.specs.Beneath.machine_model.specs.declared.finding.WhenFound.{WhenFound}
use Rattle.key_finding.specs.Beneath.machine_model.specs.declared.finding.WhenFound.TheVariants.{Answers, Sets, Removes}
use Rattle.key_finding.specs.declared.calls.KeyReply.{KeyReply}
use Rattle.key_finding.specs.declared.calls.KeyReply.TheVariants.{Found, Truth, Crowded, NoSlots}
use Rattle.key_finding.specs.declared.calls.Todo.{Todo}
use Rattle.key_finding.specs.declared.calls.Todo.TheVariants.{Answer, Set, Remove}

abbrev pub reply_of : KeyReply → Reply
reply_of (Found value) = reply.Found value
reply_of (Truth done) = reply.Truth done
reply_of Crowded = reply.Crowded
reply_of NoSlots = reply.NoSlots

abbrev pub todo_of : Todo → WhenFound
todo_of (Answer answer) = Answers (reply_of answer)
todo_of Set = Sets
todo_of Remove = Removes
