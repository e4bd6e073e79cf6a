-- The runs by which the mistakes are shown.
use Rattle.std.specs.Prelude.{ℕ, List, [], ◌∷◌, ◌++◌, replicate, Some, None}
use Rattle.proof_counterexamples.specs.Beneath.history.specs.declared.calls.Call.TheVariants as call
use Rattle.proof_counterexamples.specs.Beneath.history.specs.declared.replies.Reply.TheVariants as reply
use Rattle.proof_counterexamples.specs.Vocabulary.{Event, Step, taking}
use Rattle.proof_counterexamples.specs.Beneath.history.specs.declared.events.Event.TheVariants as event
use Rattle.machine_model.specs.declared.steps.Step.TheVariants as step

-- an actor's operation goes on for so many steps
abbrev pub going : ℕ → ℕ → List Step
going actor n = replicate n (step.Go actor)

-- two keys are put that share a branch below the root
abbrev pub two_keys : List Step
two_keys = taking 1 (call.Put 0 1 10) 12 ++ taking 1 (call.Put 0 33 330) 15

-- their history, and what follows it
abbrev pub after_two_keys : List Event → List Event
after_two_keys events =
    event.Begin 0 1 (call.Put 0 1 10) None ∷ event.End 0 (reply.Found None) ∷ event.Begin 1 1 (call.Put 0 33 330) None ∷ event.End 1 (reply.Found None) ∷ events

-- A put is about to commit when a freeze closes its generation. It commits then, and the frozen copy has its value.
abbrev pub late_put : List Step
late_put = two_keys ++ taking 1 (call.Put 0 65 650) 13 ++ taking 2 (call.Freeze 0) 9 ++ going 1 3 ++ taking 1 (call.Get 1 65) 10

-- A get has gone down to where its key stands when a freeze closes that generation, and another value is put in the new one.
-- It reads the old value.
abbrev pub late_get : List Step
late_get = two_keys ++ taking 1 (call.Get 0 33) 5 ++ taking 2 (call.Freeze 0) 9 ++ taking 2 (call.Put 0 33 331) 31 ++ going 1 5

abbrev pub late_get_history : List Event
late_get_history = after_two_keys (
    event.Begin 2 1 (call.Get 0 33) None ∷ event.Begin 3 2 (call.Freeze 0) (Some 1) ∷ event.End 3 (reply.Opened 1) ∷ event.Begin 4 2 (call.Put 0 33 331) None
    ∷ event.End 4 (reply.Found (Some 330)) ∷ event.End 2 (reply.Found (Some 330)) ∷ [])

-- With five slots there is room for one put.
abbrev pub refused_put : List Step
refused_put = taking 1 (call.Put 0 1 10) 12 ++ taking 1 (call.Put 0 2 20) 7

-- The same, and it is put in the place of the key that has a value; a get follows.
abbrev pub refused_change : List Step
refused_change = taking 1 (call.Put 0 1 10) 12 ++ taking 1 (call.Put 0 1 20) 8 ++ taking 1 (call.Get 0 1) 6

-- With nine slots there is room for a removal, but not for its climb.
abbrev pub last_removal : List Step
last_removal = two_keys ++ taking 1 (call.Remove 0 33) 21

-- A removal is about to commit when a freeze closes its generation. It commits then, and on its climb it reads the new root.
abbrev pub late_removal : List Step
late_removal = two_keys ++ taking 1 (call.Remove 0 33) 14 ++ taking 2 (call.Freeze 0) 9 ++ going 1 16 ++ taking 2 (call.Get 1 33) 10

-- A put is about to swap its node in at the root when a freeze opens that root under handle 1. It goes on between two gets
-- there.
abbrev pub overtaken_put : List Step
overtaken_put = taking 1 (call.Put 0 5 50) 6 ++ taking 2 (call.Freeze 0) 9 ++ taking 2 (call.Get 1 5) 5 ++ going 1 5 ++ taking 2 (call.Get 1 5) 6

-- A snapshot has made its two roots over the root's main node when a put commits another one there. It goes on, and a get
-- follows.
abbrev pub overtaken_snapshot : List Step
overtaken_snapshot = taking 2 (call.Snapshot 0) 5 ++ taking 1 (call.Put 0 5 50) 12 ++ going 2 5 ++ taking 1 (call.Get 0 5) 5

-- A removal has left a tomb of the other key, and a get of that key cleans it away.
abbrev pub cleaning_get : List Step
cleaning_get = two_keys ++ taking 1 (call.Remove 0 33) 16 ++ taking 2 (call.Get 0 1) 26
