-- What explains a history's verdict.
use Rattle.std.specs.Prelude.{◌≡◌, ℕ, Bool, true, false, List, ◌∷◌, [], ◌++◌, Option, Some, None, is_none}
use Rattle.ctrie_base.specs.Hashes.{hash_of}
use Rattle.history.specs.declared.faults.OrderFault.{OrderFault}
use Rattle.history.specs.Faults.{Judges}
use Rattle.history_text.specs.FaultTexts.{fault_text}
use Rattle.history_text.specs.Reading.{Reading}
use Rattle.history_commands.specs.Verdicts.{SaysHistory, verdict_line}

-- the text is a history without a fault; this is the first reason why its order isn't legal for its events, and
-- there is none where it is legal
abbrev pub IsReason : List ℕ → Option OrderFault → Type 0
IsReason text reason = (reading : Reading) × SaysHistory text reading × Judges (hash_of reading.hash) reading.events reading.order reason

-- the verdict's line, and behind it a line for the reason in plain words, if there is one
abbrev pub explanation : Option OrderFault → List ℕ
explanation None = verdict_line true
explanation (Some reason) = verdict_line false ++ (fault_text reason ++ 10 ∷ [])

-- these bytes explain this verdict by some reason, or tell that there is none
abbrev pub ExplainsVerdict : Bool → List ℕ → Type 0
ExplainsVerdict legal bytes = (reason : Option OrderFault) × (legal ≡ is_none reason) × (bytes ≡ explanation reason)

-- these bytes explain the text's verdict, which is this
abbrev pub IsExplanation : List ℕ → Bool → List ℕ → Type 0
IsExplanation text legal bytes = (reason : Option OrderFault) × IsReason text reason × (legal ≡ is_none reason) × (bytes ≡ explanation reason)
