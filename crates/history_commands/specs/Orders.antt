-- What comes of looking for a legal order of a history that has none.
use Rattle.std.specs.Prelude.{◌≡◌, ℕ, true, false, List, [], ◌∷◌, ◌++◌, codes}
use Rattle.ctrie_base.specs.declared.refusals.Refusal.{Refusal}
use Rattle.history_text.specs.Texts.{order_text}
use Rattle.order_search.specs.declared.searching.Search.{Search}
use Rattle.order_search.specs.declared.searching.Search.TheVariants.{Found, NotThere, Spent}
use Rattle.history_commands.specs.declared.faults.Fault.{Fault}
use Rattle.history_commands.specs.declared.faults.Fault.TheVariants.{Line, Memory}
use Rattle.history_commands.specs.Verdicts.{IsVerdict, HasLineFault, verdict_line}

-- the text, and after it the line of an order
abbrev pub with_order : List ℕ → List ℕ → List ℕ
with_order text order = text ++ (10 ∷ (order_text order ++ 10 ∷ []))

-- with no order's line after it the text is a history with a legal order
abbrev pub HasNoLegalOrder : List ℕ → Type 0
HasNoLegalOrder text = (order : List ℕ) → ¬ IsVerdict (with_order text order) true

-- the line that tells that the steps didn't suffice to know
abbrev pub spent_line : List ℕ
spent_line = codes "not known" ++ 10 ∷ []

-- These bytes tell what came of the search: the text with a legal order's line after it; or that there is none; or that it isn't known.
abbrev pub TellsSearch : List ℕ → Search → List ℕ → Type 0
TellsSearch text Found bytes = (order : List ℕ) × (bytes ≡ with_order text order) × IsVerdict bytes true
TellsSearch text NotThere bytes = HasNoLegalOrder text × (bytes ≡ verdict_line false)
TellsSearch text Spent bytes = bytes ≡ spent_line

-- whatever the text, these bytes tell this: a history whose order is legal, or one of the lines
abbrev pub ShowsSearch : Search → List ℕ → Type 0
ShowsSearch Found bytes = IsVerdict bytes true
ShowsSearch NotThere bytes = bytes ≡ verdict_line false
ShowsSearch Spent bytes = bytes ≡ spent_line

-- with the line of an order after it, the text's first line with a fault is this one, with this fault
abbrev pub HasOrderFault : List ℕ → ℕ → Refusal → Type 0
HasOrderFault text number refusal = (order : List ℕ) × HasLineFault (with_order text order) number refusal

-- the fault is want of memory, or that of such a line
abbrev pub IsOfOrdered : List ℕ → Fault → Type 0
IsOfOrdered text (Line number refusal) = HasOrderFault text number refusal
IsOfOrdered text Memory = Unit {0}
IsOfOrdered text fault = ⊥
