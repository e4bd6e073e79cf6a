-- A text that is read spells the history.
use Rattle.std.proofs.Common.{◌≡◌, ℕ, List, [], ◌∷◌, ◌++◌, refl, sym, ap, ◌∙◌, subst, append_assoc, Result, Ok, Err, Option, Some, inl, inr}
use Rattle.std.specs.Prelude.{codes, IfOk}
use Rattle.std.proofs.lemmas.List.{append-nil}
use Rattle.ctrie_base.specs.declared.hashes.HashKind.{HashKind}
use Rattle.ctrie_base.specs.Hashes.{name_of}
use Rattle.history.specs.declared.events.Event.{Event}
use Rattle.history.specs.Histories.{IsWellFormed}
use Rattle.history_text.specs.declared.names.LineName.{LineName}
use Rattle.history_text.specs.declared.names.LineName.TheVariants as line
use Rattle.history_text.specs.declared.reading.Given.{Given}
use Rattle.text_lines.specs.declared.faults.Told.{Told}
use Rattle.text_lines.specs.Views.{Reads}
use Rattle.history_text.specs.Views.{given}
use Rattle.text_lines.specs.Words.{spaced, words_of}
use Rattle.history_text.specs.Texts.{event_words, order_words}
use Rattle.history_text.specs.Names.{line_named, line_name}
use Rattle.history_text.specs.Lines.{header_of}
use Rattle.text_lines.specs.Texts.{said_lines}
use Rattle.history_text.specs.Reading.{Reading, Progress, Start, InEvents, Ordered, Ended, last_line, words_after, all_read, history_format, history_of}
use Rattle.history_text.specs.Grammar.{AreLast, SpellEvents, Spell, IsSpelling}
use Rattle.text_lines.proofs.Parts.{ok_is, made_ok}
use Rattle.text_lines.proofs.Whole.{Leads, text_leads}
use Rattle.history_text.proofs.FoundReplies.{header_found}
use Rattle.history_text.proofs.Tied.{Tied, tied_nil, tied_push, well_nil}
use Rattle.history_text.proofs.FoundLines.{moves, line_of, line_is_named}
use Rattle.history.proofs.Begins.{well_formed_push}

-- Behind the order.

ended_words : (read : Reading) (words : List (List ℕ)) (q : Progress) → words_after (Ended read) words ≡ Ok q → ⊥
unfolding words_after
ended_words read words q e = absurd cc

after_end : (lines : List (List ℕ)) (read : Reading) (end : Progress) → Leads history_format (Ended read) lines end → (end ≡ Ended read) × (lines ≡ [])
after_end [] read end leads = (sym leads, refl)
after_end (l ∷ more) read end leads = absurd (ended_words read (words_of l) leads.0 leads.1)

slots_cases : (o : Option LineName) (read : Reading) (w : List ℕ) (q : Progress) → ((m : LineName) → o ≡ Some m → w ≡ line_name m) → last_line read o ≡ Ok q → (q ≡ Ended read) × (w ≡ codes "slots")
slots_cases (Some line.Slots) read w q is e = (sym (ok_is (last_line read (Some line.Slots)) (Ended read) q refl e), is line.Slots refl)
slots_cases other read w q is e = absurd cc

first_same : (w v : List ℕ) (ws : List (List ℕ)) → w ≡ v → w ∷ ws ≡ v ∷ ws
first_same w v ws e = cc

ordered_words : (read : Reading) (words : List (List ℕ)) (q : Progress) → words_after (Ordered read) words ≡ Ok q → (q ≡ Ended read) × ((more : List (List ℕ)) × (words ≡ codes "slots" ∷ more))
unfolding words_after
ordered_words read [] q e = absurd cc
ordered_words read (w ∷ ws) q e = let s = slots_cases (line_named w) read w q (λ m. line_is_named w m) e in (s.0, (ws, first_same w (codes "slots") ws s.1))

after_order : (lines : List (List ℕ)) (read : Reading) (end : Progress) → Leads history_format (Ordered read) lines end → (all_read end ≡ Ok read) × AreLast lines
after_order [] read end leads = (ap all_read (sym leads), tt)
after_order (l ∷ more) read end leads =
    let w = ordered_words read (words_of l) leads.0 leads.1 in
    let rest = after_end more read end (subst (λ (p : Progress). Leads history_format p more end) w.0 leads.2) in
    (ap all_read rest.0, subst (λ (t : List (List ℕ)). AreLast (l ∷ t)) (sym rest.1) w.1)

-- The events.

abbrev Spelled : List (List ℕ) → HashKind → List Event → Reading → Type 0
Spelled lines hash es read = (read.hash ≡ hash) × ((later : List Event) × (read.events ≡ es ++ later) × SpellEvents lines later read.order) × IsWellFormed read.events

no_events : (hash : HashKind) (es : List Event) (end : Progress) (read : Reading) → InEvents hash es ≡ end → all_read end ≡ Ok read → ⊥
no_events hash es end read e done = let none = ap all_read e ∙ done in absurd cc

in_events : (lines : List (List ℕ)) (hash : HashKind) (es : List Event) (end : Progress) (read : Reading) → Tied es → IsWellFormed es
    → Leads history_format (InEvents hash es) lines end → all_read end ≡ Ok read → Spelled lines hash es read
in_events [] hash es end read t well leads done = absurd (no_events hash es end read leads done)
in_events (l ∷ more) hash es end read t well leads done =
    elim (moves hash es (words_of l) leads.0 t leads.1) [
      | inl d ↦ (let rest = in_events more hash es end read t well (subst (λ (p : Progress). Leads history_format p more end) d.0 leads.2) done in
          (rest.0, (rest.1.0, rest.1.1, inl (d.1, rest.1.2)), rest.2))
      | inr (inl v) ↦ (let says = v.2 in
          let rest = in_events more hash (es ++ v.0 ∷ []) end read (tied_push es v.0 t says.may) (well_formed_push es v.0 well says.may)
          (subst (λ (p : Progress). Leads history_format p more end) v.1 leads.2) done in
          (rest.0, (v.0 ∷ rest.1.0, rest.1.1 ∙ append_assoc es (v.0 ∷ []) rest.1.0, inr (inl (v.0, rest.1.0, refl, line_of l (event_words v.0) says.text, says.fits, rest.1.2))), rest.2))
      | inr (inr o) ↦ (let found : Reading = record { hash = hash; events = es; order = o.0 } in
          let rest = after_order more found end (subst (λ (p : Progress). Leads history_format p more end) o.1 leads.2) in
          let same : found ≡ read = ok_is (all_read end) found read rest.0 done in
          subst (λ (r : Reading). Spelled (l ∷ more) hash es r) same
          (refl, ([], sym (append-nil es), inr (inr (refl, line_of l (order_words o.0) o.2, o.3, rest.1))), well))
    ]

-- The header.

start_words : (words : List (List ℕ)) (q : Progress) → words_after Start words ≡ Ok q → (hash : HashKind) × (q ≡ InEvents hash []) × (words ≡ codes "hash" ∷ name_of hash ∷ [])
unfolding words_after
start_words words q e = let m = made_ok (λ hash. InEvents hash []) (header_of words) q e in (m.0, sym m.2, header_found words m.0 m.1)

no_header : (end : Progress) (read : Reading) → Start ≡ end → all_read end ≡ Ok read → ⊥
no_header end read e done = let none = ap all_read e ∙ done in absurd cc

from_start : (lines : List (List ℕ)) (end : Progress) (read : Reading) → Leads history_format Start lines end → all_read end ≡ Ok read → Spell lines read × IsWellFormed read.events
from_start [] end read leads done = absurd (no_header end read leads done)
from_start (l ∷ more) end read leads done =
    let w = start_words (words_of l) leads.0 leads.1 in
    let rest = in_events more w.0 [] end read tied_nil well_nil (subst (λ (p : Progress). Leads history_format p more end) w.1 leads.2) done in (
      (
        line_of l (codes "hash" ∷ name_of w.0 ∷ []) w.2 ∙ ap (λ (k : HashKind). spaced (codes "hash" ∷ name_of k ∷ [])) (sym rest.0),
        subst (λ (es : List Event). SpellEvents more es read.order) (sym rest.1.1) rest.1.2,
      ),
      rest.2,
    )

-- what is read is spelled so
pub spelled : (text : List ℕ) (read : Reading) → history_of text ≡ Ok read → IsSpelling text read
unfolding history_of
spelled text read e = let whole = text_leads history_format text read e in from_start (said_lines text) whole.0 read whole.1 whole.2

pub is_found : (text : List ℕ) (r : Result Given Told) → Reads given r (history_of text) → IfOk r (λ g. IsSpelling text (given g))
is_found text (Ok g) e = spelled text (given g) e
is_found text (Err f) e = tt
