-- A text with an order's line after it: its events are those of the text, whatever the order.
use Rattle.std.proofs.Common.{◌≡◌, ℕ, List, [], ◌∷◌, ◌++◌, Result, Ok, Bool, true, false, cond, refl, sym, ap, ◌∙◌, subst, eqb}
use Rattle.std.specs.Prelude.{codes, filter, map, not}
use Rattle.std.specs.Fmt.{decimal}
use Rattle.std.specs.List.{onto_first}
use Rattle.std.proofs.lemmas.Bool.{eq-eqb}
use Rattle.std.proofs.lemmas.List.Splits.{slice_split-cons_yes, slice_split-cons_no}
use Rattle.ctrie_base.specs.Hashes.{hash_of}
use Rattle.ctrie_base.specs.declared.hashes.HashKind.{HashKind}
use Rattle.ctrie_base.specs.declared.refusals.Refusal.{Refusal}
use Rattle.history.specs.declared.events.Event.{Event}
use Rattle.history.specs.Orders.{IsLegal}
use Rattle.text_lines.specs.Words.{cut_at, words_of, spaced}
use Rattle.text_lines.specs.Texts.{lines_of, said_lines, is_ignored, without_empty_last}
use Rattle.text_lines.proofs.Whole.{Leads, text_leads}
use Rattle.text_lines.proofs.Parts.{made_ok}
use Rattle.text_lines.proofs.Lacking.{lacks, first_cut}
use Rattle.history_text.specs.Names.{line_named}
use Rattle.history_text.specs.Texts.{order_text}
use Rattle.history_text.specs.Lines.{header_of, order_of}
use Rattle.history_text.specs.Reading.{Reading, Progress, Start, InEvents, Ordered, Ended, history_format, history_of, words_after, all_read}
use Rattle.history_text.proofs.Feeds.{order_first, none_said}
use Rattle.order_search.specs.Searching.{HasNoOrder}
use Rattle.history_commands.specs.Verdicts.{SaysHistory}
use Rattle.history_commands.specs.Orders.{HasNoLegalOrder, with_order}

-- ---- lines

abbrev kept : List (List ℕ) → List (List ℕ)
kept lines = filter (λ line. not (is_ignored line)) lines

kept_append : (xs ys : List (List ℕ)) → kept (xs ++ ys) ≡ kept xs ++ kept ys
kept_append [] ys = refl
kept_append (x ∷ xs) ys =
    elim (is_ignored x) as (λ (b : Bool). cond (not b) (x ∷ kept (xs ++ ys)) (kept (xs ++ ys)) ≡ cond (not b) (x ∷ kept xs) (kept xs) ++ kept ys) [
      | true ↦ kept_append xs ys
      | false ↦ ap (λ ls. x ∷ ls) (kept_append xs ys)
    ]

-- an empty last line isn't kept anyway
kept_last : (xs : List (List ℕ)) → kept (without_empty_last xs) ≡ kept xs
kept_last [] = refl
kept_last ([] ∷ []) = refl
kept_last ((b ∷ bs) ∷ []) = refl
kept_last (x ∷ y ∷ more) = elim (is_ignored x) as (λ (b : Bool). cond (not b) (x ∷ kept (without_empty_last (y ∷ more))) (kept (without_empty_last (y ∷ more)))
    ≡ cond (not b) (x ∷ kept (y ∷ more)) (kept (y ∷ more))) [
      | true ↦ kept_last (y ∷ more)
      | false ↦ ap (λ ls. x ∷ ls) (kept_last (y ∷ more))
    ]

-- a text that is cut has some part
some_part : (text : List ℕ) → (x : List ℕ) × (xs : List (List ℕ)) × (cut_at 10 text ≡ x ∷ xs)
some_part [] = ([], [], refl)
some_part (b ∷ bs) = elim (eqb b 10) as (λ (e : Bool). eqb b 10 ≡ e → (x : List ℕ) × (xs : List (List ℕ)) × (cut_at 10 (b ∷ bs) ≡ x ∷ xs)) [
  | true ↦ λ e. ([], cut_at 10 bs, slice_split-cons_yes (λ x. eqb x 10) b bs e)
  | false ↦ λ e. let rest = some_part bs in (b ∷ rest.0, rest.1, slice_split-cons_no (λ x. eqb x 10) b bs e ∙ ap (onto_first b) rest.2)
] refl

-- a text is cut at a line feed in it
cut_append : (a b : List ℕ) → cut_at 10 (a ++ 10 ∷ b) ≡ cut_at 10 a ++ cut_at 10 b
cut_append [] b = slice_split-cons_yes (λ x. eqb x 10) 10 b (eq-eqb 10 10 refl)
cut_append (x ∷ a) b = elim (eqb x 10) as (λ (e : Bool). eqb x 10 ≡ e → cut_at 10 (x ∷ (a ++ 10 ∷ b)) ≡ cut_at 10 (x ∷ a) ++ cut_at 10 b) [
  | true ↦ λ e. slice_split-cons_yes (λ y. eqb y 10) x (a ++ 10 ∷ b) e ∙ ap (λ ls. [] ∷ ls) (cut_append a b) ∙ ap (λ ls. ls ++ cut_at 10 b) (sym (slice_split-cons_yes (λ y. eqb y 10) x a e))
  | false ↦ λ e.
      let part = some_part a in
      slice_split-cons_no (λ y. eqb y 10) x (a ++ 10 ∷ b) e ∙ ap (onto_first x) (cut_append a b ∙ ap (λ ls. ls ++ cut_at 10 b) part.2)
      ∙ ap (λ ls. onto_first x ls ++ cut_at 10 b) (sym part.2) ∙ ap (λ ls. ls ++ cut_at 10 b) (sym (slice_split-cons_no (λ y. eqb y 10) x a e))
] refl

said_is : (text : List ℕ) → said_lines text ≡ kept (cut_at 10 text)
unfolding said_lines lines_of
said_is text = kept_last (cut_at 10 text)

said_append : (a b : List ℕ) → said_lines (a ++ 10 ∷ b) ≡ said_lines a ++ said_lines b
said_append a b =
    said_is (a ++ 10 ∷ b) ∙ ap kept (cut_append a b) ∙ kept_append (cut_at 10 a) (cut_at 10 b) ∙ ap (λ ls. ls ++ kept (cut_at 10 b)) (sym (said_is a))
    ∙ ap (λ ls. said_lines a ++ ls) (sym (said_is b))

-- the lines of a text with an order's line after it
said_ordered : (text order : List ℕ) → said_lines (with_order text order) ≡ said_lines text ++ order_text order ∷ []
said_ordered text order = said_append text (order_text order ++ 10 ∷ []) ∙ ap (λ ls. said_lines text ++ ls) (order_first order [] ∙ ap (λ ls. order_text order ∷ ls) none_said)

-- ---- what they say

last_leads : (xs : List (List ℕ)) (line : List ℕ) (p q : Progress) → Leads history_format p (xs ++ line ∷ []) q → (r : Progress) × Leads history_format p xs r × (words_after r (words_of line) ≡ Ok q)
last_leads [] line p q leads = (p, refl, leads.1 ∙ ap (λ (x : Progress). Ok x) leads.2)
last_leads (x ∷ xs) line p q leads =
    let rest = last_leads xs line leads.0 q leads.2 in
    (rest.0, (leads.0, leads.1, rest.1), rest.2)

same_ok : {A : Type 0} (r : Result A Refusal) (x y : A) → r ≡ Ok x → r ≡ Ok y → x ≡ y
same_ok r x y a b = cc (a, b)

one_leads : (xs : List (List ℕ)) (p q r : Progress) → Leads history_format p xs q → Leads history_format p xs r → q ≡ r
one_leads [] p q r a b = sym a ∙ b
one_leads (x ∷ xs) p q r a b =
    let same : a.0 ≡ b.0 = same_ok (words_after p (words_of x)) a.0 b.0 a.1 b.1 in
    one_leads xs b.0 q r (subst (λ s. Leads history_format s xs q) same a.2) b.2

-- an order's line begins with its name
order_words_of : (order : List ℕ) → (rest : List (List ℕ)) × (words_of (order_text order) ≡ codes "order" ∷ rest)
order_words_of [] = ([], refl)
order_words_of (id ∷ ids) =
    let numbers : List ℕ = spaced (map decimal (id ∷ ids)) in
    (cut_at 32 numbers, first_cut 32 (codes "order") numbers (lacks 32 (codes "order") refl))

-- before an order's line stand events
before_order : (r q : Progress) (rest : List (List ℕ)) (reading : Reading) → words_after r (codes "order" ∷ rest) ≡ Ok q → all_read q ≡ Ok reading → r ≡ InEvents reading.hash reading.events
unfolding words_after line_named
before_order Start q rest reading says all =
    let made_is = made_ok (λ (hash : HashKind). InEvents hash []) (header_of (codes "order" ∷ rest)) q says in
    let wrong : ⊥ = cc (ap all_read made_is.2, all) in
    absurd wrong
before_order (InEvents hash events) q rest reading says all =
    let made_is = made_ok (λ (order : List ℕ). Ordered (record { hash = hash; events = events; order = order })) (order_of rest) q says in
    let whole : Ok (record { hash = hash; events = events; order = made_is.0 }) ≡ Ok reading = ap all_read made_is.2 ∙ all in
    let same : record { hash = hash; events = events; order = made_is.0 } ≡ reading = cc whole in
    ap (λ (x : Reading). InEvents x.hash x.events) same
before_order (Ordered read) q rest reading says all = let wrong : ⊥ = cc says in absurd wrong
before_order (Ended read) q rest reading says all = let wrong : ⊥ = cc says in absurd wrong

abbrev hash_in : Progress → HashKind → HashKind
hash_in (InEvents hash events) other = hash
hash_in p other = other

abbrev events_in : Progress → List Event
events_in (InEvents hash events) = events
events_in p = []

events_are : (text order : List ℕ) (reading : Reading) → history_of (with_order text order) ≡ Ok reading → Leads history_format Start (said_lines text) (InEvents reading.hash reading.events)
unfolding history_of
events_are text order reading read =
    let leads = text_leads history_format (with_order text order) reading read in
    let last = last_leads (said_lines text) (order_text order) Start leads.0 (subst (λ ls. Leads history_format Start ls leads.0) (said_ordered text order) leads.1) in
    let words = order_words_of order in
    let before = before_order last.0 leads.0 words.0 reading (ap (λ ws. words_after last.0 ws) (sym words.1) ∙ last.2) leads.2 in
    subst (λ r. Leads history_format Start (said_lines text) r) before last.1

-- where no order is legal for the events, none makes the text a history with a legal one
pub none_legal : (text order : List ℕ) (reading : Reading) → SaysHistory (with_order text order) reading → HasNoOrder (hash_of reading.hash) reading.events → HasNoLegalOrder text
none_legal text order reading says none other verdict =
    let found : Reading = verdict.0 in
    let same : InEvents found.hash found.events ≡ InEvents reading.hash reading.events =
    one_leads (said_lines text) Start (InEvents found.hash found.events) (InEvents reading.hash reading.events) (events_are text other found verdict.1.1) (events_are text order reading says.1) in
    let hashes : found.hash ≡ reading.hash = ap (λ p. hash_in p found.hash) same in
    let events : found.events ≡ reading.events = ap events_in same in
    none found.order (subst (λ h. IsLegal (hash_of h) reading.events found.order) hashes (subst (λ es. IsLegal (hash_of found.hash) es found.order) events (verdict.2.0 refl)))
