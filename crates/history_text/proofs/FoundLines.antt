-- What the lines of a text that is read are.
use Rattle.std.proofs.Common.{◌≡◌, ℕ, List, [], ◌∷◌, ◌++◌, refl, sym, ap, ◌∙◌, subst, Ok, Option, Some, eqb, ◌⊎◌, inl, inr}
use Rattle.std.specs.Prelude.{map, codes, not}
use Rattle.std.specs.List.{AllByRecursion}
use Rattle.std.specs.Fmt.{decimal}
use Rattle.std.proofs.lemmas.Bool.{eqb-true, not-true}
use Rattle.std.proofs.lemmas.List.Splits.{join_with_byte-slice_split}
use Rattle.ctrie_base.specs.declared.hashes.HashKind.{HashKind}
use Rattle.history.specs.declared.events.Event.{Event}
use Rattle.history.specs.Histories.{begun, MayFollow}
use Rattle.history_text.specs.declared.names.LineName.{LineName}
use Rattle.history_text.specs.declared.names.LineName.TheVariants as line
use Rattle.text_lines.specs.Words.{spaced, words_of, both, largest}
use Rattle.history_text.specs.Texts.{event_words, order_words, call_words, opens_words, reply_words}
use Rattle.history_text.specs.Words.{value_word, actor_word}
use Rattle.history_text.specs.Names.{line_named, line_name, line_names}
use Rattle.history_text.specs.Lines.{call_of, reply_of, order_of}
use Rattle.history_text.specs.Running.{is_busy, is_running, next_id, idle_actor, running_id, begin_of, begin_from, end_of}
use Rattle.history_text.specs.Reading.{Progress, InEvents, Ordered, named_line, words_after}
use Rattle.history_text.specs.Grammar.{EventFits, IsNumber}
use Rattle.text_lines.proofs.Parts.{ok_is, both_ok, made_ok, word_is, named_is}
use Rattle.history_text.proofs.Parts.{passing_ok}
use Rattle.history_text.proofs.FoundCalls.{call_found}
use Rattle.history_text.proofs.FoundReplies.{reply_found, order_found}
use Rattle.history_text.proofs.Tied.{Tied, begin_may, end_may}

-- An event line.

pub record SaysEvent (es : List Event) (words : List (List ℕ)) (e : Event) : Type 0 where
  pub text : words ≡ event_words e
  pub fits : EventFits e
  pub may : MayFollow es e

three : (first id actor i a : List ℕ) (call rest : List (List ℕ)) → id ≡ i → actor ≡ a → call ≡ rest → first ∷ id ∷ actor ∷ call ≡ first ∷ i ∷ a ∷ rest
three first id actor i a call rest p q r = cc

from_found : (es : List Event) (id actor : List ℕ) (call : List (List ℕ)) (e : Event) → Tied es → begin_from es id actor call ≡ Ok e → SaysEvent es (codes "begin" ∷ id ∷ actor ∷ call) e
from_found es id actor call e t h =
    let ((number, (own, (asked, opens))), ok, same) = made_ok _ (both (next_id es id) (both (idle_actor es actor) (call_of call))) e h in
    let p = both_ok (next_id es id) (both (idle_actor es actor) (call_of call)) (number, (own, (asked, opens))) ok in
    let q = both_ok (idle_actor es actor) (call_of call) (own, (asked, opens)) p.1 in
    let i = passing_ok (λ n. eqb n (begun es)) (value_word id) number p.0 in
    let a = passing_ok (λ n. not (is_busy es n)) (actor_word actor) own q.0 in
    let iw = word_is largest id number i.0 in
    let aw = word_is 255 actor own a.0 in
    let c = call_found call (asked, opens) q.1 in
    subst (λ (x : Event). SaysEvent es (codes "begin" ∷ id ∷ actor ∷ call) x) same
    (record {
      text = three (codes "begin") id actor (decimal number) (decimal own) call (call_words asked ++ opens_words opens) iw.0 aw.0 c.text;
      fits = (iw.1, aw.1, c.fits, c.opened);
      may = begin_may es number own asked opens t (eqb-true number (begun es) i.1) (not-true (is_busy es own) a.1) c.rightly;
    })

begin_found : (es : List Event) (words : List (List ℕ)) (e : Event) → Tied es → begin_of es words ≡ Ok e → SaysEvent es (codes "begin" ∷ words) e
unfolding begin_of
begin_found es [] e t h = absurd cc
begin_found es (id ∷ []) e t h = absurd cc
begin_found es (id ∷ actor ∷ call) e t h = from_found es id actor call e t h

two_first : (first id i : List ℕ) (ws vs : List (List ℕ)) → id ≡ i → ws ≡ vs → first ∷ id ∷ ws ≡ first ∷ i ∷ vs
two_first first id i ws vs p q = cc

end_found : (es : List Event) (words : List (List ℕ)) (e : Event) → Tied es → end_of es words ≡ Ok e → SaysEvent es (codes "end" ∷ words) e
unfolding end_of
end_found es [] e t h = absurd cc
end_found es (id ∷ answer) e t h =
    let m = made_ok _ (both (running_id es id) (reply_of answer)) e h in
    let p = both_ok (running_id es id) (reply_of answer) m.0 m.1 in
    let i = passing_ok (λ n. is_running es n) (value_word id) m.0.0 p.0 in
    let iw = word_is largest id m.0.0 i.0 in
    let r = reply_found answer m.0.1 p.1 in
    subst (λ (x : Event). SaysEvent es (codes "end" ∷ id ∷ answer) x) m.2
    (record {
      text = two_first (codes "end") id (decimal m.0.0) answer (reply_words m.0.1) iw.0 r.text;
      fits = (iw.1, r.fits);
      may = end_may es m.0.0 m.0.1 t i.1;
    })

-- What a line says while events are read.

abbrev pub Moves : HashKind → List Event → List (List ℕ) → Progress → Type 0
Moves hash es words q =
    ((q ≡ InEvents hash es) × ((more : List (List ℕ)) × (words ≡ codes "denied" ∷ more)))
    ⊎ ((e : Event) × (q ≡ InEvents hash (es ++ e ∷ [])) × SaysEvent es words e)
    ⊎ ((order : List ℕ) × (q ≡ Ordered (record { hash = hash; events = es; order = order })) × (words ≡ order_words order) × AllByRecursion IsNumber order)

pub line_is_named : (w : List ℕ) (n : LineName) → line_named w ≡ Some n → w ≡ line_name n
unfolding line_named
line_is_named w n e = named_is line_name line_names w n e

same_first : (w v : List ℕ) (ws : List (List ℕ)) → w ≡ v → v ∷ ws ≡ w ∷ ws
same_first w v ws e = cc

order_line : (w : List ℕ) (ws vs : List (List ℕ)) → w ≡ codes "order" → ws ≡ vs → w ∷ ws ≡ codes "order" ∷ vs
order_line w ws vs p q = cc

named_moves : (o : Option LineName) (hash : HashKind) (es : List Event) (w : List ℕ) (ws : List (List ℕ)) (q : Progress) → Tied es
    → ((n : LineName) → o ≡ Some n → w ≡ line_name n) → named_line hash es o ws ≡ Ok q → Moves hash es (w ∷ ws) q
named_moves (Some line.Begin) hash es w ws q t is h =
    let m = made_ok _ (begin_of es ws) q h in
    inr (inl (m.0, sym m.2, subst (λ (v : List (List ℕ)). SaysEvent es v m.0) (same_first w (codes "begin") ws (is line.Begin refl)) (begin_found es ws m.0 t m.1)))
named_moves (Some line.End) hash es w ws q t is h =
    let m = made_ok _ (end_of es ws) q h in
    inr (inl (m.0, sym m.2, subst (λ (v : List (List ℕ)). SaysEvent es v m.0) (same_first w (codes "end") ws (is line.End refl)) (end_found es ws m.0 t m.1)))
named_moves (Some line.Denied) hash es w ws q t is h =
    inl (sym (ok_is (named_line hash es (Some line.Denied) ws) (InEvents hash es) q refl h), (ws, sym (same_first w (codes "denied") ws (is line.Denied refl))))
named_moves (Some line.Order) hash es w ws q t is h =
    let m = made_ok _ (order_of ws) q h in
    let p = order_found ws m.0 m.1 in
    inr (inr (m.0, sym m.2, order_line w ws (map decimal m.0) (is line.Order refl) p.0, p.1))
named_moves other hash es w ws q t is h = absurd cc

pub moves : (hash : HashKind) (es : List Event) (words : List (List ℕ)) (q : Progress) → Tied es → words_after (InEvents hash es) words ≡ Ok q → Moves hash es words q
unfolding words_after
moves hash es [] q t h = absurd cc
moves hash es (w ∷ ws) q t h = named_moves (line_named w) hash es w ws q t (λ n. line_is_named w n) h

-- the line of these words
pub line_of : (line : List ℕ) (words : List (List ℕ)) → words_of line ≡ words → line ≡ spaced words
line_of line words e = sym (join_with_byte-slice_split 32 line) ∙ ap spaced e
