-- Words behind spaces.
use Rattle.std.proofs.Common.{◌≡◌, ℕ, ◌+◌, ◌<◌, List, [], ◌∷◌, ◌++◌, length, get_or, take, refl, sym, ap, ◌∙◌, append_assoc}
use Rattle.std.specs.Prelude.{map, codes, Option}
use Rattle.std.specs.Fmt.{decimal}
use Rattle.std.proofs.lemmas.List.{take_more, append-nil}
use Rattle.std.proofs.lemmas.List.Concat.{flat_map-append}
use Rattle.history.specs.declared.calls.Call.{Call}
use Rattle.history.specs.declared.calls.Call.TheVariants.{Get, Put, PutIfAbsent, Replace, ReplaceIf, Remove, RemoveIf, Clear, Snapshot, Freeze, Close, Entries, Count}
use Rattle.history.specs.declared.events.Event.TheVariants.{Begin}
use Rattle.text_lines.specs.Words.{spaced}
use Rattle.history_text.specs.Texts.{behind_spaces, call_words, call_text, opens_words, event_text}

-- one word more behind a space
pub behind_push : (ws : List (List ℕ)) (w : List ℕ) → behind_spaces (ws ++ w ∷ []) ≡ behind_spaces ws ++ 32 ∷ w
behind_push ws w = flat_map-append (λ x. 32 ∷ x) ws (w ∷ []) ∙ ap (λ (t : List ℕ). behind_spaces ws ++ t) (append-nil (32 ∷ w))

map_push : {X : Type 0} (f : X → List ℕ) (xs : List X) (x : X) → map f (xs ++ x ∷ []) ≡ map f xs ++ f x ∷ []
map_push f [] x = refl
map_push f (y ∷ ys) x = ap (λ (t : List (List ℕ)). f y ∷ t) (map_push f ys x)

-- one item more behind a space
pub behind_more : {X : Type 0} (f : X → List ℕ) (xs : List X) (i : ℕ) (d : X) → i < length xs
    → behind_spaces (map f (take i xs)) ++ 32 ∷ f (get_or xs i d) ≡ behind_spaces (map f (take (i + 1) xs))
behind_more f xs i d lt =
    sym (ap (λ (t : List _). behind_spaces (map f t)) (take_more xs i d lt) ∙ ap behind_spaces (map_push f (take i xs) (get_or xs i d)) ∙ behind_push (map f (take i xs)) (f (get_or xs i d)))

-- a first word, and the others behind spaces
pub spaced_first : (w : List ℕ) (ws : List (List ℕ)) → w ++ behind_spaces ws ≡ spaced (w ∷ ws)
spaced_first w [] = append-nil w
spaced_first w (v ∷ ws) = ap (λ (t : List ℕ). w ++ 32 ∷ t) (spaced_first v ws)

-- a text of one word at least, and more words behind spaces
pub spaced_more : (w : List ℕ) (ws vs : List (List ℕ)) → spaced (w ∷ ws) ++ behind_spaces vs ≡ spaced (w ∷ (ws ++ vs))
spaced_more w ws vs =
    ap (λ (t : List ℕ). t ++ behind_spaces vs) (sym (spaced_first w ws)) ∙ append_assoc w (behind_spaces ws) (behind_spaces vs)
    ∙ ap (λ (t : List ℕ). w ++ t) (sym (flat_map-append (λ x. 32 ∷ x) ws vs)) ∙ spaced_first w (ws ++ vs)

-- a call has a first word
pub call_first : (call : Call) → (w : List ℕ) × (ws : List (List ℕ)) × (call_words call ≡ w ∷ ws)
call_first (Get h k) = (_, _, refl)
call_first (Put h k v) = (_, _, refl)
call_first (PutIfAbsent h k v) = (_, _, refl)
call_first (Replace h k v) = (_, _, refl)
call_first (ReplaceIf h k a b) = (_, _, refl)
call_first (Remove h k) = (_, _, refl)
call_first (RemoveIf h k v) = (_, _, refl)
call_first (Clear h) = (_, _, refl)
call_first (Snapshot h) = (_, _, refl)
call_first (Freeze h) = (_, _, refl)
call_first (Close h) = (_, _, refl)
call_first (Entries h) = (_, _, refl)
call_first (Count h) = (_, _, refl)

begin_join : (id actor w : List ℕ) (ws vs : List (List ℕ))
    → codes "begin " ++ (id ++ (codes " " ++ (actor ++ (codes " " ++ (spaced (w ∷ ws) ++ behind_spaces vs))))) ≡ spaced (codes "begin" ∷ id ∷ actor ∷ (w ∷ (ws ++ vs)))
begin_join id actor w ws vs = ap (λ (t : List ℕ). codes "begin " ++ (id ++ (codes " " ++ (actor ++ (codes " " ++ t))))) (spaced_more w ws vs)

-- the line of a begin, in the parts in which it is written
pub begin_text : (id actor : ℕ) (call : Call) (opens : Option ℕ)
    → codes "begin " ++ (decimal id ++ (codes " " ++ (decimal actor ++ (codes " " ++ (call_text call ++ behind_spaces (opens_words opens)))))) ≡ event_text (Begin id actor call opens)
begin_text id actor call opens =
    let f = call_first call in
    rw f.2 (begin_join (decimal id) (decimal actor) f.0 f.1 (opens_words opens))
