-- The words of a reply, an order or a header that is read are those of its text.
use Rattle.std.proofs.Common.{◌≡◌, ℕ, ◌+◌, ◌<◌, List, [], ◌∷◌, ◌++◌, length, take, drop, get_or, refl, ◌∙◌, subst, Result, Ok, Err, Option, Some, None, Bool, true, false, cond, eqb, ltb}
use Rattle.std.specs.Prelude.{map, codes}
use Rattle.std.specs.List.{AllByRecursion, list_all, position_or_len}
use Rattle.std.specs.Fmt.{decimal}
use Rattle.std.specs.Str.{bytes_eq}
use Rattle.std.proofs.lemmas.Slice.Eq.{bytes_eq-Decides}
use Rattle.std.proofs.lemmas.List.Sums.{split_at_first, passes_at_first}
use Rattle.std.proofs.lemmas.Bool.{eqb-true, ltb-true}
use Rattle.ctrie_base.specs.declared.refusals.Refusal.{Refusal}
use Rattle.ctrie_base.specs.declared.refusals.Refusal.TheVariants.{BadLine, BadHeader}
use Rattle.ctrie_base.specs.declared.hashes.HashKind.{HashKind}
use Rattle.ctrie_base.specs.Hashes.{name_of}
use Rattle.history.specs.declared.replies.Reply.{Reply}
use Rattle.history.specs.declared.replies.Reply.TheVariants as answer
use Rattle.history_text.specs.declared.names.ReplyName.{ReplyName}
use Rattle.history_text.specs.declared.names.ReplyName.TheVariants as reply
use Rattle.history_text.specs.Texts.{reply_words, pair_text}
use Rattle.text_lines.specs.Words.{number_of, wanted, made, largest}
use Rattle.history_text.specs.Words.{handle_word, value_word}
use Rattle.history_text.specs.Names.{reply_named, reply_name, reply_names, hash_named, hash_kinds}
use Rattle.history_text.specs.Lines.{reply_of, bare_reply, reply_with, is_pairs, plain_reply, pair_words, pair_word, pair_at, equals_at, has_equals, each, order_of, header_of, hash_wanted}
use Rattle.history_text.specs.Grammar.{ReplyFits, IsNumber}
use Rattle.text_lines.proofs.Parts.{both_ok, made_ok, bind_ok, word_is, wanted_is, named_is}

pub record SaysReply (words : List (List ℕ)) (x : Reply) : Type 0 where
  pub text : words ≡ reply_words x
  pub fits : ReplyFits x

abbrev Named : Option ReplyName → List ℕ → Type 0
Named o name = (c : ReplyName) → o ≡ Some c → name ≡ reply_name c

reply_is : (w : List ℕ) (c : ReplyName) → reply_named w ≡ Some c → w ≡ reply_name c
unfolding reply_named
reply_is w c e = named_is reply_name reply_names w c e

bare_says : (name : List ℕ) (x y : Reply) (r : Result Reply Refusal) → r ≡ Ok x → name ∷ [] ≡ reply_words x → ReplyFits x → r ≡ Ok y → SaysReply (name ∷ []) y
bare_says name x y r d text fits e = let same : x ≡ y = cc in subst (λ (z : Reply). SaysReply (name ∷ []) z) same (record { text = text; fits = fits })

one : (name t : List ℕ) → name ≡ t → name ∷ [] ≡ t ∷ []
one name t e = cc

bare : (o : Option ReplyName) (name : List ℕ) (x : Reply) → Named o name → bare_reply o ≡ Ok x → SaysReply (name ∷ []) x
bare (Some reply.None) name x is e = bare_says name (answer.Found None) x (bare_reply (Some reply.None)) refl (one name (codes "none") (is reply.None refl)) tt e
bare (Some reply.True) name x is e = bare_says name (answer.Truth true) x (bare_reply (Some reply.True)) refl (one name (codes "true") (is reply.True refl)) tt e
bare (Some reply.False) name x is e = bare_says name (answer.Truth false) x (bare_reply (Some reply.False)) refl (one name (codes "false") (is reply.False refl)) tt e
bare (Some reply.Crowded) name x is e = bare_says name answer.Crowded x (bare_reply (Some reply.Crowded)) refl (one name (codes "crowded") (is reply.Crowded refl)) tt e
bare (Some reply.Closed) name x is e = bare_says name answer.Closed x (bare_reply (Some reply.Closed)) refl (one name (codes "closed") (is reply.Closed refl)) tt e
bare (Some reply.Cleared) name x is e = bare_says name answer.Cleared x (bare_reply (Some reply.Cleared)) refl (one name (codes "cleared") (is reply.Cleared refl)) tt e
bare (Some reply.NoSlots) name x is e = bare_says name answer.NoSlots x (bare_reply (Some reply.NoSlots)) refl (one name (codes "no-slots") (is reply.NoSlots refl)) tt e
bare other name x is e = absurd cc

two : (name w s t : List ℕ) → name ≡ s → w ≡ t → name ∷ w ∷ [] ≡ s ∷ t ∷ []
two name w s t p q = cc

with : (o : Option ReplyName) (name w : List ℕ) (x : Reply) → Named o name → reply_with o w ≡ Ok x → SaysReply (name ∷ w ∷ []) x
with (Some reply.Some) name w x is e =
    let m = made_ok _ (value_word w) x e in let p = word_is largest w m.0 m.1 in
    subst (λ (z : Reply). SaysReply (name ∷ w ∷ []) z) m.2 (record { text = two name w (codes "some") (decimal m.0) (is reply.Some refl) p.0; fits = p.1 })
with (Some reply.Handle) name w x is e =
    let m = made_ok _ (handle_word w) x e in let p = word_is 65535 w m.0 m.1 in
    subst (λ (z : Reply). SaysReply (name ∷ w ∷ []) z) m.2 (record { text = two name w (codes "handle") (decimal m.0) (is reply.Handle refl) p.0; fits = p.1 })
with (Some reply.Count) name w x is e =
    let m = made_ok _ (value_word w) x e in let p = word_is largest w m.0 m.1 in
    subst (λ (z : Reply). SaysReply (name ∷ w ∷ []) z) m.2 (record { text = two name w (codes "count") (decimal m.0) (is reply.Count refl) p.0; fits = p.1 })
with other name w x is e = absurd cc

-- two lists of words with the same first and the same others
pub cons_same : (w v : List ℕ) (ws vs : List (List ℕ)) → w ≡ v → ws ≡ vs → w ∷ ws ≡ v ∷ vs
cons_same w v ws vs p q = cc

-- what each word says, each word says so
pub each_found : {A : Type 0} (said : List ℕ → Result A Refusal) (text : A → List ℕ) (Fits : A → Type 0) → ((w : List ℕ) (x : A) → said w ≡ Ok x → (w ≡ text x) × Fits x)
    → (ws : List (List ℕ)) (xs : List A) → each said ws ≡ Ok xs → (ws ≡ map text xs) × AllByRecursion Fits xs
each_found {A} said text Fits says [] xs e =
    let same : [] ≡ xs = cc in subst (λ (ys : List A). ([] ≡ map text ys) × AllByRecursion Fits ys) same (refl, tt)
each_found {A} said text Fits says (w ∷ ws) xs e =
    let a = bind_ok (said w) (λ x. made (λ ys. x ∷ ys) (each said ws)) xs e in
    let b = made_ok (λ ys. a.0 ∷ ys) (each said ws) xs a.2 in
    let first = says w a.0 a.1 in let rest = each_found said text Fits says ws b.0 b.1 in
    subst (λ (ys : List A). (w ∷ ws ≡ map text ys) × AllByRecursion Fits ys) b.2 (cons_same w (text a.0) ws (map text b.0) first.0 rest.0, (first.1, rest.1))

equals_cases : (b : Bool) (i j : ℕ) → cond b (Some i) None ≡ Some j → (b ≡ true) × (i ≡ j)
equals_cases true i j e = (refl, cc)
equals_cases false i j e = absurd cc

split_pair : (w : List ℕ) (i : ℕ) (k v : List ℕ) → equals_at w ≡ Some i → take i w ≡ k → drop (i + 1) w ≡ v → w ≡ k ++ 61 ∷ v
split_pair w i k v at p q =
    let c = equals_cases (ltb (position_or_len (λ b. eqb b 61) w) (length w)) (position_or_len (λ b. eqb b 61) w) i at in
    let lt : position_or_len (λ b. eqb b 61) w < length w = ltb-true _ _ c.0 in
    let here : get_or w (position_or_len (λ b. eqb b 61) w) 0 ≡ 61 = eqb-true _ _ (passes_at_first (λ b. eqb b 61) w 0 lt) in
    let parts : w ≡ take i w ++ get_or w i 0 ∷ drop (i + 1) w = subst (λ (j : ℕ). w ≡ take j w ++ get_or w j 0 ∷ drop (j + 1) w) c.1 (split_at_first (λ b. eqb b 61) w 0 lt) in
    let found : get_or w i 0 ≡ 61 = subst (λ (j : ℕ). get_or w j 0 ≡ 61) c.1 here in
    parts ∙ rw (p, q, found) refl

pair_cases : (o : Option ℕ) (w : List ℕ) (x : ℕ × ℕ) → equals_at w ≡ o → pair_at o w ≡ Ok x → (w ≡ pair_text x) × (IsNumber x.0 × IsNumber x.1)
pair_cases None w x at e = absurd cc
pair_cases (Some i) w x at e =
    let b = both_ok (wanted (number_of largest (take i w))) (wanted (number_of largest (drop (i + 1) w))) x e in
    let k = wanted_is largest (take i w) x.0 b.0 in let v = wanted_is largest (drop (i + 1) w) x.1 b.1 in
    (split_pair w i (decimal x.0) (decimal x.1) at k.0 v.0, (k.1, v.1))

pub pair_found : (w : List ℕ) (x : ℕ × ℕ) → pair_word w ≡ Ok x → (w ≡ pair_text x) × (IsNumber x.0 × IsNumber x.1)
pair_found w x e = pair_cases (equals_at w) w x refl e

checked : {A : Type 0} (b : Bool) (r : Result A Refusal) (x : A) → cond b r (Err BadLine) ≡ Ok x → r ≡ Ok x
checked true r x e = e
checked false r x e = absurd cc

plain : (o : Option ReplyName) (name : List ℕ) (more : List (List ℕ)) (x : Reply) → Named o name → plain_reply o more ≡ Ok x → SaysReply (name ∷ more) x
plain o name [] x is e = bare o name x is e
plain o name (w ∷ []) x is e = with o name w x is e
plain o name (w ∷ v ∷ more) x is e = absurd cc

reply_cases : (o : Option ReplyName) (name : List ℕ) (more : List (List ℕ)) (x : Reply) → Named o name
    → cond (is_pairs o) (made (λ pairs. answer.Pairs pairs) (pair_words more)) (plain_reply o more) ≡ Ok x → SaysReply (name ∷ more) x
reply_cases (Some reply.Pairs) name more x is e =
    let m = made_ok (λ pairs. answer.Pairs pairs) (pair_words more) x e in
    let p = each_found pair_word pair_text (λ pair. IsNumber pair.0 × IsNumber pair.1) pair_found more m.0 (checked (list_all has_equals more) (each pair_word more) m.0 m.1) in
    subst (λ (z : Reply). SaysReply (name ∷ more) z) m.2 (record { text = cons_same name (codes "pairs") more (map pair_text m.0) (is reply.Pairs refl) p.0; fits = p.1 })
reply_cases other name more x is e = plain other name more x is e

pub reply_found : (words : List (List ℕ)) (x : Reply) → reply_of words ≡ Ok x → SaysReply words x
unfolding reply_of
reply_found [] x e = absurd cc
reply_found (name ∷ more) x e = reply_cases (reply_named name) name more x (λ c. reply_is name c) e

pub order_found : (ws : List (List ℕ)) (ids : List ℕ) → order_of ws ≡ Ok ids → (ws ≡ map decimal ids) × AllByRecursion IsNumber ids
order_found ws ids e = each_found (λ w. wanted (number_of largest w)) decimal IsNumber (λ w n. wanted_is largest w n) ws ids e

hash_cases : (o : Option HashKind) (kind : HashKind) → hash_wanted o ≡ Ok kind → o ≡ Some kind
hash_cases None kind e = absurd cc
hash_cases (Some x) kind e = cc

header_cases : (b : Bool) (r : Result HashKind Refusal) (kind : HashKind) → cond b r (Err BadHeader) ≡ Ok kind → (b ≡ true) × (r ≡ Ok kind)
header_cases true r kind e = (refl, e)
header_cases false r kind e = absurd cc

hash_is : (w : List ℕ) (kind : HashKind) → hash_named w ≡ Some kind → w ≡ name_of kind
unfolding hash_named
hash_is w kind e = named_is name_of hash_kinds w kind e

pub header_found : (words : List (List ℕ)) (kind : HashKind) → header_of words ≡ Ok kind → words ≡ codes "hash" ∷ name_of kind ∷ []
unfolding header_of
header_found [] kind e = absurd cc
header_found (w ∷ []) kind e = absurd cc
header_found (w ∷ name ∷ []) kind e =
    let p = header_cases (bytes_eq w (codes "hash")) (hash_wanted (hash_named name)) kind e in
    two w name (codes "hash") (name_of kind) ((bytes_eq-Decides w (codes "hash")).0 p.0) (hash_is name kind (hash_cases (hash_named name) kind p.1))
header_found (w ∷ name ∷ v ∷ more) kind e = absurd cc
