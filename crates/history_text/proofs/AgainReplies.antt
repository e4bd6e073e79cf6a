-- The words of a reply, an order and a header are read again, and no word of an event has a space.
use Rattle.std.proofs.Common.{◌≡◌, ℕ, suc, ◌+◌, ◌<◌, ◌≤◌, List, [], ◌∷◌, ◌++◌, length, take, drop, refl, ap, ◌∙◌, Result, Ok, Option, Some, None, Bool, true, false, eqb, arith}
use Rattle.std.specs.Prelude.{map, codes, IfSome}
use Rattle.std.specs.List.{list_all, position_or_len, AllByRecursion}
use Rattle.std.specs.Fmt.{decimal}
use Rattle.std.specs.Str.{all_ascii_digits}
use Rattle.std.proofs.lemmas.Bool.{eqb-true, lt-ltb}
use Rattle.std.proofs.Math.Seq.{take-append_seam}
use Rattle.std.proofs.lemmas.List.{length-append}
use Rattle.std.proofs.lemmas.Str.Parse.{tells_all_ascii_digits}
use Rattle.std.proofs.lemmas.Fmt.{digits_decimal}
use Rattle.ctrie_base.specs.declared.refusals.Refusal.{Refusal}
use Rattle.ctrie_base.specs.declared.hashes.HashKind.{HashKind}
use Rattle.ctrie_base.specs.declared.hashes.HashKind.TheVariants.{Low, Fold, Wide, Block}
use Rattle.ctrie_base.specs.Hashes.{name_of}
use Rattle.history.specs.declared.calls.Call.{Call}
use Rattle.history.specs.declared.calls.Call.TheVariants.{Get, Put, PutIfAbsent, Replace, ReplaceIf, Remove, RemoveIf, Clear, Snapshot, Freeze, Close, Entries, Count}
use Rattle.history.specs.declared.replies.Reply.{Reply}
use Rattle.history.specs.declared.replies.Reply.TheVariants as answer
use Rattle.history.specs.declared.events.Event.{Event}
use Rattle.history.specs.declared.events.Event.TheVariants.{Begin, End}
use Rattle.history_text.specs.Texts.{reply_words, call_words, opens_words, event_words, order_words, pair_text}
use Rattle.text_lines.specs.Words.{number_of, wanted, made, largest}
use Rattle.history_text.specs.Names.{reply_named, hash_named}
use Rattle.history_text.specs.Lines.{reply_of, pair_words, pair_word, pair_at, equals_at, has_equals, each, order_of, header_of}
use Rattle.history_text.specs.Grammar.{ReplyFits, CallFits, EventFits, IsHandle, IsNumber}
use Rattle.text_lines.proofs.Numbers.{own}
use Rattle.text_lines.proofs.Again.{IsClean, AreClean, clean, clean_decimal, value_again, wanted_again, both_again}
use Rattle.history_text.proofs.Again.{clean_pair, handle_again}

-- Pairs.

abbrev NoEquals : List ℕ → Type 0
NoEquals [] = Unit {0}
NoEquals (b ∷ bs) = (eqb b 61 ≡ false) × NoEquals bs

not_equals : (c : ℕ) (b : Bool) → eqb c 61 ≡ b → c ≤ 57 → eqb c 61 ≡ false
not_equals c true e le = absurd (let same : c ≡ 61 = eqb-true c 61 e in omega arith)
not_equals c false e le = e

digits_no_equals : (ds : List ℕ) → all_ascii_digits ds ≡ true → NoEquals ds
digits_no_equals [] h = tt
digits_no_equals (c ∷ cs) h =
    let p = tells_all_ascii_digits.parts c cs h in (not_equals c (eqb c 61) refl (let r = p.0 in omega (arith, r)), digits_no_equals cs p.1)

first_equals : (ds rest : List ℕ) → NoEquals ds → position_or_len (λ b. eqb b 61) (ds ++ 61 ∷ rest) ≡ length ds
first_equals [] rest h = refl
first_equals (c ∷ cs) rest h = rw (h.0, first_equals cs rest h.1) (omega arith)

drop_past : (ds rest : List ℕ) (x : ℕ) → drop (length ds + 1) (ds ++ x ∷ rest) ≡ rest
drop_past [] rest x = refl
drop_past (c ∷ cs) rest x = let e : length (c ∷ cs) + 1 ≡ suc (length cs + 1) = omega arith in rw e (drop_past cs rest x)

equals_found : (ds rest : List ℕ) → NoEquals ds → equals_at (ds ++ 61 ∷ rest) ≡ Some (length ds)
equals_found ds rest h =
    let lt : length ds < length (ds ++ 61 ∷ rest) = omega (arith, length-append ds (61 ∷ rest)) in
    rw (first_equals ds rest h, lt-ltb (length ds) (length (ds ++ 61 ∷ rest)) lt) refl

pair_parts : (k v : List ℕ) (n m : ℕ) → NoEquals k → wanted (number_of largest k) ≡ Ok n → wanted (number_of largest v) ≡ Ok m → pair_word (k ++ 61 ∷ v) ≡ Ok (n, m)
pair_parts k v n m h p q =
    ap (λ (o : Option ℕ). pair_at o (k ++ 61 ∷ v)) (equals_found k v h)
    ∙ both_again (wanted (number_of largest (take (length k) (k ++ 61 ∷ v)))) (wanted (number_of largest (drop (length k + 1) (k ++ 61 ∷ v)))) n m
    (ap (λ (t : List ℕ). wanted (number_of largest t)) (take-append_seam k (61 ∷ v)) ∙ p) (ap (λ (t : List ℕ). wanted (number_of largest t)) (drop_past k v 61) ∙ q)

abbrev Pair : ℕ × ℕ → Type 0
Pair x = IsNumber x.0 × IsNumber x.1

no_equals : (n : ℕ) → IsNumber n → NoEquals (decimal n)
no_equals n le = digits_no_equals (decimal n) (digits_decimal own n (omega arith))

pair_again : (x : ℕ × ℕ) → Pair x → pair_word (pair_text x) ≡ Ok x
pair_again x f = pair_parts (decimal x.0) (decimal x.1) x.0 x.1 (no_equals x.0 f.0) (wanted_again x.0 f.0) (wanted_again x.1 f.1)

each_again : {A : Type 0} (said : List ℕ → Result A Refusal) (text : A → List ℕ) (Fits : A → Type 0) → ((x : A) → Fits x → said (text x) ≡ Ok x)
    → (xs : List A) → AllByRecursion Fits xs → each said (map text xs) ≡ Ok xs
each_again said text Fits says [] f = refl
each_again said text Fits says (x ∷ xs) f = rw (says x f.0, each_again said text Fits says xs f.1) refl

have_equals : (xs : List (ℕ × ℕ)) → AllByRecursion Pair xs → list_all has_equals (map pair_text xs) ≡ true
have_equals [] f = refl
have_equals (x ∷ xs) f = rw (equals_found (decimal x.0) (decimal x.1) (no_equals x.0 f.0.0)) (have_equals xs f.1)

pairs_again : (xs : List (ℕ × ℕ)) → AllByRecursion Pair xs → pair_words (map pair_text xs) ≡ Ok xs
pairs_again xs f = rw (have_equals xs f) (each_again pair_word pair_text Pair pair_again xs f)

pub reply_again : (x : Reply) → ReplyFits x → reply_of (reply_words x) ≡ Ok x
unfolding reply_of reply_named
reply_again (answer.Found None) f = refl
reply_again (answer.Found (Some v)) f = ap (made (λ n. answer.Found (Some n))) (value_again v f)
reply_again (answer.Truth true) f = refl
reply_again (answer.Truth false) f = refl
reply_again answer.Crowded f = refl
reply_again (answer.Opened h) f = ap (made (λ n. answer.Opened n)) (handle_again h f)
reply_again answer.Closed f = refl
reply_again answer.Cleared f = refl
reply_again (answer.Pairs pairs) f = ap (made (λ xs. answer.Pairs xs)) (pairs_again pairs f)
reply_again (answer.Count n) f = ap (made (λ i. answer.Count i)) (value_again n f)
reply_again answer.NoSlots f = refl

pub order_again : (ids : List ℕ) → AllByRecursion IsNumber ids → order_of (map decimal ids) ≡ Ok ids
order_again ids f = each_again (λ w. wanted (number_of largest w)) decimal IsNumber wanted_again ids f

pub header_again : (k : HashKind) → header_of (codes "hash" ∷ name_of k ∷ []) ≡ Ok k
unfolding header_of hash_named
header_again Low = refl
header_again Fold = refl
header_again Wide = refl
header_again Block = refl

-- Words without spaces.

clean_more : (ws vs : List (List ℕ)) → AreClean ws → AreClean vs → AreClean (ws ++ vs)
clean_more [] vs p q = q
clean_more (w ∷ ws) vs p q = (p.0, clean_more ws vs p.1 q)

handle_clean : (h : ℕ) → IsHandle h → IsClean (decimal h)
handle_clean h p = clean_decimal h (omega arith)

clean_each : {A : Type 0} (text : A → List ℕ) (Fits : A → Type 0) → ((x : A) → Fits x → IsClean (text x)) → (xs : List A) → AllByRecursion Fits xs → AreClean (map text xs)
clean_each text Fits says [] f = tt
clean_each text Fits says (x ∷ xs) f = (says x f.0, clean_each text Fits says xs f.1)

pub clean_call : (c : Call) → CallFits c → AreClean (call_words c)
clean_call (Get h k) f = (clean (codes "get") refl, (handle_clean h f.0, (clean_decimal k f.1, tt)))
clean_call (Put h k v) f = (clean (codes "put") refl, (handle_clean h f.0, (clean_decimal k f.1, (clean_decimal v f.2, tt))))
clean_call (PutIfAbsent h k v) f = (clean (codes "put-if-absent") refl, (handle_clean h f.0, (clean_decimal k f.1, (clean_decimal v f.2, tt))))
clean_call (Replace h k v) f = (clean (codes "replace") refl, (handle_clean h f.0, (clean_decimal k f.1, (clean_decimal v f.2, tt))))
clean_call (ReplaceIf h k a b) f = (clean (codes "replace-if") refl, (handle_clean h f.0, (clean_decimal k f.1, (clean_decimal a f.2, (clean_decimal b f.3, tt)))))
clean_call (Remove h k) f = (clean (codes "remove") refl, (handle_clean h f.0, (clean_decimal k f.1, tt)))
clean_call (RemoveIf h k v) f = (clean (codes "remove-if") refl, (handle_clean h f.0, (clean_decimal k f.1, (clean_decimal v f.2, tt))))
clean_call (Clear h) f = (clean (codes "clear") refl, (handle_clean h f, tt))
clean_call (Snapshot h) f = (clean (codes "snapshot") refl, (handle_clean h f, tt))
clean_call (Freeze h) f = (clean (codes "freeze") refl, (handle_clean h f, tt))
clean_call (Close h) f = (clean (codes "close") refl, (handle_clean h f, tt))
clean_call (Entries h) f = (clean (codes "entries") refl, (handle_clean h f, tt))
clean_call (Count h) f = (clean (codes "count") refl, (handle_clean h f, tt))

clean_opens : (o : Option ℕ) → IfSome o IsHandle → AreClean (opens_words o)
clean_opens None f = tt
clean_opens (Some h) f = (clean (codes "as") refl, (handle_clean h f, tt))

clean_reply : (x : Reply) → ReplyFits x → AreClean (reply_words x)
clean_reply (answer.Found None) f = (clean (codes "none") refl, tt)
clean_reply (answer.Found (Some v)) f = (clean (codes "some") refl, (clean_decimal v f, tt))
clean_reply (answer.Truth true) f = (clean (codes "true") refl, tt)
clean_reply (answer.Truth false) f = (clean (codes "false") refl, tt)
clean_reply answer.Crowded f = (clean (codes "crowded") refl, tt)
clean_reply (answer.Opened h) f = (clean (codes "handle") refl, (handle_clean h f, tt))
clean_reply answer.Closed f = (clean (codes "closed") refl, tt)
clean_reply answer.Cleared f = (clean (codes "cleared") refl, tt)
clean_reply (answer.Pairs pairs) f = (clean (codes "pairs") refl, clean_each pair_text Pair (λ x p. clean_pair x p.0 p.1) pairs f)
clean_reply (answer.Count n) f = (clean (codes "count") refl, (clean_decimal n f, tt))
clean_reply answer.NoSlots f = (clean (codes "no-slots") refl, tt)

pub clean_event : (e : Event) → EventFits e → AreClean (event_words e)
clean_event (Begin id actor call opens) f = (
  clean (codes "begin") refl,
  (
    clean_decimal id f.0,
    (clean_decimal actor (let le = f.1 in omega arith), clean_more (call_words call) (opens_words opens) (clean_call call f.2) (clean_opens opens f.3)),
  ),
)
clean_event (End id answer) f = (clean (codes "end") refl, (clean_decimal id f.0, clean_reply answer f.1))

pub clean_order : (ids : List ℕ) → AllByRecursion IsNumber ids → AreClean (order_words ids)
clean_order ids f = (clean (codes "order") refl, clean_each decimal IsNumber clean_decimal ids f)

pub clean_hash : (k : HashKind) → IsClean (name_of k)
clean_hash Low = clean (codes "low") refl
clean_hash Fold = clean (codes "fold") refl
clean_hash Wide = clean (codes "wide") refl
clean_hash Block = clean (codes "block") refl
