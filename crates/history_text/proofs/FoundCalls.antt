-- The words of a call that is read are those of its text.
use Rattle.std.proofs.Common.{◌≡◌, ℕ, List, [], ◌∷◌, ◌++◌, refl, subst, Ok, Err, Option, Some, Bool, true, false, cond}
use Rattle.std.specs.Prelude.{IfSome, codes}
use Rattle.std.specs.Fmt.{decimal}
use Rattle.std.specs.Str.{bytes_eq}
use Rattle.std.proofs.lemmas.Slice.Eq.{bytes_eq-Decides}
use Rattle.ctrie_base.specs.declared.refusals.Refusal.TheVariants.{BadLine}
use Rattle.history.specs.declared.calls.Call.{Call}
use Rattle.history.specs.Histories.{OpensRightly}
use Rattle.history_text.specs.declared.names.CallName.{CallName}
use Rattle.history_text.specs.declared.names.CallName.TheVariants as call
use Rattle.history_text.specs.Texts.{call_words, opens_words}
use Rattle.text_lines.specs.Words.{both, largest}
use Rattle.history_text.specs.Words.{handle_word, value_word}
use Rattle.history_text.specs.Names.{call_named, call_name, call_names}
use Rattle.history_text.specs.Lines.{call_of, call_on_handle, call_on_key, call_on_pair, call_on_change, opening_call, opens}
use Rattle.history_text.specs.Grammar.{CallFits, IsHandle, IsNumber}
use Rattle.text_lines.proofs.Parts.{both_ok, made_ok, word_is, named_is}

-- these words are those of the call and of the handle that it opens
pub record SaysCall (words : List (List ℕ)) (x : Call × Option ℕ) : Type 0 where
  pub text : words ≡ call_words x.0 ++ opens_words x.1
  pub fits : CallFits x.0
  pub opened : IfSome x.1 IsHandle
  pub rightly : OpensRightly x.0 x.1

-- a word that names a call is its name
pub call_is : (w : List ℕ) (c : CallName) → call_named w ≡ Some c → w ≡ call_name c
unfolding call_named
call_is w c e = named_is call_name call_names w c e

abbrev Named : Option CallName → List ℕ → Type 0
Named o name = (c : CallName) → o ≡ Some c → name ≡ call_name c

handle_text : (c : CallName) (name h : List ℕ) (n : ℕ) → name ≡ call_name c → h ≡ decimal n → name ∷ h ∷ [] ≡ call_name c ∷ decimal n ∷ []
handle_text c name h n p q = cc

on_handle : (o : Option CallName) (name h : List ℕ) (x : Call × Option ℕ) → Named o name → call_on_handle o (handle_word h) ≡ Ok x → SaysCall (name ∷ h ∷ []) x
on_handle (Some call.Clear) name h x is e =
    let m = made_ok _ (handle_word h) x e in let w = word_is 65535 h m.0 m.1 in
    subst (λ (y : Call × Option ℕ). SaysCall (name ∷ h ∷ []) y) m.2 (record { text = handle_text call.Clear name h m.0 (is call.Clear refl) w.0; fits = w.1; opened = tt; rightly = refl })
on_handle (Some call.Close) name h x is e =
    let m = made_ok _ (handle_word h) x e in let w = word_is 65535 h m.0 m.1 in
    subst (λ (y : Call × Option ℕ). SaysCall (name ∷ h ∷ []) y) m.2 (record { text = handle_text call.Close name h m.0 (is call.Close refl) w.0; fits = w.1; opened = tt; rightly = refl })
on_handle (Some call.Entries) name h x is e =
    let m = made_ok _ (handle_word h) x e in let w = word_is 65535 h m.0 m.1 in
    subst (λ (y : Call × Option ℕ). SaysCall (name ∷ h ∷ []) y) m.2 (record { text = handle_text call.Entries name h m.0 (is call.Entries refl) w.0; fits = w.1; opened = tt; rightly = refl })
on_handle (Some call.Count) name h x is e =
    let m = made_ok _ (handle_word h) x e in let w = word_is 65535 h m.0 m.1 in
    subst (λ (y : Call × Option ℕ). SaysCall (name ∷ h ∷ []) y) m.2 (record { text = handle_text call.Count name h m.0 (is call.Count refl) w.0; fits = w.1; opened = tt; rightly = refl })
on_handle other name h x is e = absurd cc

-- a handle and a number
at_key : (h k : List ℕ) (a : ℕ × ℕ) → both (handle_word h) (value_word k) ≡ Ok a → (h ≡ decimal a.0) × (k ≡ decimal a.1) × IsHandle a.0 × IsNumber a.1
at_key h k a e =
    let b = both_ok (handle_word h) (value_word k) a e in let p = word_is 65535 h a.0 b.0 in let q = word_is largest k a.1 b.1 in
    (p.0, q.0, p.1, q.1)

key_text : (c : CallName) (name h k : List ℕ) (n m : ℕ) → name ≡ call_name c → h ≡ decimal n → k ≡ decimal m → name ∷ h ∷ k ∷ [] ≡ call_name c ∷ decimal n ∷ decimal m ∷ []
key_text c name h k n m p q r = cc

on_key : (o : Option CallName) (name h k : List ℕ) (x : Call × Option ℕ) → Named o name → call_on_key o (both (handle_word h) (value_word k)) ≡ Ok x → SaysCall (name ∷ h ∷ k ∷ []) x
on_key (Some call.Get) name h k x is e =
    let m = made_ok _ (both (handle_word h) (value_word k)) x e in let w = at_key h k m.0 m.1 in
    subst (λ (y : Call × Option ℕ). SaysCall (name ∷ h ∷ k ∷ []) y) m.2
    (record { text = key_text call.Get name h k m.0.0 m.0.1 (is call.Get refl) w.0 w.1; fits = (w.2, w.3); opened = tt; rightly = refl })
on_key (Some call.Remove) name h k x is e =
    let m = made_ok _ (both (handle_word h) (value_word k)) x e in let w = at_key h k m.0 m.1 in
    subst (λ (y : Call × Option ℕ). SaysCall (name ∷ h ∷ k ∷ []) y) m.2
    (record { text = key_text call.Remove name h k m.0.0 m.0.1 (is call.Remove refl) w.0 w.1; fits = (w.2, w.3); opened = tt; rightly = refl })
on_key other name h k x is e = absurd cc

at_pair : (h k v : List ℕ) (a : ℕ × (ℕ × ℕ)) → both (handle_word h) (both (value_word k) (value_word v)) ≡ Ok a
    → (h ≡ decimal a.0) × (k ≡ decimal a.1.0) × (v ≡ decimal a.1.1) × IsHandle a.0 × IsNumber a.1.0 × IsNumber a.1.1
at_pair h k v a e =
    let b = both_ok (handle_word h) (both (value_word k) (value_word v)) a e in let d = both_ok (value_word k) (value_word v) a.1 b.1 in
    let p = word_is 65535 h a.0 b.0 in let q = word_is largest k a.1.0 d.0 in let r = word_is largest v a.1.1 d.1 in
    (p.0, q.0, r.0, p.1, q.1, r.1)

pair_text : (c : CallName) (name h k v : List ℕ) (n m l : ℕ) → name ≡ call_name c → h ≡ decimal n → k ≡ decimal m → v ≡ decimal l
    → name ∷ h ∷ k ∷ v ∷ [] ≡ call_name c ∷ decimal n ∷ decimal m ∷ decimal l ∷ []
pair_text c name h k v n m l p q r s = cc

on_pair : (o : Option CallName) (name h k v : List ℕ) (x : Call × Option ℕ) → Named o name → call_on_pair o (both (handle_word h) (both (value_word k) (value_word v))) ≡ Ok x
    → SaysCall (name ∷ h ∷ k ∷ v ∷ []) x
on_pair (Some call.Put) name h k v x is e =
    let ((n, (i, j)), ok, same) = made_ok _ (both (handle_word h) (both (value_word k) (value_word v))) x e in let w = at_pair h k v (n, (i, j)) ok in
    subst (λ (y : Call × Option ℕ). SaysCall (name ∷ h ∷ k ∷ v ∷ []) y) same
    (record { text = pair_text call.Put name h k v n i j (is call.Put refl) w.0 w.1 w.2; fits = (w.3, w.4, w.5); opened = tt; rightly = refl })
on_pair (Some call.PutIfAbsent) name h k v x is e =
    let ((n, (i, j)), ok, same) = made_ok _ (both (handle_word h) (both (value_word k) (value_word v))) x e in let w = at_pair h k v (n, (i, j)) ok in
    subst (λ (y : Call × Option ℕ). SaysCall (name ∷ h ∷ k ∷ v ∷ []) y) same
    (record { text = pair_text call.PutIfAbsent name h k v n i j (is call.PutIfAbsent refl) w.0 w.1 w.2; fits = (w.3, w.4, w.5); opened = tt; rightly = refl })
on_pair (Some call.Replace) name h k v x is e =
    let ((n, (i, j)), ok, same) = made_ok _ (both (handle_word h) (both (value_word k) (value_word v))) x e in let w = at_pair h k v (n, (i, j)) ok in
    subst (λ (y : Call × Option ℕ). SaysCall (name ∷ h ∷ k ∷ v ∷ []) y) same
    (record { text = pair_text call.Replace name h k v n i j (is call.Replace refl) w.0 w.1 w.2; fits = (w.3, w.4, w.5); opened = tt; rightly = refl })
on_pair (Some call.RemoveIf) name h k v x is e =
    let ((n, (i, j)), ok, same) = made_ok _ (both (handle_word h) (both (value_word k) (value_word v))) x e in let w = at_pair h k v (n, (i, j)) ok in
    subst (λ (y : Call × Option ℕ). SaysCall (name ∷ h ∷ k ∷ v ∷ []) y) same
    (record { text = pair_text call.RemoveIf name h k v n i j (is call.RemoveIf refl) w.0 w.1 w.2; fits = (w.3, w.4, w.5); opened = tt; rightly = refl })
on_pair other name h k v x is e = absurd cc

opened_text : (c : CallName) (name h y z : List ℕ) (n m : ℕ) → name ≡ call_name c → h ≡ decimal n → y ≡ codes "as" → z ≡ decimal m
    → name ∷ h ∷ y ∷ z ∷ [] ≡ call_name c ∷ decimal n ∷ codes "as" ∷ decimal m ∷ []
opened_text c name h y z n m p q r s = cc

opening : (o : Option CallName) (name h y as_word : List ℕ) (x : Call × Option ℕ) → Named o name → as_word ≡ codes "as" → opening_call o (both (handle_word h) (handle_word y)) ≡ Ok x
    → SaysCall (name ∷ h ∷ as_word ∷ y ∷ []) x
opening (Some call.Snapshot) name h y as_word x is as_is e =
    let m = made_ok _ (both (handle_word h) (handle_word y)) x e in let b = both_ok (handle_word h) (handle_word y) m.0 m.1 in
    let p = word_is 65535 h m.0.0 b.0 in let q = word_is 65535 y m.0.1 b.1 in let n = is call.Snapshot refl in
    subst (λ (z : Call × Option ℕ). SaysCall (name ∷ h ∷ as_word ∷ y ∷ []) z) m.2
    (record { text = opened_text call.Snapshot name h as_word y m.0.0 m.0.1 n p.0 as_is q.0; fits = p.1; opened = q.1; rightly = refl })
opening (Some call.Freeze) name h y as_word x is as_is e =
    let m = made_ok _ (both (handle_word h) (handle_word y)) x e in let b = both_ok (handle_word h) (handle_word y) m.0 m.1 in
    let p = word_is 65535 h m.0.0 b.0 in let q = word_is 65535 y m.0.1 b.1 in let n = is call.Freeze refl in
    subst (λ (z : Call × Option ℕ). SaysCall (name ∷ h ∷ as_word ∷ y ∷ []) z) m.2
    (record { text = opened_text call.Freeze name h as_word y m.0.0 m.0.1 n p.0 as_is q.0; fits = p.1; opened = q.1; rightly = refl })
opening other name h y as_word x is as_is e = absurd cc

four_cases : (o : Option CallName) (name h y z : List ℕ) (x : Call × Option ℕ) → Named o name → (b a : Bool) → bytes_eq y (codes "as") ≡ a
    → cond b (cond a (opening_call o (both (handle_word h) (handle_word z))) (Err BadLine)) (call_on_pair o (both (handle_word h) (both (value_word y) (value_word z)))) ≡ Ok x
    → SaysCall (name ∷ h ∷ y ∷ z ∷ []) x
four_cases o name h y z x is true true as_is e = opening o name h z y x is ((bytes_eq-Decides y (codes "as")).0 as_is) e
four_cases o name h y z x is true false as_is e = absurd cc
four_cases o name h y z x is false a as_is e = on_pair o name h y z x is e

change_text : (name h k a b : List ℕ) (n m i j : ℕ) → name ≡ codes "replace-if" → h ≡ decimal n → k ≡ decimal m → a ≡ decimal i → b ≡ decimal j
    → name ∷ h ∷ k ∷ a ∷ b ∷ [] ≡ codes "replace-if" ∷ decimal n ∷ decimal m ∷ decimal i ∷ decimal j ∷ []
change_text name h k a b n m i j p q r s t = cc

on_change : (o : Option CallName) (name h k a b : List ℕ) (x : Call × Option ℕ) → Named o name
    → call_on_change o (both (handle_word h) (both (value_word k) (both (value_word a) (value_word b)))) ≡ Ok x → SaysCall (name ∷ h ∷ k ∷ a ∷ b ∷ []) x
on_change (Some call.ReplaceIf) name h k a b x is e =
    let ((n, (l, (i, j))), ok, same) = made_ok _ (both (handle_word h) (both (value_word k) (both (value_word a) (value_word b)))) x e in
    let d = both_ok (handle_word h) (both (value_word k) (both (value_word a) (value_word b))) (n, (l, (i, j))) ok in
    let f = both_ok (value_word k) (both (value_word a) (value_word b)) (l, (i, j)) d.1 in
    let g = both_ok (value_word a) (value_word b) (i, j) f.1 in
    let p = word_is 65535 h n d.0 in let q = word_is largest k l f.0 in let r = word_is largest a i g.0 in let s = word_is largest b j g.1 in
    subst (λ (y : Call × Option ℕ). SaysCall (name ∷ h ∷ k ∷ a ∷ b ∷ []) y) same
    (record { text = change_text name h k a b n l i j (is call.ReplaceIf refl) p.0 q.0 r.0 s.0; fits = (p.1, q.1, r.1, s.1); opened = tt; rightly = refl })
on_change other name h k a b x is e = absurd cc

pub call_found : (words : List (List ℕ)) (x : Call × Option ℕ) → call_of words ≡ Ok x → SaysCall words x
unfolding call_of
call_found [] x e = absurd cc
call_found (name ∷ []) x e = absurd cc
call_found (name ∷ h ∷ []) x e = on_handle (call_named name) name h x (λ c. call_is name c) e
call_found (name ∷ h ∷ k ∷ []) x e = on_key (call_named name) name h k x (λ c. call_is name c) e
call_found (name ∷ h ∷ y ∷ z ∷ []) x e = four_cases (call_named name) name h y z x (λ c. call_is name c) (opens (call_named name)) (bytes_eq y (codes "as")) refl e
call_found (name ∷ h ∷ k ∷ a ∷ b ∷ []) x e = on_change (call_named name) name h k a b x (λ c. call_is name c) e
call_found (name ∷ h ∷ k ∷ a ∷ b ∷ d ∷ more) x e = absurd cc
