-- The words of a command that is read are those of its text.
use Rattle.std.proofs.Common.{◌≡◌, ℕ, List, [], ◌∷◌, ◌++◌, refl, ap, ◌∙◌, subst, Ok, Option, Some, None, Bool, true, false, cond}
use Rattle.std.specs.Prelude.{codes}
use Rattle.std.specs.List.{find, AllByRecursion}
use Rattle.std.specs.Fmt.{decimal}
use Rattle.std.specs.Str.{bytes_eq}
use Rattle.std.proofs.lemmas.List.{append-nil}
use Rattle.ctrie_base.specs.declared.kinds.Kind.{Kind}
use Rattle.ctrie_base.specs.Kinds as kinds
use Rattle.history.specs.declared.calls.Call.{Call}
use Rattle.history.specs.declared.calls.Call.TheVariants as call
use Rattle.history.specs.Histories.{OpensRightly}
use Rattle.text_lines.specs.Words.{both, made}
use Rattle.text_lines.proofs.Parts.{both_ok, made_ok, word_is, range_is, named_is}
use Rattle.history_text.specs.declared.names.CallName.{CallName}
use Rattle.history_text.specs.declared.names.CallName.TheVariants as name
use Rattle.history_text.specs.Names.{call_named, call_name}
use Rattle.history_text.specs.Texts.{call_words, opens_words}
use Rattle.history_text.specs.Words.{actor_word, handle_word}
use Rattle.history_text.specs.Lines.{call_of, opens}
use Rattle.history_text.specs.Grammar.{CallFits}
use Rattle.history_text.proofs.FoundCalls.{call_found, call_is}
use Rattle.script_text.specs.declared.commands.Command.{Command}
use Rattle.script_text.specs.declared.commands.Command.TheVariants.{Finish, Sweep}
use Rattle.script_text.specs.declared.names.CommandName.{CommandName}
use Rattle.script_text.specs.declared.names.CommandName.TheVariants as command
use Rattle.script_text.specs.Names.{command_named, command_name, command_names, kind_named, operation_kinds}
use Rattle.script_text.specs.Commands.{opening, opening_call, script_call, times_word, kind_wanted, kind_word, begin_of, do_of, go_of, until_of, finish_of, sweep_of, named_command, command_of}
use Rattle.script_text.specs.Grammar.{command_words, CommandFits, IsOfOperation}

-- Calls.

pub record SaysCall (words : List (List ℕ)) (c : Call) : Type 0 where
  pub text : words ≡ call_words c
  pub fits : CallFits c

pub two : (name h n : List ℕ) (m : ℕ) → name ≡ n → h ≡ decimal m → name ∷ h ∷ [] ≡ n ∷ decimal m ∷ []
two name h n m p q = cc

opened : (o : Option CallName) (w h : List ℕ) (c : Call) → opens o ≡ true → ((n : CallName) → o ≡ Some n → w ≡ call_name n) → made (opening o) (handle_word h) ≡ Ok c → SaysCall (w ∷ h ∷ []) c
opened (Some name.Snapshot) w h c e is f =
    let m = made_ok (opening (Some name.Snapshot)) (handle_word h) c f in let p = word_is 65535 h m.0 m.1 in
    subst (λ (x : Call). SaysCall (w ∷ h ∷ []) x) m.2 (record { text = two w h (codes "snapshot") m.0 (is name.Snapshot refl) p.0; fits = p.1 })
opened (Some name.Freeze) w h c e is f =
    let m = made_ok (opening (Some name.Freeze)) (handle_word h) c f in let p = word_is 65535 h m.0 m.1 in
    subst (λ (x : Call). SaysCall (w ∷ h ∷ []) x) m.2 (record { text = two w h (codes "freeze") m.0 (is name.Freeze refl) p.0; fits = p.1 })
opened other w h c e is f = absurd cc

opening_found : (o : Option CallName) (w : List ℕ) (more : List (List ℕ)) (c : Call) → opens o ≡ true → ((n : CallName) → o ≡ Some n → w ≡ call_name n) → opening_call o more ≡ Ok c
    → SaysCall (w ∷ more) c
unfolding opening_call
opening_found o w [] c e is f = absurd cc
opening_found o w (h ∷ []) c e is f = opened o w h c e is f
opening_found o w (h ∷ k ∷ more) c e is f = absurd cc

pub first_is : (w v : List ℕ) (ws vs : List (List ℕ)) → w ∷ ws ≡ v ∷ vs → w ≡ v
first_is w v ws vs e = cc

opens_both : (w v : List ℕ) → w ≡ v → opens (call_named v) ≡ true → opens (call_named w) ≡ false → ⊥
opens_both w v e p q = let same = ap (λ (x : List ℕ). opens (call_named x)) e in absurd cc

-- a call that opens no handle comes with none
plain : (c : Call) (o : Option ℕ) (w : List ℕ) (ws : List (List ℕ)) → w ∷ ws ≡ call_words c ++ opens_words o → OpensRightly c o → opens (call_named w) ≡ false → w ∷ ws ≡ call_words c
unfolding call_named
plain (call.Snapshot h) o w ws e r f = absurd (opens_both w (codes "snapshot") (first_is w (codes "snapshot") ws _ e) refl f)
plain (call.Freeze h) o w ws e r f = absurd (opens_both w (codes "freeze") (first_is w (codes "freeze") ws _ e) refl f)
plain c None w ws e r f = e ∙ append-nil (call_words c)
plain c (Some n) w ws e r f = absurd cc

call_cases : (b : Bool) (w : List ℕ) (ws : List (List ℕ)) (c : Call) → opens (call_named w) ≡ b
    → cond b (opening_call (call_named w) ws) (made (λ said. said.0) (call_of (w ∷ ws))) ≡ Ok c → SaysCall (w ∷ ws) c
call_cases true w ws c b e = opening_found (call_named w) w ws c b (call_is w) e
call_cases false w ws c b e =
    let m = made_ok (λ (said : Call × Option ℕ). said.0) (call_of (w ∷ ws)) c e in
    let says = call_found (w ∷ ws) m.0 m.1 in
    subst (λ (x : Call). SaysCall (w ∷ ws) x) m.2 (record { text = plain m.0.0 m.0.1 w ws says.text says.rightly b; fits = says.fits })

script_call_found : (words : List (List ℕ)) (c : Call) → script_call words ≡ Ok c → SaysCall words c
unfolding script_call
script_call_found [] c e = absurd cc
script_call_found (w ∷ ws) c e = call_cases (opens (call_named w)) w ws c refl e

-- Kinds.

first_holds : {N : Type 0} (P : N → Type 0) (b : Bool) (x n : N) (rest : Option N) → P x → (rest ≡ Some n → P n) → cond b (Some x) rest ≡ Some n → P n
first_holds P true x n rest here later e = let same : x ≡ n = cc in subst P same here
first_holds P false x n rest here later e = later e

-- what is found has what all have
find_holds : {N : Type 0} (P : N → Type 0) (test : N → Bool) (all : List N) (n : N) → AllByRecursion P all → find test all ≡ Some n → P n
find_holds P test [] n each e = absurd cc
find_holds P test (x ∷ xs) n each e = first_holds P (test x) x n (find test xs) each.0 (find_holds P test xs n each.1) e

kind_ok : (o : Option Kind) (k : Kind) → kind_wanted o ≡ Ok k → o ≡ Some k
kind_ok None k e = absurd cc
kind_ok (Some x) k e = cc

kind_found : (w : List ℕ) (k : Kind) → kind_word w ≡ Ok k → (w ≡ kinds.name_of k) × IsOfOperation k
unfolding kind_named
kind_found w k e =
    let named = kind_ok (kind_named w) k e in
    (named_is kinds.name_of operation_kinds w k named, find_holds IsOfOperation (λ n. bytes_eq w (kinds.name_of n)) operation_kinds k (tt, (tt, (tt, (tt, (tt, (tt, (tt, (tt, (tt, tt))))))))) named)

-- Commands.

pub record SaysCommand (words : List (List ℕ)) (c : Command) : Type 0 where
  pub text : words ≡ command_words c
  pub fits : CommandFits c

actor_first : (w n a : List ℕ) (m : ℕ) (ws vs : List (List ℕ)) → w ≡ n → a ≡ decimal m → ws ≡ vs → w ∷ a ∷ ws ≡ n ∷ decimal m ∷ vs
actor_first w n a m ws vs p q r = cc

begins : (w : List ℕ) (ws : List (List ℕ)) (c : Command) → w ≡ codes "actor" → begin_of ws ≡ Ok c → SaysCommand (w ∷ ws) c
unfolding begin_of
begins w [] c n e = absurd cc
begins w (a ∷ ws) c n e =
    let m = made_ok _ (both (actor_word a) (script_call ws)) c e in let b = both_ok (actor_word a) (script_call ws) m.0 m.1 in
    let p = word_is 255 a m.0.0 b.0 in let says = script_call_found ws m.0.1 b.1 in
    subst (λ (x : Command). SaysCommand (w ∷ a ∷ ws) x) m.2 (record { text = actor_first w (codes "actor") a m.0.0 ws (call_words m.0.1) n p.0 says.text; fits = (p.1, says.fits) })

does : (w : List ℕ) (ws : List (List ℕ)) (c : Command) → w ≡ codes "do" → do_of ws ≡ Ok c → SaysCommand (w ∷ ws) c
unfolding do_of
does w [] c n e = absurd cc
does w (a ∷ ws) c n e =
    let m = made_ok _ (both (actor_word a) (script_call ws)) c e in let b = both_ok (actor_word a) (script_call ws) m.0 m.1 in
    let p = word_is 255 a m.0.0 b.0 in let says = script_call_found ws m.0.1 b.1 in
    subst (λ (x : Command). SaysCommand (w ∷ a ∷ ws) x) m.2 (record { text = actor_first w (codes "do") a m.0.0 ws (call_words m.0.1) n p.0 says.text; fits = (p.1, says.fits) })

one : (w v : List ℕ) → w ≡ v → w ∷ [] ≡ v ∷ []
one w v e = cc

goes : (w : List ℕ) (ws : List (List ℕ)) (c : Command) → w ≡ codes "go" → go_of ws ≡ Ok c → SaysCommand (w ∷ ws) c
unfolding go_of
goes w [] c n e = absurd cc
goes w (a ∷ []) c n e = absurd cc
goes w (a ∷ t ∷ []) c n e =
    let m = made_ok _ (both (actor_word a) (times_word t)) c e in let b = both_ok (actor_word a) (times_word t) m.0 m.1 in
    let p = word_is 255 a m.0.0 b.0 in let q = range_is 1 1000000 t m.0.1 b.1 in
    subst (λ (x : Command). SaysCommand (w ∷ a ∷ t ∷ []) x) m.2
    (record { text = actor_first w (codes "go") a m.0.0 (t ∷ []) (decimal m.0.1 ∷ []) n p.0 (one t (decimal m.0.1) q.0); fits = (p.1, (q.1, q.2)) })
goes w (a ∷ t ∷ x ∷ ws) c n e = absurd cc

untils : (w : List ℕ) (ws : List (List ℕ)) (c : Command) → w ≡ codes "until" → until_of ws ≡ Ok c → SaysCommand (w ∷ ws) c
unfolding until_of
untils w [] c n e = absurd cc
untils w (a ∷ []) c n e = absurd cc
untils w (a ∷ k ∷ []) c n e =
    let m = made_ok _ (both (actor_word a) (kind_word k)) c e in let b = both_ok (actor_word a) (kind_word k) m.0 m.1 in
    let p = word_is 255 a m.0.0 b.0 in let q = kind_found k m.0.1 b.1 in
    subst (λ (x : Command). SaysCommand (w ∷ a ∷ k ∷ []) x) m.2
    (record { text = actor_first w (codes "until") a m.0.0 (k ∷ []) (kinds.name_of m.0.1 ∷ []) n p.0 (one k (kinds.name_of m.0.1) q.0); fits = (p.1, q.1) })
untils w (a ∷ k ∷ x ∷ ws) c n e = absurd cc

finishes : (w : List ℕ) (ws : List (List ℕ)) (c : Command) → w ≡ codes "finish" → finish_of ws ≡ Ok c → SaysCommand (w ∷ ws) c
unfolding finish_of
finishes w [] c n e = absurd cc
finishes w (a ∷ []) c n e =
    let m = made_ok Finish (actor_word a) c e in let p = word_is 255 a m.0 m.1 in
    subst (λ (x : Command). SaysCommand (w ∷ a ∷ []) x) m.2 (record { text = actor_first w (codes "finish") a m.0 [] [] n p.0 refl; fits = p.1 })
finishes w (a ∷ x ∷ ws) c n e = absurd cc

sweeps : (w : List ℕ) (ws : List (List ℕ)) (c : Command) → w ≡ codes "sweep" → sweep_of ws ≡ Ok c → SaysCommand (w ∷ ws) c
unfolding sweep_of
sweeps w [] c n e = absurd cc
sweeps w (t ∷ []) c n e =
    let m = made_ok Sweep (times_word t) c e in let q = range_is 1 1000000 t m.0 m.1 in
    subst (λ (x : Command). SaysCommand (w ∷ t ∷ []) x) m.2 (record { text = actor_first w (codes "sweep") t m.0 [] [] n q.0 refl; fits = (q.1, q.2) })
sweeps w (t ∷ x ∷ ws) c n e = absurd cc

command_is : (w : List ℕ) (n : CommandName) → command_named w ≡ Some n → w ≡ command_name n
unfolding command_named
command_is w n e = named_is command_name command_names w n e

named_found : (o : Option CommandName) (w : List ℕ) (ws : List (List ℕ)) (c : Command) → ((n : CommandName) → o ≡ Some n → w ≡ command_name n) → named_command o ws ≡ Ok c → SaysCommand (w ∷ ws) c
named_found (Some command.Actor) w ws c is e = begins w ws c (is command.Actor refl) e
named_found (Some command.Go) w ws c is e = goes w ws c (is command.Go refl) e
named_found (Some command.Until) w ws c is e = untils w ws c (is command.Until refl) e
named_found (Some command.Finish) w ws c is e = finishes w ws c (is command.Finish refl) e
named_found (Some command.Do) w ws c is e = does w ws c (is command.Do refl) e
named_found (Some command.Sweep) w ws c is e = sweeps w ws c (is command.Sweep refl) e
named_found None w ws c is e = absurd cc

pub command_found : (words : List (List ℕ)) (c : Command) → command_of words ≡ Ok c → SaysCommand words c
unfolding command_of
command_found [] c e = absurd cc
command_found (w ∷ ws) c e = named_found (command_named w) w ws c (command_is w) e
