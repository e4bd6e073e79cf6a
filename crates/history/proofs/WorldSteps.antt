-- Steps of a world: what becomes of it when one of its handles changes or goes.
use Rattle.std.proofs.Common.{◌≡◌, ℕ, Option, Some, None, option_and_then, is_some, if◌then◌else◌, refl, sym, ap, ap₂, ◌∙◌}
use Rattle.std.specs.FinMap as map
use Rattle.history.specs.declared.calls.Access.{Access}
use Rattle.history.specs.declared.calls.Call.{Call}
use Rattle.history.specs.declared.replies.Reply.{Reply}
use Rattle.history.specs.declared.replies.Reply.TheVariants as reply
use Rattle.history.specs.Worlds.{KeyMap, HandleState, HandleMap}
use Rattle.history.specs.Effects.{map_of, writable_map_of, copying, naming, answer_in}
use Rattle.history.specs.Changes.{changed_handle, changed_world, reply_or_same}
use Rattle.history.proofs.EntryMaps.{put_again}

-- what a handle that is there makes of a call, the world makes of it too
changed_at : (w : HandleMap) (h : ℕ) (s new : HandleState) (r : Option Reply) (o : Option (Reply × HandleState)) → map.get w h ≡ Some s → (r, new) ≡ reply_or_same s o
    → (r, map.insert w h new) ≡ answer_in w (option_and_then {U = Reply × HandleMap} (λ e. Some (e.0, map.insert w h e.1)) o)
changed_at w h s new r None is same = λ i. ((same i).0, (ap (λ (x : Option Reply × HandleState). map.insert w h x.1) same ∙ put_again w h s is) i)
changed_at w h s new r (Some e) is same = ap (λ (x : Option Reply × HandleState). (x.0, map.insert w h x.1)) same

pub changed_world-there : (hash : ℕ → ℕ) (call : Call) (w next : HandleMap) (h : ℕ) (s new : HandleState) (r : Option Reply) → map.get w h ≡ Some s → next ≡ map.insert w h new
    → (r, new) ≡ reply_or_same s (changed_handle hash call s.access s.pairs) → (r, next) ≡ answer_in w (changed_world hash call w h)
changed_world-there hash call w next h s new r is put same =
    ap (λ (x : HandleMap). (r, x)) put ∙ changed_at w h s new r _ is same
    ∙ ap (λ (o : Option HandleState). answer_in w (option_and_then {U = Reply × HandleMap} (λ s.
    option_and_then {U = Reply × HandleMap} (λ e. Some (e.0, map.insert w h e.1)) (changed_handle hash call s.access s.pairs)) o)) (sym is)

-- nothing changes where the handle isn't there
pub changed_world-absent : (hash : ℕ → ℕ) (call : Call) (w : HandleMap) (h : ℕ) → map.get w h ≡ None → (None, w) ≡ answer_in w (changed_world hash call w h)
changed_world-absent hash call w h is =
    ap (λ (o : Option HandleState). answer_in w (option_and_then {U = Reply × HandleMap} (λ s.
    option_and_then {U = Reply × HandleMap} (λ e. Some (e.0, map.insert w h e.1)) (changed_handle hash call s.access s.pairs)) o)) (sym is)

-- what is made of something that is there is there
none_there : {S T : Type 0} (make : S → T) (o : Option S) → option_and_then (λ s. Some (make s)) o ≡ None → o ≡ None
none_there make None none = refl
none_there make (Some s) none = let wrong : ⊥ = cc none in absurd wrong

-- where the world makes nothing of a call, a handle that is there doesn't either
pub changed_world-none : (hash : ℕ → ℕ) (call : Call) (w : HandleMap) (h : ℕ) (s : HandleState) → map.get w h ≡ Some s → changed_world hash call w h ≡ None
    → changed_handle hash call s.access s.pairs ≡ None
changed_world-none hash call w h s is none =
    none_there (λ (e : Reply × HandleState). (e.0, map.insert w h e.1)) (changed_handle hash call s.access s.pairs)
    (ap (λ (o : Option HandleState). option_and_then {U = Reply × HandleMap} (λ s.
    option_and_then {U = Reply × HandleMap} (λ e. Some (e.0, map.insert w h e.1)) (changed_handle hash call s.access s.pairs)) o) (sym is) ∙ none)

-- a handle that is there goes
pub closed : (w next : HandleMap) (h : ℕ) (s : HandleState) → map.get w h ≡ Some s → next ≡ map.remove w h
    → (Some reply.Closed, next) ≡ answer_in w (option_and_then (λ m. Some (reply.Closed, map.remove w h)) (map_of w h))
closed w next h s is gone =
    ap (λ (x : HandleMap). (Some reply.Closed, x)) gone
    ∙ ap (λ (o : Option HandleState). answer_in w (option_and_then (λ m. Some (reply.Closed, map.remove w h)) (option_and_then (λ s. Some s.pairs) o))) (sym is)

-- one that isn't there doesn't
pub not_closed : (w : HandleMap) (h : ℕ) → map.get w h ≡ None → (None, w) ≡ answer_in w (option_and_then (λ m. Some (reply.Closed, map.remove w h)) (map_of w h))
not_closed w h is = ap (λ (o : Option HandleState). answer_in w (option_and_then (λ m. Some (reply.Closed, map.remove w h)) (option_and_then (λ s. Some s.pairs) o))) (sym is)

-- a copy of a writable map stands under a new number
pub copied : (w next : HandleMap) (h n : ℕ) (opens : Option ℕ) (access : Access) (m : KeyMap) → writable_map_of w h ≡ Some m → opens ≡ Some n → map.get w n ≡ None → next ≡ naming w n access m
    → (Some (reply.Opened n), next) ≡ answer_in w (copying w h opens access)
copied w next h n opens access m is number absent opened =
    ap (λ (x : HandleMap). (Some (reply.Opened n), x)) opened
    ∙ ap (λ (o : Option HandleState). answer_in w (if is_some o then None else Some (reply.Opened n, naming w n access m))) (sym absent)
    ∙ ap₂ (λ (o : Option ℕ) (p : Option KeyMap). answer_in w
    (option_and_then {U = Reply × HandleMap} (λ m. option_and_then {U = Reply × HandleMap} (λ n. if map.contains_key w n then None else Some (reply.Opened n, naming w n access m)) o) p))
    (sym number) (sym is)
