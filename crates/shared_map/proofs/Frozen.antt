-- A frozen handle stays so until a call closes it.
use Rattle.std.proofs.Common.{◌≡◌, ◌≢◌, inl, inr, ℕ, zero, suc, ◌<◌, cond, List, [], ◌∷◌, length, Option, Some, None, option_and_then, Ok, Err}
use Rattle.std.proofs.Common.{refl, sym, ap, subst, ◌∙◌, arith, ne_eqb}
use Rattle.std.specs.Prelude.{slice_index_or}
use Rattle.std.specs.Cmp.{nat_cmp_total, unsigned_tied}
use Rattle.std.specs.FinMap as maps
use Rattle.std.proofs.lemmas.List.Elements.{All-head, All-tail}
use Rattle.std.proofs.lemmas.Option.{same_Some}
use Rattle.shared_map.specs.Vocabulary.{hash_of, HashKind, Access, Writable, ReadOnly, Call, Get, Put, PutIfAbsent, Replace, ReplaceIf, Remove, RemoveIf, Clear, Snapshot, Freeze, Close, Entries}
use Rattle.shared_map.specs.Vocabulary.{Count, Reply, changing, map_of, naming, put_if_absent_in, read_only_map_of, remove_if_in, remove_in, replace_if_in, replace_in, with_access, writable_map_of}
use Rattle.shared_map.specs.Vocabulary.{HandleMap, HandleState, KeyMap}
use Rattle.gate.specs.Logs.{entry}
use Rattle.history.specs.declared.replies.Reply.TheVariants as reply
use Rattle.history.specs.Effects.{put_in}
use Rattle.ctrie_map.proofs.Opened.{is_opened}
use Rattle.ctrie_map.specs.declared.errors.MapError.{MapError}
use Rattle.ctrie_map.specs.declared.errors.MapError.TheVariants.{Full, WornOut}
use Rattle.ctrie_map.specs.Performing.{EffectAmong, copying_any}
use Rattle.shared_map.specs.declared.asks.Answer.TheVariants as answer
use Rattle.shared_map.specs.declared.asks.Ask.{Ask}
use Rattle.shared_map.specs.declared.asks.Ask.TheVariants.{Do, From, Scan, First, IsWritable, Restore, Handles, Free, HasRoom}
use Rattle.shared_map.specs.declared.asks.Request.{Request}
use Rattle.shared_map.specs.Asks.{MapEntry, Replied, Told, told_as}
use Rattle.shared_map.specs.Parts.{HasClosed, IsFrozen, IsNeverClosed, IsToldIn}
use Rattle.shared_map.specs.PartsLaws.{FrozenHandlesStay}
use Rattle.shared_map.specs.Replaying.{ChangesWorld, IsShown, Replays, RepliesIn, RestoresWorld, Shows}
use Rattle.shared_map.proofs.Finding.{some_none}
use Rattle.shared_map.proofs.Many.{cases_hash}

-- ---- what a call leaves that isn't about the handle

module _ (handle : ℕ) (m : KeyMap) (w : HandleMap) (frozen : IsFrozen w handle m) where
  named_other : (h : ℕ) (access : Access) (n : KeyMap) → handle ≢ h → IsFrozen (naming w h access n) handle m
  named_other h access n apart =
      let shown : HandleState = record { access = access; pairs = n } in
      maps.get-insert nat_cmp_total w h shown handle ∙ ap (λ b. cond b (Some shown) (maps.get w handle)) (unsigned_tied handle h ∙ ne_eqb handle h apart) ∙ frozen

  removed_other : (h : ℕ) → handle ≢ h → IsFrozen (maps.remove w h) handle m
  removed_other h apart =
      maps.get-remove nat_cmp_total w h handle ∙ ap (λ b. cond b None (maps.get w handle)) (unsigned_tied handle h ∙ ne_eqb handle h apart) ∙ frozen

  stays : (next : HandleMap) → next ≡ w → IsFrozen next handle m
  stays next same = subst (λ v. IsFrozen v handle m) (sym same) frozen

  -- what may be changed is another one
  not_writable : (h : ℕ) (n : KeyMap) → maps.get w h ≡ Some (record { access = Writable; pairs = n }) → handle ≢ h
  not_writable h n at same =
      let one : HandleState = record { access = ReadOnly; pairs = m } in
      let other : HandleState = record { access = Writable; pairs = n } in
      let bad : ReadOnly ≡ Writable = ap (λ (s : HandleState). s.access) (same_Some one other (sym frozen ∙ ap (maps.get w) same ∙ at)) in cc

  of_writable : (h : ℕ) (n : KeyMap) → writable_map_of w h ≡ Some n → handle ≢ h
  of_writable h n at same =
      let shut : writable_map_of w handle ≡ None = ap (λ o. option_and_then (λ (s : HandleState). with_access Writable s.access s.pairs) o) frozen in
      some_none n (sym at ∙ ap (writable_map_of w) (sym same) ∙ shut)

  -- ---- an effect

  changed : (h : ℕ) (change : KeyMap → Reply × KeyMap) (result : Reply) (next : HandleMap) → changing w h change ≡ Some (result, next) → IsFrozen next handle m
  changed h change result next = by_map (writable_map_of w h) refl
    where
      by_map : (o : Option KeyMap) → writable_map_of w h ≡ o →
          option_and_then {U = Reply × HandleMap} (λ n. Some ((change n).0, naming w h Writable (change n).1)) o ≡ Some (result, next) → IsFrozen next handle m
      by_map None at is = absurd (some_none (result, next) (sym is))
      by_map (Some n) at is =
          let same = ap (λ (e : Reply × HandleMap). e.1) (same_Some ((change n).0, naming w h Writable (change n).1) (result, next) is) in
          subst (λ v. IsFrozen v handle m) same (named_other h Writable (change n).1 (of_writable h n at))

  -- a copy is opened under a number that isn't
  copied : (h : ℕ) (opens : Option ℕ) (access : Access) (result : Reply) (next : HandleMap) → copying_any w h opens access ≡ Some (result, next) → IsFrozen next handle m
  copied h opens access result next is =
      let o = is_opened w opens access result next (map_of w h) is in
      let apart : handle ≢ o.copy = λ here. some_none (record { access = ReadOnly; pairs = m }) (sym frozen ∙ ap (maps.get w) here ∙ o.new) in
      subst (λ v. IsFrozen v handle m) (sym o.there) (named_other o.copy access o.m apart)

  read : (o : Option KeyMap) (says : KeyMap → Reply) (result : Reply) (next : HandleMap) →
      option_and_then {U = Reply × HandleMap} (λ n. Some (says n, w)) o ≡ Some (result, next) → IsFrozen next handle m
  read None says result next is = absurd (some_none (result, next) (sym is))
  read (Some n) says result next is = stays next (sym (ap (λ (e : Reply × HandleMap). e.1) (same_Some (says n, w) (result, next) is)))

  -- another handle is closed
  closed : (h : ℕ) (result : Reply) (next : HandleMap) → (h ≡ handle → result ≡ reply.Closed → ⊥) → (o : Option KeyMap) →
      option_and_then {U = Reply × HandleMap} (λ n. Some (reply.Closed, maps.remove w h)) o ≡ Some (result, next) → IsFrozen next handle m
  closed h result next kept_open None is = absurd (some_none (result, next) (sym is))
  closed h result next kept_open (Some n) is =
      let same = same_Some (reply.Closed, maps.remove w h) (result, next) is in
      let told : reply.Closed ≡ result = ap (λ (e : Reply × HandleMap). e.0) same in
      subst (λ v. IsFrozen v handle m) (ap (λ (e : Reply × HandleMap). e.1) same) (removed_other h (λ here. kept_open (sym here) (sym told)))

  module _ (hash : HashKind) (shards : ℕ) (next : HandleMap) where
    by_effect : (call : Call) (opens : Option ℕ) (result : Reply) → EffectAmong (hash_of hash) w call opens result next → (call ≡ Close handle → result ≡ reply.Closed → ⊥) → IsFrozen next handle m
    by_effect (Get h k) opens result is kept_open = read (map_of w h) (λ n. reply.Found (maps.get n k)) result next is
    by_effect (Put h k v) opens result is kept_open = changed h (λ n. put_in (hash_of hash) n k v) result next is
    by_effect (PutIfAbsent h k v) opens result is kept_open = changed h (λ n. put_if_absent_in (hash_of hash) n k v) result next is
    by_effect (Replace h k v) opens result is kept_open = changed h (λ n. replace_in n k v) result next is
    by_effect (ReplaceIf h k a b) opens result is kept_open = changed h (λ n. replace_if_in n k a b) result next is
    by_effect (Remove h k) opens result is kept_open = changed h (λ n. remove_in n k) result next is
    by_effect (RemoveIf h k v) opens result is kept_open = changed h (λ n. remove_if_in n k v) result next is
    by_effect (Clear h) opens result is kept_open = changed h (λ n. (reply.Cleared, maps.empty)) result next is
    by_effect (Snapshot h) opens result is kept_open = copied h opens Writable result next is
    by_effect (Freeze h) opens result is kept_open = copied h opens ReadOnly result next is
    by_effect (Close h) opens result is kept_open = closed h result next (λ same told. kept_open (ap Close same) told) (map_of w h) is
    by_effect (Entries h) opens result is kept_open = read (read_only_map_of w h) (λ n. reply.Pairs (maps.entries n)) result next is
    by_effect (Count h) opens result is kept_open = read (read_only_map_of w h) (λ n. reply.Count (maps.len n)) result next is

    -- ---- a call

    by_reply : (call : Call) (result : Reply) → ChangesWorld hash shards w call (Ok result) next → (call ≡ Close handle → result ≡ reply.Closed → ⊥) → IsFrozen next handle m
    by_reply call reply.NoSlots p kept_open = stays next p.1
    by_reply call result p kept_open = by_effect call p.0 result p.1 kept_open

    by_error : (call : Call) (why : MapError) → ChangesWorld hash shards w call (Err why) next → IsFrozen next handle m
    by_error call WornOut p = stays next p.1
    by_error call why p = stays next p.1

    by_change : (call : Call) (told : Replied) → ChangesWorld hash shards w call told next → (call ≡ Close handle → told ≡ Ok reply.Closed → ⊥) → IsFrozen next handle m
    by_change call (Ok result) p kept_open = by_reply call result p (λ same closed. kept_open same (ap Ok closed))
    by_change call (Err why) p kept_open = by_error call why p

    by_call : (call : Call) (told : Replied) → RepliesIn hash shards w call told next → (call ≡ Close handle → told ≡ Ok reply.Closed → ⊥) → IsFrozen next handle m
    by_call (Get h k) told p kept_open = stays next p.0
    by_call (Entries h) told p kept_open = stays next p.0
    by_call (Count h) told p kept_open = stays next p.0
    by_call call told p kept_open = by_change call told p kept_open

    by_refusal : (h copy : ℕ) (why : MapError) → RestoresWorld hash shards w h copy (Err why) next → IsFrozen next handle m
    by_refusal h copy Full p = stays next p.1
    by_refusal h copy WornOut p = stays next p.1
    by_refusal h copy why p = stays next p.1

    -- a restore is of a writable handle
    by_restore : (h copy : ℕ) (told : Told) → RestoresWorld hash shards w h copy told next → IsFrozen next handle m
    by_restore h copy (Ok told) p =
        let (shown, writable, there, is) = p.1 in
        subst (λ v. IsFrozen v handle m) (sym is) (named_other h Writable shown.pairs (not_writable h writable.0 writable.1))
    by_restore h copy (Err why) p = by_refusal h copy why p

    by_ask : (ask : Ask) (told : Told) → Shows hash shards w ask told next → (ask ≡ Do (Close handle) → told ≡ Ok (answer.Reply reply.Closed) → ⊥) → IsFrozen next handle m
    by_ask (Do call) told (replied, is, p) kept_open = by_call call replied p (λ same closed. kept_open (ap Do same) (is ∙ ap (told_as answer.Reply) closed))
    by_ask (From h cursor room) told p kept_open = stays next p.0
    by_ask (Scan h shard cursor room) told p kept_open = stays next p.0
    by_ask (First h) told p kept_open = stays next p.0
    by_ask (IsWritable h) told p kept_open = stays next p.0
    by_ask (Restore h copy) told p kept_open = by_restore h copy told p
    by_ask Handles told p kept_open = stays next p.0
    by_ask Free told p kept_open = stays next p
    by_ask HasRoom told p kept_open = stays next p

    kept : (e : MapEntry) → IsShown hash shards w e.call e.answer next → ¬ HasClosed handle e → IsFrozen next handle m
    kept e shown kept_open = elim (cases_hash e.call.hash hash) [
      | inl same ↦ by_ask e.call.ask e.answer (shown.shows same) (λ ask told. kept_open (ask, told))
      | inr apart ↦ stays next (shown.strange apart).1
    ]

-- ---- along a log

module _ (hash : HashKind) (shards handle : ℕ) (m : KeyMap) where
  along : (log : List MapEntry) (before after : HandleMap) → Replays hash shards before log after → IsFrozen before handle m → IsNeverClosed handle log → IsFrozen after handle m
  along [] before after same frozen never = subst (λ v. IsFrozen v handle m) (sym same) frozen
  along (e ∷ es) before after (next, shown, rest) frozen never =
      along es next after rest
      (kept handle m before frozen hash shards next e shown (All-head (λ e. ¬ HasClosed handle e) e es never)) (All-tail (λ e. ¬ HasClosed handle e) e es never)

  -- where it was asked, the handle was still frozen
  abbrev pub IsAsked : Request → Told → Type 0
  IsAsked request told = (world : HandleMap) × (next : HandleMap) × IsFrozen world handle m × IsShown hash shards world request told next

  at_entry : (request : Request) (told : Told) (seat : ℕ) (log : List MapEntry) (before after : HandleMap) → Replays hash shards before log after → IsFrozen before handle m →
      IsNeverClosed handle log → (k : ℕ) → k < length log → slice_index_or log k (entry seat request told) ≡ entry seat request told → IsAsked request told
  at_entry request told seat [] before after replays frozen never k lt at = absurd (omega (arith, lt))
  at_entry request told seat (e ∷ es) before after (next, shown, rest) frozen never zero lt at =
      (before, next, frozen, subst (λ (x : MapEntry). IsShown hash shards before x.call x.answer next) at shown)
  at_entry request told seat (e ∷ es) before after (next, shown, rest) frozen never (suc k) lt at =
      at_entry request told seat es next after rest
      (kept handle m before frozen hash shards next e shown (All-head (λ e. ¬ HasClosed handle e) e es never)) (All-tail (λ e. ¬ HasClosed handle e) e es never) k (omega (arith, lt)) at

  pub asked : (log : List MapEntry) (before after : HandleMap) → Replays hash shards before log after → IsFrozen before handle m → IsNeverClosed handle log →
      (request : Request) (told : Told) → IsToldIn log request told → IsAsked request told
  asked log before after replays frozen never request told (seat, (k, lt, at)) = at_entry request told seat log before after replays frozen never k lt at

pub frozen_handles_stay : FrozenHandlesStay
frozen_handles_stay hash shards before after log handle m replays frozen never = along hash shards handle m log before after replays frozen never
