-- What KEY answers without a change is right: of the content at a moment on a writable handle, of that of the end on a read-only one.
use Rattle.std.proofs.Common.{◌≡◌, ◌≢◌, ℕ, ◌^◌, ◌<◌, true, false, Option, Some, None, refl, sym, ap, ap₂, ◌∙◌, arith}
use Rattle.proof_contents.specs.Vocabulary.{hash_of, Writable, ReadOnly, Call, Get, Ref, Tomb, Operation, Answers, key_of, inserts, absent_reply, when_found, State}
use Rattle.proof_contents.specs.Beneath.history.specs.declared.replies.Reply.TheVariants as reply
use Rattle.proof_contents.specs.Nodes.Looking.{Found, Absent, Has}
use Rattle.proof_contents.specs.Nodes.Changing.{look}
use Rattle.proof_contents.specs.Tries.{Trie, content, says}
use Rattle.proof_contents.specs.Steps.{IsTrie, Looks, IsReached}
use Rattle.proof_contents.specs.Effects.{act_in, IsKeyed}
use Rattle.proof_contents.specs.Lines.Changes.{IsGet}
use Rattle.proof_contents.proofs.Shapes.Nodes.{list_shape}
use Rattle.proof_contents.proofs.Lines.Readers.{absent_reply_right, found_reply_right, crowded_reply_right, get_reply_right}
use Rattle.proof_contents.proofs.Changes.Updating.{found_of}
use Rattle.proof_contents.proofs.Lines.Key.Ends.{Answering}

module _ (trie : Trie) (ok : IsTrie trie) (state : State) (operation : Operation) (first : Ref → Ref) (same_hash : state.limits.hash ≡ trie.kind) (depth : ℕ)
    (i main : Ref) (at : depth ≡ trie.depth i) where
  -- what the main node says, in the trie's words
  said : (found : Found) → look trie.node (hash_of state.limits.hash) depth (key_of operation.call) (trie.node main) ≡ found →
      look trie.node (hash_of trie.kind) (trie.depth i) (key_of operation.call) (trie.node main) ≡ found
  said found e = ap₂ (λ k d. look trie.node (hash_of k) d (key_of operation.call) (trie.node main)) (sym same_hash) (sym at) ∙ e

  -- on a writable handle
  pub writable_answers : (t g : ℕ) → Looks trie t g (key_of operation.call) i main → ((single : Ref) → trie.node main ≢ Tomb single) → IsKeyed operation.call → key_of operation.call < 2 ^ 64 →
      Answering state operation trie.node first (λ answer. act_in (hash_of trie.kind) Writable operation.call (content trie g t) ≡ Some (answer, content trie g t)) depth main
  writable_answers t g looks stands keyed fits = record {
    where_absent = λ none e. absent_reply_right trie ok t g operation.call i main looks stands keyed (said Absent none) e;
    where_found = λ v answer has e. found_reply_right trie ok t g operation.call i main looks stands keyed v answer (said (Has v) has) e;
    where_crowded = λ singles is full none e.
        let s = list_shape trie i (trie.node (trie.main t i)) singles (ok.shaped t i looks.in_range) (ap trie.node looks.given ∙ is) in
        crowded_reply_right trie ok t g operation.call i main looks stands keyed singles is (omega (arith, s.most)) none e fits;
  }

  -- a get on a read-only handle
  pub read_only_answers : (g : ℕ) → IsGet operation.call → IsReached trie g (key_of operation.call) (trie.depth i) i → trie.main trie.last i ≡ main →
      Answering state operation trie.node first (λ answer. act_in (hash_of trie.kind) ReadOnly operation.call (content trie g trie.last) ≡ Some (answer, content trie g trie.last)) depth main
  read_only_answers g get reached final = by_call operation.call refl get
    where
      in_end : (found : Found) → look trie.node (hash_of state.limits.hash) depth (key_of operation.call) (trie.node main) ≡ found →
          says trie trie.last (key_of operation.call) (trie.depth i) i ≡ found
      in_end found e = ap (λ m. look trie.node (hash_of trie.kind) (trie.depth i) (key_of operation.call) (trie.node m)) final ∙ said found e

      by_call : (call : Call) → operation.call ≡ call → IsGet call →
          Answering state operation trie.node first (λ answer. act_in (hash_of trie.kind) ReadOnly operation.call (content trie g trie.last) ≡ Some (answer, content trie g trie.last)) depth main
      by_call (Get h k) is get = record {
        where_absent = λ none e. ap (λ c. act_in (hash_of trie.kind) ReadOnly c (content trie g trie.last)) is
            ∙ right None (in_end Absent none) ∙ ap (λ c. Some (absent_reply c, content trie g trie.last)) (sym is);
        where_found = λ v answer has e.
            let same : Answers (reply.Found (Some v)) ≡ Answers answer = ap (λ c. when_found c v) (sym is) ∙ e in
            let answer_is : reply.Found (Some v) ≡ answer = cc in
            ap (λ c. act_in (hash_of trie.kind) ReadOnly c (content trie g trie.last)) is ∙ right (Some v) (in_end (Has v) has) ∙ ap (λ r. Some (r, content trie g trie.last)) answer_is;
        where_crowded = λ singles list full none e. absurd (let bad : false ≡ true = ap inserts (sym is) ∙ e in cc);
      }
        where
          right : (found : Option ℕ) → says trie trie.last (key_of operation.call) (trie.depth i) i ≡ found_of found →
              act_in (hash_of trie.kind) ReadOnly (Get h k) (content trie g trie.last) ≡ Some (reply.Found found, content trie g trie.last)
          right found e =
              ap (λ n. act_in (hash_of trie.kind) ReadOnly (Get h n) (content trie g trie.last)) (sym (ap key_of is))
              ∙ get_reply_right trie ok g h (key_of operation.call) (trie.depth i) i found reached e
      by_call call is get = absurd get
