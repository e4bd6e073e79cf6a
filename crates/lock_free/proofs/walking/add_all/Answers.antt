use Rattle.std.proofs.Common.{◌≡◌, ℕ, List, ◌++◌, ◌∷◌, [], ◌+◌, ◌-◌, ◌<◌, get_or, length, reverse, take, take_all, sym, ap, ◌∙◌, arith}
use Rattle.std.proofs.lemmas.List.{append-nil, append_assoc, get_or-reverse, length-reverse, take_more}
use Rattle.trie_words.specs.declared.entries.Entry.{Entry}
use Rattle.lock_free.proofs.walking.add_all.Goals as goal

pub loop-n-init : goal.loop-n-init
loop-n-init c = (sym (append-nil c.args.todo.now.items), c.len-n-end.ensures.value, omega arith)

-- one more of them
put : (first todo es ys new : List Entry) (n size : ℕ) (d : Entry) → todo ≡ first ++ take n (reverse es) → ys ≡ es → size ≡ length es → n < size → new ≡ todo ++ get_or ys (size - 1 - n) d ∷ [] →
    new ≡ first ++ take (n + 1) (reverse es)
put first todo es ys new n size d todo_is ys_is size_is low is =
    let all = length-reverse es in
    is
    ∙ ap (λ zs. todo ++ get_or zs (size - 1 - n) d ∷ []) ys_is
    ∙ ap (λ k. todo ++ get_or es (k - 1 - n) d ∷ []) size_is
    ∙ ap (λ x. todo ++ x ∷ []) (sym (get_or-reverse es n d (omega (arith, low, size_is))))
    ∙ ap (λ xs. xs ++ get_or (reverse es) n d ∷ []) todo_is
    ∙ append_assoc first (take n (reverse es)) (get_or (reverse es) n d ∷ [])
    ∙ ap (λ xs. first ++ xs) (sym (take_more (reverse es) n d (omega (arith, low, size_is, all))))

pub loop-n-preserved : goal.loop-n-preserved
loop-n-preserved c =
    let (is, size, low) = c.loop-n.invariant in
    let more = c.loop-n-test.true in
    let len = c.len.ensures.value in (
      put c.args.todo.now.items c.loop-n.todo.items c.args.entries.now.items c.deref.result.now c.push.new.self.items c.loop-n.n c.len.result _ is c.deref.ensures.0 len
          (omega (arith, more, size, len)) (c.in_ok-push.ensures {u = tt}).items,
      size,
      omega (arith, more),
    )

pub returns : goal.returns
returns c =
    let (is, size, low) = c.loop-n.invariant in
    let end = c.loop-n-test.false in
    let all = length-reverse c.args.entries.now.items in
    is ∙ ap (λ xs. c.args.todo.now.items ++ xs) (take_all c.loop-n.n (reverse c.args.entries.now.items) (omega (arith, end, size, all)))
