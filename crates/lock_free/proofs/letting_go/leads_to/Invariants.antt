use Rattle.std.proofs.Common.{◌≡◌, ◌<◌, ℕ, get_or}
use Rattle.trie_words.specs.Codes.{entry_of}
use Rattle.lock_free.proofs.letting_go.leads_to.Given as goal

abbrev pub invariant-loop-n : goal.invariant-loop-n
invariant-loop-n l = (k : ℕ) → k < l.n → (entry_of (get_or l.halves k 0)).slot ≡ l.slot → ⊥
