-- By the step that commits a main node over its indirection's own one, that one is dropped.
use Rattle.std.proofs.Common.{◌≡◌, inl, true, List, [], ◌∷◌, ◌++◌, sym, ap, ◌∙◌, append-nil}
use Rattle.proof_claims.specs.Beneath.slot_arena.specs.declared.nodes.Prev.TheVariants as prev
use Rattle.proof_claims.specs.Beneath.slot_arena.specs.declared.refs.Ref.{Ref}
use Rattle.proof_claims.specs.Beneath.slot_arena.specs.Heaps.{logical, logical_main, main_at, prev_at}
use Rattle.proof_claims.specs.Beneath.machine_model.specs.declared.steps.Bounds.{Bounds}
use Rattle.proof_claims.specs.Beneath.machine_model.specs.declared.steps.Step.{Step}
use Rattle.proof_claims.specs.Beneath.machine_model.specs.Machine.{AreBounds, run}
use Rattle.proof_claims.specs.Beneath.proof_commits.specs.Runs.{HasIndirection}
use Rattle.proof_claims.specs.Beneath.proof_reuse.specs.Laws.{WasReplaced}
use Rattle.proof_claims.specs.Beneath.proof_reuse.proofs.InLists.{is_replaced}
use Rattle.proof_claims.specs.Held.{is_owned}
use Rattle.proof_claims.specs.Claims.{held_of}
use Rattle.proof_claims.specs.Dropped.{WasDropped, replaced}

module _ (limits : Bounds) (ok : AreBounds limits) (xs : List Step) (s : Step) (i f p : Ref) (had : HasIndirection (run limits xs) i) (has : HasIndirection (run limits (xs ++ s ∷ [])) i)
    (stood : main_at (run limits xs).heap i ≡ f) (pending : prev_at (run limits xs).heap f ≡ prev.Pending p) (stands : main_at (run limits (xs ++ s ∷ [])).heap i ≡ f)
    (committed : prev_at (run limits (xs ++ s ∷ [])).heap f ≡ prev.None) (apart : f ≡ p → ⊥) (owned : is_owned (held_of limits (xs ++ s ∷ [])) i p ≡ true) where
  abbrev all : List Step
  all = xs ++ s ∷ []

  was : logical_main (run limits xs).heap i ≡ p
  was = ap (λ m. logical m (prev_at (run limits xs).heap m)) stood ∙ ap (logical f) pending

  is_now : logical_main (run limits all).heap i ≡ f
  is_now = ap (λ m. logical m (prev_at (run limits all).heap m)) stands ∙ ap (logical f) committed

  by_lists : WasReplaced limits all i p
  by_lists = record {
    before = xs;
    middle = s ∷ [];
    more = [];
    goes_on = sym (append-nil all);
    had = had;
    was = was;
    has = has;
    is = λ e. apart (sym is_now ∙ e);
  }

  pub dropped_by_commit : WasDropped limits all p
  dropped_by_commit =
      replaced xs s [] i (sym (append-nil all)) (inl (record { fresh = f; has = had; stood = stood; pending = pending; committed = committed })) (is_replaced limits ok all i p by_lists) owned
