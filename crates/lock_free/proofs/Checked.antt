-- What the last step of a SWAP tells.
use Rattle.std.proofs.Common.{◌≡◌, ◌*◌, if◌then◌else◌, ℕ, Bool, true, false, refl, sym, ap, subst, ◌∙◌}
use Rattle.trie_words.specs.Codes.{header_of}
use Rattle.trie_words.specs.declared.headers.Header.{Header}
use Rattle.trie_words.specs.declared.names.Name.{Name}
use Rattle.machine_model.specs.Beneath.slot_arena.specs.declared.refs.Ref.{Ref}
use Rattle.machine_model.specs.declared.actions.Action.TheVariants as act
use Rattle.lock_free.specs.declared.reclaiming.Decided.{Decided}
use Rattle.lock_free.specs.declared.reclaiming.Decided.TheVariants.{Commits, Fails}
use Rattle.lock_free.specs.declared.rules.View.{View}
use Rattle.lock_free.specs.LettingGo.{let_go, HoldsLeft}
use Rattle.lock_free.specs.Loading.{IsAtSlot}
use Rattle.lock_free.specs.Owing.{owes_then, owing}
use Rattle.lock_free.specs.Reclaiming.{decided_by, is_committed, is_decided, retiree_of, HasCheckedSwap, HasRetired, HasRetiredOrNot}
use Rattle.lock_free.specs.Classes.{shape_class}
use Rattle.lock_free.proofs.Looking.{header_read, went}

committed_by : (replaced : Name) (class fresh : ℕ) (header : Header) (b : Bool) →
    is_committed (if b then Commits (retiree_of replaced class) else Fails (record { class = shape_class header.shape; slot = fresh })) ≡ b
committed_by replaced class fresh header true = refl
committed_by replaced class fresh header false = refl

pub commits_so : (replaced : Name) (class fresh : ℕ) (header : Header) → is_decided header.previous ≡ true → Commits (retiree_of replaced class) ≡ decided_by replaced class fresh header
commits_so replaced class fresh header e =
    ap (λ b. if b then Commits (retiree_of replaced class) else Fails (record { class = shape_class header.shape; slot = fresh })) (sym e)

pub fails_so : (replaced : Name) (class fresh : ℕ) (header : Header) → is_decided header.previous ≡ false →
    Fails (record { class = shape_class header.shape; slot = fresh }) ≡ decided_by replaced class fresh header
fails_so replaced class fresh header e =
    ap (λ b. if b then Commits (retiree_of replaced class) else Fails (record { class = shape_class header.shape; slot = fresh })) (sym e)

module _ (v : View) (m f : Ref) (replaced : Name) (class fresh found : ℕ) (at : IsAtSlot v act.ReadPrev fresh) (result : Decided) (after : View) where
  pub checked_so : HasRetired v m f replaced.own (is_decided (header_of found).previous) (2 * fresh) found after → result ≡ decided_by replaced class fresh (header_of found) →
      HasCheckedSwap v m f replaced class fresh result after
  checked_so h is =
      let same : is_committed result ≡ is_decided (header_of found).previous =
      ap is_committed is ∙ committed_by replaced class fresh (header_of found) (is_decided (header_of found).previous) in
      record {
        gone = h.gone;
        header = header_of found;
        read = (went v fresh (2 * fresh) found h.gone h.went, header_read v fresh (2 * fresh) found h.gone h.went at refl);
        is = is;
        retired = subst (λ b. HasRetiredOrNot v (let_go replaced.own b m f) (owing h.gone (owes_then v h.went.0.kept.account)) after) (sym same) h.retired;
        holds = subst (λ b. HoldsLeft v replaced.own m f b after.owed) (sym same) h.holds;
      }
