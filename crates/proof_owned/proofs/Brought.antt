-- What is an indirection's own main node stands in no other word, but where a READ gave it to who made that indirection.
use Rattle.std.proofs.Common.{◌≡◌, ℕ, suc, ◌<◌, ◌≤◌, ◌⊎◌, true, false, inl, inr, refl, sym, ◌∙◌, subst, arith}
use Rattle.std.proofs.lemmas.Bool.{cases_eq}
use Rattle.proof_owned.specs.Beneath.slot_arena.specs.declared.refs.Ref.{Ref}
use Rattle.proof_owned.specs.Beneath.proof_commits.specs.Protocol.{Words, Builds, Publishes, Protocol}
use Rattle.proof_owned.specs.Beneath.proof_commits.proofs.Words.Stood.{Stood, Private, stood_still}
use Rattle.proof_owned.specs.Beneath.proof_commits.proofs.Known.Owners.{Staged, HasFresh}
use Rattle.proof_owned.specs.Beneath.proof_commits.proofs.Known.Sounds.{sound_at}

-- how
pub data How (w : Words) (u k : ℕ) (i m : Ref) : Type 0 where
  publishes : (a : Ref) → w.stage u k ≡ Publishes i a m → How w u k i m
  builds : w.stage u k ≡ Builds m → w.link u i ≡ false → w.link (suc u) i ≡ true → How w u k i m

-- a step brought it there that was its maker's
pub record IsBrought (w : Words) (t : ℕ) (i m : Ref) : Type 0 where
  pub at : ℕ
  pub before : at < t
  pub actor : ℕ
  pub stood : Stood w (suc at) i m
  pub how : How w at actor i m

module _ (p : Protocol) where
  abbrev w : Words
  w = p.words

  -- its maker had it for its fresh node
  fresh_of : (u k : ℕ) (i m : Ref) → How w u k i m → HasFresh (w.stage u k) m
  fresh_of u k i m (publishes a stage) = subst (λ s. HasFresh s m) (sym stage) refl
  fresh_of u k i m (builds stage was link) = subst (λ s. HasFresh s m) (sym stage) refl

  pub private_then : (u k : ℕ) (i m : Ref) → u ≤ p.last → How w u k i m → Private w u m
  private_then u k i m h (publishes a stage) = (subst (λ s. Staged w u k s) stage ((sound_at p u h).staged k)).0
  private_then u k i m h (builds stage was link) = subst (λ s. Staged w u k s) stage ((sound_at p u h).staged k)

  -- two of one actor in one step are one, where no step makes two indirections
  one_how : (u k : ℕ) (i j m : Ref) → ((x y : Ref) → w.link u x ≡ false → w.link (suc u) x ≡ true → w.link u y ≡ false → w.link (suc u) y ≡ true → x ≡ y) → How w u k i m → How w u k j m → i ≡ j
  one_how u k i j m one (publishes a stage) (publishes b other) = let both : Publishes i a m ≡ Publishes j b m = sym stage ∙ other in cc both
  one_how u k i j m one (publishes a stage) (builds other was link) = let both : Publishes i a m ≡ Builds m = sym stage ∙ other in let wrong : ⊥ = cc both in absurd wrong
  one_how u k i j m one (builds stage was link) (publishes b other) = let both : Builds m ≡ Publishes j b m = sym stage ∙ other in let wrong : ⊥ = cc both in absurd wrong
  one_how u k i j m one (builds stage was link) (builds other none is) = one i j was link none is

  same_step : (u k l : ℕ) (i j m : Ref) → u ≤ p.last → ((x y : Ref) → w.link u x ≡ false → w.link (suc u) x ≡ true → w.link u y ≡ false → w.link (suc u) y ≡ true → x ≡ y) →
      How w u k i m → How w u l j m → (k ≡ l) ⊎ (k ≡ l → ⊥) → i ≡ j
  same_step u k l i j m h one a b (inl same) = one_how u l i j m one (subst (λ x. How w u x i m) same a) b
  same_step u k l i j m h one a b (inr apart) = absurd ((sound_at p u h).apart k l m apart (fresh_of u k i m a) (fresh_of u l j m b))

  by_order : (t : ℕ) (i j m : Ref) → t ≤ p.last →
      ((u : ℕ) → u < p.last → (x y : Ref) → w.link u x ≡ false → w.link (suc u) x ≡ true → w.link u y ≡ false → w.link (suc u) y ≡ true → x ≡ y) →
      (a : IsBrought w t i m) (b : IsBrought w t j m) → (a.at < b.at) ⊎ (b.at < a.at) ⊎ (a.at ≡ b.at) → i ≡ j
  by_order t i j m h one a b (inl less) = absurd ((private_then b.at b.actor j m (omega (arith, b.before, h)) b.how).apart i (stood_still (omega (arith, less)) a.stood))
  by_order t i j m h one a b (inr (inl more)) = absurd ((private_then a.at a.actor i m (omega (arith, a.before, h)) a.how).apart j (stood_still (omega (arith, more)) b.stood))
  by_order t i j m h one a b (inr (inr same)) =
      same_step b.at a.actor b.actor i j m (omega (arith, b.before, h)) (one b.at (omega (arith, b.before, h))) (subst (λ u. How w u a.actor i m) same a.how) b.how (cases_eq a.actor b.actor)

  order : (x y : ℕ) → (x < y) ⊎ (y < x) ⊎ (x ≡ y)
  order x y = grind arith

  -- it was brought into one word
  pub one_bringing : (t : ℕ) (i j m : Ref) → t ≤ p.last →
      ((u : ℕ) → u < p.last → (x y : Ref) → w.link u x ≡ false → w.link (suc u) x ≡ true → w.link u y ≡ false → w.link (suc u) y ≡ true → x ≡ y) →
      IsBrought w t i m → IsBrought w t j m → i ≡ j
  one_bringing t i j m h one a b = by_order t i j m h one a b (order a.at b.at)

  -- and stood nowhere at first
  pub not_at_first : (t : ℕ) (i j m : Ref) → t ≤ p.last → IsBrought w t i m → Stood w 0 j m → ⊥
  not_at_first t i j m h a stood = (private_then a.at a.actor i m (omega (arith, a.before, h)) a.how).apart j (stood_still (omega arith) stood)
