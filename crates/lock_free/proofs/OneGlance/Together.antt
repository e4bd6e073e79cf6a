-- Glances go on, one part after the other.
use Rattle.std.proofs.Common.{◌≡◌, ℕ, false, Some, refl, sym, ap, subst, ◌∙◌}
use Rattle.std.proofs.lemmas.Option.{same_Some}
use Rattle.lock_free.specs.declared.rules.Glance.{Glance}
use Rattle.lock_free.specs.declared.rules.View.{View}
use Rattle.lock_free.specs.GlanceGets.{GlancesOn, IsGetGlance, WhileItCounts}
use Rattle.lock_free.specs.Loading.{IsSound}
use Rattle.lock_free.specs.Shadows.{inner}

module _ (n : ℕ) (u : View) (it : IsGetGlance n u) where
  pub glance_sound : (g : Glance) → u.glance ≡ Some g → IsSound n (inner u g)
  glance_sound g is = subst (λ (f : Glance). IsSound n (inner u f)) (same_Some it.3.glance g (sym it.3.is ∙ is)) it.3.its.sound

  pub glance_then : (Q : View → View → Type 0) (v : View) → GlancesOn n Q u v → IsGetGlance n v
  glance_then Q v on = (it.0, it.1, it.2, on.goes_on it.0 it.1 it.2 it.3)

  -- nothing happens
  pub on_self : (Q : View → View → Type 0) → ((x : View) → Q x x) → GlancesOn n Q u u
  on_self Q same = record {
    first = it.3.glance;
    was = it.3.is;
    later = it.3.glance;
    is = it.3.is;
    same = refl;
    goes_on = λ before handle key h. h;
    told = λ known. (known, same (inner u it.3.glance));
  }

-- what is so while it counts
module _ (n : ℕ) (u v : View) (it : IsGetGlance n u) (Q : View → View → Type 0) (on : GlancesOn n Q u v) where
  known_then : (g : Glance) → v.glance ≡ Some g → g.lost ≡ false → (on.later ≡ g) × (on.later.lost ≡ false)
  known_then g is known = let same = same_Some on.later g (sym on.is ∙ is) in (same, ap (λ (f : Glance). f.lost) same ∙ known)

  pub while_on : (P R : View → Type 0) → WhileItCounts P u → ((x y : View) → IsSound n x → P x → IsSound n y → Q x y → R y) → WhileItCounts R v
  while_on P R pre f g is known =
      let k = known_then g is known in
      let told = on.told k.1 in
      subst (λ (h : Glance). R (inner v h)) k.0
      (f (inner u on.first) (inner v on.later) (glance_sound n u it on.first on.was) (pre on.first on.was told.0) (glance_sound n v (glance_then n u it Q v on) on.later on.is) told.1)

  pub on_as : (P : View → Type 0) (S : View → View → Type 0) → WhileItCounts P u → ((x y : View) → IsSound n x → P x → IsSound n y → Q x y → S x y) → GlancesOn n S u v
  on_as P S pre f = record {
    first = on.first;
    was = on.was;
    later = on.later;
    is = on.is;
    same = on.same;
    goes_on = on.goes_on;
    told = λ known. (
        let told = on.told known in (
          told.0,
          f (inner u on.first) (inner v on.later) (glance_sound n u it on.first on.was) (pre on.first on.was told.0) (glance_sound n v (glance_then n u it Q v on) on.later on.is) told.1,
        ));
  }

  module _ (w : View) (T : View → View → Type 0) (next : GlancesOn n T v w) where
    pub on_on : (P : View → Type 0) (S : View → View → Type 0) → WhileItCounts P u →
        ((x y z : View) → IsSound n x → P x → IsSound n y → Q x y → IsSound n z → T y z → S x z) → GlancesOn n S u w
    on_on P S pre f = record {
      first = on.first;
      was = on.was;
      later = next.later;
      is = next.is;
      same = next.same ∙ ap (λ (h : Glance). h.read) (same_Some next.first on.later (sym next.was ∙ on.is)) ∙ on.same;
      goes_on = λ before handle key h. next.goes_on before handle key (on.goes_on before handle key h);
      told = λ known. (
          let then = next.told known in
          let k = known_then next.first next.was then.0 in
          let told = on.told k.1 in
          let between = glance_then n u it Q v on in (
            told.0,
            f (inner u on.first) (inner v on.later) (inner w next.later) (glance_sound n u it on.first on.was) (pre on.first on.was told.0) (glance_sound n v between on.later on.is) told.1
                (glance_sound n w (glance_then n v between T w next) next.later next.is)
                (subst (λ (h : Glance). T (inner v h) (inner w next.later)) (sym k.0) then.1),
          ));
    }

-- what is so of it already
pub on_now : (n : ℕ) (u : View) → IsGetGlance n u → (P : View → Type 0) (S : View → View → Type 0) → WhileItCounts P u → ((x : View) → IsSound n x → P x → S x x) → GlancesOn n S u u
on_now n u it P S pre f = on_as n u u it (λ x y. y ≡ x) (on_self n u it (λ x y. y ≡ x) (λ x. refl)) P S pre (λ x y s p t e. subst (S x) (sym e) (f x s p))
