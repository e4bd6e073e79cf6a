-- A READ that gives the link of the decided main node alone.
use Rattle.std.proofs.Common.{ℕ, Option, Some, None, sym, subst}
use Rattle.trie_words.specs.declared.links.Link.{Link}
use Rattle.lock_free.specs.declared.reading.Passed.{Passed}
use Rattle.lock_free.specs.declared.reading.Passed.TheVariants as passed
use Rattle.lock_free.specs.declared.reading.ReadFrom.{ReadFrom}
use Rattle.lock_free.specs.declared.reading.ReadFrom.TheVariants as resume
use Rattle.lock_free.specs.declared.reading.Way.{Way}
use Rattle.lock_free.specs.declared.rules.View.{View}
use Rattle.lock_free.specs.LinkReads.{given_by, CanGoOn, HasLinkAfter, HasOutAfter, HasReadOut, HasReadTo}
use Rattle.lock_free.specs.Loading.{IsSound}
use Rattle.lock_free.specs.Passing.{HasPassed, HasPassedSome, IsOnWay, IsPassing}
use Rattle.lock_free.proofs.OnePass.{none_yet, more, one_more}

module _ (n : ℕ) (way : Way) (name : ℕ) (before : View) (sound : IsSound n before) (on : IsOnWay before way) (passing : IsPassing before name resume.Start) (w : View) (then : IsSound n w) where
  some : (from : ReadFrom) → HasPassed before (passed.Again from) w → HasPassedSome n way name before w from
  some from p = one_more n way name before before resume.Start (none_yet n way name before resume.Start sound on passing) w from then p

  pub can_go_on : (q : Passed) → HasPassed before q w → CanGoOn w way name q
  can_go_on (passed.Gives given) p = tt
  can_go_on (passed.Again from) p = let s = some from p in (s.on, s.passing)

  pub link_told : (q : Passed) → HasPassed before q w → (result : Option Link) (z : View) → HasLinkAfter w q result z → HasReadTo before result z
  link_told (passed.Gives given) p result z (is, same) =
      subst (λ r. HasReadTo before r z) (sym is) (given.header, subst (λ x. HasPassed before (passed.Gives given) x) (sym same) p)
  link_told (passed.Again from) p (Some link) z (header, q) = (header, more n way name before w from (some from p) z (passed.Gives (given_by link header)) q)
  link_told (passed.Again from) p None z (next, q) = (next, more n way name before w from (some from p) z (passed.Again next) q)

-- a READ that goes on after some passes
pub out_after : (n : ℕ) (way : Way) (name : ℕ) (before w : View) (from : ReadFrom) → HasPassedSome n way name before w from → (z : View) (result : Option ReadFrom) → HasReadOut w result z →
    HasReadOut before result z
out_after n way name before w from some z None (given, q) = (given, more n way name before w from some z (passed.Gives given) q)
out_after n way name before w from some z (Some next) q = more n way name before w from some z (passed.Again next) q

-- a READ goes on from there, whichever line it began at
module _ (n : ℕ) (way : Way) (name : ℕ) (before : View) (from : ReadFrom) (sound : IsSound n before) (on : IsOnWay before way) (passing : IsPassing before name from) (w : View) (then : IsSound n
    w) where
  pub some_from : (next : ReadFrom) → HasPassed before (passed.Again next) w → HasPassedSome n way name before w next
  some_from next p = one_more n way name before before from (none_yet n way name before from sound on passing) w next then p

  pub goes_from : (q : Passed) → HasPassed before q w → CanGoOn w way name q
  goes_from (passed.Gives given) p = tt
  goes_from (passed.Again next) p = let s = some_from next p in (s.on, s.passing)

  pub out_told : (q : Passed) → HasPassed before q w → (result : Option ReadFrom) (z : View) → HasOutAfter w q result z → HasReadOut before result z
  out_told (passed.Gives given) p result z (is, same) =
      subst (λ r. HasReadOut before r z) (sym is) (given, subst (λ x. HasPassed before (passed.Gives given) x) (sym same) p)
  out_told (passed.Again next) p result z q = out_after n way name before w next (some_from next p) z result q
