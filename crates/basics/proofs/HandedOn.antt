-- What `?` answers where there is an error: that error, as it was. An error in place of a value that is not there is handed on alike.
-- Assumes nothing.
use Rattle.std.specs.Prelude.{◌≡◌, Option, Some, None, Result, Ok, Err}
use Rattle.std.specs.Option.{ok_or}
use Rattle.std.specs.Result.{IsErrAnd, result_ok}
use mathlib.Core.Path.{ap, ◌∙◌}

pub handed_on : {T E : Type 0} (r : Result T E) (x : E) → IsErrAnd r (λ y. y ≡ x) → r ≡ Err x
handed_on (Ok t) x h = absurd h
handed_on (Err y) x h = ap Err h

module _ {T E : Type 0} (o : Option T) (e : E) where
  -- there is a value
  pub there_is : (t : T) → ok_or o e ≡ Ok t → o ≡ Some t
  there_is t h = of o h
    where
      of : (p : Option T) → ok_or p e ≡ Ok t → p ≡ Some t
      of (Some s) q = cc
      of None q = cc

  -- there is none, and what is answered is the error in its place
  pub there_is_none : {U : Type 0} (r : Result U E) (x : E) → ok_or o e ≡ Err x → IsErrAnd r (λ y. y ≡ x) → (o ≡ None) × (r ≡ Err e)
  there_is_none r x h g = of o h
    where
      of : (p : Option T) → ok_or p e ≡ Err x → (p ≡ None) × (r ≡ Err e)
      of (Some s) q = cc
      of None q = let z : x ≡ e = cc in (cc, handed_on r x g ∙ ap Err z)
