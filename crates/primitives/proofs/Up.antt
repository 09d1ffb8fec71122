-- What a `?` hands up: the refusal of the call, as it came.
use mathlib.Core.Path.{◌≡◌, ap}
use Rattle.std.specs.Prelude.{Result, Ok, Err, IsErr, IsErrAnd}

pub is_err_of : {T E : Type 0} (r : Result T E) (e : E) → IsErr r × IsErrAnd r (λ d. d ≡ e) → r ≡ Err e
is_err_of (Ok t) e h = absurd h.1
is_err_of (Err d) e h = ap Err h.1

-- the same in what is said of the result
pub up : {T E A : Type 0} (f : Result T E → A) (r : Result T E) (e : E) → IsErr r × IsErrAnd r (λ d. d ≡ e) → f r ≡ f (Err e)
up f r e h = ap f (is_err_of r e h)
