-- A call's promise determines its reply and the output: what they say in the definition's words gives both back.
use mathlib.Core.List.{List}
use mathlib.Core.Path.{◌≡◌, refl}
use Prim.Native.Nat.{ℕ}
use Rattle.layout.specs.Answers.{Answer, accepted, refused}
use Rattle.primitives.proofs.Unique.{refusal_of, unique}
use Rattle.std.specs.Prelude.{Ok, Err}
use Rattle.primitives_put.specs.Answers.{Written, replied}

abbrev written_of : Answer → Written
written_of (accepted cs n) = Ok n
written_of (refused e) = Err (refusal_of e)

replied_back : (x : Written × List ℕ) → (written_of (replied x.0 x.1).0, x.1) ≡ x
replied_back (Ok n, d) = refl
replied_back (Err e, d) = refl

pub written_unique : (o : Answer × List ℕ) (x y : Written × List ℕ) → replied x.0 x.1 ≡ o → replied y.0 y.1 ≡ o → x ≡ y
written_unique = unique (λ (x : Written × List ℕ). replied x.0 x.1) (λ (o : Answer × List ℕ). (written_of o.0, o.1)) replied_back
