-- A refusal with its name is determined by what it says in the definition's words, and so is the answer of a call that writes.
use Rattle.std.proofs.Common.{◌≡◌, ℕ, List, refl}
use Rattle.std.specs.Prelude.{Ok, Err}
use Rattle.layout.specs.Answers.{Answer, accepted, refused}
use Rattle.layout.specs.Reading.{Refusal}
use Rattle.primitives.proofs.Unique.{unique}
use Rattle.names.specs.Answers.{BodyWritten, body_replied}
use Rattle.names.specs.declared.Named.{Named}

abbrev pub named_of : Refusal → Named
named_of e = record { number = e.number; place = e.place; need = e.need; message = e.message; row = e.row; field = e.field }

abbrev written_of : Answer → BodyWritten
written_of (accepted cs n) = Ok n
written_of (refused e) = Err (named_of e)

replied_back : (x : BodyWritten × List ℕ) → (written_of (body_replied x.0 x.1).0, x.1) ≡ x
replied_back (Ok n, d) = refl
replied_back (Err e, d) = refl

pub body_written_unique : (o : Answer × List ℕ) (x y : BodyWritten × List ℕ) → body_replied x.0 x.1 ≡ o → body_replied y.0 y.1 ≡ o → x ≡ y
body_written_unique = unique (λ (x : BodyWritten × List ℕ). body_replied x.0 x.1) (λ (o : Answer × List ℕ). (written_of o.0, o.1)) replied_back
