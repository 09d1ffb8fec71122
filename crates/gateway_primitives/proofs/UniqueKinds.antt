-- The promise of `read_kind::primitive` determines the reply. That of `write_kind::primitive` does by `written_unique` of `primitives_put`.
use mathlib.Core.Path.{◌≡◌, refl}
use lib.ListN.{get_or}
use Rattle.layout.specs.Answers.{Answer, accepted, refused}
use Rattle.primitives.proofs.Unique.{refusal_of, unique}
use Rattle.gateway_primitives.specs.Kinds.{of_reply}
use Rattle.std.specs.Prelude.{Ok, Err}
use Rattle.primitives.specs.Answers.{Read}
use Rattle.gateway_primitives.specs.declared.kinds.Shown.{Shown}

abbrev reply_of : Answer → Read Shown
reply_of (accepted cs n) = Ok (record { value = record { form = get_or cs 0 0; value = get_or cs 1 0; length = get_or cs 2 0 }; next = n })
reply_of (refused e) = Err (refusal_of e)

reply_back : (r : Read Shown) → reply_of (of_reply r) ≡ r
reply_back (Ok t) = refl
reply_back (Err e) = refl

pub reply_unique : (o : Answer) (r s : Read Shown) → of_reply r ≡ o → of_reply s ≡ o → r ≡ s
reply_unique = unique of_reply reply_of reply_back
