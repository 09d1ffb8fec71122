-- The promise of `reading::tagged_fields` determines the reply and the table. That of `writing::tagged_fields` does by `written_unique` of `primitives_put`.
use mathlib.Core.List.{List, [], ◌∷◌}
use mathlib.Core.Path.{◌≡◌, refl}
use Prim.Native.Nat.{ℕ}
use lib.ListN.{get_or}
use Rattle.std.specs.Prelude.{Err, Ok}
use Rattle.layout.specs.Tables.{Tables}
use Rattle.layout.specs.Answers.{Answer, accepted, refused}
use Rattle.primitives.specs.Answers.{Read, taken}
use Rattle.primitives.proofs.Unique.{refusal_of, unique}
use Rattle.tagged_fields.specs.Read.{of_tagged}

abbrev tagged_of : Answer → Read ℕ
tagged_of (accepted cs n) = taken (get_or cs 0 0) n
tagged_of (refused e) = Err (refusal_of e)

abbrev said : Read ℕ × List ℕ → Answer × Tables
said x = (of_tagged x.0, x.1 ∷ [])

said_back : (x : Read ℕ × List ℕ) → (tagged_of (said x).0, get_or (said x).1 0 []) ≡ x
said_back (Ok t, d) = refl
said_back (Err e, d) = refl

pub tagged_unique : (o : Answer × Tables) (x y : Read ℕ × List ℕ) → said x ≡ o → said y ≡ o → x ≡ y
tagged_unique = unique said (λ (o : Answer × Tables). (tagged_of o.0, get_or o.1 0 [])) said_back
