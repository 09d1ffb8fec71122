-- The promises of the calls determine the replies and the tables.
use mathlib.Core.List.{List, [], ◌++◌, ◌∷◌}
use mathlib.Core.Path.{◌≡◌, refl}
use Prim.Native.Nat.{ℕ}
use lib.ListN.{get_or}
use Rattle.layout.specs.Reading.{Res, bad, ok}
use Rattle.layout.specs.Tables.{Tables}
use Rattle.layout.specs.Answers.{Answer, accepted, refused}
use Rattle.primitives.specs.Answers.{Read, taken}
use Rattle.primitives.specs.declared.Refusal.{Refusal}
use Rattle.primitives.proofs.Unique.{refusal_of, unique}
use Rattle.body_reading.specs.Cells.{versioned_cells}
use Rattle.body_reading.proofs.Unique.{versioned_of}
use Rattle.fetch_response.specs.Answers.{of_measure, of_response_reply}
use Rattle.fetch_response.specs.declared.ResponseBody.{ResponseBody}
use Rattle.fetch_response.specs.declared.body.Walked.{Walked}
use Rattle.std.specs.Prelude.{Result, Ok, Err, Some, None, Option as Maybe}

abbrev body_of : List ℕ → ResponseBody
body_of cs = record { throttle = versioned_of (get_or cs 0 0) (get_or cs 1 0); topics = get_or cs 2 0 }

body_back_lem : (t : Maybe ℕ) (n : ℕ) → body_of (versioned_cells t ++ (n ∷ [])) ≡ record { throttle = t; topics = n }
body_back_lem None n = refl
body_back_lem (Some i) n = refl

-- ---- `read`

abbrev reply_of : Answer → Read ResponseBody
reply_of (accepted cs n) = taken (body_of cs) n
reply_of (refused e) = Err (refusal_of e)

-- the tables of topics, partitions and aborted transactions
pub record Three : Type 0 where
  pub topics : List ℕ
  pub partitions : List ℕ
  pub aborted : List ℕ

abbrev pub listed : Three → Tables
listed x = x.topics ∷ x.partitions ∷ x.aborted ∷ []

abbrev three_of : Tables → Three
three_of ts = record { topics = get_or ts 0 []; partitions = get_or ts 1 []; aborted = get_or ts 2 [] }

-- a reply, and the tables behind it
abbrev pub Told : Type 0
Told = Read ResponseBody × Three

abbrev pub said : Told → Answer × Tables
said x = (of_response_reply x.0, listed x.1)

said_back : (x : Told) → (reply_of (said x).0, three_of (said x).1) ≡ x
said_back (Ok t, ts) = λ i. (taken (body_back_lem t.value.throttle t.value.topics i) t.next, ts)
said_back (Err e, ts) = refl

pub response_unique : (o : Answer × Tables) (x y : Told) → said x ≡ o → said y ≡ o → x ≡ y
response_unique = unique said (λ (o : Answer × Tables). (reply_of o.0, three_of o.1)) said_back

-- ---- `measure`

abbrev measure_of : Res (List ℕ × List ℕ) → Result Walked Refusal
measure_of (ok x n) = Ok (record { body = body_of x.0; next = n; marks = record { topics = get_or x.1 0 0; partitions = get_or x.1 1 0; aborted = get_or x.1 2 0 } })
measure_of (bad e) = Err (refusal_of e)

measure_back : (x : Result Walked Refusal) → measure_of (of_measure x) ≡ x
measure_back (Ok w) = λ i. Ok (record { body = body_back_lem w.body.throttle w.body.topics i; next = w.next; marks = w.marks })
measure_back (Err e) = refl

pub measure_unique : (o : Res (List ℕ × List ℕ)) (x y : Result Walked Refusal) → of_measure x ≡ o → of_measure y ≡ o → x ≡ y
measure_unique = unique of_measure measure_of measure_back
