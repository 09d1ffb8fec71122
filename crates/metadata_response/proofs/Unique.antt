-- The promises of the calls determine the replies and the tables.
use mathlib.Core.List.{List, [], ◌++◌, ◌∷◌}
use mathlib.Core.Path.{◌≡◌, refl}
use Prim.Native.Nat.{ℕ}
use lib.ListN.{get_or}
use Rattle.std.specs.Prelude.{Result, Ok, Err, Option, Some, None}
use Rattle.layout.specs.Reading.{Res, bad, ok}
use Rattle.primitives.specs.Answers.{Read, taken}
use Rattle.primitives.specs.declared.Refusal.{Refusal}
use Rattle.layout.specs.Tables.{Tables}
use Rattle.layout.specs.Answers.{Answer, accepted, refused}
use Rattle.primitives.proofs.Unique.{refusal_of, unique}
use Rattle.primitives.specs.declared.Field.{Field}
use Rattle.body_reading.specs.Cells.{field_cells, versioned_cells}
use Rattle.body_reading.proofs.Unique.{field_of, versioned_of}
use Rattle.metadata_response.specs.Answers.{of_measure, of_response, of_response_reply}
use Rattle.metadata_response.specs.declared.ResponseBody.{ResponseBody}
use Rattle.metadata_response.specs.declared.body.Walked.{Walked}

abbrev body_of : List ℕ → ResponseBody
body_of cs = record {
  throttle = versioned_of (get_or cs 0 0) (get_or cs 1 0);
  brokers = get_or cs 2 0;
  cluster = field_of (get_or cs 3 0) (get_or cs 4 0) (get_or cs 5 0);
  controller = versioned_of (get_or cs 6 0) (get_or cs 7 0);
  topics = get_or cs 8 0;
}

body_back_lem : (t : Option ℕ) (b : ℕ) (f : Field) (c : Option ℕ) (n : ℕ) →
    body_of (versioned_cells t ++ (b ∷ (field_cells f ++ (versioned_cells c ++ (n ∷ []))))) ≡ record { throttle = t; brokers = b; cluster = f; controller = c; topics = n }
body_back_lem None b Field.Absent None n = refl
body_back_lem None b Field.Absent (Some j) n = refl
body_back_lem None b Field.Null None n = refl
body_back_lem None b Field.Null (Some j) n = refl
body_back_lem None b (Field.Present a) None n = refl
body_back_lem None b (Field.Present a) (Some j) n = refl
body_back_lem (Some i) b Field.Absent None n = refl
body_back_lem (Some i) b Field.Absent (Some j) n = refl
body_back_lem (Some i) b Field.Null None n = refl
body_back_lem (Some i) b Field.Null (Some j) n = refl
body_back_lem (Some i) b (Field.Present a) None n = refl
body_back_lem (Some i) b (Field.Present a) (Some j) n = refl

same_body : (b : ResponseBody) → body_of (of_response b) ≡ b
same_body b = body_back_lem b.throttle b.brokers b.cluster b.controller b.topics

-- ---- `read`

abbrev reply_of : Answer → Read ResponseBody
reply_of (accepted cs n) = taken (body_of cs) n
reply_of (refused e) = Err (refusal_of e)

-- the tables of brokers, topics, partitions, replicas and in-sync replicas
pub record Five : Type 0 where
  pub brokers : List ℕ
  pub topics : List ℕ
  pub partitions : List ℕ
  pub replicas : List ℕ
  pub synced : List ℕ

abbrev pub listed : Five → Tables
listed x = x.brokers ∷ x.topics ∷ x.partitions ∷ x.replicas ∷ x.synced ∷ []

abbrev five_of : Tables → Five
five_of ts = record { brokers = get_or ts 0 []; topics = get_or ts 1 []; partitions = get_or ts 2 []; replicas = get_or ts 3 []; synced = get_or ts 4 [] }

-- a reply, and the tables behind it
abbrev pub Told : Type 0
Told = Read ResponseBody × Five

abbrev pub said : Told → Answer × Tables
said x = (of_response_reply x.0, listed x.1)

said_back : (x : Told) → (reply_of (said x).0, five_of (said x).1) ≡ x
said_back (Ok t, ts) = λ i. (taken (same_body t.value i) t.next, ts)
said_back (Err e, ts) = refl

pub response_unique : (o : Answer × Tables) (x y : Told) → said x ≡ o → said y ≡ o → x ≡ y
response_unique = unique said (λ (o : Answer × Tables). (reply_of o.0, five_of o.1)) said_back

-- ---- `measure`

abbrev measure_of : Res (List ℕ × List ℕ) → Result Walked Refusal
measure_of (ok x n) = Ok (record { body = body_of x.0; next = n; brokers = get_or x.1 0 0; marks = record { topics = get_or x.1 1 0; partitions = get_or x.1 2 0; replicas = get_or x.1 3 0; synced = get_or x.1 4 0 } })
measure_of (bad e) = Err (refusal_of e)

measure_back : (x : Result Walked Refusal) → measure_of (of_measure x) ≡ x
measure_back (Ok w) = λ i. Ok (record { body = same_body w.body i; next = w.next; brokers = w.brokers; marks = w.marks })
measure_back (Err e) = refl

pub measure_unique : (o : Res (List ℕ × List ℕ)) (x y : Result Walked Refusal) → of_measure x ≡ o → of_measure y ≡ o → x ≡ y
measure_unique = unique of_measure measure_of measure_back
