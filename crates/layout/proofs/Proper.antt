-- What a message owes so that the laws of shapes are laws of its calls: its tables are there and apart, every item takes a byte, and row widths
-- do not depend on the version. It is one test over the rows of all versions, computed for each message.
use mathlib.Core.Bool.{Bool, ◌&&◌, false, not, true}
use mathlib.Core.List.{List, [], ◌∷◌, map}
use mathlib.Core.Logic.{◌≢◌}
use mathlib.Core.Path.{◌∙◌, ◌≡◌, ap, refl, sym}
use Prim.Native.Nat.{◌+◌, ◌<◌, ◌≤◌, suc, zero, ℕ}
use native.Mathlib.Omega.{arith}
use lib.Dec.{eqb, ltb}
use lib.ListN.{get_or, replicate}
use Rattle.layout.specs.Rows.{Shape, absent, array, at, end, field, lacking, standing, stands, tag_rows}
use Rattle.layout.specs.Tables.{all, arrays, from, kind_in, kind_of, row_width, width}
use Rattle.layout.specs.Answers.{Message, shape}
use Rattle.layout.specs.Messages.ApiVersions as Api
use Rattle.layout.specs.Messages.Fetch as Fetch
use Rattle.layout.specs.Messages.Metadata as Metadata
use Rattle.layout.proofs.Contents.{Free, Tree, Wide}
use Rattle.layout.proofs.Every.{Within}
use Rattle.layout.proofs.Parts.{Eating, Eats}
use Rattle.layout.proofs.Tests.{by_test, of_eq, of_lt, of-ne}
use borrow.Author.Tests.{not-true}

pub both : (a b : Bool) → (a && b) ≡ true → (a ≡ true) × (b ≡ true)
both true b h = (refl, h)
both false b h = let z : ◌≡◌ {A = ℕ} 0 1 = cc in absurd (omega arith)

-- ---- the tests

-- table o is none of those that l names
unfoldable pub avoids : ℕ → Shape → Bool
avoids o end = true
avoids o (field k r) = avoids o r
avoids o (absent k r) = avoids o r
avoids o (array z t i r) = not (eqb o t) && (avoids o i && avoids o r)
avoids o (lacking z t i r) = avoids o r

-- l takes a byte
unfoldable pub eats : Shape → Bool
eats end = false
eats (field k r) = true
eats (absent k r) = eats r
eats (array z t i r) = true
eats (lacking z t i r) = eats r

-- each array of l has a table below n, whose rows are as wide as its items, that its items leave alone and that is not table 0; and its items take a byte
unfoldable pub sound : ℕ → Shape → Shape → Bool
sound n L end = true
sound n L (field k r) = sound n L r
sound n L (absent k r) = sound n L r
sound n L (array z t i r) = ltb t n && (not (eqb 0 t) && (avoids t i && (eats i && (eqb (row_width (kind_of t L)) (row_width i) && (sound n L i && sound n L r)))))
sound n L (lacking z t i r) = sound n L r

-- the width of table t's rows at version v
unfoldable pub width_at : Message → ℕ → ℕ → ℕ
width_at m v t = row_width (kind_of t (shape m v))

unfoldable pub proper : Message → Bool
proper m =
    all (λ v. sound (suc m.tables) (shape m v) (shape m v) && all (λ t. ltb 0 (width_at m v t) && eqb (width_at m v t) (width_at m 0 t)) (from 1 m.tables)) (from 0 (suc m.last))

-- ---- what they say

pub record Owes (n : ℕ) (L l : Shape) : Type 0 where
  pub names : Within n l
  pub free : Free 0 l
  pub tree : Tree l
  pub eating : Eating l
  pub wide : Wide (λ t. row_width (kind_of t L)) l

pub avoids_free : (o : ℕ) (l : Shape) → avoids o l ≡ true → Free o l
unfolding avoids
avoids_free o end h = tt
avoids_free o (field k r) h = avoids_free o r h
avoids_free o (absent k r) h = avoids_free o r h
avoids_free o (array z t i r) h =
    let a = both _ _ h in
    let b = both _ _ a.1 in
    (not-true _ a.0, avoids_free o i b.0, avoids_free o r b.1)
avoids_free o (lacking z t i r) h = avoids_free o r h

eats_it : (l : Shape) → eats l ≡ true → Eats l
unfolding eats
eats_it end h = let z : ◌≡◌ {A = ℕ} 0 1 = cc in absurd (omega arith)
eats_it (field k r) h = tt
eats_it (absent k r) h = eats_it r h
eats_it (array z t i r) h = tt
eats_it (lacking z t i r) h = eats_it r h

owes : (n : ℕ) (L l : Shape) → sound n L l ≡ true → Owes n L l
unfolding sound
owes n L end h = record { names = tt; free = tt; tree = tt; eating = tt; wide = tt }
owes n L (field k r) h = let o = owes n L r h in record { names = o.names; free = o.free; tree = o.tree; eating = o.eating; wide = o.wide }
owes n L (absent k r) h = let o = owes n L r h in record { names = o.names; free = o.free; tree = o.tree; eating = o.eating; wide = o.wide }
owes n L (array z t i r) h =
    let a = both _ _ h in
    let b = both _ _ a.1 in
    let c = both _ _ b.1 in
    let d = both _ _ c.1 in
    let e = both _ _ d.1 in
    let f = both _ _ e.1 in
    let p = owes n L i f.0 in
    let q = owes n L r f.1 in
    record {
      names = (of_lt _ _ a.0, p.names, q.names);
      free = (not-true _ b.0, p.free, q.free);
      tree = (avoids_free t i c.0, p.tree, q.tree);
      eating = (eats_it i d.0, p.eating, q.eating);
      wide = (of_eq _ _ e.0, p.wide, q.wide);
    }
owes n L (lacking z t i r) h = let o = owes n L r h in record { names = o.names; free = o.free; tree = o.tree; eating = o.eating; wide = o.wide }

-- a test of all from s on, n in all, is a test of each
pub all_from : (p : ℕ → Bool) (s n v : ℕ) → all p (from s n) ≡ true → s ≤ v → v < s + n → p v ≡ true
unfolding all from
all_from p s zero v h a b = absurd (omega arith)
all_from p s (suc n) v h a b =
    let c = both (p s) (all p (from (suc s) n)) h in
    by_test (eqb s v) (λ d. ap p (sym (of_eq s v d)) ∙ c.0) (λ d. all_from p (suc s) n v c.1 (let x : s ≢ v = of-ne s v d in omega arith) (omega arith))

module _ (m : Message) (h : proper m ≡ true) (v : ℕ) (low : v ≤ m.last) where
  at_version_lem : (sound (suc m.tables) (shape m v) (shape m v) ≡ true) × (all (λ t. ltb 0 (width_at m v t) && eqb (width_at m v t) (width_at m 0 t)) (from 1 m.tables) ≡ true)
  unfolding proper
  at_version_lem = both _ _ (all_from _ 0 (suc m.last) v h (omega arith) (omega arith))

  pub owed : Owes (suc m.tables) (shape m v) (shape m v)
  owed = owes _ _ _ at_version_lem.0

  -- a row has a cell at least, and as many as at version 0
  pub width_same : (t : ℕ) → 1 ≤ t → t ≤ m.tables → (0 < width_at m v t) × (width_at m v t ≡ width_at m 0 t)
  width_same t a b =
      let c = both _ _ (all_from _ 1 m.tables t at_version_lem.1 a (omega arith)) in
      (of_lt _ _ c.0, of_eq _ _ c.1)

-- ---- each message

abbrev pub messages : List Message
messages = Api.request ∷ Api.response ∷ Metadata.request ∷ Metadata.response ∷ Fetch.request ∷ Fetch.response ∷ []

all_proper : map proper messages ≡ replicate 6 true
unfolding proper sound avoids eats width_at all from kind_of kind_in arrays row_width width shape at stands standing tag_rows
    Api.request_rows Api.key_rows Api.response_rows
    Metadata.name_rows Metadata.request_rows Metadata.broker_rows Metadata.node_rows Metadata.partition_rows Metadata.topic_rows Metadata.response_rows
    Fetch.ask_rows Fetch.ask_topic_rows Fetch.request_rows Fetch.aborted_rows Fetch.partition_rows Fetch.topic_rows Fetch.response_rows
all_proper = refl

pub api_request : proper Api.request ≡ true
api_request = ap (λ (bs : List Bool). get_or bs 0 false) all_proper

pub api_response : proper Api.response ≡ true
api_response = ap (λ (bs : List Bool). get_or bs 1 false) all_proper

pub metadata_request_lem : proper Metadata.request ≡ true
metadata_request_lem = ap (λ (bs : List Bool). get_or bs 2 false) all_proper

pub metadata_response_lem : proper Metadata.response ≡ true
metadata_response_lem = ap (λ (bs : List Bool). get_or bs 3 false) all_proper

pub fetch_request_lem : proper Fetch.request ≡ true
fetch_request_lem = ap (λ (bs : List Bool). get_or bs 4 false) all_proper

pub fetch_response_lem : proper Fetch.response ≡ true
fetch_response_lem = ap (λ (bs : List Bool). get_or bs 5 false) all_proper
