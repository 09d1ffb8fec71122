-- ApiVersions responses. What is read can be written again at its version, and if its varints are shortest and nothing is null the same bytes come out.
-- The feared night cannot come: of the three layouts (version 0; 1 and 2; 3) at most one accepts a body read whole,
-- and what was written at a version is accepted whole there, comes back, and is refused at the other two.
use mathlib.Core.Bool.{Bool, true}
use mathlib.Core.List.{List, []}
use mathlib.Core.Logic.{◌≢◌}
use mathlib.Core.Path.{◌∙◌, ◌≡◌, ap, refl, subst, sym}
use Prim.Native.Nat.{◌≤◌, ℕ}
use native.Mathlib.Omega.{arith}
use lib.IntN.{negsuc, pos, ℤ}
use lib.ListN.{length, replicate, take}
use lib.Seq.{take-length}
use Rattle.layout.specs.Reading.{Refusal, ok}
use Rattle.layout.specs.Rows.{Shape, Value}
use Rattle.layout.specs.Read.{by_bytes, read}
use Rattle.layout.specs.Write.{fault, write}
use Rattle.layout.specs.Tables.{Tables, append, read_rows}
use Rattle.layout.specs.Answers.{accepted, body, made, meant, most, refused, seen, shape, whole_read, write_answer}
use Rattle.layout.specs.Messages.ApiVersions as Api
use Rattle.layout.proofs.AllRows.{good_again}
use Rattle.layout.proofs.Calls.{ComesBack, comes_back, read_inv, read_refused, seen_fits, seen_inv}
use Rattle.layout.proofs.Strict.{Bytes, canonical, strict}
use Rattle.layout.proofs.Clean.{Plain, yields_read}
use Rattle.layout.proofs.Exclusive.{Accepted, Era, bare, era_of, exclusive, flexible, layout_is, layout_of, throttled}
use Rattle.layout.proofs.Proper.{api_response, owed}
use Rattle.layout.proofs.Returned.{api_response_follows, response_tables}
use Rattle.layout.proofs.Tests.{le-true}
use Rattle.layout.proofs.Trip.{tables_mean}
use Rattle.layout.proofs.Steps.{by_result}

-- ---- what is read can be written again

plain : (f : Era) → Plain (layout_of f)
plain bare = (tt, ((tt, (tt, (tt, tt))), tt))
plain throttled = (tt, ((tt, (tt, (tt, tt))), (tt, tt)))
plain flexible = (tt, ((tt, (tt, (tt, ((tt, (tt, tt)), tt)))), (tt, ((tt, (tt, tt)), tt))))

module _ (v : ℕ) (known : v ≤ 3) where
  abbrev l : Shape
  l = shape Api.response v

  module _ (w : Bool) (s : List ℕ) (st : Tables) (n : ℕ) (short : length s ≤ most) (d : read_rows w append l 0 (replicate 3 []) 0 s ≡ ok st n) where
    -- what the tables mean is what the bytes say
    pub means_again : read (by_bytes w) l 0 s ≡ ok (meant s st l) n
    means_again = let o = owed Api.response api_response v known in tables_mean w l 3 s st n (omega arith) o.names o.eating (omega arith) d

    -- 7 and 11 are not given
    pub clean_again : Bytes s → fault l (meant s st l) ≡ 0
    clean_again b = ((yields_read w l (subst Plain (sym (layout_is v known)) (plain (era_of v)))).law 0 s (meant s st l) n b means_again).1

  -- the tables of a strictly accepted body, written from the same message, give the body
  pub same_bytes : (e : ℕ) (s : List ℕ) (x : Value (List ℕ) l) (st : Tables) → length s ≤ most → Bytes s → read (strict e) l 0 s ≡ ok x (length s) → read_rows true append l 0 (replicate 3 []) 0 s ≡ ok st (length s) → made Api.response (pos v) s st ≡ ok s (length s)
  unfolding made body
  same_bytes e s x st short b r d =
      let t = canonical e l s x (length s) b r in
      let z : ok (meant s st l) (length s) ≡ ok x (length s) = sym (means_again true s st (length s) short d) ∙ t.0 in
      let same : meant s st l ≡ x = cc in
      let bytes_are : write l (meant s st l) ≡ s = ap (write l) same ∙ t.1 ∙ take-length s in
      let good = good_again Api.response api_response (response_tables v) v known (api_response_follows v known) true s st (length s) (omega (arith, short)) d in
      rw (le-true v 3 known, good, clean_again true s st (length s) short d b, bytes_are, le-true (length s) most short)

-- ---- at most one layout

-- the layout of a version
abbrev pub era : ℤ → Era
era (pos v) = era_of v
era (negsuc v) = era_of 0

-- a body seen whole is accepted at the layout of its version
at_its_layout : (v : ℤ) (s : List ℕ) (st : Tables) (n : ℕ) → seen true Api.response v s ≡ ok st n → Accepted (layout_of (era v)) s
at_its_layout v s st n e =
    let d = seen_inv true Api.response v s st n e in
    let l = shape Api.response d.version in
    let x : n ≡ length s = omega (arith, seen_fits Api.response v s true st n e, d.to_the_end refl) in
    let b : Accepted l s = record { x = meant s st l; whole_read_lem = means_again d.version d.known true s st n d.short d.reads ∙ ap (λ (k : ℕ). ok (meant s st l) k) x } in
    subst (λ (f : Era). Accepted (layout_of f) s) (sym (ap era d.is)) (subst (λ (l : Shape). Accepted l s) (layout_is d.version d.known) b)

-- whatever tables are lent: two versions that accept a body whole have one layout
pub at_most_one : (v w : ℤ) (s : List ℕ) (room room' : Tables) (r r' : List ℕ) (n n' : ℕ) (after after' : Tables) →
    whole_read Api.response v room s ≡ (accepted r n, after) → whole_read Api.response w room' s ≡ (accepted r' n', after') → era v ≡ era w
unfolding whole_read
at_most_one v w s room room' r r' n n' after after' a b =
    let c = read_inv Api.response v s room true r n after a in
    let d = read_inv Api.response w s room' true r' n' after' b in
    exclusive s (seen_inv true Api.response v s c.st n c.is_seen).short (era v) (era w) (at_its_layout v s c.st n c.is_seen) (at_its_layout w s d.st n' d.is_seen)

-- a body accepted whole at one layout is refused at every version of another, whatever tables are lent, and they are as they were
pub other_refuses : (v w : ℤ) (s : List ℕ) (st : Tables) (n : ℕ) → seen true Api.response v s ≡ ok st n → era v ≢ era w → (e : Refusal) × ((room : Tables) → whole_read Api.response w room s ≡ (refused e, room))
unfolding whole_read
other_refuses v w s st n a apart =
    by_result (seen true Api.response w s)
    (λ su k d. absurd (apart (exclusive s (seen_inv true Api.response v s st n a).short (era v) (era w) (at_its_layout v s st n a) (at_its_layout w s su k d))))
    (λ e d. (e, λ room. read_refused Api.response w s room true e d))

-- what the writer accepted at version v is accepted whole at v and means the same; at a version of another layout it is refused
pub written_once : (v : ℤ) (lent : List ℕ) (st : Tables) (out r : List ℕ) (n : ℕ) (after : List ℕ) → write_answer Api.response v lent st out ≡ (accepted r n, after) →
    ComesBack Api.response v lent st (take n after) × ((w : ℤ) → era v ≢ era w → (e : Refusal) × ((room : Tables) → whole_read Api.response w room (take n after) ≡ (refused e, room)))
written_once v lent st out r n after e =
    let c = (comes_back Api.response api_response v lent st out r n after e).1 in
    (c, λ w apart. other_refuses v w (take n after) (c.su true) (length (take n after)) (c.is_seen true) apart)
