-- What is written reads back: the tables that a read of the written bytes lays mean the value that was written. For every shape.
use mathlib.Core.Bool.{Bool}
use mathlib.Core.List.{List, [], append-nil}
use mathlib.Core.Path.{◌∙◌, ◌≡◌, ap, refl, subst, sym}
use Prim.Native.Nat.{◌+◌, ◌<◌, ◌≤◌, ℕ}
use native.Mathlib.Omega.{arith}
use lib.ListN.{length, length-replicate, replicate}
use Rattle.layout.specs.Reading.{ok}
use Rattle.layout.specs.Primitives.{minus}
use Rattle.layout.specs.Rows.{Shape, Value}
use Rattle.layout.specs.Read.{by_bytes, read}
use Rattle.layout.specs.Write.{fault, write}
use Rattle.layout.specs.Tables.{Tables, append, read_rows, value_of}
use Rattle.layout.specs.Answers.{meant, most}
use Rattle.layout.proofs.Back.{back_read}
use Rattle.layout.proofs.Link.{by_bytes_lem, keep, link, over, under}
use Rattle.layout.proofs.Decode.{takes}
use Rattle.layout.proofs.Every.{Within}
use Rattle.layout.proofs.Parts.{Eating, shown}
use Rattle.layout.proofs.Same.{same_tables}

-- what a read's tables mean is what its bytes say
pub tables_mean : (q : Bool) (l : Shape) (N : ℕ) (msg : List ℕ) (st : Tables) (n : ℕ) → 0 < N → Within N l → Eating l → length msg < minus →
    read_rows q append l 0 (replicate N []) 0 msg ≡ ok st n → read (by_bytes q) l 0 msg ≡ ok (meant msg st l) n
unfolding meant
tables_mean q l N msg st n first names eats small e =
    let u = under _ _ _ (link q append l 0 (replicate N [])) 0 msg tt st n e in
    let s = shown minus q l msg u.x n small eats u.reads in
    let t = (takes msg N (λ t. t.0 + t.1 ≤ length msg) l 0 u.x first names s.inside_it).law (replicate N []) (length-replicate N []) in
    s.bytes_are ∙ ap (λ (v : Value (List ℕ) l × Tables). ok v.0 n) (sym (ap (value_of msg l 0) (sym u.is ∙ same_tables N l 0 u.x) ∙ t))

-- a body that the byte reader accepts lays tables
pub record Laid (q : Bool) (l : Shape) (N : ℕ) (msg : List ℕ) (x : Value (List ℕ) l) (n : ℕ) : Type 0 where
  pub st : Tables
  pub reads : read_rows q append l 0 (replicate N []) 0 msg ≡ ok st n
  pub means : meant msg st l ≡ x

pub lays : (q : Bool) (l : Shape) (N : ℕ) (msg : List ℕ) (x : Value (List ℕ) l) (n : ℕ) → 0 < N → Within N l → Eating l → length msg < minus → read (by_bytes q) l 0 msg ≡ ok x n → Laid q l N msg x n
lays q l N msg x n first names eats small e =
    let u = under _ _ _ (by_bytes_lem msg q l) 0 msg refl x n e in
    let st = keep append l 0 u.x (replicate N []) in
    let d : read_rows q append l 0 (replicate N []) 0 msg ≡ ok st n = (link q append l 0 (replicate N [])).law 0 msg tt ∙ ap (over (λ x. keep append l 0 x (replicate N []))) u.reads in
    let z : ok (meant msg st l) n ≡ ok x n = sym (tables_mean q l N msg st n first names eats small d) ∙ e in
    record { st = st; reads = d; means = cc }

-- the theorem: a value without fault, written, is read whole, with every byte used, into tables that mean it
pub round_trip : (q : Bool) (l : Shape) (N : ℕ) (x : Value (List ℕ) l) → 0 < N → Within N l → Eating l → length (write l x) ≤ most → fault l x ≡ 0 → Laid q l N (write l x) x (length (write l x))
round_trip q l N x first names eats small z =
    lays q l N (write l x) x (length (write l x)) first names eats (omega arith)
    (subst (λ (u : List ℕ). read (by_bytes q) l 0 u ≡ ok x (length (write l x))) (append-nil (write l x)) ((back_read q l x eats z small).law 0 []))
