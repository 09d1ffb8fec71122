-- The rows of a table: how many, a row's cells in the table, and the rows of a part of it.
use mathlib.Core.List.{List, [], ◌∷◌}
use mathlib.Core.Path.{◌∙◌, ◌≡◌, ap, ap₂, refl, sym}
use Prim.Native.Nat.{◌*◌, ◌+◌, ◌-◌, ◌/◌, ◌<◌, ◌≤◌, suc, zero, ℕ}
use native.Mathlib.Nat.{div-eq-sub-div, div-mul-le_self, mul-div_cancel, mul-le-mul_right}
use native.Mathlib.Numerals.{add-one}
use native.Mathlib.Omega.{arith}
use lib.ListN.{drop, get_or, length, length-drop, take}
use lib.Seq.{drop-drop, get_or-drop, get_or-take, length-take-le, take-nil, take-take}
use Rattle.layout.specs.Tables.{chunks, rows_of}

-- a table with no room has nothing in it
pub nil : (t : List ℕ) → length t ≡ 0 → t ≡ []
nil [] e = refl
nil (x ∷ t) e = absurd (omega (arith, e))

pub chunks_many : (n w : ℕ) (cs : List ℕ) → length (chunks n w cs) ≡ n
unfolding chunks
chunks_many zero w cs = refl
chunks_many (suc n) w cs = ap suc (chunks_many n w (drop w cs))

pub rows_many : (w : ℕ) (cs : List ℕ) → length (rows_of w cs) ≡ length cs / w
unfolding rows_of
rows_many w cs = chunks_many (length cs / w) w cs

chunk_at : (n w : ℕ) (cs : List ℕ) (i : ℕ) → i < n → get_or (chunks n w cs) i [] ≡ take w (drop (i * w) cs)
unfolding chunks
chunk_at zero w cs i h = absurd (omega arith)
chunk_at (suc n) w cs zero h = let e : 0 ≡ 0 * w = omega arith in ap (λ (k : ℕ). take w (drop k cs)) e
chunk_at (suc n) w cs (suc i) h = let e : w + i * w ≡ suc i * w = omega arith in chunk_at n w (drop w cs) i (omega arith) ∙ ap (take w) (drop-drop (i * w) w cs ∙ ap (λ (k : ℕ). drop k cs) e)

-- row i of a table of n cells ends inside it
pub row_inside : (w n i : ℕ) → i < n / w → i * w + w ≤ n
row_inside w n i h = omega (arith, mul-le-mul_right {m = i + 1} {n = n / w} w (omega arith), div-mul-le_self n w)

-- the cells of row i stand from i · w on
pub row_cell : (w : ℕ) (table : List ℕ) (i : ℕ) → i < length table / w → (j : ℕ) → j < w → get_or (get_or (rows_of w table) i []) j 0 ≡ get_or table (i * w + j) 0
unfolding rows_of
row_cell w table i h j k = ap (λ (r : List ℕ). get_or r j 0) (chunk_at (length table / w) w table i h) ∙ get_or-take w (drop (i * w) table) j 0 k ∙ get_or-drop (i * w) table j 0

pub drop_take : (w m k : ℕ) → k ≡ w + m → (cs : List ℕ) → drop w (take k cs) ≡ take m (drop w cs)
drop_take zero m k e cs = let f : k ≡ m = omega arith in ap (λ (j : ℕ). take j cs) f
drop_take (suc w) m zero e cs = absurd (omega arith)
drop_take (suc w) m (suc k) e [] = sym (take-nil m)
drop_take (suc w) m (suc k) e (c ∷ cs) = drop_take w m k (omega arith) cs

-- the first n rows of a table are those of its part
pub chunks_part : (n w : ℕ) (cs : List ℕ) → chunks n w (take (n * w) cs) ≡ chunks n w cs
unfolding chunks
chunks_part zero w cs = refl
chunks_part (suc n) w cs =
    ap₂ (λ (r : List ℕ) (rs : List (List ℕ)). r ∷ rs) (take-take w (suc n * w) cs (omega arith))
    (ap (chunks n w) (drop_take w (n * w) (suc n * w) (omega arith) cs) ∙ chunks_part n w (drop w cs))

pub rows_part : (n w : ℕ) (cs : List ℕ) → 0 < w → n * w ≤ length cs → rows_of w (take (n * w) cs) ≡ chunks n w cs
unfolding rows_of
rows_part n w cs h k =
    ap (λ (m : ℕ). chunks m w (take (n * w) cs)) (ap (λ (l : ℕ). l / w) (length-take-le (n * w) cs k) ∙ mul-div_cancel n h)
    ∙ chunks_part n w cs

-- a table that has a row more
pub rows_first : (w : ℕ) (cs : List ℕ) → 0 < w → w ≤ length cs → rows_of w cs ≡ take w cs ∷ rows_of w (drop w cs)
unfolding rows_of chunks
rows_first w cs h k = ap (λ (n : ℕ). chunks n w cs) (div-eq-sub-div h k ∙ add-one ((length cs - w) / w) ∙ ap (λ (n : ℕ). suc (n / w)) (sym (length-drop w cs)))
