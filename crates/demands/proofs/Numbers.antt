-- The rows of an ApiVersions response, shown and settled, in numbers.
use mathlib.Core.Bool.{false}
use mathlib.Core.List.{List, [], ◌++◌, ◌∷◌}
use mathlib.Core.Path.{◌∙◌, ◌≡◌, refl}
use Prim.Native.Nat.{◌≤◌, ℕ}
use Rattle.std.specs.Prelude.{Option, Some, None}
use native.Mathlib.Omega.{arith}
use lib.Dec.{eqb, lit<}
use lib.ListN.{drop, get_or, length}
use lib.Seq.{get_or-drop, get_or-take}
use Rattle.layout.specs.Primitives.{minus}
use Rattle.layout.specs.Rows.{at, standing, stands, tag_rows}
use Rattle.layout.specs.Tables.{arrays, kind_in, kind_of, row_width, width}
use Rattle.layout.specs.Answers.{shape}
use Rattle.layout.specs.Messages.ApiVersions as Api
use Rattle.layout.specs.Settled.{Shown, gone, gone_count, num, part, settled_cells, settled_count, settled_row, settled_span, shown_cells, shown_row, shown_span}
use Rattle.primitives.proofs.Versions.{up_to}
use Rattle.body_reading.specs.Cells.{versioned_cells}
use Rattle.demands.specs.Returned.{item_back, tag_shown, tags_back, throttle_back}

abbrev pub num_of : Shown → ℕ
num_of (num n) = n
num_of (part bs) = 0

abbrev pub bytes_of : Shown → List ℕ
bytes_of (num n) = []
bytes_of (part bs) = bs

abbrev pub nums : List Shown → List ℕ
nums [] = []
nums (x ∷ xs) = num_of x ∷ nums xs

-- ---- the own row

own_nums : (bs : List ℕ) (v : ℕ) → v ≤ 3 → (a b c d e : ℕ) → nums (shown_row bs (shape Api.response v) (a ∷ b ∷ c ∷ d ∷ e ∷ [])) ≡ a ∷ b ∷ c ∷ d ∷ e ∷ []
unfolding shape at stands standing tag_rows Api.response_rows Api.key_rows shown_row shown_cells width
own_nums bs v h a b c d e = up_to 3 (λ v. nums (shown_row bs (shape Api.response v) (a ∷ b ∷ c ∷ d ∷ e ∷ [])) ≡ a ∷ b ∷ c ∷ d ∷ e ∷ []) (refl, (refl, (refl, refl))) v h

pub own_back : (bs : List ℕ) (v : ℕ) → v ≤ 3 → (r : List ℕ) → length r ≡ 5 → nums (shown_row bs (shape Api.response v) r) ≡ r
own_back bs v h [] e = absurd (omega arith)
own_back bs v h (a ∷ []) e = absurd (omega arith)
own_back bs v h (a ∷ b ∷ []) e = absurd (omega arith)
own_back bs v h (a ∷ b ∷ c ∷ []) e = absurd (omega arith)
own_back bs v h (a ∷ b ∷ c ∷ d ∷ []) e = absurd (omega arith)
own_back bs v h (a ∷ b ∷ c ∷ d ∷ f ∷ []) e = own_nums bs v h a b c d f
own_back bs v h (a ∷ b ∷ c ∷ d ∷ f ∷ g ∷ r) e = absurd (omega arith)

abbrev OwnSettled : List ℕ → ℕ → ℕ → Option ℕ → ℕ → ℕ → Type 0
OwnSettled lent e n t g v = nums (settled_row lent (shape Api.response v) (e ∷ n ∷ (versioned_cells t ++ (g ∷ [])))) ≡ e ∷ n ∷ (versioned_cells (throttle_back v t) ++ (tags_back v g ∷ []))

pub own_settled : (lent : List ℕ) (v : ℕ) → v ≤ 3 → (e n : ℕ) (t : Option ℕ) (g : ℕ) → eqb n minus ≡ false →
    nums (settled_row lent (shape Api.response v) (e ∷ n ∷ (versioned_cells t ++ (g ∷ [])))) ≡ e ∷ n ∷ (versioned_cells (throttle_back v t) ++ (tags_back v g ∷ []))
unfolding shape at stands standing tag_rows Api.response_rows Api.key_rows settled_row settled_cells shown_cells settled_count gone gone_count width
own_settled lent v h e n None g i = up_to 3 (OwnSettled lent e n None g) (rw i, (rw i, (rw i, rw i))) v h
own_settled lent v h e n (Some t) g i = up_to 3 (OwnSettled lent e n (Some t) g) (rw i, (rw i, (rw i, rw i))) v h

-- ---- items

item_nums : (bs : List ℕ) (v : ℕ) → v ≤ 3 → (a b c d : ℕ) → nums (shown_row bs (kind_of 1 (shape Api.response v)) (a ∷ b ∷ c ∷ d ∷ [])) ≡ a ∷ b ∷ c ∷ d ∷ []
unfolding kind_of kind_in arrays shape at stands standing tag_rows Api.response_rows Api.key_rows shown_row shown_cells width
item_nums bs v h a b c d = up_to 3 (λ v. nums (shown_row bs (kind_of 1 (shape Api.response v)) (a ∷ b ∷ c ∷ d ∷ [])) ≡ a ∷ b ∷ c ∷ d ∷ []) (refl, (refl, (refl, refl))) v h

pub item_back_lem : (bs : List ℕ) (v : ℕ) → v ≤ 3 → (r : List ℕ) → length r ≡ 4 → nums (shown_row bs (kind_of 1 (shape Api.response v)) r) ≡ r
item_back_lem bs v h [] e = absurd (omega arith)
item_back_lem bs v h (a ∷ []) e = absurd (omega arith)
item_back_lem bs v h (a ∷ b ∷ []) e = absurd (omega arith)
item_back_lem bs v h (a ∷ b ∷ c ∷ []) e = absurd (omega arith)
item_back_lem bs v h (a ∷ b ∷ c ∷ d ∷ []) e = item_nums bs v h a b c d
item_back_lem bs v h (a ∷ b ∷ c ∷ d ∷ f ∷ r) e = absurd (omega arith)

pub item_settled : (lent : List ℕ) (v : ℕ) → v ≤ 3 → (q : List ℕ) → nums (settled_row lent (kind_of 1 (shape Api.response v)) q) ≡ item_back v q
unfolding kind_of kind_in arrays shape at stands standing tag_rows Api.response_rows Api.key_rows settled_row settled_cells shown_cells settled_count gone gone_count width
item_settled lent v h q =
    let a = get_or-take 1 q 0 0 (lit< tt) in
    let b = get_or-take 1 (drop 1 q) 0 0 (lit< tt) ∙ get_or-drop 1 q 0 0 in
    let c = get_or-take 1 (drop 1 (drop 1 q)) 0 0 (lit< tt) ∙ get_or-drop 1 (drop 1 q) 0 0 ∙ get_or-drop 1 q 1 0 in
    let d = get_or-drop 1 (drop 1 (drop 1 q)) 0 0 ∙ get_or-drop 1 (drop 1 q) 1 0 ∙ get_or-drop 1 q 2 0 in
    up_to 3 (λ v. nums (settled_row lent (kind_of 1 (shape Api.response v)) q) ≡ item_back v q)
    ((λ i. a i ∷ b i ∷ c i ∷ minus ∷ []), ((λ i. a i ∷ b i ∷ c i ∷ minus ∷ []), ((λ i. a i ∷ b i ∷ c i ∷ minus ∷ []), λ i. a i ∷ b i ∷ c i ∷ tags_back 3 (d i) ∷ []))) v h

-- ---- tags

abbrev pub tag_of : List Shown → ℕ × List ℕ
tag_of s = (num_of (get_or s 0 (num 0)), bytes_of (get_or s 1 (num 0)))

pub tag_shown_lem : (bs r : List ℕ) → tag_of (shown_row bs (kind_of 2 (shape Api.response 3)) r) ≡ tag_shown bs r
unfolding kind_of kind_in arrays shape at stands standing tag_rows Api.response_rows Api.key_rows shown_row shown_cells shown_span width
tag_shown_lem bs [] = refl
tag_shown_lem bs (a ∷ []) = refl
tag_shown_lem bs (a ∷ b ∷ []) = refl
tag_shown_lem bs (a ∷ b ∷ c ∷ r) = refl

pub tag_settled : (lent r : List ℕ) → tag_of (settled_row lent (kind_of 2 (shape Api.response 3)) r) ≡ tag_shown lent r
unfolding kind_of kind_in arrays shape at stands standing tag_rows Api.response_rows Api.key_rows settled_row settled_cells settled_span shown_cells shown_span width
tag_settled lent [] = refl
tag_settled lent (a ∷ []) = refl
tag_settled lent (a ∷ b ∷ []) = refl
tag_settled lent (a ∷ b ∷ c ∷ r) = refl

-- ---- widths, the same at all versions

pub widths_are : (v : ℕ) → v ≤ 3 → (row_width (shape Api.response v) ≡ 5) × (row_width (kind_of 1 (shape Api.response v)) ≡ 4) × (row_width (kind_of 2 (shape Api.response v)) ≡ 3)
unfolding kind_of kind_in arrays shape at stands standing tag_rows Api.response_rows Api.key_rows row_width width
widths_are = up_to 3 _ ((refl, refl, refl), ((refl, refl, refl), ((refl, refl, refl), (refl, refl, refl))))
