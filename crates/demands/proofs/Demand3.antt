-- The mission's third demand, of the calls: whatever replies and outputs the promises of `write` and `read_whole` of `api_versions_response` allow.
-- "Take any ApiVersions response body of at most 1,048,576 bytes. Of the three layouts (version 0; versions 1 and 2; version 3), at most one accepts it read whole.
-- A value that the writer accepted at some version is accepted whole at that version, into tables with room, and comes back, with fields that version lacks absent
-- and unset ones at their defaults; the other two layouts refuse it."
use mathlib.Core.Bool.{Bool, cond, false, true}
use mathlib.Core.List.{List, [], ◌++◌, ◌∷◌, map}
use mathlib.Core.Logic.{◌≢◌}
use mathlib.Core.Option.{none}
use mathlib.Core.Path.{◌∙◌, ◌≡◌, ap, refl, subst, sym}
use Prim.Native.Nat.{◌/◌, ◌^◌, ◌≤◌, suc, zero, ℕ}
use native.Mathlib.Omega.{arith}
use lib.Dec.{eqb, lit<, ltb}
use lib.IntN.{pos}
use lib.ListN.{drop, get_or, length, length-map, take}
use Rattle.std.specs.Prelude.{Ok}
use Rattle.layout.specs.Reading.{Refusal}
use Rattle.layout.specs.Primitives.{minus}
use Rattle.layout.specs.Rows.{Shape, at, standing, stands, tag_rows}
use Rattle.layout.specs.Tables.{Tables, chunks, good, good_cells, good_count, good_row, kind_of, row_width, rows_at, rows_of, width}
use Rattle.layout.specs.Answers.{Answer, accepted, laid, needed, refused, shape, whole_read, widths}
use Rattle.layout.specs.Messages.ApiVersions as Api
use Rattle.layout.specs.Settled.{Back, Shown, settled_row, shown_row}
use Rattle.layout.proofs.Calls.{made_inv, read_answer_lem, seen_inv, tables_are, write_inv}
use Rattle.layout.proofs.Chunks.{rows_many}
use Rattle.layout.proofs.Contents as Contents
use Rattle.layout.proofs.Contents.{Holds, row_width_lem, rows_back, rows_wide, rows_in}
use Rattle.layout.proofs.Demand3.{written_once}
use Rattle.layout.proofs.Every.{All}
use Rattle.layout.proofs.Exclusive.{Era, bare, era_of, flexible, throttled}
use Rattle.layout.proofs.Proper.{api_response, both, owed}
use Rattle.layout.proofs.Returned as Returned
use Rattle.layout.proofs.Returned.{api_response_follows, response_tables}
use Rattle.layout.proofs.Tests.{le-true}
use Rattle.primitives.specs.Answers.{Read, taken}
use Rattle.api_versions_response.specs.Answers.{of_response}
use Rattle.api_versions_response.specs.declared.ResponseBody.{ResponseBody}
use Rattle.api_versions_response.proofs.FearedNight.{one_layout}
use Rattle.api_versions_response.proofs.Replies.{row_widths}
use Rattle.api_versions_response.proofs.Unique.{response_unique, said}
use Rattle.demands.specs.Returned.{body_back, item_back, joined, onto, tag_shown, tags_kept}
use Rattle.demands.specs.Responses.{Accepts, CameBack, Pair, Refuses, Room, WholeRead, Writes, layout}
use Rattle.demands.proofs.Numbers.{item_back_lem, item_settled, nums, own_back, own_settled, tag_settled, tag_shown_lem, tag_of, widths_are}

-- ---- the first sentence: no two layouts accept a body, whatever tables are lent

abbrev number_of : Era → ℕ
number_of bare = 0
number_of throttled = 1
number_of flexible = 2

layout_of : (v : ℕ) → number_of (era_of v) ≡ layout v
layout_of zero = refl
layout_of (suc zero) = refl
layout_of (suc (suc zero)) = refl
layout_of (suc (suc (suc v))) = refl

pub at_most_one : (body : List ℕ) (v w : ℕ) (room room' : Pair) (x y : Read ResponseBody × Pair) (n k : ℕ) → WholeRead body v room x → WholeRead body w room' y → Accepts x n → Accepts y k → layout v ≡ layout w
at_most_one body v w room room' x y n k p q a b = sym (layout_of v) ∙ ap number_of (one_layout body (pos v) (pos w) room room' x y n k p q a b) ∙ layout_of w

-- ---- the second: tools

map_back : (P : List ℕ → Type 0) (f : List ℕ → List Shown) → ((r : List ℕ) → P r → nums (f r) ≡ r) → (rs : List (List ℕ)) → All P rs → map nums (map f rs) ≡ rs
map_back P f e [] a = refl
map_back P f e (r ∷ rs) a = λ i. e r a.0 i ∷ map_back P f e rs a.1 i

map_two : {A B C : Type 0} (g : B → C) (f : A → B) (h : A → C) → ((x : A) → g (f x) ≡ h x) → (xs : List A) → map g (map f xs) ≡ map h xs
map_two g f h e [] = refl
map_two g f h e (x ∷ xs) = λ i. e x i ∷ map_two g f h e xs i

three : (su : Tables) → length su ≡ 3 → su ≡ get_or su 0 [] ∷ get_or su 1 [] ∷ get_or su 2 [] ∷ []
three [] e = absurd (omega arith)
three (a ∷ []) e = absurd (omega arith)
three (a ∷ b ∷ []) e = absurd (omega arith)
three (a ∷ b ∷ c ∷ []) e = refl
three (a ∷ b ∷ c ∷ d ∷ su) e = absurd (omega arith)

-- the number of items is never −1: 13 would have been given
items_set : (size : ℕ) (st : Tables) → good size 2 (shape Api.response 0) st ≡ true → eqb (get_or (drop 1 (get_or st 0 [])) 0 0) minus ≡ false
unfolding good good_row good_cells good_count shape at stands standing tag_rows Api.response_rows Api.key_rows width
items_set size st h =
    let cs = get_or st 0 [] in
    let a = (both (good_row size (shape Api.response 0) cs) _ h).0 in
    go (ltb (get_or (drop 1 cs) 0 0) (2 ^ 63)) (eqb (get_or (drop 1 cs) 0 0) minus) (both (good_count false (get_or (drop 1 cs) 0 0)) _ a).0
  where
    go : (y b : Bool) → cond b false y ≡ true → b ≡ false
    go y true e = sym e
    go y false e = refl

fits : (s t r q : List ℕ) → length s / 4 ≤ length r / 4 → length t / 3 ≤ length q / 3 → needed (4 ∷ 3 ∷ []) (s ∷ t ∷ []) (r ∷ q ∷ []) ≡ none
unfolding needed
fits s t r q a b = rw (le-true _ _ a, le-true _ _ b)

-- tags, where the version has them; and none where it lacks them
tags_same : (v : ℕ) → v ≤ 3 → (lent bs : List ℕ) (st su : Tables) →
    (response_tables v 2 ≡ true → map (shown_row bs (kind_of 2 (shape Api.response v))) (rows_at (shape Api.response v) su 2) ≡ map (settled_row lent (kind_of 2 (shape Api.response v))) (rows_at (shape Api.response v) st 2)) →
    (response_tables v 2 ≡ false → get_or su 2 [] ≡ []) → map (tag_shown bs) (rows_of 3 (get_or su 2 [])) ≡ map (tag_shown lent) (tags_kept v (rows_of 3 (get_or st 2 [])))
tags_same zero h lent bs st su tags no_tags = ap (λ (u : List ℕ). map (tag_shown bs) (rows_of 3 u)) (no_tags refl) ∙ (unfold rows_of chunks in refl)
tags_same (suc zero) h lent bs st su tags no_tags = ap (λ (u : List ℕ). map (tag_shown bs) (rows_of 3 u)) (no_tags refl) ∙ (unfold rows_of chunks in refl)
tags_same (suc (suc zero)) h lent bs st su tags no_tags = ap (λ (u : List ℕ). map (tag_shown bs) (rows_of 3 u)) (no_tags refl) ∙ (unfold rows_of chunks in refl)
tags_same (suc (suc (suc zero))) h lent bs st su tags no_tags =
    let w : row_width (kind_of 2 (shape Api.response 3)) ≡ 3 = (widths_are 3 h).2 in
    let e : map (shown_row bs (kind_of 2 (shape Api.response 3))) (rows_of 3 (get_or su 2 [])) ≡ map (settled_row lent (kind_of 2 (shape Api.response 3))) (rows_of 3 (get_or st 2 [])) =
    subst (λ (k : ℕ). map (shown_row bs (kind_of 2 (shape Api.response 3))) (rows_of k (get_or su 2 [])) ≡ map (settled_row lent (kind_of 2 (shape Api.response 3))) (rows_of k (get_or st 2 []))) w (unfold rows_at in tags refl) in
    sym (map_two tag_of (shown_row bs (kind_of 2 (shape Api.response 3))) (tag_shown bs) (tag_shown_lem bs) (rows_of 3 (get_or su 2 []))) ∙ ap (map tag_of) e
    ∙ map_two tag_of (settled_row lent (kind_of 2 (shape Api.response 3))) (tag_shown lent) (tag_settled lent) (rows_of 3 (get_or st 2 []))
tags_same (suc (suc (suc (suc v)))) h lent bs st su tags no_tags = absurd (omega arith)

-- ---- the second sentence

joined_same : (rs : List (List ℕ)) → Contents.joined rs ≡ joined rs
joined_same [] = refl
joined_same (r ∷ rs) = ap (λ (cs : List ℕ). r ++ cs) (joined_same rs)

module _ (out : List ℕ) (v : ℕ) (lent : List ℕ) (b : ResponseBody) (tables : Pair) (n : ℕ) (after : List ℕ) (e : Writes out v lent b tables (Ok n) after) where
  abbrev st : Tables
  st = of_response b ∷ tables.0 ∷ tables.1 ∷ []

  abbrev l : Shape
  l = shape Api.response v

  abbrev body : List ℕ
  body = take n after

  module _ (B : Back Api.response response_tables v lent st body true) (g : good (length lent) 2 (shape Api.response 0) st ≡ true) (H : Holds true l body (length body) B.su) where
    abbrev su : Tables
    su = B.su

    known : v ≤ 3
    known = B.known

    own_is : get_or su 0 [] ≡ of_response (body_back v b)
    own_is =
        let w : length (get_or su 0 []) ≡ 5 = ap length H.own_row ∙ row_width_lem l H.x ∙ (widths_are v known).0 in
        sym (own_back body v known (get_or su 0 []) w) ∙ ap nums B.rows.own_row ∙ own_settled lent v known b.error b.items b.throttle b.tags (items_set (length lent) st g)

    rows_four : All (λ r. length r ≡ 4) (rows_in 1 l H.x)
    rows_four = subst (λ (k : ℕ). All (λ r. length r ≡ k) (rows_in 1 l H.x)) (widths_are v known).1 (rows_wide (λ t. row_width (kind_of t l)) 1 l H.x (owed Api.response api_response v known).wide)

    rows_are : rows_of 4 (get_or su 1 []) ≡ rows_in 1 l H.x
    rows_are = ap (rows_of 4) (H.others 1 refl) ∙ rows_back 4 (rows_in 1 l H.x) (lit< tt) rows_four

    items_are : rows_of 4 (get_or su 1 []) ≡ map (item_back v) (rows_of 4 tables.0)
    items_are =
        let K = kind_of 1 l in
        let i : map (shown_row body K) (rows_of 4 (get_or su 1 [])) ≡ map (settled_row lent K) (rows_of 4 tables.0) =
        subst (λ (k : ℕ). map (shown_row body K) (rows_of k (get_or su 1 [])) ≡ map (settled_row lent K) (rows_of k tables.0)) (widths_are v known).1 (unfold rows_at in B.rows.rows 1 (omega arith) (omega arith) refl) in
        sym (map_back (λ r. length r ≡ 4) (shown_row body K) (item_back_lem body v known) (rows_of 4 (get_or su 1 [])) (subst (All (λ r. length r ≡ 4)) (sym rows_are) rows_four))
        ∙ ap (map nums) i ∙ map_two nums (settled_row lent K) (item_back v) (item_settled lent v known) (rows_of 4 tables.0)

    cells_are : get_or su 1 [] ≡ joined (map (item_back v) (rows_of 4 tables.0))
    cells_are = H.others 1 refl ∙ ap Contents.joined (sym rows_are ∙ items_are) ∙ joined_same (map (item_back v) (rows_of 4 tables.0))

    tags_are : map (tag_shown body) (rows_of 3 (get_or su 2 [])) ≡ map (tag_shown lent) (tags_kept v (rows_of 3 tables.1))
    tags_are = tags_same v known lent body st su (B.rows.rows 2 (omega arith) (omega arith)) (B.rows.none 2 (omega arith) (omega arith))

    tags_whole : joined (rows_of 3 (get_or su 2 [])) ≡ get_or su 2 []
    tags_whole =
        let w : All (λ r. length r ≡ 3) (rows_in 2 l H.x) =
        subst (λ (k : ℕ). All (λ r. length r ≡ k) (rows_in 2 l H.x)) (widths_are v known).2 (rows_wide (λ t. row_width (kind_of t l)) 2 l H.x (owed Api.response api_response v known).wide) in
        let a : rows_of 3 (get_or su 2 []) ≡ rows_in 2 l H.x = ap (rows_of 3) (H.others 2 refl) ∙ rows_back 3 (rows_in 2 l H.x) (lit< tt) w in
        sym (joined_same (rows_of 3 (get_or su 2 []))) ∙ ap Contents.joined a ∙ sym (H.others 2 refl)

    came_back : (room : Pair) → Room v tables room → (x : Read ResponseBody × Pair) → WholeRead body v room x → CameBack v lent b tables body room x
    unfolding whole_read laid
    came_back room r x p =
        let s1 = get_or su 1 [] in
        let s2 = get_or su 2 [] in
        let d : drop 1 su ≡ s1 ∷ s2 ∷ [] = ap (drop 1) (three su B.rows.tables) in
        let j : length s1 / 4 ≡ length (rows_of 4 tables.0) = sym (rows_many 4 s1) ∙ ap length items_are ∙ length-map (rows_of 4 tables.0) (item_back v) in
        let k : length s2 / 3 ≡ length (tags_kept v (rows_of 3 tables.1)) =
        sym (rows_many 3 s2) ∙ sym (length-map (rows_of 3 s2) (tag_shown body)) ∙ ap length tags_are ∙ length-map (tags_kept v (rows_of 3 tables.1)) (tag_shown lent) in
        let f : needed (widths Api.response) (drop 1 su) (room.0 ∷ room.1 ∷ []) ≡ none =
        (λ i. needed (row_widths i) (d i) (room.0 ∷ room.1 ∷ [])) ∙ fits s1 s2 room.0 room.1 (subst (λ (u : ℕ). u ≤ length room.0 / 4) (sym j) r.0) (subst (λ (u : ℕ). u ≤ length room.1 / 3) (sym k) r.1) in
        let y : Read ResponseBody × Pair = (taken (body_back v b) (length body), (onto s1 room.0, onto s2 room.1)) in
        let q : said x ≡ (accepted (get_or su 0 []) (length body), laid (drop 1 su) (room.0 ∷ room.1 ∷ [])) =
        p ∙ read_answer_lem Api.response (pos v) body (room.0 ∷ room.1 ∷ []) true su (length body) B.is_seen f in
        let a : laid (drop 1 su) (room.0 ∷ room.1 ∷ []) ≡ onto s1 room.0 ∷ onto s2 room.1 ∷ [] = ap (λ (u : Tables). laid u (room.0 ∷ room.1 ∷ [])) d in
        let z : x ≡ y = response_unique _ x y q (λ i. (accepted (sym own_is i) (length body), sym a i)) in
        record {
          reply = ap (λ (u : Read ResponseBody × Pair). u.0) z;
          items = ap (λ (u : Read ResponseBody × Pair). u.1.0) z ∙ ap (λ (u : List ℕ). onto u room.0) cells_are;
          tag_cells = s2;
          tags = ap (λ (u : Read ResponseBody × Pair). u.1.1) z;
          whole_rows = tags_whole;
          same_tags = tags_are;
        }

  -- what was written at v is accepted whole at v, into tables with room, and comes back
  pub comes_back : (room : Pair) → Room v tables room → (x : Read ResponseBody × Pair) → WholeRead body v room x → CameBack v lent b tables body room x
  comes_back =
      let B = Returned.comes_back Api.response api_response response_tables api_response_follows v lent st out [] n after refl (sym e) true in
      let o = write_inv Api.response (pos v) lent st out [] n after (sym e) in
      let m = made_inv Api.response (pos v) lent st o.bs n o.is_made in
      let s = seen_inv true Api.response (pos v) body B.su (length body) B.is_seen in
      let i : s.version ≡ v = (let j = s.is in cc) in
      came_back B m.good_tables (subst (λ (k : ℕ). Holds true (shape Api.response k) body (length body) B.su) i (tables_are Api.response api_response true (pos v) body B.su (length body) s))

  -- and the other two layouts refuse it, with one refusal whatever tables are lent, and leave these as they were
  pub others : (w : ℕ) → layout v ≢ layout w → (r : Refusal) × ((room : Pair) (x : Read ResponseBody × Pair) → WholeRead body w room x → Refuses r room x)
  others w apart =
      let d = (written_once (pos v) lent st out [] n after (sym e)).1 (pos w) (λ i. apart (sym (layout_of v) ∙ ap number_of i ∙ layout_of w)) in (
        d.0,
        λ room x p.
            let q : said x ≡ (refused d.0, room.0 ∷ room.1 ∷ []) = p ∙ d.1 (room.0 ∷ room.1 ∷ []) in
            (ap (λ (u : Answer × Tables). u.0) q, ap (λ (u : Answer × Tables). get_or u.1 0 []) q, ap (λ (u : Answer × Tables). get_or u.1 1 []) q),
      )
