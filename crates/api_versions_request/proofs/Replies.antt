-- The whole reply of the call: each way out of the walk over the request's fields, and of the call, from the version asked for and from what the measuring and the filling walk came to.
use mathlib.Core.Bool.{false, true}
use mathlib.Core.List.{List, [], ◌++◌, ◌∷◌}
use mathlib.Core.Path.{◌∙◌, ◌≡◌, ap, refl, sym}
use Prim.Native.Nat.{◌/◌, ◌<◌, ◌≤◌, ℕ}
use native.Mathlib.Omega.{arith}
use lib.IntN.{pos, ℤ}
use lib.ListN.{length}
use Rattle.layout.specs.Reading.{Refusal, Res, bad, no_room, ok}
use Rattle.layout.specs.Primitives.{compact, minus, never}
use Rattle.layout.specs.Rows.{Basic, Shape, at, field, optional, standing, stands, tag_rows, text}
use Rattle.layout.specs.Read.{by_place, read_basic}
use Rattle.layout.specs.Tables.{Tables, absent_cells, all, arrays, cells, from, kind_in, kind_of, read_rows, row_width, span, width}
use Rattle.layout.specs.Answers.{Answer, accepted, prefix_read, refused, shape, widths}
use Rattle.layout.specs.Messages.ApiVersions as Api
use Rattle.layout.specs.Messages.ApiVersions.{request_rows}
use Rattle.primitives.specs.Answers.{of_refusal}
use Rattle.std.specs.Prelude.{Result, Ok, Err}
use Rattle.primitives.specs.declared.Refusal as Code
use Rattle.body_reading.specs.Store.{State, Tab, add, own, put, store, tab}
use Rattle.body_reading.specs.Tagged.{tags_shape}
use Rattle.body_reading.specs.Walk.{Runs, on, walk}
use Rattle.tagged_fields.specs.Read.{in_tables, in_tables_is}
use Rattle.body_reading.specs.declared.walks.Counted.{Counted}
use Rattle.api_versions_request.specs.Answers.{of_request}
use Rattle.api_versions_request.specs.Walks.{of_request_walked}
use Rattle.api_versions_request.specs.declared.reading.RequestWalked.{RequestWalked}
use Rattle.layout.proofs.Tests.{le-false}
use Rattle.body_reading.proofs.Arrays.{row_end}
use Rattle.body_reading.proofs.OneTable.{alone, one_needs, one_no, one_took}
use Rattle.body_reading.proofs.Chains.{field_no, field_took}
use Rattle.layout.proofs.Local.{not_ok}
use Rattle.layout.proofs.Proper.{api_request}
use Rattle.body_reading.proofs.Bound.{lean, slim, taken}
use Rattle.body_reading.proofs.Close.{slices}

abbrev start : List ℕ → List ℕ → State
start l row = own row ∷ tab l 0 ∷ []

-- ---- version 3

abbrev compact_string : Basic
compact_string = text (compact never)

abbrev some_text : Basic
some_text = optional (0 ∷ 0 ∷ []) compact_string

is_flexible : field some_text (field some_text (tags_shape true 1)) ≡ shape Api.request 3
unfolding shape at stands standing tag_rows request_rows
is_flexible = refl

module _ (s l : List ℕ) where
  abbrev walked : Res State
  walked = on (walk false (shape Api.request 3) 0 (start l [])) s 0

  whole : {z : Res State} → z ≡ on (walk false (field some_text (field some_text (tags_shape true 1))) 0 (start l [])) s 0 → z ≡ walked
  whole e = e ∙ ap (λ (y : Shape). on (walk false y 0 (start l [])) s 0) is_flexible

  pub no_name : (c : Refusal) → bad c ≡ on (read_basic (by_place false) compact_string) s 0 → bad c ≡ walked
  unfolding read_basic
  no_name c e = whole (field_no false some_text (field some_text (tags_shape true 1)) 0 (start l []) s 0 c e)

  module _ (a k q : ℕ) (d : ok (a, k) q ≡ on (read_basic (by_place false) compact_string) s 0) where
    behind_name : {z : Res State} → z ≡ on (walk false (field some_text (tags_shape true 1)) 0 (start l (2 ∷ a ∷ k ∷ []))) s q → z ≡ walked
    unfolding read_basic cells span add store put
    behind_name e = whole (field_took false some_text (field some_text (tags_shape true 1)) 0 (start l []) s 0 (a, k) q _ d e)

    pub no_version : (c : Refusal) → bad c ≡ on (read_basic (by_place false) compact_string) s q → bad c ≡ walked
    unfolding read_basic
    no_version c e = behind_name (field_no false some_text (tags_shape true 1) 0 (start l (2 ∷ a ∷ k ∷ [])) s q c e)

    module _ (b m u : ℕ) (f : ok (b, m) u ≡ on (read_basic (by_place false) compact_string) s q) where
      behind_version : {z : Res State} → z ≡ on (walk false (tags_shape true 1) 0 (start l (2 ∷ a ∷ k ∷ 2 ∷ b ∷ m ∷ []))) s u → z ≡ walked
      unfolding read_basic cells span add store put
      behind_version e = behind_name (field_took false some_text (tags_shape true 1) 0 (start l (2 ∷ a ∷ k ∷ [])) s q (b, m) u _ f e)

      module _ (l' : List ℕ) (r : Result Counted Code.Refusal) (h : Runs (λ e. walk e.0 (tags_shape true e.1.t) e.1.o) s u (in_tables l 0) (in_tables_is l' r)) where
        abbrev row : Tab
        row = own (2 ∷ a ∷ k ∷ 2 ∷ b ∷ m ∷ [])

        pub no_tags : (c : Code.Refusal) → r ≡ Err c → bad (of_refusal c) ≡ walked
        no_tags c e = behind_version (ap (λ y. in_tables_is l' y (false, alone, row)) (sym e) ∙ h.law (false, alone, row))

        pub all_took : (n : Counted) → r ≡ Ok n → ok (own (2 ∷ a ∷ k ∷ 2 ∷ b ∷ m ∷ n.count ∷ []) ∷ tab l' n.mark ∷ []) n.next ≡ walked
        unfolding store put
        all_took n e = behind_version (ap (λ y. in_tables_is l' y (false, alone, row)) (sym e) ∙ h.law (false, alone, row))

-- ---- the versions below

pub nothing_read : (s l : List ℕ) (v : ℕ) → v < 3 → ok (own (0 ∷ 0 ∷ 0 ∷ 0 ∷ 0 ∷ 0 ∷ minus ∷ []) ∷ tab l 0 ∷ []) 0 ≡ on (walk false (shape Api.request v) 0 (start l [])) s 0
unfolding shape at request_rows read_rows stands standing absent_cells width add store put
nothing_read s l v h = rw (le-false 3 v h) (row_end false 0 (start l (0 ∷ 0 ∷ 0 ∷ 0 ∷ 0 ∷ 0 ∷ minus ∷ [])) s 0)

pub as_flexible : (s l : List ℕ) (v : ℕ) → 3 ≤ v → v ≤ 3 → (z : Res State) → z ≡ on (walk false (shape Api.request 3) 0 (start l [])) s 0 → z ≡ on (walk false (shape Api.request v) 0 (start l [])) s 0
as_flexible s l v h k z e = let m : 3 ≡ v = omega arith in e ∙ ap (λ (n : ℕ). on (walk false (shape Api.request n) 0 (start l [])) s 0) m

-- what the laws of all messages ask of this one, computed
is_slim : slim Api.request ≡ true
unfolding slim all from lean taken row_width width shape at stands standing tag_rows request_rows
is_slim = refl

tag_width : widths Api.request ≡ 3 ∷ []
unfolding widths from kind_of kind_in arrays row_width width shape at stands standing tag_rows request_rows
tag_width = refl

module _ (z : ℤ) (v : ℕ) (g : pos v ≡ z) (known : v ≤ 3) (s l : List ℕ) (size : length s ≤ 1048576) where
  of_version : {x : Answer × Tables} → x ≡ prefix_read Api.request (pos v) (l ∷ []) s → x ≡ prefix_read Api.request z (l ∷ []) s
  of_version e = e ∙ ap (λ (y : ℤ). prefix_read Api.request y (l ∷ []) s) g

  module _ (t₀ t₁ : List ℕ) (r : Result RequestWalked Code.Refusal) (first : of_request_walked t₁ r ≡ on (walk false (shape Api.request v) 0 (own [] ∷ tab t₀ 0 ∷ [])) s 0) (empty : length t₁ ≡ 0) where
    pub reply_no : (c : Code.Refusal) → r ≡ Err c → (refused (of_refusal c), (t₁ ++ l) ∷ []) ≡ prefix_read Api.request z (l ∷ []) s
    reply_no c e = of_version (one_no Api.request api_request is_slim refl 3 tag_width v known s l size t₀ t₁ empty (of_refusal c) (ap (of_request_walked t₁) (sym e) ∙ first))

    module _ (b : RequestWalked) (e : r ≡ Ok b) where
      pub reply_needs : length (t₁ ++ l) / 3 < b.mark / 3 → (c : Refusal) → c ≡ no_room (b.mark / 3) → (refused c, (t₁ ++ l) ∷ []) ≡ prefix_read Api.request z (l ∷ []) s
      reply_needs h c i = of_version (one_needs Api.request api_request is_slim refl 3 tag_width v known s l size t₀ t₁ empty (of_request b.body) b.next b.mark (ap (of_request_walked t₁) (sym e) ∙ first) h c i)

      pub reply_took : b.mark / 3 ≤ length (t₁ ++ l) / 3 → (l₂ : List ℕ) (r₂ : Result RequestWalked Code.Refusal) → of_request_walked l₂ r₂ ≡ on (walk false (shape Api.request v) 0 (own [] ∷ tab (t₁ ++ l) 0 ∷ [])) s 0 → (accepted (of_request b.body) b.next, l₂ ∷ []) ≡ prefix_read Api.request z (l ∷ []) s
      reply_took h l₂ r₂ d = of_version (one_took Api.request api_request is_slim refl 3 tag_width v known s l size t₀ t₁ empty (of_request b.body) b.next b.mark (ap (of_request_walked t₁) (sym e) ∙ first) h l₂ (of_request_walked l₂ r₂) (λ x m i. holds r₂ x m i) d)
        where
          holds : (r₂ : Result RequestWalked Code.Refusal) (x : State) (m : ℕ) → of_request_walked l₂ r₂ ≡ ok x m → slices x ≡ l₂ ∷ []
          holds (Ok c) x m i = let y : own (of_request c.body) ∷ tab l₂ c.mark ∷ [] ≡ x = cc in ap slices (sym y)
          holds (Err c) x m i = not_ok i
