-- Own rows: as they are lent, of a response as its throttle time shows it, and of a request as its two texts do.
use mathlib.Core.List.{[], ◌++◌, ◌∷◌}
use mathlib.Core.Path.{◌∙◌, ◌≡◌, ap₂, refl}
use Prim.Native.Nat.{ℕ, suc, zero}
use lib.ListN.{get_or}
use Rattle.layout.specs.Answers.{accepted}
use Rattle.std.specs.Prelude.{Option, Some, None}
use Rattle.api_versions_request.specs.Answers.{Text, of_text}
use Rattle.gateway_api_versions.specs.Replies.{request_numbers, response_numbers, text_row}
use Rattle.gateway_api_versions.specs.declared.RequestNumbers.{RequestNumbers}
use Rattle.gateway_api_versions.specs.declared.ResponseNumbers.{ResponseNumbers}
use Rattle.body_reading.specs.Cells.{given, versioned_cells}

-- ---- rows that are lent: any kind but 0 is present

pub present_text : (k a n : ℕ) → (k ≡ 0 → ⊥) → 2 ∷ a ∷ n ∷ [] ≡ text_row k a n
unfolding text_row
present_text zero a n h = absurd (h refl)
present_text (suc k) a n h = refl

-- ---- a response that was read: the cells of its throttle time among the others

module _ (e i g n : ℕ) where
  abbrev shown_time : ℕ → ℕ → ResponseNumbers
  shown_time k x = record { number = 0; place = 0; need = 0; used = n; error = e; items = i; kind = k; throttle = x; tags = g }

  by_time : (t : Option ℕ) → shown_time (get_or (versioned_cells t) 0 0) (given 0 t) ≡ response_numbers (accepted (e ∷ i ∷ (versioned_cells t ++ (g ∷ []))) n)
  by_time None = refl
  by_time (Some x) = refl

  pub time_told : (t : Option ℕ) (k x : ℕ) → k ≡ get_or (versioned_cells t) 0 0 → x ≡ given 0 t → shown_time k x ≡ response_numbers (accepted (e ∷ i ∷ (versioned_cells t ++ (g ∷ []))) n)
  time_told t k x a b = ap₂ shown_time a b ∙ by_time t

-- ---- a request that was read: the cells of its two texts, one behind the other

module _ (t u : Text) (g n : ℕ) where
  abbrev shown_texts : ℕ → ℕ → ℕ → ℕ → ℕ → ℕ → RequestNumbers
  shown_texts a b c d e f = record { number = 0; place = 0; need = 0; used = n; named = a; nstart = b; nlength = c; versioned = d; vstart = e; vlength = f; tags = g }

  by_texts : (t u : Text) → shown_texts (get_or (of_text t) 0 0) (get_or (of_text t) 1 0) (get_or (of_text t) 2 0) (get_or (of_text u) 0 0) (get_or (of_text u) 1 0) (get_or (of_text u) 2 0) ≡ request_numbers (accepted (of_text t ++ (of_text u ++ (g ∷ []))) n)
  by_texts None None = refl
  by_texts None (Some b) = refl
  by_texts (Some a) None = refl
  by_texts (Some a) (Some b) = refl

  pub texts_told :
      (a b c d e f : ℕ) → a ≡ get_or (of_text t) 0 0 → b ≡ get_or (of_text t) 1 0 → c ≡ get_or (of_text t) 2 0 → d ≡ get_or (of_text u) 0 0 → e ≡ get_or (of_text u) 1 0 → f ≡ get_or (of_text u) 2 0
      → shown_texts a b c d e f ≡ request_numbers (accepted (of_text t ++ (of_text u ++ (g ∷ []))) n)
  texts_told a b c d e f h i j k l m = (λ x. shown_texts (h x) (i x) (j x) (k x) (l x) (m x)) ∙ by_texts t u
