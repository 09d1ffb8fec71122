-- The request's layout by what sets the versions apart: `b`, it has max bytes (from 3 on); `i`, it has an isolation level (in 4). And its own row as it is written, with nothing unset.
use Rattle.std.specs.Prelude.{Bool, List, [], ◌∷◌, ℕ, unwrap_or}
use Rattle.layout.specs.Primitives.{empty, fixed, never, w16, w32, w64}
use Rattle.layout.specs.Rows.{Shape, array, end, field, level, number, optional, stands, text}
use Rattle.fetch_request.specs.declared.Own.{Own}

abbrev pub partition_shape : Shape
partition_shape = field (number w32) (field (number w64) (field (number w32) end))

abbrev pub topic_shape : Shape
topic_shape = field (text (fixed w16 never)) (array (fixed w32 empty) 2 partition_shape end)

abbrev pub topics_shape : Shape
topics_shape = array (fixed w32 empty) 1 topic_shape end

-- an isolation level, before r
abbrev pub level_shape : Bool → Shape → Shape
level_shape i r = stands i (optional (0 ∷ []) level) r

-- max bytes and isolation level, in front of r
abbrev pub limits_shape : Bool → Bool → Shape → Shape
limits_shape b i r = stands b (optional (2147483647 ∷ []) (number w32)) (stands i (optional (0 ∷ []) level) r)

-- replica, wait and min bytes, in front of r
abbrev pub lead_shape : Shape → Shape
lead_shape r = field (number w32) (field (number w32) (field (number w32) r))

abbrev pub request_shape : Bool → Bool → Shape
request_shape b i = lead_shape (limits_shape b i topics_shape)

-- n is the number of topics; a number that the version lacks is not written, whatever stands for it
abbrev pub own_row : Own → ℕ → List ℕ
own_row x n = x.replica ∷ x.wait ∷ x.least ∷ 2 ∷ unwrap_or x.largest 0 ∷ 2 ∷ unwrap_or x.level 0 ∷ n ∷ []
