-- An ApiVersions response as it comes back once it was written at version v, "with fields that version lacks absent and unset ones at their defaults". Assumes nothing.
use Rattle.std.specs.Prelude.{cond, List, [], ◌++◌, ◌∷◌, suc, zero, ℕ, Option, Some, None, eqb, leb, drop, get_or, length}
use Rattle.layout.specs.Primitives.{minus}
use Rattle.layout.specs.Tables.{slice}
use Rattle.api_versions_response.specs.declared.ResponseBody.{ResponseBody}

-- version 0 lacks the throttle time; unset it is 0
abbrev pub throttle_back : ℕ → Option ℕ → Option ℕ
throttle_back zero t = None
throttle_back (suc v) None = Some 0
throttle_back (suc v) (Some n) = Some n

-- versions below 3 lack tags, and show −1; unset they are none
abbrev pub tags_back : ℕ → ℕ → ℕ
tags_back v g = cond (leb 3 v) (cond (eqb g minus) 0 g) minus

abbrev pub body_back : ℕ → ResponseBody → ResponseBody
body_back v b = record { error = b.error; items = b.items; throttle = throttle_back v b.throttle; tags = tags_back v b.tags }

-- an item's row: key, minimum, maximum, number of tags
abbrev pub item_back : ℕ → List ℕ → List ℕ
item_back v r = get_or r 0 0 ∷ get_or r 1 0 ∷ get_or r 2 0 ∷ tags_back v (get_or r 3 0) ∷ []

-- the tags' rows that come back: all, or none
abbrev pub tags_kept : ℕ → List (List ℕ) → List (List ℕ)
tags_kept v rows = cond (leb 3 v) rows []

-- a tag's row: its number, and its data wherever they stand
abbrev pub tag_shown : List ℕ → List ℕ → ℕ × List ℕ
tag_shown bytes r = (get_or r 0 0, slice bytes (get_or r 1 0, get_or r 2 0))

-- cells in front of what a table held
abbrev pub onto : List ℕ → List ℕ → List ℕ
onto cells old = cells ++ drop (length cells) old

-- rows one behind the other
abbrev pub joined : List (List ℕ) → List ℕ
joined [] = []
joined (r ∷ rs) = r ++ joined rs
