-- The own rows of requests as they come back once they were written at version v, "with fields that version lacks absent and unset ones at their defaults".
-- `num` is a number, `part` the bytes of a text; a kind in front of a field is 0 where it is absent and 2 where it is there (layout/specs/Settled.antt). Assumes nothing.
use Rattle.std.specs.Prelude.{Bool, cond, false, true, List, [], ◌++◌, ◌∷◌, ◌≡◌, ℕ, Option, Some, None, eqb, leb, get_or}
use Rattle.layout.specs.Primitives.{minus}
use Rattle.layout.specs.Tables.{slice}
use Rattle.layout.specs.Answers.{Message, shape}
use Rattle.layout.specs.Settled.{Back, Shown, num, part, shown_row}
use Rattle.primitives.specs.declared.Span.{Span}
use Rattle.api_versions_request.specs.declared.RequestBody as Api
use Rattle.metadata_request.specs.declared.RequestBody as Metadata
use Rattle.fetch_request.specs.declared.RequestBody as Fetch
use Rattle.demands.specs.Returned.{tags_back}

-- ApiVersions: versions below 3 lack both texts; unset ones are empty
abbrev pub text_back : Bool → List ℕ → Option Span → List Shown
text_back false lent x = num 0 ∷ part [] ∷ []
text_back true lent None = num 2 ∷ part [] ∷ []
text_back true lent (Some x) = num 2 ∷ part (slice lent (x.start, x.len)) ∷ []

abbrev pub api_versions_back : ℕ → List ℕ → Api.RequestBody → List Shown
api_versions_back v lent b = text_back (leb 3 v) lent b.name ++ (text_back (leb 3 v) lent b.version ++ (num (tags_back v b.tags) ∷ []))

-- Metadata: versions below 4 lack auto-creation; unset it is true. Null topics, −1, stay null
abbrev pub creation_back : Bool → Option Bool → List Shown
creation_back false x = num 0 ∷ num 0 ∷ []
creation_back true None = num 2 ∷ num 1 ∷ []
creation_back true (Some true) = num 2 ∷ num 1 ∷ []
creation_back true (Some false) = num 2 ∷ num 0 ∷ []

abbrev pub metadata_back : ℕ → Metadata.RequestBody → List Shown
metadata_back v b = num b.topics ∷ creation_back (leb 4 v) b.creation

-- Fetch: versions below 3 lack max bytes, and unset they are 2,147,483,647; versions below 4 lack the isolation level, and unset it is 0
abbrev pub number_back : Bool → ℕ → Option ℕ → List Shown
number_back false d x = num 0 ∷ num 0 ∷ []
number_back true d None = num 2 ∷ num d ∷ []
number_back true d (Some n) = num 2 ∷ num n ∷ []

-- a number of topics of −1 is never written: it is refused with 13
abbrev pub fetch_back : ℕ → Fetch.RequestBody → List Shown
fetch_back v b =
    num b.replica ∷ num b.max_wait ∷ num b.min_bytes ∷ (number_back (leb 3 v) 2147483647 b.max_bytes ++ (number_back (leb 4 v) 0 b.isolation ++ (num (cond (eqb b.topics minus) 0 b.topics) ∷ [])))

-- What `write` wrote at version v is read at v, with every byte used. Every row that was lent comes back settled (`Back`), and the own row is `own`.
pub record RequestBack (m : Message) (F : ℕ → ℕ → Bool) (v : ℕ) (lent : List ℕ) (st : List (List ℕ)) (body : List ℕ) (own : List Shown) (w : Bool) : Type 0 where
  pub back : Back m F v lent st body w
  pub own_row : shown_row body (shape m v) (get_or back.su 0 []) ≡ own
