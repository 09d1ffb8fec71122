-- The headers before bodies, from the tables of Kafka's guide: request headers 1 and 2, response headers 0 and 1. A header's number is where a message has its version.
-- The client name stays a NULLABLE_STRING in header 2, so no form here is compact: flexible from 3 on. Assumes nothing.
use Rattle.std.specs.Prelude.{cond, ◌&&◌, ℕ, eqb, leb, ℤ, pos, negsuc}
use Rattle.layout.specs.Rows.{Layout, done, row, int16, int32, nullable_string, tagged}
use Rattle.layout.specs.Answers.{Message}
use Rattle.layout.specs.Frames.{Header}
use Rattle.layout.specs.Messages.ApiVersions as Api

-- the header's row: API key, version, correlation number, client name (kind, start, length), number of tags. Table 1: tags (tag, start, length)
unfoldable pub request_rows : Layout
request_rows =
    row 0 2 int16 ( -- request_api_key
    row 0 2 int16 ( -- request_api_version
    row 0 2 int32 ( -- correlation_id
    row 1 2 nullable_string ( -- client_id
    tagged 2 2 1 done))))  -- _tagged_fields

-- the header's row: correlation number, number of tags. Table 1: tags
unfoldable pub response_rows : Layout
response_rows =
    row 0 1 int32 ( -- correlation_id
    tagged 1 1 1 done)  -- _tagged_fields

-- request header 0 has no client name, and is not taken
abbrev pub request : Header
request = record { rows = record { layout = request_rows; last = 2; flexible = 3; tables = 1; number = 7 }; first = 1 }

abbrev pub response : Header
response = record { rows = record { layout = response_rows; last = 1; flexible = 3; tables = 1; number = 8 }; first = 0 }

-- ---- which header a message has: API key, version

-- requests: 2 where the request is flexible, which of the messages here are those of ApiVersions (18) from version 3 on
abbrev pub request_number : ℤ → ℤ → ℕ
request_number (pos k) (pos v) = cond (eqb k 18 && leb (Api.request).flexible v) 2 1
request_number (pos k) (negsuc v) = 1
request_number (negsuc k) v = 1

-- responses: 0, those of ApiVersions at every version
abbrev pub response_number : ℤ → ℤ → ℕ
response_number k v = 0
