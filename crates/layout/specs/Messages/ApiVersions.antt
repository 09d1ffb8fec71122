-- ApiVersions, versions 0 to 3 (API key 18), from the tables of Kafka's guide. Flexible from version 3 on.
-- A row: first and last version, type, name. The cells of each table are listed above its rows. Assumes nothing.
use Rattle.std.specs.Prelude.{[], ◌∷◌}
use Rattle.layout.specs.Rows.{Layout, done, row, rows, int16, int32, string, maybe, items, tagged}
use Rattle.layout.specs.Answers.{Message}

-- own row: name (kind, start, length), version (kind, start, length), number of tags. Table 1: tags (tag, start, length)
unfoldable pub request_rows : Layout
request_rows =
    row 3 3 (maybe (0 ∷ 0 ∷ []) string) ( -- client_software_name
    row 3 3 (maybe (0 ∷ 0 ∷ []) string) ( -- client_software_version
    tagged 3 3 1 done))  -- _tagged_fields

-- table 1: items (key, minimum, maximum, number of tags)
unfoldable pub key_rows : Layout
key_rows =
    row 0 3 int16 ( -- api_key
    row 0 3 int16 ( -- min_version
    row 0 3 int16 ( -- max_version
    tagged 3 3 2 done)))  -- _tagged_fields

-- own row: error, number of items, throttle (kind, number), number of tags. Table 2: tags (tag, start, length), the items' first
unfoldable pub response_rows : Layout
response_rows =
    row 0 3 int16 ( -- error_code
    rows 0 3 items 1 key_rows ( -- api_keys
    row 1 3 (maybe (0 ∷ []) int32) ( -- throttle_time_ms
    tagged 3 3 2 done)))  -- _tagged_fields

abbrev pub request : Message
request = record { layout = request_rows; last = 3; flexible = 3; tables = 1; number = 1 }

abbrev pub response : Message
response = record { layout = response_rows; last = 3; flexible = 3; tables = 2; number = 2 }
