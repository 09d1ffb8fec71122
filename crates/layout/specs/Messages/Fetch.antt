-- Fetch, versions 0 to 4 (API key 1), from the tables of Kafka's guide. Flexible from version 12 on: none of these is.
-- A row: first and last version, type, name. The cells of each table are listed above its rows. Assumes nothing.
use Rattle.std.specs.Prelude.{[], ◌∷◌}
use Rattle.layout.specs.Rows.{Layout, done, row, rows, int16, int32, int64, isolation, string, records, maybe, items}
use Rattle.layout.specs.Answers.{Message}

-- table 2: partitions (index, offset, max bytes)
unfoldable pub ask_rows : Layout
ask_rows =
    row 0 4 int32 ( -- partition
    row 0 4 int64 ( -- fetch_offset
    row 0 4 int32 done))  -- partition_max_bytes

-- table 1: topics (name start, name length, number of partitions)
unfoldable pub ask_topic_rows : Layout
ask_topic_rows =
    row 0 4 string ( -- topic
    rows 0 4 items 2 ask_rows done)  -- partitions

-- own row: replica, wait, min bytes, max bytes (kind, number), isolation (kind, number), number of topics
unfoldable pub request_rows : Layout
request_rows =
    row 0 4 int32 ( -- replica_id
    row 0 4 int32 ( -- max_wait_ms
    row 0 4 int32 ( -- min_bytes
    row 3 4 (maybe (2147483647 ∷ []) int32) ( -- max_bytes
    row 4 4 (maybe (0 ∷ []) isolation) ( -- isolation_level
    rows 0 4 items 1 ask_topic_rows done)))))  -- topics

-- table 3: aborted transactions (producer, first offset)
unfoldable pub aborted_rows : Layout
aborted_rows =
    row 4 4 int64 ( -- producer_id
    row 4 4 int64 done)  -- first_offset

-- table 2: partitions (index, error, high watermark, last stable offset, number of aborted, records start, records length)
unfoldable pub partition_rows : Layout
partition_rows =
    row 0 4 int32 ( -- partition_index
    row 0 4 int16 ( -- error_code
    row 0 4 int64 ( -- high_watermark
    row 4 4 int64 ( -- last_stable_offset
    rows 4 4 items 3 aborted_rows ( -- aborted_transactions
    row 0 4 records done)))))  -- records

-- table 1: topics (name start, name length, number of partitions)
unfoldable pub topic_rows : Layout
topic_rows =
    row 0 4 string ( -- topic
    rows 0 4 items 2 partition_rows done)  -- partitions

-- own row: throttle (kind, number), number of topics
unfoldable pub response_rows : Layout
response_rows =
    row 1 4 (maybe (0 ∷ []) int32) ( -- throttle_time_ms
    rows 0 4 items 1 topic_rows done)  -- responses

abbrev pub request : Message
request = record { layout = request_rows; last = 4; flexible = 12; tables = 2; number = 5 }

abbrev pub response : Message
response = record { layout = response_rows; last = 4; flexible = 12; tables = 3; number = 6 }
