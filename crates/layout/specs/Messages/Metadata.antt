-- Metadata, versions 0 to 4 (API key 3), from the tables of Kafka's guide. Flexible from version 9 on: none of these is.
-- A row: first and last version, type, name. The cells of each table are listed above its rows. Assumes nothing.
use Rattle.std.specs.Prelude.{[], ◌∷◌}
use Rattle.layout.specs.Rows.{Layout, done, row, rows, bool, int16, int32, string, nullable_string, maybe, items, nullable_items}
use Rattle.layout.specs.Answers.{Message}

-- table 1: topics (start, length)
unfoldable pub name_rows : Layout
name_rows =
    row 0 4 string done  -- name

-- own row: number of topics, auto-creation (kind, flag)
unfoldable pub request_rows : Layout
request_rows =
    rows 0 4 nullable_items 1 name_rows ( -- topics
    row 4 4 (maybe (1 ∷ []) bool) done)  -- allow_auto_topic_creation

-- table 1: brokers (node, host start, host length, port, rack kind, start, length)
unfoldable pub broker_rows : Layout
broker_rows =
    row 0 4 int32 ( -- node_id
    row 0 4 string ( -- host
    row 0 4 int32 ( -- port
    row 1 4 nullable_string done)))  -- rack

-- tables 4 and 5: replicas, in-sync replicas (node)
unfoldable pub node_rows : Layout
node_rows =
    row 0 4 int32 done  -- broker id

-- table 3: partitions (error, index, leader, number of replicas, number of in-sync replicas)
unfoldable pub partition_rows : Layout
partition_rows =
    row 0 4 int16 ( -- error_code
    row 0 4 int32 ( -- partition_index
    row 0 4 int32 ( -- leader_id
    rows 0 4 nullable_items 4 node_rows ( -- replica_nodes
    rows 0 4 nullable_items 5 node_rows done))))  -- isr_nodes

-- table 2: topics (error, name start, name length, internal, number of partitions)
unfoldable pub topic_rows : Layout
topic_rows =
    row 0 4 int16 ( -- error_code
    row 0 4 string ( -- name
    row 1 4 bool ( -- is_internal
    rows 0 4 items 3 partition_rows done)))  -- partitions

-- own row: throttle (kind, number), number of brokers, cluster (kind, start, length), controller (kind, number), number of topics
unfoldable pub response_rows : Layout
response_rows =
    row 3 4 (maybe (0 ∷ []) int32) ( -- throttle_time_ms
    rows 0 4 items 1 broker_rows ( -- brokers
    row 2 4 nullable_string ( -- cluster_id
    row 1 4 (maybe (0 ∷ []) int32) ( -- controller_id
    rows 0 4 items 2 topic_rows done))))  -- topics

abbrev pub request : Message
request = record { layout = request_rows; last = 4; flexible = 9; tables = 1; number = 3 }

abbrev pub response : Message
response = record { layout = response_rows; last = 4; flexible = 9; tables = 5; number = 4 }
