-- The rows of all layouts, as code keeps them, and where the list of each message begins. Assumes nothing.
use Rattle.std.specs.Prelude.{List, [], ◌∷◌, ℕ, get_or}
use Rattle.layout_rows.specs.declared.Kind.{Kind}
use Rattle.layout_rows.specs.declared.Many.{Many}
use Rattle.layout_rows.specs.declared.Row.{Row}

-- ---- where the list of each message begins

abbrev pub api_versions_request : ℕ
api_versions_request = 0

abbrev pub api_versions_response : ℕ
api_versions_response = 7

abbrev pub metadata_request : ℕ
metadata_request = 17

abbrev pub metadata_response : ℕ
metadata_response = 22

abbrev pub fetch_request : ℕ
fetch_request = 46

abbrev pub fetch_response : ℕ
fetch_response = 60

abbrev pub request_header : ℕ
request_header = 76

abbrev pub response_header : ℕ
response_header = 85

-- ---- the rows

abbrev pub row_count : ℕ
row_count = 91

unfoldable pub table : List Row
table =
    -- ApiVersions request
    Row.Maybe Kind.String 0 3 3 ∷  -- client_software_name
    Row.Maybe Kind.String 0 3 3 ∷  -- client_software_version
    Row.Array Many.Tags 3 3 1 4 ∷  -- _tagged_fields
    Row.End ∷
    -- elements of _tagged_fields, in the request and in the response
    Row.Field Kind.UnsignedVarint 3 3 ∷  -- tag
    Row.Field Kind.Data 3 3 ∷  -- data
    Row.End ∷
    -- ApiVersions response
    Row.Field Kind.Int16 0 3 ∷  -- error_code
    Row.Array Many.Items 0 3 1 12 ∷  -- api_keys
    Row.Maybe Kind.Int32 0 1 3 ∷  -- throttle_time_ms
    Row.Array Many.Tags 3 3 2 4 ∷  -- _tagged_fields
    Row.End ∷
    -- elements of api_keys
    Row.Field Kind.Int16 0 3 ∷  -- api_key
    Row.Field Kind.Int16 0 3 ∷  -- min_version
    Row.Field Kind.Int16 0 3 ∷  -- max_version
    Row.Array Many.Tags 3 3 2 4 ∷  -- _tagged_fields
    Row.End ∷
    -- Metadata request
    Row.Array Many.NullableItems 0 4 1 20 ∷  -- topics
    Row.Maybe Kind.Boolean 1 4 4 ∷  -- allow_auto_topic_creation
    Row.End ∷
    -- elements of topics
    Row.Field Kind.String 0 4 ∷  -- name
    Row.End ∷
    -- Metadata response
    Row.Maybe Kind.Int32 0 3 4 ∷  -- throttle_time_ms
    Row.Array Many.Items 0 4 1 28 ∷  -- brokers
    Row.Field Kind.NullableString 2 4 ∷  -- cluster_id
    Row.Maybe Kind.Int32 0 1 4 ∷  -- controller_id
    Row.Array Many.Items 0 4 2 33 ∷  -- topics
    Row.End ∷
    -- elements of brokers
    Row.Field Kind.Int32 0 4 ∷  -- node_id
    Row.Field Kind.String 0 4 ∷  -- host
    Row.Field Kind.Int32 0 4 ∷  -- port
    Row.Field Kind.NullableString 1 4 ∷  -- rack
    Row.End ∷
    -- elements of topics
    Row.Field Kind.Int16 0 4 ∷  -- error_code
    Row.Field Kind.String 0 4 ∷  -- name
    Row.Field Kind.Boolean 1 4 ∷  -- is_internal
    Row.Array Many.Items 0 4 3 38 ∷  -- partitions
    Row.End ∷
    -- elements of partitions
    Row.Field Kind.Int16 0 4 ∷  -- error_code
    Row.Field Kind.Int32 0 4 ∷  -- partition_index
    Row.Field Kind.Int32 0 4 ∷  -- leader_id
    Row.Array Many.NullableItems 0 4 4 44 ∷  -- replica_nodes
    Row.Array Many.NullableItems 0 4 5 44 ∷  -- isr_nodes
    Row.End ∷
    -- elements of replica_nodes and isr_nodes
    Row.Field Kind.Int32 0 4 ∷  -- broker id
    Row.End ∷
    -- Fetch request
    Row.Field Kind.Int32 0 4 ∷  -- replica_id
    Row.Field Kind.Int32 0 4 ∷  -- max_wait_ms
    Row.Field Kind.Int32 0 4 ∷  -- min_bytes
    Row.Maybe Kind.Int32 2147483647 3 4 ∷  -- max_bytes
    Row.Maybe Kind.Level 0 4 4 ∷  -- isolation_level
    Row.Array Many.Items 0 4 1 53 ∷  -- topics
    Row.End ∷
    -- elements of topics
    Row.Field Kind.String 0 4 ∷  -- topic
    Row.Array Many.Items 0 4 2 56 ∷  -- partitions
    Row.End ∷
    -- elements of partitions
    Row.Field Kind.Int32 0 4 ∷  -- partition
    Row.Field Kind.Int64 0 4 ∷  -- fetch_offset
    Row.Field Kind.Int32 0 4 ∷  -- partition_max_bytes
    Row.End ∷
    -- Fetch response
    Row.Maybe Kind.Int32 0 1 4 ∷  -- throttle_time_ms
    Row.Array Many.Items 0 4 1 63 ∷  -- responses
    Row.End ∷
    -- elements of responses
    Row.Field Kind.String 0 4 ∷  -- topic
    Row.Array Many.Items 0 4 2 66 ∷  -- partitions
    Row.End ∷
    -- elements of partitions
    Row.Field Kind.Int32 0 4 ∷  -- partition_index
    Row.Field Kind.Int16 0 4 ∷  -- error_code
    Row.Field Kind.Int64 0 4 ∷  -- high_watermark
    Row.Field Kind.Int64 4 4 ∷  -- last_stable_offset
    Row.Array Many.Items 4 4 3 73 ∷  -- aborted_transactions
    Row.Field Kind.Records 0 4 ∷  -- records
    Row.End ∷
    -- elements of aborted_transactions
    Row.Field Kind.Int64 4 4 ∷  -- producer_id
    Row.Field Kind.Int64 4 4 ∷  -- first_offset
    Row.End ∷
    -- request header
    Row.Field Kind.Int16 0 2 ∷  -- request_api_key
    Row.Field Kind.Int16 0 2 ∷  -- request_api_version
    Row.Field Kind.Int32 0 2 ∷  -- correlation_id
    Row.Field Kind.NullableString 1 2 ∷  -- client_id
    Row.Array Many.Tags 2 2 1 82 ∷  -- _tagged_fields
    Row.End ∷
    -- elements of _tagged_fields
    Row.Field Kind.UnsignedVarint 2 2 ∷  -- tag
    Row.Field Kind.Data 2 2 ∷  -- data
    Row.End ∷
    -- response header
    Row.Field Kind.Int32 0 1 ∷  -- correlation_id
    Row.Array Many.Tags 1 1 1 88 ∷  -- _tagged_fields
    Row.End ∷
    -- elements of _tagged_fields
    Row.Field Kind.UnsignedVarint 1 1 ∷  -- tag
    Row.Field Kind.Data 1 1 ∷  -- data
    Row.End ∷
    []

-- row i; `End` after the last row
abbrev pub row_at : ℕ → Row
row_at i = get_or table i Row.End
