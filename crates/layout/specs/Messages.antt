-- One file a message pair, each line of Kafka's guide a row.
pub mod ApiVersions
pub mod Metadata
pub mod Fetch
-- headers, and which of them a message has
pub mod Headers
