-- the first demand: a refusal
pub mod Refusals
-- the second demand: what is accepted means, and what is not refused
pub mod Meanings
-- an ApiVersions response that was written, as it comes back, and what the calls on it may reply
pub mod Returned
pub mod Responses
-- the own rows of requests that were written, as they come back
pub mod Requests
-- frames: what they mean, and how they come back
pub mod Frames
