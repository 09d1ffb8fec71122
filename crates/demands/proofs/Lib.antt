-- the first demand, of every call of the C interface that can refuse; below it, what writes and primitives by themselves refuse
pub mod Faults
pub mod Alone
pub mod Demand1
-- the second demand: what is accepted, and what is not refused
pub mod Demand2
-- rows of an ApiVersions response in numbers
pub mod Numbers
-- the third demand, of the calls that write and read whole an ApiVersions response
pub mod Demand3
-- the demands, of frames
pub mod Framed
-- what comes back of requests
pub mod Requests
