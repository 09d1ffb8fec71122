-- the walks over headers
pub mod Rows
-- the size, and the whole reply of a read
pub mod Replies
-- the walk to a field of a header, and the name that is given
pub mod Sought
-- which header a request has
pub mod Chosen
-- frames written, whatever their header: what is refused of its number, the size, and the end with tags and body
pub mod Written
-- the request header, and the response header, that are written
pub mod RequestWritten
pub mod ResponseWritten
-- the name of a refused write
pub mod NamedWritten
-- a promise determines the reply, table and output; bytes after a frame have no part in it
pub mod Unique
pub mod Local
