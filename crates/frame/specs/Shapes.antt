-- The parts of a request header's layout that both request headers have. Assumes nothing.
use Rattle.layout.specs.Primitives.{fixed, kept, w16, w32}
use Rattle.layout.specs.Rows.{Basic, Shape, end, field, number, text}

-- API key, version and correlation number
abbrev pub numbers_shape : Shape
numbers_shape = field (number w16) (field (number w16) (field (number w32) end))

-- the client name
abbrev pub client_field : Basic
client_field = text (fixed w16 kept)

abbrev pub client_shape : Shape
client_shape = field client_field end
