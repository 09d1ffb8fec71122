-- A broker's layout by what sets the versions apart, whether it has a rack (from 1 on); and what the walks over brokers say.
-- Table 0 is the body's own row, 1 the brokers.
use Rattle.std.specs.Prelude.{Bool, List, [], ◌∷◌, ℕ, Result, Ok, Err}
use Rattle.layout.specs.Reading.{Res, bad, ok}
use Rattle.layout.specs.Primitives.{fixed, kept, never, w16, w32}
use Rattle.layout.specs.Rows.{Shape, end, field, number, stands, text}
use Rattle.primitives.specs.Answers.{Read, of_read, of_refusal}
use Rattle.primitives.specs.declared.Refusal.{Refusal}
use Rattle.body_reading.specs.Store.{State, Tab, tab}
use Rattle.body_reading.specs.Cells.{field_cells}
use Rattle.metadata_response.specs.declared.brokers.Address.{Address}
use Rattle.metadata_response.specs.declared.brokers.Broker.{Broker}
use Rattle.body_reading.specs.declared.walks.Filled.{Filled}

unfoldable pub broker_shape : Bool → Shape
broker_shape f = field (number w32) (field (text (fixed w16 never)) (field (number w32) (stands f (text (fixed w16 kept)) end)))

-- what it begins with: node, host and port
unfoldable pub address_shape : Shape
address_shape = field (number w32) (field (text (fixed w16 never)) (field (number w32) end))

abbrev pub address_cells : Address → List ℕ
address_cells x = x.node ∷ x.host.start ∷ x.host.len ∷ x.port ∷ []

abbrev pub of_address : Read Address → Res (List ℕ)
of_address r = of_read address_cells r

abbrev pub of_broker : Broker → List ℕ
of_broker x = x.node ∷ x.host.start ∷ x.host.len ∷ x.port ∷ field_cells x.rack

abbrev pub of_broker_row : Read Broker → Res (List ℕ)
of_broker_row r = of_read of_broker r

-- the table of brokers; the body's own row and the other tables may be anything
abbrev pub at_brokers : List ℕ → ℕ → Tab × State → State
at_brokers l k e = e.0 ∷ tab l k ∷ e.1

abbrev pub filled_is : List ℕ → Result Filled Refusal → Tab × State → Res State
filled_is l (Ok f) e = ok (at_brokers l f.mark e) f.next
filled_is l (Err c) e = bad (of_refusal c)
