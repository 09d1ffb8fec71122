-- A broker read as its cells, the address first, and stored.
use mathlib.Core.Bool.{Bool, false, true}
use mathlib.Core.List.{List, [], ◌++◌, ◌∷◌}
use mathlib.Core.Path.{◌∙◌, ◌≡◌, ap, sym}
use Prim.Native.Nat.{ℕ}
use Rattle.layout.specs.Reading.{Refusal, Res, bad, ok}
use Rattle.layout.specs.Primitives.{cell, fixed, kept, never, w16, w32}
use Rattle.layout.specs.Read.{by_place, read_basic}
use Rattle.layout.specs.Rows.{Basic, Shape, end, field, number, stands, text}
use Rattle.layout.specs.Tables.{cells, span}
use Rattle.primitives.specs.declared.Field.{Field}
use Rattle.body_reading.specs.Store.{Tab, add, store, tab}
use Rattle.body_reading.specs.Walk.{Runs, on, row_from, walk}
use Rattle.body_reading.proofs.Front.{Flat}
use Rattle.body_reading.proofs.RowCells.{alone_no, alone_took, cells_end, cells_if_no, cells_if_took, cells_no, cells_took, first_no, first_took}
use Rattle.body_reading.proofs.Stores.{store_append}
use Rattle.body_reading.specs.Cells.{field_cells}
use Rattle.body_reading.specs.Walked.{filled}
use Rattle.metadata_response.specs.Brokers.{address_shape, at_brokers, broker_shape, filled_is, of_broker}
use Rattle.metadata_response.specs.declared.brokers.Broker.{Broker}

-- ---- the address

module _ (s : List ℕ) (p : ℕ) where
  abbrev host : Basic
  host = text (fixed w16 never)

  abbrev two : Shape
  two = field host (field (number w32) end)

  abbrev one : Shape
  one = field (number w32) end

  pub node_no : (c : Refusal) → bad c ≡ on (cell w32) s p → bad c ≡ on (row_from [] address_shape) s p
  unfolding address_shape read_basic
  node_no c e = cells_no [] (number w32) two s p c e

  module _ (node q : ℕ) (d : ok node q ≡ on (cell w32) s p) where
    from_node : (z : Res (List ℕ)) → z ≡ on (row_from (node ∷ []) two) s q → z ≡ on (row_from [] address_shape) s p
    unfolding address_shape read_basic cells
    from_node z e = cells_took [] (number w32) two s p node q d z e

    pub host_no : (c : Refusal) → bad c ≡ on (read_basic (by_place false) host) s q → bad c ≡ on (row_from [] address_shape) s p
    host_no c e = from_node (bad c) (cells_no (node ∷ []) host one s q c e)

    module _ (start len u : ℕ) (g : ok (start, len) u ≡ on (read_basic (by_place false) host) s q) where
      from_host : (z : Res (List ℕ)) → z ≡ on (row_from (node ∷ start ∷ len ∷ []) one) s u → z ≡ on (row_from [] address_shape) s p
      unfolding cells span
      from_host z e = from_node z (cells_took (node ∷ []) host one s q (start, len) u g z e)

      pub port_no : (c : Refusal) → bad c ≡ on (cell w32) s u → bad c ≡ on (row_from [] address_shape) s p
      unfolding read_basic
      port_no c e = from_host (bad c) (cells_no (node ∷ start ∷ len ∷ []) (number w32) end s u c e)

      pub address_took : (port n : ℕ) → ok port n ≡ on (cell w32) s u → ok (node ∷ start ∷ len ∷ port ∷ []) n ≡ on (row_from [] address_shape) s p
      unfolding read_basic cells
      address_took port n e = from_host (ok (node ∷ start ∷ len ∷ port ∷ []) n) (cells_took (node ∷ start ∷ len ∷ []) (number w32) end s u port n e _ (cells_end (node ∷ start ∷ len ∷ port ∷ []) s n))

-- ---- the broker

module _ (f : Bool) (s : List ℕ) (p : ℕ) where
  abbrev rack : Shape
  rack = stands f (text (fixed w16 kept)) end

  pub address_no : (c : Refusal) → bad c ≡ on (row_from [] address_shape) s p → bad c ≡ on (row_from [] (broker_shape f)) s p
  unfolding address_shape broker_shape
  address_no c e = first_no address_shape tt rack [] s p c e

  module _ (cs : List ℕ) (q : ℕ) (d : ok cs q ≡ on (row_from [] address_shape) s p) where
    from_address : (z : Res (List ℕ)) → z ≡ on (row_from cs rack) s q → z ≡ on (row_from [] (broker_shape f)) s p
    unfolding address_shape broker_shape
    from_address z e = first_took address_shape tt rack [] s p cs q d z e

    pub rack_no : (c : Refusal) → bad c ≡ on (row_from [] rack) s q → bad c ≡ on (row_from [] (broker_shape f)) s p
    rack_no c e = from_address (bad c) (cells_if_no f (text (fixed w16 kept)) end cs s q c e)

    pub broker_took : (es : List ℕ) (n : ℕ) → ok es n ≡ on (row_from [] rack) s q → ok (cs ++ es) n ≡ on (row_from [] (broker_shape f)) s p
    broker_took es n e = from_address (ok (cs ++ es) n) (cells_if_took f (text (fixed w16 kept)) end cs s q es n e (ok (cs ++ es) n) (cells_end (cs ++ es) s n))

-- ---- the broker in its table

-- a broker has no arrays, with a rack or without
pub broker_flat : (f : Bool) → Flat (broker_shape f)
unfolding broker_shape stands
broker_flat true = tt
broker_flat false = tt

pub stored_rack : (t b : Tab) (x y : Field) → x ≡ y → b ≡ store t (field_cells y) → b ≡ store t (field_cells x)
stored_rack t b x y e g = g ∙ ap (λ (z : Field). store t (field_cells z)) (sym e)

-- the address, and the rack behind it
pub stored_broker : (t a b : Tab) (x : Broker) → a ≡ store t (x.node ∷ x.host.start ∷ x.host.len ∷ x.port ∷ []) → b ≡ store a (field_cells x.rack) → b ≡ store t (of_broker x)
stored_broker t a b x e g = g ∙ ap (λ (y : Tab). store y (field_cells x.rack)) e ∙ store_append t (x.node ∷ x.host.start ∷ x.host.len ∷ x.port ∷ []) (field_cells x.rack)

module _ (f : Bool) (s : List ℕ) (p : ℕ) (l : List ℕ) (k : ℕ) where
  pub row_no : (c : Refusal) → bad c ≡ on (row_from [] (broker_shape f)) s p → Runs (λ e. walk false (broker_shape f) 1) s p (at_brokers l k) (λ e. bad c)
  row_no c h = record { law = λ e. alone_no (broker_shape f) (broker_flat f) 1 (at_brokers l k e) s p c h }

  pub row_took : (x : Broker) (n : ℕ) → ok (of_broker x) n ≡ on (row_from [] (broker_shape f)) s p → (l' : List ℕ) (m : ℕ) → tab l' m ≡ store (tab l k) (of_broker x) → Runs (λ e. walk false (broker_shape f) 1) s p (at_brokers l k) (filled_is l' (filled n m))
  unfolding add
  row_took x n h l' m g = record {
    law = λ e. (λ i. ok (e.0 ∷ g i ∷ e.1) n) ∙ alone_took (broker_shape f) (broker_flat f) 1 (at_brokers l k e) s p (of_broker x) n h;
  }
