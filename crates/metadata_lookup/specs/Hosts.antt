-- What the search for a host says in the definition's words.
use Rattle.std.specs.Prelude.{Bool, List, [], ◌≡◌, ℕ, Result, Ok, Err, Option, Some, None}
use Rattle.layout.specs.Reading.{Reader, many, ok, then}
use Rattle.layout.specs.Tables.{first_row}
use Rattle.layout.specs.Lookup as Lookup
use Rattle.layout.specs.Lookup.{host_of}
use Rattle.primitives.specs.Answers.{of_refusal}
use Rattle.primitives.specs.declared.Refusal.{Refusal}
use Rattle.primitives.specs.declared.Span.{Span}
use Rattle.body_reading.specs.Walk.{on, row_from}
use Rattle.metadata_response.specs.Brokers.{broker_shape}
use Rattle.body_reading.specs.Fronts.{front_of}

-- what the search answers
abbrev pub Host : Type 0
Host = Result (Option Span) Refusal

abbrev pub of_host : Host → Lookup.Host
of_host (Ok (Some x)) = Lookup.found x.start x.len
of_host (Ok None) = Lookup.unknown
of_host (Err e) = Lookup.refused (of_refusal e)

-- h is the node's host among the rows that r reads. Where r refuses nothing is said: the message was judged before
pub record Seeks (r : Reader (List (List ℕ))) (s : List ℕ) (p node : ℕ) (h : Lookup.Host) : Type 0 where
  pub law : (rows : List (List ℕ)) (q : ℕ) → ok rows q ≡ on r s p → h ≡ host_of (first_row node rows)

-- the rows of the brokers of a body, from its start on
unfoldable pub brokers_of : Bool → Bool → Reader (List (List ℕ))
brokers_of racked throttled = then (front_of throttled) (λ x. many x.1 (row_from [] (broker_shape racked)))
