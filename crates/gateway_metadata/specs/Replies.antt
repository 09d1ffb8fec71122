-- What the entry points for Metadata hand back: for each answer of the definitions the numbers of the struct, as in gateway/specs/Replies.antt.
-- Assumes nothing.
use Rattle.std.specs.Prelude.{List, [], ◌∷◌, ℕ, zero, suc, get_or}
use Rattle.layout.specs.Answers.{Answer}
use Rattle.layout.specs.Lookup as Lookup
use Rattle.gateway.specs.Replies.{numbers, row_of}
use Rattle.gateway_metadata.specs.declared.HostNumbers.{HostNumbers}
use Rattle.gateway_metadata.specs.declared.MetadataNumbers.{MetadataNumbers}

-- the own row is throttle time (kind, number), number of brokers, cluster (kind, start, length), controller (kind, number), number of topics
abbrev pub metadata_numbers : Answer → MetadataNumbers
metadata_numbers a = record {
  answer = numbers a;
  timed = get_or (row_of a) 0 0;
  throttle = get_or (row_of a) 1 0;
  brokers = get_or (row_of a) 2 0;
  clustered = get_or (row_of a) 3 0;
  cstart = get_or (row_of a) 4 0;
  clength = get_or (row_of a) 5 0;
  controlled = get_or (row_of a) 6 0;
  controller = get_or (row_of a) 7 0;
  topics = get_or (row_of a) 8 0;
}

-- an empty host is found, with length 0
abbrev pub host_numbers : Lookup.Host → HostNumbers
host_numbers (Lookup.refused e) = record { number = e.number; place = e.place; need = e.need; found = 0; start = 0; length = 0 }
host_numbers Lookup.unknown = record { number = 0; place = 0; need = 0; found = 0; start = 0; length = 0 }
host_numbers (Lookup.found a k) = record { number = 0; place = 0; need = 0; found = 1; start = a; length = k }

-- ---- the row that a caller lends: kind 0 is unset, and any other set; flag 0 is false, and any other true

unfoldable pub creation_row : ℕ → ℕ → List ℕ
creation_row zero b = 0 ∷ 0 ∷ []
creation_row (suc k) zero = 2 ∷ 0 ∷ []
creation_row (suc k) (suc b) = 2 ∷ 1 ∷ []

-- number of topics, auto-creation (kind, flag)
unfoldable pub request_row : List ℕ → List ℕ
request_row cs = get_or cs 0 0 ∷ creation_row (get_or cs 1 0) (get_or cs 2 0)
