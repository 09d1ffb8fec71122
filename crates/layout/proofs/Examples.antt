-- The worked examples of docs/RULES.md: E1 to E12 as one table of cases, and some of the others as a second. Each table is proved by computing it:
-- left what the definition gives, right what the rules say.
use mathlib.Core.Bool.{false}
use mathlib.Core.List.{List, [], ◌++◌, ◌∷◌, map}
use mathlib.Core.Path.{◌≡◌, refl}
use Prim.Native.Nat.{◌%◌, ◌-◌, ◌/◌, ◌^◌, suc, zero, ℕ}
use lib.IntN.{ℤ, negsuc, pos}
use lib.ListN.{get_or, replicate}
use Rattle.layout.specs.Reading.{Refusal, Res, bad, because, fail, fail_at, give, here, loop, many, naming, no_room, ok, pair, pick, raw, single, then}
use Rattle.layout.specs.Utf8.{begins, characters, first, utf8, well_formed, well_formed_from, within}
use Rattle.layout.specs.Primitives.{bytes, cell, checked, compact, fixed, flag, flag_bytes, groups, holds, int, integer, integer_bytes, kept, length_bytes, length_of, minus, never, null_bytes, shortest, signed, sized, sized_bytes, unsigned, unsigned_bytes, unzigzag, varint, varlong, w16, zigzag, zigzag_bytes}
use Rattle.layout.specs.Rows.{Basic, at, blob, end, field, standing, stands, tag_rows, text}
use Rattle.layout.specs.Read.{read_basic, read_blob, read_text}
use Rattle.layout.specs.Write.{basic_fault, each, fault, first_of, or, sized_fault, too_long, unless, write, write_basic}
use Rattle.layout.specs.Tables.{Tables, absent_cells, adds_up, all, append, arrays, asked, basic_of, cells, chosen, chunks, count, count_cell, first_row, from, good, good_cells, good_count, good_row, good_span, inside, items_of, kind_in, kind_of, pop, read_rows, row_width, rows_at, rows_of, slice, span, span_of, sum, times, value_of, width}
use Rattle.layout.specs.Names.{blame, blame_each, blame_items, fieldless, name_at, name_fault, seek, stop}
use Rattle.layout.specs.Answers.{Answer, accepted, body, laid, made, meant, named, named_fault, needed, prefix_read, read_answer, refused, seen, shape, tags_alone, whole_read, widths, write_answer}
use Rattle.layout.specs.Agreement as Agreement
use Rattle.layout.specs.Lookup as Lookup
use Rattle.layout.specs.Messages.ApiVersions as Api
use Rattle.layout.specs.Frames.{frame_made, frame_named, frame_read, frame_seen, frame_size, frame_written}
use Rattle.layout.specs.Messages.Fetch as Fetch
use Rattle.layout.specs.Messages.Headers as Headers
use Rattle.layout.specs.Messages.Metadata as Metadata

-- what comes out: a primitive's bytes; its number, or its cells, with the bytes used; a refusal; a call's answer with the tables or the output behind it
pub data Outcome : Type 0 where
  made_of : List ℕ → Outcome
  gave : ℤ → ℕ → Outcome
  showed : List ℕ → ℕ → Outcome
  stopped : ℕ → ℕ → ℕ → Outcome
  told : List ℕ → ℕ → Tables → Outcome
  left : Refusal → Tables → Outcome
  host : Lookup.Host → Outcome
  rows : List (List ℕ) → Outcome

abbrev natural : Res ℕ → Outcome
natural (ok n k) = gave (pos n) k
natural (bad e) = stopped e.number e.place e.need

abbrev signed_one : Res ℤ → Outcome
signed_one (ok n k) = gave n k
signed_one (bad e) = stopped e.number e.place e.need

abbrev row : Res Tables → Outcome
row (ok st n) = showed (get_or st 0 []) n
row (bad e) = stopped e.number e.place e.need

-- a field by itself
abbrev alone : Basic → List ℕ → Outcome
alone k s = row (read_rows false append (field k end) 0 ([] ∷ []) 0 s)

abbrev answer : Answer → Tables → Outcome
answer (accepted r n) st = told r n st
answer (refused e) st = left e st

abbrev reads : Answer × Tables → Outcome
reads x = answer x.0 x.1

abbrev writes : Answer × List ℕ → Outcome
writes x = answer x.0 (x.1 ∷ [])

abbrev no : ℕ → ℕ → ℕ → Tables → Outcome
no e p k st = left (record { number = e; place = p; need = k; message = 0; row = minus; field = minus }) st

-- a refusal that was given a name: of a message, at a row and a field
abbrev name : Refusal → Outcome
name e = left e []

abbrev Case : Type 0
Case = Outcome × Outcome

-- k bytes, written as one hexadecimal number
abbrev hex : ℕ → ℕ → List ℕ
hex zero n = []
hex (suc k) n = n / 256 ^ k % 256 ∷ hex k n

-- room for one item and one tag, and 20 bytes of output, filled with sevens
abbrev room : Tables
room = replicate 4 7 ∷ replicate 3 7 ∷ []

abbrev out : List ℕ
out = replicate 20 7

abbrev e9 : List ℕ
e9 = hex 12 0x0000_00000001_0012_0000_0003

abbrev e11 : List ℕ
e11 = hex 15 0x0000_02_0012_0000_0003_00_00000000_00

abbrev e12 : List ℕ
e12 = hex 10 0x0000_00000000_00010500

abbrev pub table : List Case
table =
    -- E1: 300 is AC 02
    (made_of (unsigned_bytes 300), made_of (hex 2 0xAC02)) ∷
    (natural (unsigned 0 (hex 2 0xAC02)), gave (pos 300) 2) ∷
    -- E2: FF nine times, then 01
    (natural (unsigned 0 (hex 10 0xFFFFFFFFFFFFFFFFFF01)), gave (pos 18446744073709551615) 10) ∷
    -- E3: 7F last reads alike
    (natural (unsigned 0 (hex 10 0xFFFFFFFFFFFFFFFFFF7F)), gave (pos 18446744073709551615) 10) ∷
    -- E4: 80 ten times
    (natural (unsigned 0 (replicate 10 0x80)), stopped 5 0 0) ∷
    -- E5: Varint −1 and −2^31
    (made_of (zigzag_bytes (negsuc 0)), made_of (hex 1 0x01)) ∷
    (signed_one (varint 0 (hex 1 0x01)), gave (negsuc 0) 1) ∷
    (made_of (zigzag_bytes (negsuc 2147483647)), made_of (hex 5 0xFFFFFFFF0F)) ∷
    (signed_one (varint 0 (hex 5 0xFFFFFFFF0F)), gave (negsuc 2147483647) 5) ∷
    -- E6
    (signed_one (varint 0 (hex 5 0x8080808010)), stopped 11 0 0) ∷
    -- E7: a null string, and a length below it
    (alone (text (fixed w16 kept)) (hex 2 0xFFFF), showed (1 ∷ 0 ∷ 0 ∷ []) 2) ∷
    (alone (text (fixed w16 kept)) (hex 2 0xFFFE), stopped 4 0 0) ∷
    -- E8: compact strings
    (alone (text (compact never)) (hex 1 0x00), stopped 6 0 0) ∷
    (alone (text (compact never)) (hex 1 0x01), showed (1 ∷ 0 ∷ []) 1) ∷
    -- E9: version 0, one row
    (writes (write_answer Api.response (pos 0) [] ((0 ∷ 1 ∷ 0 ∷ 0 ∷ minus ∷ []) ∷ (18 ∷ 0 ∷ 3 ∷ minus ∷ []) ∷ [] ∷ []) out), told [] 12 ((e9 ++ replicate 8 7) ∷ [])) ∷
    (reads (whole_read Api.response (pos 0) room e9), told (0 ∷ 1 ∷ 0 ∷ 0 ∷ minus ∷ []) 12 ((18 ∷ 0 ∷ 3 ∷ minus ∷ []) ∷ replicate 3 7 ∷ [])) ∷
    (reads (whole_read Api.response (pos 1) room e9), no 3 12 0 room) ∷
    (reads (whole_read Api.response (pos 3) room e9), no 8 2 0 room) ∷
    -- E10: the row with throttle 0 at 1
    (writes (write_answer Api.response (pos 1) [] ((0 ∷ 1 ∷ 2 ∷ 0 ∷ minus ∷ []) ∷ (18 ∷ 0 ∷ 3 ∷ minus ∷ []) ∷ [] ∷ []) out), told [] 16 ((e9 ++ replicate 4 0 ++ replicate 4 7) ∷ [])) ∷
    (reads (whole_read Api.response (pos 0) room (e9 ++ replicate 4 0)), no 9 12 0 room) ∷
    -- E11: at 3
    (writes (write_answer Api.response (pos 3) [] ((0 ∷ 1 ∷ 2 ∷ 0 ∷ 0 ∷ []) ∷ (18 ∷ 0 ∷ 3 ∷ 0 ∷ []) ∷ [] ∷ []) out), told [] 15 ((e11 ++ replicate 5 7) ∷ [])) ∷
    (reads (whole_read Api.response (pos 3) room e11), told (0 ∷ 1 ∷ 2 ∷ 0 ∷ 0 ∷ []) 15 ((18 ∷ 0 ∷ 3 ∷ 0 ∷ []) ∷ replicate 3 7 ∷ [])) ∷
    (reads (whole_read Api.response (pos 0) room e11), no 3 14 0 room) ∷
    -- E12: version 1, no items, throttle 66,816
    (writes (write_answer Api.response (pos 1) [] ((0 ∷ 0 ∷ 2 ∷ 66816 ∷ minus ∷ []) ∷ [] ∷ [] ∷ []) out), told [] 10 ((e12 ++ replicate 10 7) ∷ [])) ∷
    (reads (prefix_read Api.response (pos 3) room e12), told (0 ∷ 0 ∷ 2 ∷ 0 ∷ 1 ∷ []) 10 (replicate 4 7 ∷ (5 ∷ 10 ∷ 0 ∷ []) ∷ [])) ∷
    (reads (whole_read Api.response (pos 3) room e12), no 8 2 0 room) ∷
    []

-- a Fetch response of version 0 and of version 4, a Metadata response of version 1
abbrev fetched : List ℕ
fetched = hex 30 0x00000001_0001_61_00000001_00000002_FFFF_0000000000000005_FFFFFFFF_09

abbrev fetched_4 : List ℕ
fetched_4 = hex 61 0x00000009_00000001_0001_61_00000001_00000002_0000_0000000000000005_0000000000000004_00000001_0000000000000006_0000000000000003_FFFFFFFF

abbrev metadata_1 : List ℕ
metadata_1 = hex 61 0x00000001_00000001_0001_68_00002384_FFFF_00000001_00000001_0000_0001_74_01_00000001_0000_00000000_00000001_00000002_00000001_00000002_FFFFFFFF

-- two brokers at version 0, the first with an empty host
abbrev brokers : List ℕ
brokers = hex 29 0x00000002_00000001_0000_00002384_00000002_0001_68_00002384_00000000

abbrev metadata_room : Tables
metadata_room = replicate 7 7 ∷ replicate 5 7 ∷ replicate 5 7 ∷ replicate 3 7 ∷ [] ∷ []

-- ApiVersions items with tags of their own: an item's tag comes before the body's
abbrev tagged_3 : List ℕ
tagged_3 = hex 20 0x0000_02_0012_0000_0003_01_07_01_AA_00000000_01_09_00

abbrev pub others : List Case
others =
    -- Fetch request 4: replica −1, wait 500, min 1, rest unset, no topics; then with isolation 2, which version 3 does not look at, into too little room
    (writes (write_answer Fetch.request (pos 4) [] ((minus ∷ 500 ∷ 1 ∷ 0 ∷ 0 ∷ 0 ∷ 0 ∷ 0 ∷ []) ∷ [] ∷ [] ∷ []) (replicate 22 7)), told [] 21 ((hex 21 0xFFFFFFFF_000001F4_00000001_7FFFFFFF_00_00000000 ++ (7 ∷ [])) ∷ [])) ∷
    (writes (write_answer Fetch.request (pos 4) [] ((minus ∷ 500 ∷ 1 ∷ 0 ∷ 0 ∷ 2 ∷ 2 ∷ 0 ∷ []) ∷ [] ∷ [] ∷ []) out), no 11 0 0 (out ∷ [])) ∷
    (writes (write_answer Fetch.request (pos 3) [] ((minus ∷ 500 ∷ 1 ∷ 0 ∷ 0 ∷ 2 ∷ 2 ∷ 0 ∷ []) ∷ [] ∷ [] ∷ []) (replicate 19 7)), no 10 0 20 (replicate 19 7 ∷ [])) ∷
    -- one topic, "ab", with one partition; its count does not add up; its name lies outside
    (writes (write_answer Fetch.request (pos 0) (hex 3 0x636162) ((minus ∷ 0 ∷ 1 ∷ 0 ∷ 0 ∷ 0 ∷ 0 ∷ 1 ∷ []) ∷ (1 ∷ 2 ∷ 1 ∷ []) ∷ (3 ∷ 256 ∷ 1 ∷ []) ∷ []) (replicate 40 7)), told [] 40 (hex 40 0xFFFFFFFF_00000000_00000001_00000001_0002_6162_00000001_00000003_0000000000000100_00000001 ∷ [])) ∷
    (writes (write_answer Fetch.request (pos 0) (hex 3 0x636162) ((minus ∷ 0 ∷ 1 ∷ 0 ∷ 0 ∷ 0 ∷ 0 ∷ 1 ∷ []) ∷ (1 ∷ 2 ∷ 2 ∷ []) ∷ (3 ∷ 256 ∷ 1 ∷ []) ∷ []) out), no 13 0 0 (out ∷ [])) ∷
    (writes (write_answer Fetch.request (pos 0) (hex 3 0x636162) ((minus ∷ 0 ∷ 1 ∷ 0 ∷ 0 ∷ 0 ∷ 0 ∷ 1 ∷ []) ∷ (2 ∷ 2 ∷ 1 ∷ []) ∷ (3 ∷ 256 ∷ 1 ∷ []) ∷ []) out), no 13 0 0 (out ∷ [])) ∷
    -- Fetch response 0: null records, no stable offset and no aborted; the partition table too small; at 4 all of them
    (reads (prefix_read Fetch.response (pos 0) (replicate 3 7 ∷ replicate 8 7 ∷ [] ∷ []) fetched), told (0 ∷ 0 ∷ 1 ∷ []) 29 ((6 ∷ 1 ∷ 1 ∷ []) ∷ (2 ∷ minus ∷ 5 ∷ minus ∷ 0 ∷ 29 ∷ 0 ∷ 7 ∷ []) ∷ [] ∷ [])) ∷
    (reads (prefix_read Fetch.response (pos 0) (replicate 3 7 ∷ replicate 6 7 ∷ [] ∷ []) fetched), no 10 0 1 (replicate 3 7 ∷ replicate 6 7 ∷ [] ∷ [])) ∷
    (reads (prefix_read Fetch.response (pos 4) (replicate 3 7 ∷ replicate 7 7 ∷ replicate 2 7 ∷ []) fetched_4), told (2 ∷ 9 ∷ 1 ∷ []) 61 ((10 ∷ 1 ∷ 1 ∷ []) ∷ (2 ∷ 0 ∷ 5 ∷ 4 ∷ 1 ∷ 61 ∷ 0 ∷ []) ∷ (6 ∷ 3 ∷ []) ∷ [])) ∷
    -- Metadata request: null topics with auto-creation unset, at 4; one topic at 0; a name that is not UTF-8
    (writes (write_answer Metadata.request (pos 4) [] ((minus ∷ 0 ∷ 0 ∷ []) ∷ [] ∷ []) (replicate 5 7)), told [] 5 (hex 5 0xFFFFFFFF_01 ∷ [])) ∷
    (writes (write_answer Metadata.request (pos 0) (hex 2 0x61FF) ((1 ∷ 2 ∷ 0 ∷ []) ∷ (0 ∷ 1 ∷ []) ∷ []) (replicate 7 7)), told [] 7 (hex 7 0x00000001_0001_61 ∷ [])) ∷
    (writes (write_answer Metadata.request (pos 0) (hex 2 0x61FF) ((1 ∷ 2 ∷ 0 ∷ []) ∷ (0 ∷ 2 ∷ []) ∷ []) (replicate 7 7)), no 7 0 0 (replicate 7 7 ∷ [])) ∷
    -- Metadata response 1: a broker with a null rack, controller 1, a topic with one partition of two replicas, in-sync null
    (reads (prefix_read Metadata.response (pos 1) metadata_room metadata_1), told (0 ∷ 0 ∷ 1 ∷ 0 ∷ 0 ∷ 0 ∷ 2 ∷ 1 ∷ 1 ∷ []) 61 ((1 ∷ 10 ∷ 1 ∷ 9092 ∷ 1 ∷ 0 ∷ 0 ∷ []) ∷ (0 ∷ 29 ∷ 1 ∷ 1 ∷ 1 ∷ []) ∷ (0 ∷ 0 ∷ 1 ∷ 2 ∷ minus ∷ []) ∷ (1 ∷ 2 ∷ 7 ∷ []) ∷ [] ∷ [])) ∷
    -- lookup at 0: an empty host, a host, none; at 1 the second host would have 26,624 bytes, and node 1 gets that refusal too
    (host (Lookup.lookup 1 (pos 0) brokers), host (Lookup.found 10 0)) ∷
    (host (Lookup.lookup 2 (pos 0) brokers), host (Lookup.found 20 1)) ∷
    (host (Lookup.lookup 3 (pos 0) brokers), host Lookup.unknown) ∷
    (host (Lookup.lookup 1 (pos 1) brokers), host (Lookup.refused (because 3 20))) ∷
    -- ApiVersions request: nothing at 2; unset texts and tags are written as empty at 3; a tag
    (writes (write_answer Api.request (pos 2) [] ((0 ∷ 0 ∷ 0 ∷ 0 ∷ 0 ∷ 0 ∷ minus ∷ []) ∷ [] ∷ []) []), told [] 0 ([] ∷ [])) ∷
    (writes (write_answer Api.request (pos 3) [] ((0 ∷ 0 ∷ 0 ∷ 0 ∷ 0 ∷ 0 ∷ minus ∷ []) ∷ [] ∷ []) (replicate 3 7)), told [] 3 (hex 3 0x010100 ∷ [])) ∷
    (writes (write_answer Api.request (pos 3) (hex 2 0x6162) ((2 ∷ 0 ∷ 1 ∷ 2 ∷ 1 ∷ 1 ∷ 1 ∷ []) ∷ (9 ∷ 0 ∷ 2 ∷ []) ∷ []) (replicate 9 7)), told [] 9 (hex 9 0x0261_0262_01_09_02_6162 ∷ [])) ∷
    -- ApiVersions response: tags of an item and of the body; null items and a count below −1 to write; 70,000 in an INT16
    (reads (whole_read Api.response (pos 3) (replicate 4 7 ∷ replicate 6 7 ∷ []) tagged_3), told (0 ∷ 1 ∷ 2 ∷ 0 ∷ 1 ∷ []) 20 ((18 ∷ 0 ∷ 3 ∷ 1 ∷ []) ∷ (7 ∷ 12 ∷ 1 ∷ 9 ∷ 20 ∷ 0 ∷ []) ∷ [])) ∷
    (writes (write_answer Api.response (pos 0) [] ((0 ∷ minus ∷ 0 ∷ 0 ∷ minus ∷ []) ∷ [] ∷ [] ∷ []) out), no 13 0 0 (out ∷ [])) ∷
    (writes (write_answer Api.response (pos 0) [] ((0 ∷ 0 ∷ 0 ∷ 0 ∷ (minus - 1) ∷ []) ∷ [] ∷ [] ∷ []) out), no 13 0 0 (out ∷ [])) ∷
    (writes (write_answer Api.response (pos 0) [] ((70000 ∷ 0 ∷ 0 ∷ 0 ∷ minus ∷ []) ∷ [] ∷ [] ∷ []) out), no 11 0 0 (out ∷ [])) ∷
    -- tagged fields by themselves: repeats kept; data cut short is placed at its data length; no room, and the need
    (reads (prefix_read tags_alone (pos 0) (replicate 7 7 ∷ []) (hex 7 0x02_05_00_05_01_41_FF)), told (2 ∷ []) 6 ((5 ∷ 3 ∷ 0 ∷ 5 ∷ 5 ∷ 1 ∷ 7 ∷ []) ∷ [])) ∷
    (reads (prefix_read tags_alone (pos 0) (replicate 7 7 ∷ []) (hex 4 0x01_05_02_41)), no 3 2 0 (replicate 7 7 ∷ [])) ∷
    (reads (prefix_read tags_alone (pos 0) (replicate 5 7 ∷ []) (hex 6 0x02_05_00_05_01_41)), no 10 0 2 (replicate 5 7 ∷ [])) ∷
    -- text at the edges of RFC 3629; contents cut short are 3, ill-formed or not; compact bytes of length 0 are 6
    (alone (text (fixed w16 never)) (hex 6 0x0004_F48FBFBF), showed (2 ∷ 4 ∷ []) 6) ∷
    (alone (text (fixed w16 never)) (hex 6 0x0004_F4908080), stopped 7 2 0) ∷
    (alone (text (fixed w16 never)) (hex 4 0x0002_C080), stopped 7 2 0) ∷
    (alone (text (fixed w16 never)) (hex 5 0x0003_EDA080), stopped 7 2 0) ∷
    (alone (text (fixed w16 never)) (hex 4 0x0004_C080), stopped 3 0 0) ∷
    (alone (blob (compact never)) (hex 1 0x00), stopped 6 0 0) ∷
    -- an empty message; versions outside the range
    (reads (prefix_read Metadata.response (pos 4) metadata_room []), no 3 0 0 metadata_room) ∷
    (reads (prefix_read Metadata.response (pos 5) metadata_room []), no 1 0 0 metadata_room) ∷
    (reads (prefix_read Metadata.response (negsuc 0) metadata_room []), no 1 0 0 metadata_room) ∷
    -- frames: a request with header 2, a tag and a body of one byte, and a byte after it; a response with header 0 and bytes of the next frame after it; one whose bytes are not all there
    (reads (frame_read Headers.request (pos 2) (replicate 3 7 ∷ []) (hex 21 0x00000010_0012_0003_00000007_0001_67_01_05_01_41_FF_00)), told (18 ∷ 3 ∷ 7 ∷ 2 ∷ 14 ∷ 1 ∷ 1 ∷ 19 ∷ 1 ∷ []) 20 ((5 ∷ 18 ∷ 1 ∷ []) ∷ [])) ∷
    (reads (frame_read Headers.response (pos 0) ([] ∷ []) (hex 12 0x00000006_00000007_ABCD_0000)), told (7 ∷ minus ∷ 8 ∷ 2 ∷ []) 10 ([] ∷ [])) ∷
    (reads (frame_read Headers.response (pos 0) ([] ∷ []) (hex 8 0x00000006_00000007)), no 3 0 0 ([] ∷ [])) ∷
    -- sizes of −1, of 1,048,577 and of 3, whose header is cut although more bytes are lent; request header 0
    (reads (frame_read Headers.response (pos 0) ([] ∷ []) (hex 8 0xFFFFFFFF_00000007)), no 14 0 0 ([] ∷ [])) ∷
    (reads (frame_read Headers.response (pos 0) ([] ∷ []) (hex 8 0x00100001_00000007)), no 14 0 0 ([] ∷ [])) ∷
    (reads (frame_read Headers.response (pos 0) ([] ∷ []) (hex 8 0x00000003_00000007)), no 3 4 0 ([] ∷ [])) ∷
    (reads (frame_read Headers.request (pos 0) ([] ∷ []) []), no 1 0 0 ([] ∷ [])) ∷
    -- written: an unset client name is null; a tag in response header 1, and too little room for it
    (writes (frame_written Headers.request (pos 1) [] ((18 ∷ 3 ∷ 7 ∷ 0 ∷ 0 ∷ 0 ∷ minus ∷ []) ∷ [] ∷ []) [] (replicate 15 7)), told [] 14 ((hex 14 0x0000000A_0012_0003_00000007_FFFF ++ (7 ∷ [])) ∷ [])) ∷
    (writes (frame_written Headers.response (pos 1) (hex 1 0x41) ((7 ∷ 1 ∷ []) ∷ (5 ∷ 0 ∷ 1 ∷ []) ∷ []) (hex 1 0xAB) (replicate 13 7)), told [] 13 (hex 13 0x00000009_00000007_01_05_01_41_AB ∷ [])) ∷
    (writes (frame_written Headers.response (pos 1) (hex 1 0x41) ((7 ∷ 1 ∷ []) ∷ (5 ∷ 0 ∷ 1 ∷ []) ∷ []) (hex 1 0xAB) (replicate 11 7)), no 10 0 13 (replicate 11 7 ∷ [])) ∷
    -- agreement: the second row of key 1 is not looked at; Metadata down to −1; a list of nothing
    (rows (Agreement.agreement (18 ∷ 0 ∷ 4 ∷ minus ∷ 3 ∷ minus ∷ 0 ∷ minus ∷ 1 ∷ 0 ∷ 3 ∷ minus ∷ 1 ∷ 4 ∷ 4 ∷ minus ∷ [])), rows ((18 ∷ 3 ∷ 4 ∷ []) ∷ (3 ∷ 0 ∷ 0 ∷ []) ∷ (1 ∷ minus ∷ 3 ∷ []) ∷ [])) ∷
    (rows (Agreement.agreement []), rows ((18 ∷ minus ∷ minus ∷ []) ∷ (3 ∷ minus ∷ minus ∷ []) ∷ (1 ∷ minus ∷ minus ∷ []) ∷ [])) ∷
    []

-- the names of refusals
abbrev pub names : List Case
names =
    -- E9 read at 1 and at 3: the throttle time, the number of items. E10 at 0: bytes left over. E11 at 0: a field of the second item
    (name (named Api.response (pos 1) e9 (because 3 12)), name (naming 2 minus 2 (because 3 12))) ∷
    (name (named Api.response (pos 3) e9 (because 8 2)), name (naming 2 minus 1 (because 8 2))) ∷
    (name (named Api.response (pos 0) (e9 ++ replicate 4 0) (because 9 12)), name (naming 2 minus minus (because 9 12))) ∷
    (name (named Api.response (pos 0) e11 (because 3 14)), name (naming 2 1 1 (because 3 14))) ∷
    -- the data of an item's tag, cut; a version that there is not
    (name (named Api.response (pos 3) (hex 13 0x0000_02_0012_0000_0003_01_05_0900) (because 3 11)), name (naming 2 0 1 (because 3 11))) ∷
    (name (named Api.response (negsuc 0) [] (because 1 0)), name (naming 2 minus minus (because 1 0))) ∷
    -- written: the second name of a Metadata request, an isolation level of 2, and no room
    (name (named_fault Metadata.request (pos 2) (hex 2 0x61FF) ((2 ∷ 0 ∷ 0 ∷ []) ∷ (0 ∷ 1 ∷ 1 ∷ 1 ∷ []) ∷ []) (because 7 0)), name (naming 3 1 0 (because 7 0))) ∷
    (name (named_fault Fetch.request (pos 4) [] ((minus ∷ 500 ∷ 1 ∷ 0 ∷ 0 ∷ 2 ∷ 2 ∷ 0 ∷ []) ∷ [] ∷ [] ∷ []) (because 11 0)), name (naming 5 minus 4 (because 11 0))) ∷
    (name (named_fault Fetch.request (pos 3) [] ((minus ∷ 500 ∷ 1 ∷ 0 ∷ 0 ∷ 2 ∷ 2 ∷ 0 ∷ []) ∷ [] ∷ [] ∷ []) (no_room 20)), name (naming 5 minus minus (no_room 20))) ∷
    -- frames: a size that is cut, and a header that is
    (name (frame_named Headers.response (pos 0) (hex 2 0x0000) (because 3 0)), name (naming 8 minus minus (because 3 0))) ∷
    (name (frame_named Headers.response (pos 0) (hex 8 0x00000003_00000007) (because 3 4)), name (naming 8 minus 0 (because 3 4))) ∷
    []

abbrev Holds : List Case → Type 0
Holds cs = map (λ (c : Case). c.0) cs ≡ map (λ (c : Case). c.1) cs

pub examples : Holds table × Holds others × Holds names
unfolding then give fail fail_at pick here single raw pair many loop
    within characters begins first well_formed_from well_formed utf8
    int bytes signed integer integer_bytes cell holds flag flag_bytes groups unsigned shortest unsigned_bytes zigzag unzigzag varlong varint zigzag_bytes length_of length_bytes null_bytes checked sized sized_bytes
    at stands standing tag_rows read_blob read_text read_basic
    each write_basic write or unless first_of too_long sized_fault basic_fault fault
    span cells width absent_cells count_cell read_rows append pop count times items_of chosen slice span_of basic_of value_of row_width arrays kind_in kind_of chunks rows_of first_row rows_at from all sum good_count asked inside good_span good_cells good_row adds_up good
    shape seen widths needed laid read_answer prefix_read whole_read meant body made write_answer
    Agreement.negative Agreement.smaller Agreement.reaches Agreement.highest Agreement.agreed Agreement.agreement Lookup.lookup
    fieldless stop seek name_at blame_each blame_items blame name_fault named named_fault frame_named
    frame_size frame_seen frame_read frame_made frame_written Headers.request_rows Headers.response_rows
    Api.request_rows Api.key_rows Api.response_rows
    Metadata.name_rows Metadata.request_rows Metadata.broker_rows Metadata.node_rows Metadata.partition_rows Metadata.topic_rows Metadata.response_rows
    Fetch.ask_rows Fetch.ask_topic_rows Fetch.request_rows Fetch.aborted_rows Fetch.partition_rows Fetch.topic_rows Fetch.response_rows
examples = (refl, refl, refl)
