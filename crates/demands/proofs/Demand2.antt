-- The second demand, for every message: both directions, of reading and of writing. Each call on a body promises one equation with `read_answer` or `write_answer` of its message, and so these are laws of the calls;
-- at the end they stand for each entry point of the C interface.
use mathlib.Core.Bool.{Bool, false, true}
use mathlib.Core.List.{List, [], ◌++◌}
use mathlib.Core.Option.{none}
use mathlib.Core.Path.{◌∙◌, ◌≡◌, ap, refl, subst, sym}
use Prim.Native.Nat.{◌≤◌, suc, ℕ}
use native.Mathlib.Omega.{arith}
use lib.IntN.{pos}
use lib.ListN.{drop, get_or, length, replicate}
use Rattle.layout.specs.Reading.{Refusal, ok}
use Rattle.layout.specs.Rows.{Value}
use Rattle.layout.specs.Read.{by_bytes, read}
use Rattle.layout.specs.Tables.{Tables, append, read_rows}
use Rattle.layout.specs.Answers.{Answer, Message, accepted, body, laid, made, most, needed, prefix_read, read_answer, refused, seen, shape, widths, write_answer}
use Rattle.layout.specs.Messages.ApiVersions as Api
use Rattle.layout.specs.Messages.Fetch as Fetch
use Rattle.layout.specs.Messages.Metadata as Metadata
use Rattle.layout.proofs.Calls.{made_inv, read_answer_lem, read_inv, seen_inv, seen_prefix, seen_whole, write_inv}
use Rattle.layout.proofs.Proper as Proper
use Rattle.layout.proofs.Proper.{owed, proper}
use Rattle.layout.proofs.Tests.{le-true}
use Rattle.layout.proofs.Trip.{lays, tables_mean}
use Rattle.primitives.specs.Answers.{is_set}
use Rattle.gateway.specs.Replies.{numbers, told}
use Rattle.gateway.specs.declared.Numbers.{Numbers}
use Rattle.gateway_api_versions.specs.Replies.{request_numbers, response_numbers}
use Rattle.gateway_api_versions.specs.declared.RequestNumbers.{RequestNumbers}
use Rattle.gateway_api_versions.specs.declared.ResponseNumbers.{ResponseNumbers}
use Rattle.gateway_metadata.specs.Replies.{metadata_numbers}
use Rattle.gateway_metadata.specs.declared.MetadataNumbers.{MetadataNumbers}
use Rattle.gateway_fetch.specs.Replies.{fetch_numbers}
use Rattle.gateway_fetch.specs.declared.FetchNumbers.{FetchNumbers}
use Rattle.demands.specs.Meanings.{Accepted, Says, Taken, Writable, bytes_of}
use Rattle.demands.specs.Refusals.{Answered}
use Rattle.demands.proofs.Demand1.{read_answered}
use Rattle.demands.proofs.Faults.{write_answered}

-- ---- reading

module _ (m : Message) (h : proper m ≡ true) (w : Bool) (v : ℕ) (s : List ℕ) where
  -- what is accepted means those bytes
  pub says : (room : Tables) (row : List ℕ) (n : ℕ) (after : Tables) → read_answer w m (pos v) room s ≡ (accepted row n, after) → Says w m v s room row n after
  says room row n after e =
      let c = read_inv m (pos v) s room w row n after e in
      let d = seen_inv w m (pos v) s c.st n c.is_seen in
      let x : d.version ≡ v = (let i = d.is in cc) in
      let known : v ≤ m.last = subst (λ (k : ℕ). k ≤ m.last) x d.known in
      let reads : read_rows w append (shape m v) 0 (replicate (suc m.tables) []) 0 s ≡ ok c.st n = subst (λ (k : ℕ). read_rows w append (shape m k) 0 (replicate (suc m.tables) []) 0 s ≡ ok c.st n) x d.reads in
      let short : length s ≤ most = d.short in
      let o = owed m h v known in
      record { rows = c.st; own_row = sym c.row_is; filled = sym c.after_is; says = tables_mean w (shape m v) (suc m.tables) s c.st n (omega arith) o.names o.eating (omega arith) reads }

  -- what the reader of the layout accepts within the limits is not refused
  pub taken : v ≤ m.last → length s ≤ most → (x : Value (List ℕ) (shape m v)) (n : ℕ) → read (by_bytes w) (shape m v) 0 s ≡ ok x n → (w ≡ true → n ≡ length s) → Taken w m v s n x
  taken known short x n e all-used =
      let o = owed m h v known in
      let l = lays w (shape m v) (suc m.tables) s x n (omega arith) o.names o.eating (omega arith) e in
      record { rows = l.st; means = l.means; taken = λ room k. read_answer_lem m (pos v) s room w l.st n (is_seen w l.st l.reads all-used) k }
    where
      is_seen : (w : Bool) (st : Tables) → read_rows w append (shape m v) 0 (replicate (suc m.tables) []) 0 s ≡ ok st n → (w ≡ true → n ≡ length s) → seen w m (pos v) s ≡ ok st n
      is_seen false st d k = seen_prefix m v s st n known short d
      is_seen true st d k =
          let x : n ≡ length s = k refl in
          seen_whole m v s st known short (d ∙ ap (λ (j : ℕ). ok st j) x) ∙ ap (λ (j : ℕ). ok st j) (sym x)

-- ---- writing

module _ (m : Message) (v : ℕ) (lent : List ℕ) (st : Tables) (out : List ℕ) where
  -- what is written are those bytes
  pub written_bytes : (r : List ℕ) (n : ℕ) (after : List ℕ) → write_answer m (pos v) lent st out ≡ (accepted r n, after) → (after ≡ bytes_of m v lent st ++ drop n out) × (n ≡ length (bytes_of m v lent st))
  unfolding body
  written_bytes r n after e =
      let c = write_inv m (pos v) lent st out r n after e in
      let d = made_inv m (pos v) lent st c.bs n c.is_made in
      let x : d.version ≡ v = (let i = d.is in cc) in
      let b : c.bs ≡ bytes_of m v lent st = subst (λ (k : ℕ). c.bs ≡ bytes_of m k lent st) x d.bytes_are in
      (c.after_is ∙ ap (λ (bs : List ℕ). bs ++ drop n out) b, d.size_is ∙ ap length b)

  -- what can be written is, where there is room
  pub not_refused : Writable m v lent st → length (bytes_of m v lent st) ≤ length out →
      write_answer m (pos v) lent st out ≡ (accepted [] (length (bytes_of m v lent st)), bytes_of m v lent st ++ drop (length (bytes_of m v lent st)) out)
  unfolding write_answer made body
  not_refused c room = rw (le-true v m.last c.known, c.good_tables, c.no_fault, le-true (length (bytes_of m v lent st)) most c.short, le-true (length (bytes_of m v lent st)) (length out) room)

-- ---- in numbers: F makes a struct of an answer, and its number is 0 where the answer is an acceptance

-- a struct r, and what was lent after the call, that an acceptance was made into
pub record OfAccepted {N A : Type 0} (F : Answer → N) (o : Answer × A) (r : N) (after : A) : Type 0 where
  pub row : List ℕ
  pub used : ℕ
  pub reply : r ≡ F (accepted row used)
  pub is : o ≡ (accepted row used, after)

module _ {N A : Type 0} (F : Answer → N) (number : N → ℕ) (refusal : (e : Refusal) → number (F (refused e)) ≡ e.number) (size : ℕ) (before : A) where
  pub told_accepted : (o : Answer × A) → Answered size before o.1 o.0 → (r : N) (after : A) → (r, after) ≡ told F o → number r ≡ 0 → OfAccepted F o r after
  unfolding told
  told_accepted (accepted row n, x) a r after p z = record { row = row; used = n; reply = ap (λ (y : N × A). y.0) p; is = ap (λ (y : N × A). (accepted row n, y.1)) (sym p) }
  told_accepted (refused e, x) a r after p z = let y : number r ≡ e.number = ap (λ (y : N × A). number y.0) p ∙ refusal e in absurd (omega (arith, a.0.least))

module _ {N : Type 0} (F : Answer → N) (number : N → ℕ) (refusal : (e : Refusal) → number (F (refused e)) ≡ e.number) where
  of_told : (m : Message) → proper m ≡ true → (w : Bool) (v : ℕ) (s : List ℕ) (room after : Tables) (r : N) → (r, after) ≡ told F (read_answer w m (pos v) room s) → number r ≡ 0 → Accepted F w m v s room r after
  of_told m h w v s room after r p z =
      let a = told_accepted F number refusal (length s) room _ (read_answered w m (pos v) room s) r after p z in
      record { row = a.row; used = a.used; reply = a.reply; says = says m h w v s room a.row a.used after a.is }

  -- and the other direction
  pub told_taken : (m : Message) (w : Bool) (v : ℕ) (s : List ℕ) (n : ℕ) (x : Value (List ℕ) (shape m v)) (t : Taken w m v s n x) (room after : Tables) (r : N) → needed (widths m) (drop 1 t.rows) room ≡ none →
      (r, after) ≡ told F (read_answer w m (pos v) room s) → (r ≡ F (accepted (get_or t.rows 0 []) n)) × (after ≡ laid (drop 1 t.rows) room)
  unfolding told
  told_taken m w v s n x t room after r k p =
      let q : ◌≡◌ {A = N × Tables} (r, after) (F (accepted (get_or t.rows 0 []) n), laid (drop 1 t.rows) room) = p ∙ ap (λ (o : Answer × Tables). (F o.0, o.1)) (t.taken room k) in
      (ap (λ (y : N × Tables). y.0) q, ap (λ (y : N × Tables). y.1) q)

-- ---- each entry point that reads a body: what it accepts means those bytes

module _ (v : ℕ) (msg : List ℕ) (room after : Tables) where
  pub read_api_versions_response : (whole : ℕ) (r : ResponseNumbers) → (r, after) ≡ told response_numbers (read_answer (is_set whole) Api.response (pos v) room msg) → r.number ≡ 0 → Accepted response_numbers (is_set whole) Api.response v msg room r after
  read_api_versions_response whole = of_told response_numbers (λ x. x.number) (λ e. refl) Api.response Proper.api_response (is_set whole) v msg room after

  pub read_api_versions_request : (r : RequestNumbers) → (r, after) ≡ told request_numbers (prefix_read Api.request (pos v) room msg) → r.number ≡ 0 → Accepted request_numbers false Api.request v msg room r after
  unfolding prefix_read
  read_api_versions_request = of_told request_numbers (λ x. x.number) (λ e. refl) Api.request Proper.api_request false v msg room after

  pub read_metadata_response : (r : MetadataNumbers) → (r, after) ≡ told metadata_numbers (prefix_read Metadata.response (pos v) room msg) → r.answer.number ≡ 0 → Accepted metadata_numbers false Metadata.response v msg room r after
  unfolding prefix_read
  read_metadata_response = of_told metadata_numbers (λ x. x.answer.number) (λ e. refl) Metadata.response Proper.metadata_response_lem false v msg room after

  pub read_fetch_response : (r : FetchNumbers) → (r, after) ≡ told fetch_numbers (prefix_read Fetch.response (pos v) room msg) → r.answer.number ≡ 0 → Accepted fetch_numbers false Fetch.response v msg room r after
  unfolding prefix_read
  read_fetch_response = of_told fetch_numbers (λ x. x.answer.number) (λ e. refl) Fetch.response Proper.fetch_response_lem false v msg room after

-- the four that write a body, m being its message: what they accept are those bytes
pub written : (m : Message) (v : ℕ) (lent : List ℕ) (st : Tables) (out after : List ℕ) (r : Numbers) → (r, after) ≡ told numbers (write_answer m (pos v) lent st out) → r.number ≡ 0 →
    (r.used ≡ length (bytes_of m v lent st)) × (after ≡ bytes_of m v lent st ++ drop r.used out)
written m v lent st out after r p z =
    let a = told_accepted numbers (λ x. x.number) (λ e. refl) 0 out _ (write_answered m (pos v) lent st out) r after p z in
    let c = written_bytes m v lent st out a.row a.used after a.is in
    let x : r.used ≡ a.used = ap (λ (y : Numbers). y.used) a.reply in
    (x ∙ c.1, c.0 ∙ ap (λ (k : ℕ). bytes_of m v lent st ++ drop k out) (sym x))
