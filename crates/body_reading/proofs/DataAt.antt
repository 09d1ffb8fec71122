-- Counts, texts and data at a place of the message, from what the step on the rest gave: the number of items, parts of the message, texts that may be null, and data after a length that has no null.
use mathlib.Core.Bool.{Bool, false, not, true}
use mathlib.Core.List.{List}
use mathlib.Core.Path.{◌∙◌, ◌≡◌, ap, refl, sym}
use mathlib.Core.Option.{Option, none, some}
use Prim.Native.Nat.{◌+◌, ◌-◌, ◌<◌, ◌^◌, ◌≤◌, suc, zero, ℕ}
use native.Mathlib.Nat.{add-zero}
use native.Mathlib.Numerals.{add-one}
use native.Mathlib.Omega.{arith}
use lib.Dec.{eqb}
use lib.ListN.{drop, length, length-drop}
use borrow.Author.Tests.{ne_eqb}
use Rattle.layout.specs.Reading.{Reader, Refusal, Res, bad, because, fail, give, more, next, ok, pick, placed, primitive, single, then}
use Rattle.layout.specs.Primitives.{checked, compact, empty, fixed, kept, length_of, never, plain, sized, unsigned, w16, w32}
use Rattle.layout.specs.Rows.{Basic, blob, items, nullable_items, text}
use Rattle.primitives.specs.Answers.{of_refusal}
use Rattle.primitives.specs.declared.Refusal as Code
use Rattle.primitives.specs.Parts.{counted, data_behind, of_count, there}
use Rattle.std.specs.Prelude.{Some, None, Err, Option as Maybe}
use Rattle.primitives.specs.Answers.{Read, taken}
use Rattle.layout.specs.Read.{by_place, read_basic, read_blob}
use Rattle.layout.specs.Tables.{Span}
use Rattle.body_reading.specs.Walk.{item_count, on}
use Rattle.body_reading.specs.Moved.{FieldFits, PartFits, array_count, array_items, from_part, further, further_field, items_of}
use Rattle.layout.proofs.Local.{Local, local_basic, local_flag, local_unsigned, not_ok}
use Rattle.layout.proofs.Refusals.{tells_basic}
use Rattle.layout.proofs.Tests.{one_more}
use Rattle.body_reading.proofs.Chains.{give_took, part_inside, then_no, then_took, unsigned_place}
use Rattle.body_reading.proofs.Moves.{Moves, at_fits, at_no_in, at_took, further_basic, further_maybe, moves_basic}

module _ (len : Reader ℕ) (s : List ℕ) where
  one_less : (w : Bool) → items_of w (checked true 4 len 0 s) ≡ then (checked (not w) 8 len) (λ n. give (n - 1)) 0 s
  unfolding checked single then pick give fail
  one_less w = go w (len 0 s)
    where
      go : (w : Bool) (o : Res ℕ) → items_of w (placed false 0 (next o (λ n. pick (eqb n 0) (pick true (give 0) (fail 4)) (give n)) 0 s)) ≡ next (placed false 0 (next o (λ n. pick (eqb n 0) (pick (not w) (give 0) (fail 8)) (give n)) 0 s)) (λ n. give (n - 1)) 0 s
      go true (bad e) = refl
      go false (bad e) = refl
      go true (ok zero m) = refl
      go false (ok zero m) = ap (λ (k : ℕ). ok 0 k) (sym (add-zero (m + 0)))
      go w (ok (suc k) m) = let h : k ≡ suc k - 1 = omega arith in rw (ne_eqb (suc k) 0 (λ z. omega (arith, z))) (λ i. ok (h i) (sym (add-zero (m + 0)) i))

count_is : (c w : Bool) (s : List ℕ) → items_of w (counted (nullable_items c) 0 s) ≡ item_count w (items c) 0 s
unfolding counted item_count length_of
count_is true w s = one_less unsigned s w
count_is false w s = one_less _ s w

-- the same, of what code read
pub items_counted : (c w : Bool) (s : List ℕ) (o z : Res ℕ) → z ≡ items_of w o → o ≡ array_count c 0 s → z ≡ array_items c w 0 s
unfolding array_count array_items
items_counted c w s o z e d = e ∙ ap (items_of w) d ∙ count_is c w s

-- ---- each form, and each answer

pub compact_count : (f : Bool) (s : List ℕ) (z : Res ℕ) → z ≡ counted (compact kept) 0 s → f ≡ true → z ≡ array_count f 0 s
unfolding array_count
compact_count f s z e h = e ∙ ap (λ (b : Bool). counted (nullable_items b) 0 s) (sym h)

pub fixed_count : (f : Bool) (s : List ℕ) (z : Res ℕ) → z ≡ counted (fixed w32 kept) 0 s → f ≡ false → z ≡ array_count f 0 s
unfolding array_count
fixed_count f s z e h = e ∙ ap (λ (b : Bool). counted (nullable_items b) 0 s) (sym h)

module _ (w : Bool) (c : Read (Maybe ℕ)) where
  pub some_items : (k n : ℕ) → c ≡ taken (Some k) n → ok k n ≡ items_of w (of_count c)
  some_items k n e = rw e (rw (add-one k))

  pub no_items : (n : ℕ) → c ≡ taken None n → w ≡ false → ok 0 n ≡ items_of w (of_count c)
  no_items n e h = λ i. items_of (sym h i) (of_count (sym e i))

  pub null_items : (n : ℕ) → c ≡ taken None n → w ≡ true → (e : Refusal) → e ≡ because 8 0 → bad e ≡ items_of w (of_count c)
  null_items n e h r d = ap bad d ∙ (λ i. items_of (sym h i) (of_count (sym e i)))

  pub items_refused : (r : Code.Refusal) → c ≡ Err r → bad (of_refusal r) ≡ items_of w (of_count c)
  items_refused r e = ap (λ (n : Read (Maybe ℕ)). items_of w (of_count n)) (sym e)

-- what is inside the rest is inside the message
in_message_lem : (s left : List ℕ) (p : ℕ) → left ≡ drop p s → (a k m : ℕ) → a + k ≤ length left → p < m → length s < m → p + a < m
in_message_lem s left p i a k m j b c = omega (arith, length-drop p s, ap length i)

-- ---- a part

-- what it shows and what it refuses lies in what it is given
record Moved {A : Type 0} (r : Reader A) (g : ℕ → A → A) : Type 0 where
  moves : Moves r g
  local : Local r
  refuses : (left : List ℕ) (e : Refusal) → bad e ≡ r 0 left → e.place ≤ length left

moved_field : (k : Basic) → Moved (read_basic (by_place false) k) (further_basic k)
moved_field k = record {
  moves = moves_basic false k;
  local = local_basic (by_place false) local_unsigned local_flag k;
  refuses = λ left e h. let t = ((tells_basic false k).law 0 left e (sym h)).before_end in omega arith;
}

module _ {A : Type 0} (r : Reader A) (g : ℕ → A → A) (h : Moved r g) (s left : List ℕ) (p : ℕ) (i : left ≡ drop p s) (o : Res A) (e : o ≡ r 0 left) where
  at_part : (z : Res A) → z ≡ from_part g p o → z ≡ on r s p
  at_part z d = d ∙ go o e
    where
      go : (o : Res A) → o ≡ r 0 left → from_part g p o ≡ on r s p
      go (ok x n) e = at_took r g h.moves s left p i x n e
      go (bad c) e = at_no_in r g h.moves s left p i c e

  module _ (a : p < 2 ^ 64) (b : length s < 2 ^ 64) where
    behind_fits : (x : A) (n : ℕ) → o ≡ ok x n → p + n < 2 ^ 64
    behind_fits x n d = at_fits r g h.moves s left p i h.local x n (sym d ∙ e) (2 ^ 64) a b

    refused_fits : (c : Refusal) → o ≡ bad c → p + c.place < 2 ^ 64
    refused_fits c d = let k = h.refuses left c (sym d ∙ e) in in_message_lem s left p i c.place 0 (2 ^ 64) (omega arith) a b

-- shows a part of what it is given
pub record Shows (r : Reader Span) : Type 0 where
  moved : Moved r further
  inside : (left : List ℕ) (x : Span) (n : ℕ) → ok x n ≡ r 0 left → x.0 + x.1 ≤ length left

pub shows_string : Shows (read_basic (by_place false) (text (fixed w16 never)))
shows_string = record { moved = moved_field (text (fixed w16 never)); inside = λ left x n e. part_inside false (text (fixed w16 never)) left x n e }

pub shows_compact : Shows (read_basic (by_place false) (text (compact never)))
shows_compact = record { moved = moved_field (text (compact never)); inside = λ left x n e. part_inside false (text (compact never)) left x n e }

pub shows_records : Shows (read_basic (by_place false) (blob (fixed w32 empty)))
shows_records = record { moved = moved_field (blob (fixed w32 empty)); inside = λ left x n e. part_inside false (blob (fixed w32 empty)) left x n e }

module _ (r : Reader Span) (h : Shows r) (s left : List ℕ) (p : ℕ) (i : left ≡ drop p s) (o : Res Span) (e : o ≡ r 0 left) where
  pub part_fits : p < 2 ^ 64 → length s < 2 ^ 64 → PartFits p o
  part_fits a b = record {
    law = λ x n d. (in_message_lem s left p i x.0 x.1 (2 ^ 64) (h.inside left x n (sym d ∙ e)) a b, behind_fits r further h.moved s left p i o e a b x n d);
    inside = λ c d. refused_fits r further h.moved s left p i o e a b c d;
  }

  pub part_at : (z : Res Span) → z ≡ from_part further p o → z ≡ on r s p
  part_at z d = at_part r further h.moved s left p i o e z d

-- ---- a text that may be null

abbrev nullable : Reader (Option Span)
nullable = read_basic (by_place false) (text (fixed w16 kept))

module _ (s left : List ℕ) (p : ℕ) (i : left ≡ drop p s) (o : Res (Option (Option Span))) (e : o ≡ there (nullable 0 left)) where
  shown : (x : Option Span) (n : ℕ) → o ≡ ok (some x) n → nullable 0 left ≡ ok x n
  shown x n d = go (nullable 0 left) refl (sym d ∙ e)
    where
      go : (q : Res (Option Span)) → nullable 0 left ≡ q → ok (some x) n ≡ there q → nullable 0 left ≡ ok x n
      go (ok y m) g f = let a : y ≡ x = cc in let b : m ≡ n = cc in g ∙ (λ j. ok (a j) (b j))
      go (bad c) g f = not_ok (sym f)

  refused : (c : Refusal) → o ≡ bad c → nullable 0 left ≡ bad c
  refused c d = go (nullable 0 left) refl (sym d ∙ e)
    where
      go : (q : Res (Option Span)) → nullable 0 left ≡ q → bad c ≡ there q → nullable 0 left ≡ bad c
      go (ok y m) g f = not_ok f
      go (bad b) g f = let a : b ≡ c = cc in g ∙ ap bad a

  pub field_fits : p < 2 ^ 64 → length s < 2 ^ 64 → FieldFits p o
  field_fits a b = record {
    behind = λ x n d. all x n d;
    start = λ x n d. record { law = λ y f. let g = shown (some y) n (d ∙ ap (λ (z : Option (Option Span)). ok z n) f) in in_message_lem s left p i y.0 y.1 (2 ^ 64) (part_inside false (text (fixed w16 kept)) left (some y) n (sym g)) a b };
    inside = λ c d. refused_fits nullable (further_maybe true) (moved_field (text (fixed w16 kept))) s left p i (nullable 0 left) refl a b c (refused c d);
  }
    where
      all : (x : Option (Option Span)) (n : ℕ) → o ≡ ok x n → p + n < 2 ^ 64
      all (some y) n d = behind_fits nullable (further_maybe true) (moved_field (text (fixed w16 kept))) s left p i (nullable 0 left) refl a b y n (shown y n d)
      all none n d = none_not (nullable 0 left) (sym d ∙ e)
        where
          none_not : (q : Res (Option Span)) → ok none n ≡ there q → p + n < 2 ^ 64
          none_not (ok y m) f = absurd (let z : ◌≡◌ {A = ℕ} 0 1 = cc in omega arith)
          none_not (bad c) f = not_ok (sym f)

  pub field_at : (z : Res (Option (Option Span))) → z ≡ from_part further_field p o → z ≡ there (on nullable s p)
  field_at z d = d ∙ ap (from_part further_field p) e ∙ go (nullable 0 left) ∙ ap there (at_part nullable (further_maybe true) (moved_field (text (fixed w16 kept))) s left p i (nullable 0 left) refl _ refl)
    where
      go : (q : Res (Option Span)) → from_part further_field p (there q) ≡ there (from_part (further_maybe true) p q)
      go (ok none n) = refl
      go (ok (some x) n) = refl
      go (bad c) = refl

pub field_took : (p u : ℕ) (f : Option (Option Span)) (o : Res (Option (Option Span))) → ok f u ≡ o → (g : Option (Option Span)) → g ≡ further_field p f → ok g (p + u) ≡ from_part further_field p o
field_took p u f o d g e = ap (λ (z : Option (Option Span)). ok z (p + u)) e ∙ ap (from_part further_field p) d

-- a primitive at a place refuses there
on_primitive : {A : Type 0} (r : Reader A) (s : List ℕ) (p : ℕ) → placed false p (on r s p) ≡ on (primitive r) s p
unfolding on single
on_primitive {A} r s p = go (r p (drop p s))
  where
    go : (o : Res A) → placed false p (more p o) ≡ more p (placed false p o)
    go (ok x n) = refl
    go (bad e) = refl

module _ (s : List ℕ) (p : ℕ) where
  some_length : (n q : ℕ) → ok (n + 1) q ≡ on (pick (eqb (n + 1) 0) (pick false (give 0) (fail 6)) (give (n + 1))) s q
  unfolding pick
  some_length n q = rw (one_more n) (give_took (n + 1) s q)

  pub length_took : (n q : ℕ) → ok n q ≡ on unsigned s p → ok (n + 1) q ≡ on (checked false 6 (length_of unsigned plain)) s p
  unfolding checked length_of
  length_took n q h =
      ap (placed false p) (then_took (then unsigned (λ n. give (n + 1))) _ s p (then_took unsigned _ s p h (give_took (n + 1) s q)) (some_length n q))
      ∙ on_primitive _ s p

  -- a varint refuses at its own start
  unsigned_on : (c : Refusal) → bad c ≡ on unsigned s p → c ≡ because c.number p
  unfolding on
  unsigned_on c h = go (unsigned p (drop p s)) refl h
    where
      go : (o : Res ℕ) → unsigned p (drop p s) ≡ o → bad c ≡ more p o → c ≡ because c.number p
      go (ok x n) d e = not_ok e
      go (bad b) d e = unsigned_place p (drop p s) c (d ∙ sym e)

  pub length_no : (c : Refusal) → bad c ≡ on unsigned s p → bad c ≡ on (checked false 6 (length_of unsigned plain)) s p
  unfolding checked length_of
  length_no c h = ap bad (unsigned_on c h) ∙ ap (placed false p) (then_no (then unsigned (λ n. give (n + 1))) _ s p (then_no unsigned _ s p h)) ∙ on_primitive _ s p

  -- ---- and data of that length

  pub data_no : (c : Refusal) → bad c ≡ on unsigned s p → bad c ≡ on (read_basic (by_place false) (blob plain)) s p
  unfolding read_basic sized
  data_no c h = ap bad (unsigned_on c h) ∙ ap (placed false p) (then_no (checked false 6 (length_of unsigned plain)) _ s p (length_no c h)) ∙ on_primitive _ s p

  behind_on : (n q : ℕ) → data_behind p q n s ≡ placed false p (on (read_blob (by_place false) n) s q)
  unfolding data_behind on
  behind_on n q = refl

  pub data_behind_lem : (n q : ℕ) → ok n q ≡ on unsigned s p → data_behind p q n s ≡ on (read_basic (by_place false) (blob plain)) s p
  unfolding read_basic sized
  data_behind_lem n q h =
      let m : n ≡ n + 1 - 1 = omega arith in
      behind_on n q
      ∙ ap (placed false p) (then_took (checked false 6 (length_of unsigned plain)) _ s p (length_took n q h) (ap (λ (k : ℕ). on (read_blob (by_place false) k) s q) m))
      ∙ on_primitive _ s p
