-- What is written comes back settled: what the version lacks absent, what was unset at its default, all else as it was lent. For every shape.
use mathlib.Core.Bool.{Bool, cond, false, true}
use mathlib.Core.List.{List, [], ◌∷◌, map, map-map}
use mathlib.Core.Option.{none, some}
use mathlib.Core.Path.{◌∙◌, ◌≡◌, ap, refl, sym}
use Prim.Native.Nat.{◌<◌, suc, zero, ℕ}
use lib.Dec.{eqb, eqb-suc-zero, lit<}
use lib.ListN.{drop, get_or, length, length-map, length-replicate, replicate}
use Rattle.layout.specs.Reading.{ok}
use Rattle.layout.specs.Primitives.{Maybe, Size, compact, empty, fixed, keeps, kept, minus, never, plain}
use Rattle.layout.specs.Rows.{Basic, BasicValue, Shape, Value, absent, array, blob, boolean, end, field, lacking, level, natural, number, optional, text}
use Rattle.layout.specs.Tables.{Span, Tables, absent_cells, absent_count, append, basic_of, cells, chosen, count, items_of, pop, read_rows, slice, span, span_of, times, value_of, width}
use Rattle.layout.specs.Answers.{meant}
use Rattle.layout.specs.Settled.{Shown, gone, gone_count, num, part, settled_cells, settled_count, settled_span, shown_cells, shown_span}
use Rattle.layout.proofs.Link.{items_cell, link, list_map, map_basic, map_maybe, map_value, under}
use Rattle.layout.proofs.Decode.{Takes, absent_width, cells_width, count_list, takes, takes_all, takes_field, takes_map, takes_none, takes_push, takes_then}
use Rattle.layout.proofs.Every.{Every, EveryMaybe, Few, Within, few_list, list_of}
use Rattle.layout.proofs.Parts.{Eating}
use Rattle.layout.proofs.Parts as Parts
use Rattle.layout.proofs.Same.{lay, lay_all, same_tables}
use Rattle.layout.proofs.Tests.{by_test, of_eq}
use Rattle.layout.proofs.Trip.{Laid}

-- ---- tables as a whole, followed as their counts say

-- what tables hold of a body of shape l: of each field its cells, of each array its count and its items
abbrev pub Held : Shape → Type 0
Held end = Unit {0}
Held (field k r) = List Shown × Held r
Held (absent k r) = List Shown × Held r
Held (array z t i r) = (ℕ × List (Held i)) × Held r
Held (lacking z t i r) = ℕ × Held r

-- what is made of the cells of a field and of the count of an array: where the version has them, and where it lacks them
pub record Telling : Type 0 where
  pub cells_of : Basic → List ℕ → List Shown
  pub absent_of : Basic → List ℕ → List Shown
  pub count_of : Size → ℕ → ℕ
  pub lacked_of : Size → ℕ → ℕ

-- rows are taken from the front, o is the table of the row at hand; and what is left of the tables
module _ (h : Telling) where
  unfoldable pub told : (l : Shape) → ℕ → Tables → Held l × Tables
  told end o st = (tt, st)
  told (field k r) o st = let x = pop o (width k) st in let y = told r o x.1 in ((h.cells_of k x.0, y.0), y.1)
  told (absent k r) o st = let x = pop o (width k) st in let y = told r o x.1 in ((h.absent_of k x.0, y.0), y.1)
  told (array z t i r) o st =
      let c = pop o 1 st in
      let x = times (count (get_or c.0 0 0)) (told i t) c.1 in
      let y = told r o x.1 in
      (((h.count_of z (get_or c.0 0 0), x.0), y.0), y.1)
  told (lacking z t i r) o st = let c = pop o 1 st in let y = told r o c.1 in ((h.lacked_of z (get_or c.0 0 0), y.0), y.1)

-- as they stand, and as they come back
abbrev pub as_is : List ℕ → Telling
as_is bytes = record { cells_of = shown_cells bytes; absent_of = shown_cells bytes; count_of = λ z c. c; lacked_of = λ z c. c }

abbrev pub as_back : List ℕ → Telling
as_back lent = record { cells_of = settled_cells lent; absent_of = λ k cs. gone k; count_of = settled_count; lacked_of = λ z c. gone_count z }

unfoldable pub shown : List ℕ → (l : Shape) → Tables → Held l × Tables
shown bytes l st = told (as_is bytes) l 0 st

unfoldable pub settled : List ℕ → (l : Shape) → Tables → Held l
settled lent l st = (told (as_back lent) l 0 st).0

-- ---- what a value is held as: by any tables that are read, and by those lent once they are settled

abbrev pub of_span : (b : Bool) → Maybe b (List ℕ) → List Shown
of_span true none = num 1 ∷ part [] ∷ []
of_span true (some x) = num 2 ∷ part x ∷ []
of_span false x = part x ∷ []

abbrev pub of_basic : (k : Basic) → BasicValue (List ℕ) k → List Shown
of_basic (number w) n = num n ∷ []
of_basic boolean b = num (cond b 1 0) ∷ []
of_basic level n = num n ∷ []
of_basic natural n = num n ∷ []
of_basic (text z) x = of_span (keeps z) x
of_basic (blob z) x = of_span (keeps z) x
of_basic (optional d k) x = num 2 ∷ of_basic k x

abbrev pub of_value : (l : Shape) → Value (List ℕ) l → Held l
of_value end x = tt
of_value (field k r) x = (of_basic k x.0, of_value r x.1)
of_value (absent k r) x = (gone k, of_value r x)
of_value (array z t i r) x = ((items_cell (Value (List ℕ) i) (keeps z) x.0, map (of_value i) (list_of (keeps z) x.0)), of_value r x.1)
of_value (lacking z t i r) x = (gone_count z, of_value r x)

-- ---- the tables that a read lays

module _ (b : List ℕ) where
  shown_span_lem : (t : Bool) (x : Maybe t Span) → shown_span b t (span t x) ≡ of_span t (map_maybe (slice b) t x)
  unfolding shown_span span
  shown_span_lem true none = unfold slice in refl
  shown_span_lem true (some x) = refl
  shown_span_lem false x = refl

  pub shown_basic : (k : Basic) (x : BasicValue Span k) → shown_cells b k (cells k x) ≡ of_basic k (map_basic (slice b) k x)
  unfolding shown_cells cells
  shown_basic (number w) x = refl
  shown_basic boolean x = refl
  shown_basic level x = refl
  shown_basic natural x = refl
  shown_basic (text z) x = shown_span_lem (keeps z) x
  shown_basic (blob z) x = shown_span_lem (keeps z) x
  shown_basic (optional d k) x = ap (λ (s : List Shown). num 2 ∷ s) (shown_basic k x)

  zero_span : (t : Bool) → shown_span b t (replicate (cond t 3 2) 0) ≡ shown_span [] t []
  unfolding shown_span slice
  zero_span true = refl
  zero_span false = refl

  zeros : (k : Basic) → shown_cells b k (replicate (width k) 0) ≡ shown_cells [] k []
  unfolding shown_cells width
  zeros (number w) = refl
  zeros boolean = refl
  zeros level = refl
  zeros natural = refl
  zeros (text z) = zero_span (keeps z)
  zeros (blob z) = zero_span (keeps z)
  zeros (optional d k) = ap (λ (s : List Shown). num 0 ∷ s) (zeros k)

  pub shown_absent : (k : Basic) → shown_cells b k (absent_cells k) ≡ gone k
  unfolding absent_cells gone
  shown_absent (number w) = unfold shown_cells in refl
  shown_absent boolean = unfold shown_cells in refl
  shown_absent level = unfold shown_cells in refl
  shown_absent natural = unfold shown_cells in refl
  shown_absent (text z) = zeros (text z)
  shown_absent (blob z) = zeros (blob z)
  shown_absent (optional d k) = unfold shown_cells in ap (λ (s : List Shown). num 0 ∷ s) (zeros k)

pub shown_lacking : (z : Size) → absent_count z ≡ gone_count z
unfolding gone_count
shown_lacking (fixed w never) = refl
shown_lacking (fixed w kept) = refl
shown_lacking (fixed w empty) = refl
shown_lacking (compact never) = refl
shown_lacking (compact kept) = refl
shown_lacking (compact empty) = refl
shown_lacking plain = refl

pub map_cell : {A B : Type 0} (t : Bool) (f : A → B) (xs : Maybe t (List A)) → items_cell A t xs ≡ items_cell B t (map_maybe (map f) t xs)
map_cell true f none = refl
map_cell true f (some xs) = sym (length-map xs f)
map_cell false f xs = sym (length-map xs f)

module _ (b : List ℕ) (N : ℕ) (P : Span → Type 0) where
  holds_items : {A B : Type 0} (t : Bool) (d : Tables → B × Tables) (g : A → Tables → Tables) (f : A → B) (Q : A → Type 0) → ((x : A) → Q x → Takes N d (g x) (f x)) →
      (xs : Maybe t (List A)) → EveryMaybe (Few minus Q) t xs → Takes N (times (count (items_cell A t xs)) d) (lay_all g (list_of t xs)) (map f (list_of t xs))
  holds_items t d g f Q h xs p =
      let k = few_list minus Q t xs (lit< tt) p in
      rw (count_list _ t xs k.0) (takes_all b N P d g f Q h (list_of t xs) k.1)

  -- the rows of a value that was read hold that value, and nothing else is left
  pub holds : (l : Shape) (o : ℕ) (x : Value Span l) → o < N → Within N l → Every minus P l x → Takes N (told (as_is b) l o) (lay l o x) (of_value l (map_value (slice b) l x))
  unfolding told lay
  holds end o x h w v = takes_none tt
  holds (field k r) o x h w v =
      rw (← shown_basic b k x.0) (takes_field o (width k) (cells k x.0) (shown_cells b k) _ _ _ h (cells_width k x.0) (holds r o x.1 h w v.1))
  holds (absent k r) o x h w v =
      rw (← shown_absent b k) (takes_field o (width k) (absent_cells k) (shown_cells b k) _ _ _ h (absent_width k) (holds r o x h w v))
  holds (array z t i r) o x h w v =
      let c = items_cell (Value Span i) (keeps z) x.0 in
      let items : List ℕ → Tables → List (Held i) × Tables = λ cs. times (count (get_or cs 0 0)) (told (as_is b) i t) in
      rw (← map_cell (keeps z) (map_value (slice b) i) x.0, list_map (map_value (slice b) i) (keeps z) x.0, map-map (of_value i) (map_value (slice b) i) (list_of (keeps z) x.0))
      (takes_push o 1 (c ∷ []) (λ cs st. (((get_or cs 0 0, (items cs st).0), (told (as_is b) r o (items cs st).1).0), (told (as_is b) r o (items cs st).1).1)) _ _ h refl
      (takes_then _ _ _ _ _ _ (takes_map (λ xs. (c, xs)) _ _ _ (holds_items (keeps z) (told (as_is b) i t) (lay i t) _ (Every minus P i) (λ y p. holds i t y w.0 w.1 p) x.0 v.0)) (holds r o x.1 h w.2 v.1)))
  holds (lacking z t i r) o x h w v =
      rw (← shown_lacking z) (takes_field o 1 (absent_count z ∷ []) (λ cs. get_or cs 0 0) _ _ _ h refl (holds r o x h w v))

-- ---- the tables that are lent to a writer, settled

module _ (lent : List ℕ) where
  settled_span_lem : (t : Bool) (cs : List ℕ) → settled_span lent t cs ≡ of_span t (span_of lent t cs)
  unfolding settled_span span_of shown_span
  settled_span_lem true cs = by_test (eqb (get_or cs 0 0) 2) (λ d. rw (d, of_eq (get_or cs 0 0) 2 d)) (λ d. rw d)
  settled_span_lem false cs = refl

  chosen_is : (d cs : List ℕ) → cond (eqb (get_or cs 0 0) 0) d (drop 1 cs) ≡ chosen d cs
  unfolding chosen
  chosen_is d [] = refl
  chosen_is d (zero ∷ cs) = refl
  chosen_is d (suc k ∷ cs) = rw (eqb-suc-zero k)

  settled_basic : (k : Basic) (cs : List ℕ) → settled_cells lent k cs ≡ of_basic k (basic_of lent k cs)
  unfolding settled_cells basic_of
  settled_basic (number w) cs = unfold shown_cells in refl
  settled_basic boolean cs = refl
  settled_basic level cs = unfold shown_cells in refl
  settled_basic natural cs = unfold shown_cells in refl
  settled_basic (text z) cs = settled_span_lem (keeps z) cs
  settled_basic (blob z) cs = settled_span_lem (keeps z) cs
  settled_basic (optional d k) cs = ap (λ (s : List Shown). num 2 ∷ s) (ap (settled_cells lent k) (chosen_is d cs) ∙ settled_basic k (chosen d cs))

-- f tells of what d takes, and leaves the same
record Tells {A B : Type 0} (f : Tables → B × Tables) (d : Tables → A × Tables) (g : A → B) : Type 0 where
  law : (st : Tables) → f st ≡ (g (d st).0, (d st).1)

tells_times : {A B : Type 0} (f : Tables → B × Tables) (d : Tables → A × Tables) (g : A → B) → Tells f d g → (n : ℕ) → Tells (times n f) (times n d) (map g)
unfolding times
tells_times f d g h zero = record { law = λ st. refl }
tells_times f d g h (suc n) = record { law = λ st. rw (h.law st, (tells_times f d g h n).law (d st).1) }

length_times : {A : Type 0} (d : Tables → A × Tables) (n : ℕ) (st : Tables) → length (times n d st).0 ≡ n
unfolding times
length_times d zero st = refl
length_times d (suc n) st = ap suc (length_times d n (d st).1)

tells_items : {A B : Type 0} (z : Size) (t : Bool) (c : ℕ) (f : Tables → B × Tables) (d : Tables → A × Tables) (g : A → B) → Tells f d g → keeps z ≡ t → (st : Tables) →
    ◌≡◌ {A = (ℕ × List B) × Tables} ((settled_count z c, (times (count c) f st).0), (times (count c) f st).1)
    ((items_cell A t (items_of t c d st).0, map g (list_of t (items_of t c d st).0)), (items_of t c d st).1)
unfolding items_of settled_count count times
tells_items {A} {B} z true c f d g h k st =
    rw (k, (tells_times f d g h (count c)).law st)
    (by_test (eqb c minus) (λ e. rw e (λ i. ((of_eq c minus e i, []), st))) (λ e. rw e (λ i. ((sym (length_times d c st) i, map g (times c d st).0), (times c d st).1))))
tells_items {A} {B} z false c f d g h k st =
    rw (k, (tells_times f d g h (count c)).law st) (λ i. ((sym (length_times d (count c) st) i, map g (times (count c) d st).0), (times (count c) d st).1))

-- settled, the tables hold the value that they mean
settles : (lent : List ℕ) (l : Shape) (o : ℕ) → Tells (told (as_back lent) l o) (value_of lent l o) (of_value l)
unfolding told value_of
settles lent end o = record { law = λ st. refl }
settles lent (field k r) o = record { law = λ st. rw (settled_basic lent k (pop o (width k) st).0, (settles lent r o).law (pop o (width k) st).1) }
settles lent (absent k r) o = record { law = λ st. rw ((settles lent r o).law (pop o (width k) st).1) }
settles lent (array z t i r) o = record {
  law = λ st.
      let c = pop o 1 st in
      let e = tells_items z (keeps z) (get_or c.0 0 0) (told (as_back lent) i t) (value_of lent i t) (of_value i) (settles lent i t) refl c.1 in
      ap (λ (u : (ℕ × List (Held i)) × Tables). ((u.0, (told (as_back lent) r o u.1).0), (told (as_back lent) r o u.1).1)) e
      ∙ rw ((settles lent r o).law (items_of (keeps z) (get_or c.0 0 0) (value_of lent i t) c.1).1);
}
settles lent (lacking z t i r) o = record { law = λ st. rw ((settles lent r o).law (pop o 1 st).1) }

-- ---- the theorems

-- what a read lays holds the value that it means, and nothing else
pub read_holds : (q : Bool) (l : Shape) (N : ℕ) (msg : List ℕ) (su : Tables) (n : ℕ) → 0 < N → Within N l → Eating l → length msg < minus →
    read_rows q append l 0 (replicate N []) 0 msg ≡ ok su n → told (as_is msg) l 0 su ≡ (of_value l (meant msg su l), replicate N [])
unfolding meant
read_holds q l N msg su n first names eats small e =
    let u = under _ _ _ (link q append l 0 (replicate N [])) 0 msg tt su n e in
    let i : su ≡ lay l 0 u.x (replicate N []) = sym u.is ∙ same_tables N l 0 u.x in
    let s = (Parts.shown minus q l msg u.x n small eats u.reads).inside_it in
    let f = ap (value_of msg l 0) i ∙ (takes msg N _ l 0 u.x first names s).law (replicate N []) (length-replicate N []) in
    let g = ap (told (as_is msg) l 0) i ∙ (holds msg N _ l 0 u.x first names s).law (replicate N []) (length-replicate N []) in
    g ∙ ap (λ (v : Value (List ℕ) l × Tables). (of_value l v.0, replicate N [])) (sym f)

-- tables that are read and mean what the tables lent meant hold these settled, and nothing else
pub comes_settled : (q : Bool) (l : Shape) (N : ℕ) (lent : List ℕ) (st : Tables) (msg : List ℕ) (n : ℕ) → 0 < N → Within N l → Eating l → length msg < minus →
    (d : Laid q l N msg (meant lent st l) n) → shown msg l d.st ≡ (settled lent l st, replicate N [])
unfolding shown settled
comes_settled q l N lent st msg n first names eats small d =
    let e = read_holds q l N msg d.st n first names eats small d.reads in
    let f : of_value l (meant msg d.st l) ≡ (told (as_back lent) l 0 st).0 = ap (of_value l) d.means ∙ (unfold meant in sym (ap (λ (u : Held l × Tables). u.0) ((settles lent l 0).law st))) in
    e ∙ ap (λ (u : Held l). (u, replicate N [])) f
