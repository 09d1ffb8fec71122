-- What a write takes from the rows of a value is that value, each text the part of the lent bytes that its cells name: for every shape.
use mathlib.Core.Bool.{Bool, cond, false, true}
use mathlib.Core.List.{List, [], ◌++◌, ◌∷◌, map}
use mathlib.Core.Option.{none, some}
use mathlib.Core.Path.{◌∙◌, ◌≡◌, ap, refl}
use Prim.Native.Nat.{◌<◌, suc, ℕ}
use lib.Dec.{ltb}
use lib.ListN.{get_or, length, length-replicate}
use lib.Seq.{drop_at, get_or-set_same, set-get_or, set-set, take_at}
use Rattle.layout.specs.Primitives.{Maybe, keeps, minus}
use Rattle.layout.specs.Rows.{Basic, BasicValue, Shape, Value, absent, array, blob, boolean, end, field, lacking, level, natural, number, optional, text}
use Rattle.layout.specs.Tables.{Span, Tables, absent_cells, absent_count, basic_of, cells, chosen, count, items_of, pop, slice, span, span_of, times, value_of, width}
use Rattle.layout.proofs.Tests.{not_minus}
use Rattle.layout.proofs.Link.{items_cell, map_basic, map_maybe, map_value}
use Rattle.layout.proofs.Every.{All, Every, EveryMaybe, Few, Within, list_of}
use Rattle.layout.proofs.Same.{lay, lay_all, length_push, push}

pub pop_push : (t w : ℕ) (cs : List ℕ) (st : Tables) → t < length st → length cs ≡ w → pop t w (push t cs st) ≡ (cs, st)
unfolding pop push
pop_push t w cs st h l =
    let r = get_or st t [] in
    rw (get_or-set_same st t (cs ++ r) [] h, take_at cs r w l, drop_at cs r w l, set-set st t (cs ++ r) r, set-get_or st t [])

-- ---- what `d` takes of what `g` laid is x

pub record Takes {A : Type 0} (N : ℕ) (d : Tables → A × Tables) (g : Tables → Tables) (x : A) : Type 0 where
  pub law : (st : Tables) → length st ≡ N → d (g st) ≡ (x, st)
  pub stays : (st : Tables) → length st ≡ N → length (g st) ≡ N

module _ {N : ℕ} where
  pub takes_none : {A : Type 0} (x : A) → Takes N (λ st. (x, st)) (λ st. st) x
  takes_none x = record { law = λ st e. refl; stays = λ st e. e }

  pub takes_map : {A B : Type 0} (f : A → B) (d : Tables → A × Tables) (g : Tables → Tables) (x : A) → Takes N d g x → Takes N (λ st. (f (d st).0, (d st).1)) g (f x)
  takes_map f d g x a = record { law = λ st e. rw (a.law st e); stays = a.stays }

  -- first x, then y: before y's rows come x's
  pub takes_then : {A B : Type 0} (d : Tables → A × Tables) (g : Tables → Tables) (x : A) (d' : Tables → B × Tables) (g' : Tables → Tables) (y : B) → Takes N d g x → Takes N d' g' y →
      Takes {A = A × B} N (λ st. (((d st).0, (d' (d st).1).0), (d' (d st).1).1)) (λ st. g (g' st)) (x, y)
  takes_then d g x d' g' y a b = record { law = λ st e. rw (a.law (g' st) (b.stays st e), b.law st e); stays = λ st e. a.stays (g' st) (b.stays st e) }

  -- cells in front of a row: they are taken, and what is left may look at them
  pub takes_push : {A : Type 0} (o w : ℕ) (cs : List ℕ) (d : List ℕ → Tables → A × Tables) (g : Tables → Tables) (x : A) → o < N → length cs ≡ w → Takes N (d cs) g x →
      Takes N (λ st. d (pop o w st).0 (pop o w st).1) (λ st. push o cs (g st)) x
  takes_push o w cs d g x h l a = record {
    law = λ st e. rw (pop_push o w cs (g st) (rw (a.stays st e) h) l) (a.law st e);
    stays = λ st e. length_push o _ _ ∙ a.stays st e;
  }

  pub takes_field : {A B : Type 0} (o w : ℕ) (cs : List ℕ) (f : List ℕ → A) (d : Tables → B × Tables) (g : Tables → Tables) (y : B) → o < N → length cs ≡ w → Takes N d g y →
      Takes {A = A × B} N (λ st. ((f (pop o w st).0, (d (pop o w st).1).0), (d (pop o w st).1).1)) (λ st. push o cs (g st)) (f cs, y)
  takes_field o w cs f d g y h l a = takes_push o w cs (λ cs st. ((f cs, (d st).0), (d st).1)) g _ h l (takes_map (λ y. (f cs, y)) d g y a)

span_width : (b : Bool) (x : Maybe b Span) → length (span b x) ≡ cond b 3 2
unfolding span
span_width true none = refl
span_width true (some x) = refl
span_width false x = refl

pub cells_width : (k : Basic) (x : BasicValue Span k) → length (cells k x) ≡ width k
unfolding cells width
cells_width (number w) x = refl
cells_width boolean x = refl
cells_width level x = refl
cells_width natural x = refl
cells_width (text z) x = span_width (keeps z) x
cells_width (blob z) x = span_width (keeps z) x
cells_width (optional d k) x = ap suc (cells_width k x)

pub absent_width : (k : Basic) → length (absent_cells k) ≡ width k
unfolding absent_cells width
absent_width (number w) = refl
absent_width boolean = refl
absent_width level = refl
absent_width natural = refl
absent_width (text z) = length-replicate _ 0
absent_width (blob z) = length-replicate _ 0
absent_width (optional d k) = length-replicate (suc (width k)) 0

pub count_is : (n : ℕ) → n < minus → count n ≡ n
unfolding count
count_is n h = rw (not_minus n h)

-- a count cell tells the items that are there
pub count_list : (A : Type 0) (b : Bool) (xs : Maybe b (List A)) → length (list_of b xs) < minus → count (items_cell A b xs) ≡ length (list_of b xs)
count_list A true none h = unfold count in refl
count_list A true (some xs) h = count_is (length xs) h
count_list A false xs h = count_is (length xs) h

module _ (b : List ℕ) (N : ℕ) (P : Span → Type 0) where
  span_is : (t : Bool) (x : Maybe t Span) → span_of b t (span t x) ≡ map_maybe (slice b) t x
  unfolding span_of span
  span_is true none = refl
  span_is true (some x) = refl
  span_is false x = refl

  basic_is : (k : Basic) (x : BasicValue Span k) → basic_of b k (cells k x) ≡ map_basic (slice b) k x
  unfolding basic_of cells chosen
  basic_is (number w) x = refl
  basic_is boolean x = elim x as (λ x. ltb 0 (cond x 1 0) ≡ x) [ true ↦ refl | false ↦ refl ]
  basic_is level x = refl
  basic_is natural x = refl
  basic_is (text z) x = span_is (keeps z) x
  basic_is (blob z) x = span_is (keeps z) x
  basic_is (optional d k) x = basic_is k x

  pub takes_all : {A B : Type 0} (d : Tables → B × Tables) (g : A → Tables → Tables) (f : A → B) (Q : A → Type 0) → ((x : A) → Q x → Takes N d (g x) (f x)) → (xs : List A) → All Q xs → Takes N (times (length xs) d) (lay_all g xs) (map f xs)
  unfolding times
  takes_all d g f Q h [] p = record { law = λ st e. refl; stays = λ st e. e }
  takes_all d g f Q h (x ∷ xs) p =
      let a = h x p.0 in
      let r = takes_all d g f Q h xs p.1 in
      record { law = λ st e. rw (a.law (lay_all g xs st) (r.stays st e), r.law st e); stays = λ st e. a.stays (lay_all g xs st) (r.stays st e) }

  takes_items : {A B : Type 0} (t : Bool) (d : Tables → B × Tables) (g : A → Tables → Tables) (f : A → B) (Q : A → Type 0) → ((x : A) → Q x → Takes N d (g x) (f x)) →
      (xs : Maybe t (List A)) → EveryMaybe (Few minus Q) t xs → Takes N (items_of t (items_cell A t xs) d) (lay_all g (list_of t xs)) (map_maybe (map f) t xs)
  unfolding items_of
  takes_items true d g f Q h none p = record { law = λ st e. (unfold count times in refl); stays = λ st e. e }
  takes_items true d g f Q h (some xs) p =
      let a = takes_all d g f Q h xs p.1 in
      record { law = λ st e. rw (count_is (length xs) p.0, not_minus (length xs) p.0, a.law st e); stays = a.stays }
  takes_items false d g f Q h xs p =
      let a = takes_all d g f Q h xs p.1 in
      record { law = λ st e. rw (count_is (length xs) p.0) (a.law st e); stays = a.stays }

  -- the theorem, for every shape
  pub takes : (l : Shape) (o : ℕ) (x : Value Span l) → o < N → Within N l → Every minus P l x → Takes N (value_of b l o) (lay l o x) (map_value (slice b) l x)
  unfolding value_of lay
  takes end o x h w v = takes_none tt
  takes (field k r) o x h w v =
      rw (← basic_is k x.0) (takes_field o (width k) (cells k x.0) (basic_of b k) _ _ _ h (cells_width k x.0) (takes r o x.1 h w v.1))
  takes (absent k r) o x h w v = takes_push o (width k) (absent_cells k) (λ cs. value_of b r o) _ _ h (absent_width k) (takes r o x h w v)
  takes (array z t i r) o x h w v =
      let items : List ℕ → Tables → Maybe (keeps z) (List (Value (List ℕ) i)) × Tables = λ cs. items_of (keeps z) (get_or cs 0 0) (value_of b i t) in
      takes_push o 1 (items_cell (Value Span i) (keeps z) x.0 ∷ []) (λ cs st. (((items cs st).0, (value_of b r o (items cs st).1).0), (value_of b r o (items cs st).1).1)) _ _ h refl
      (takes_then _ _ _ _ _ _ (takes_items (keeps z) (value_of b i t) (lay i t) (map_value (slice b) i) (Every minus P i) (λ y p. takes i t y w.0 w.1 p) x.0 v.0) (takes r o x.1 h w.2 v.1))
  takes (lacking z t i r) o x h w v = takes_push o 1 (absent_count z ∷ []) (λ cs. value_of b r o) _ _ h refl (takes r o x h w v)
