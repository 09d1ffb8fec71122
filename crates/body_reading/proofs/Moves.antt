-- A primitive at another place: its value, its bytes and its refusals are the same, and starts and places count from there. One law for each kind of field.
use mathlib.Core.Bool.{Bool, ◌&&◌, cond, false, true}
use mathlib.Core.List.{List}
use mathlib.Core.Option.{none, some}
use mathlib.Core.Path.{◌∙◌, ◌≡◌, ap, refl, sym}
use Prim.Native.Nat.{◌+◌, ◌<◌, suc, zero, ℕ}
use native.Mathlib.Nat.{add_assoc, add-zero}
use native.Mathlib.Omega.{arith}
use lib.Dec.{eqb, leb}
use lib.ListN.{drop, length, length-drop, take}
use Rattle.layout.specs.Reading.{Reader, Refusal, Res, bad, because, fail, fail_at, give, here, more, next, ok, pick, placed, raw, single, then}
use Rattle.layout.specs.Primitives.{Maybe, Size, Width, cell, checked, compact, fixed, flag, groups, int, keeps, length_of, plain, sized, unsigned, w8}
use Rattle.layout.specs.Rows.{Basic, BasicValue, blob, boolean, level, natural, number, optional, text}
use Rattle.layout.specs.Read.{by_place, read_basic, read_blob, read_text}
use Rattle.layout.specs.Tables.{Span}
use Rattle.layout.specs.Utf8.{utf8, well_formed}
use Rattle.layout.proofs.Steps.{piece}
use Rattle.layout.proofs.Local.{Local}
use Rattle.body_reading.specs.Walk.{item_count, on}

-- d further on: g is what becomes of the value
abbrev pub moved : {A : Type 0} → ℕ → (A → A) → Res A → Res A
moved d g (ok x n) = ok (g x) n
moved d g (bad e) = bad (because e.number (d + e.place))

pub record Moves {A : Type 0} (r : Reader A) (g : ℕ → A → A) : Type 0 where
  pub law : (d p : ℕ) (s : List ℕ) → r (d + p) s ≡ moved d (g d) (r p s)

-- a value that has no place in it
abbrev pub still : {A : Type 0} → ℕ → A → A
still d x = x

moves_give : {A : Type 0} (x : A) → Moves (give x) still
unfolding give
moves_give x = record { law = λ d p s. refl }

moves_fail : {A : Type 0} (e : ℕ) (g : ℕ → A → A) → Moves (fail e) g
unfolding fail
moves_fail e g = record { law = λ d p s. refl }

moves_pick : {A : Type 0} (b : Bool) (r q : Reader A) (g : ℕ → A → A) → Moves r g → Moves q g → Moves (pick b r q) g
unfolding pick
moves_pick true r q g h k = h
moves_pick false r q g h k = k

moves_raw : (n : ℕ) → Moves (raw n) still
unfolding raw
moves_raw n = record { law = λ d p s. go d p s (leb n (length s)) }
  where
    go : (d p : ℕ) (s : List ℕ) (b : Bool) → cond b (ok (take n s) n) (bad (because 3 (d + p))) ≡ moved d (still d) (cond b (ok (take n s) n) (bad (because 3 p)))
    go d p s true = refl
    go d p s false = refl

moves_single : {A : Type 0} (t : Bool) (r : Reader A) (g : ℕ → A → A) → Moves r g → Moves (single t r) g
unfolding single
moves_single {A} t r g h = record { law = λ d p s. ap (placed t (d + p)) (h.law d p s) ∙ go d p (r p s) }
  where
    kept : (d p : ℕ) (e : Refusal) (b : Bool) → bad (cond b (because e.number (d + e.place)) (because e.number (d + p))) ≡ moved d (g d) (bad (cond b e (because e.number p)))
    kept d p e true = refl
    kept d p e false = refl

    go : (d p : ℕ) (o : Res A) → placed t (d + p) (moved d (g d) o) ≡ moved d (g d) (placed t p o)
    go d p (ok x n) = refl
    go d p (bad e) = kept d p e (t && eqb e.number 7)

more_moved : {A : Type 0} (d n : ℕ) (g : A → A) (o : Res A) → more n (moved d g o) ≡ moved d g (more n o)
more_moved d n g (ok x m) = refl
more_moved d n g (bad e) = refl

-- the second reader, behind a value that is still
moves_then : {A B : Type 0} (r : Reader A) (f : A → Reader B) (g : ℕ → B → B) → Moves r still → ((x : A) → Moves (f x) g) → Moves (then r f) g
unfolding then
moves_then {A} {B} r f g h k = record { law = λ d p s. ap (λ o. next o f (d + p) s) (h.law d p s) ∙ go d p s (r p s) }
  where
    go : (d p : ℕ) (s : List ℕ) (o : Res A) → next (moved d (still d) o) f (d + p) s ≡ moved d (g d) (next o f p s)
    go d p s (ok x n) = ap (λ (j : ℕ). more n (f x j (drop n s))) (add_assoc d p n) ∙ ap (more n) ((k x).law d (p + n) (drop n s)) ∙ more_moved d n (g d) (f x (p + n) (drop n s))
    go d p s (bad e) = refl

-- and behind one that moves
moves_both : {A B : Type 0} (r : Reader A) (g : ℕ → A → A) (f : A → B) (h : ℕ → B → B) → Moves r g → ((d : ℕ) (x : A) → f (g d x) ≡ h d (f x)) → Moves (then r (λ x. give (f x))) h
unfolding then give
moves_both {A} {B} r g f h k e = record { law = λ d p s. ap (λ o. next o (λ x. give (f x)) (d + p) s) (k.law d p s) ∙ go d p s (r p s) }
  where
    go : (d p : ℕ) (s : List ℕ) (o : Res A) → next (moved d (g d) o) (λ x. give (f x)) (d + p) s ≡ moved d (h d) (next o (λ x. give (f x)) p s)
    go d p s (ok x n) = ap (λ (y : B). ok y (n + 0)) (e d x)
    go d p s (bad c) = refl

moves_int : (k : ℕ) → Moves (int k) still
unfolding int
moves_int k = moves_then _ _ _ (moves_raw k) (λ b. moves_give _)

moves_groups : (k m a : ℕ) → Moves (groups k m a) still
unfolding groups
moves_groups zero m a = moves_then _ _ _ (moves_int 1) (λ b. moves_pick _ _ _ _ (moves_give _) (moves_fail _ _))
moves_groups (suc k) m a = moves_then _ _ _ (moves_int 1) (λ b. moves_pick _ _ _ _ (moves_give _) (moves_groups k _ _))

pub moves_unsigned : Moves unsigned still
unfolding unsigned
moves_unsigned = moves_single _ _ _ (moves_groups _ _ _)

pub moves_cell : (w : Width) → Moves (cell w) still
unfolding cell
moves_cell w = moves_then _ _ _ (moves_int _) (λ n. moves_give _)

pub moves_flag : Moves flag still
unfolding flag
moves_flag = moves_then _ _ _ (moves_int 1) (λ n. moves_give _)

pub moves_length : (z : Size) → Moves (length_of unsigned z) still
unfolding length_of
moves_length (fixed w m) = moves_then _ _ _ (moves_int _) (λ n. moves_pick _ _ _ _ (moves_give _) (moves_pick _ _ _ _ (moves_give _) (moves_fail _ _)))
moves_length (compact m) = moves_unsigned
moves_length plain = moves_then _ _ _ moves_unsigned (λ n. moves_give _)

pub moves_checked : (a : Bool) (e : ℕ) (z : Size) → Moves (checked a e (length_of unsigned z)) still
unfolding checked
moves_checked a e z = moves_single _ _ _ (moves_then _ _ _ (moves_length z) (λ n. moves_pick _ _ _ _ (moves_pick _ _ _ _ (moves_give _) (moves_fail _ _)) (moves_give _)))

pub moves_items : (w : Bool) (z : Size) → Moves (item_count w z) still
unfolding item_count
moves_items w z = moves_then _ _ _ (moves_checked _ _ z) (λ n. moves_give _)

-- a part of the message
abbrev pub further : ℕ → Span → Span
further d x = (d + x.0, x.1)

abbrev pub further_maybe : (b : Bool) → ℕ → Maybe b Span → Maybe b Span
further_maybe true d none = none
further_maybe true d (some x) = some (further d x)
further_maybe false d x = further d x

moves_none : Moves (give none) (further_maybe true)
unfolding give
moves_none = record { law = λ d p s. refl }

moves_sized : (b a : Bool) (e : ℕ) (z : Size) (r : ℕ → Reader Span) → ((n : ℕ) → Moves (r n) further) → Moves (sized b a e (length_of unsigned z) r) (further_maybe b)
unfolding sized
moves_sized true a e z r h = moves_then _ _ _ (moves_checked true e z) (λ n. moves_pick _ _ _ _ moves_none (moves_both (r _) further some (further_maybe true) (h _) (λ d x. refl)))
moves_sized false a e z r h = moves_then _ _ _ (moves_checked a e z) (λ n. h _)

-- what of a field's value is a part
abbrev pub further_basic : (k : Basic) → ℕ → BasicValue Span k → BasicValue Span k
further_basic (number b) d x = x
further_basic boolean d x = x
further_basic level d x = x
further_basic natural d x = x
further_basic (text z) d x = further_maybe (keeps z) d x
further_basic (blob z) d x = further_maybe (keeps z) d x
further_basic (optional c k) d x = further_basic k d x

module _ (w : Bool) where
  part_moves : (n : ℕ) (ok-part : List ℕ → Bool) → Moves (piece ok-part (λ p b. (p, length b)) n) further
  unfolding here then pick give fail_at raw
  part_moves n good = record { law = λ d p s. go d p s (leb n (length s)) }
    where
      inner : (d p : ℕ) (s x : List ℕ) (c : Bool) → more n (pick c (give (d + p, length x)) (fail_at 7 (d + p + well_formed x)) (d + p + n) (drop n s)) ≡ moved d (further d) (more n (pick c (give (p, length x)) (fail_at 7 (p + well_formed x)) (p + n) (drop n s)))
      inner d p s x true = refl
      inner d p s x false = ap (λ (j : ℕ). bad (because 7 j)) (add_assoc d p (well_formed x))

      go : (d p : ℕ) (s : List ℕ) (b : Bool) → next (cond b (ok (take n s) n) (bad (because 3 (d + p)))) (λ x. pick (good x) (give (d + p, length x)) (fail_at 7 (d + p + well_formed x))) (d + p) s ≡ moved d (further d) (next (cond b (ok (take n s) n) (bad (because 3 p))) (λ x. pick (good x) (give (p, length x)) (fail_at 7 (p + well_formed x))) p s)
      go d p s true = inner d p s (take n s) (good (take n s))
      go d p s false = refl

  moves_text : (n : ℕ) → Moves (read_text (by_place w) n) further
  unfolding read_text
  moves_text n = part_moves n utf8

  moves_blob : (n : ℕ) → Moves (read_blob (by_place w) n) further
  unfolding read_blob pick
  moves_blob n = part_moves n (λ b. true)

  pub moves_basic : (k : Basic) → Moves (read_basic (by_place w) k) (further_basic k)
  unfolding read_basic
  moves_basic (number b) = moves_cell b
  moves_basic boolean = moves_flag
  moves_basic level = moves_cell w8
  moves_basic natural = moves_unsigned
  moves_basic (text z) = moves_single _ _ _ (moves_sized (keeps z) _ _ z _ moves_text)
  moves_basic (blob z) = moves_single _ _ _ (moves_sized (keeps z) _ _ z _ moves_blob)
  moves_basic (optional c k) = moves_basic k

-- ---- a step on what is left of the message, as a read at the place where that starts

module _ {A : Type 0} (r : Reader A) (g : ℕ → A → A) (h : Moves r g) (s left : List ℕ) (p : ℕ) (i : left ≡ drop p s) where
  on_moved : on r s p ≡ more p (moved p (g p) (r 0 left))
  unfolding on
  on_moved = ap (λ (k : ℕ). more p (r k (drop p s))) (sym (add-zero p)) ∙ ap (more p) (h.law p 0 (drop p s)) ∙ ap (λ t. more p (moved p (g p) (r 0 t))) (sym i)

  pub at_took : (x : A) (n : ℕ) → ok x n ≡ r 0 left → ok (g p x) (p + n) ≡ on r s p
  at_took x n e = ap (λ o. more p (moved p (g p) o)) e ∙ sym on_moved

  -- refused, at its own start or inside
  pub at_no_in : (e : Refusal) → bad e ≡ r 0 left → bad (because e.number (p + e.place)) ≡ on r s p
  at_no_in e b = ap (λ o. more p (moved p (g p) o)) b ∙ sym on_moved

  -- refused at its own start
  pub at_no : (c e : Refusal) → bad e ≡ r 0 left → e.place ≡ 0 → c ≡ because e.number p → bad c ≡ on r s p
  at_no c e b z d = ap bad (d ∙ ap (because e.number) (sym (add-zero p) ∙ ap (λ (k : ℕ). p + k) (sym z))) ∙ ap (λ o. more p (moved p (g p) o)) b ∙ sym on_moved

  -- the place behind it fits where p and the message's length do
  pub at_fits : Local r → (x : A) (n : ℕ) → ok x n ≡ r 0 left → (m : ℕ) → p < m → length s < m → p + n < m
  at_fits l x n e m a b = let f = (l.law 0 left x n (sym e)).fits in omega (arith, length-drop p s, ap length i)
