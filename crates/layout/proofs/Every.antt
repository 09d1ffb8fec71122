-- What holds of all texts and lists of a value.
use mathlib.Core.Bool.{Bool, false, true}
use mathlib.Core.List.{List, [], ◌++◌, ◌∷◌}
use mathlib.Core.Option.{none, some}
use Prim.Native.Nat.{◌<◌, ℕ}
use lib.ListN.{length}
use Rattle.layout.specs.Primitives.{Maybe, keeps}
use Rattle.layout.specs.Rows.{Basic, BasicValue, Shape, Value, absent, array, blob, boolean, end, field, lacking, level, natural, number, optional, text}

-- the tables that l names are among the first N
abbrev pub Within : ℕ → Shape → Type 0
Within N end = Unit {0}
Within N (field k r) = Within N r
Within N (absent k r) = Within N r
Within N (array z t i r) = (t < N) × Within N i × Within N r
Within N (lacking z t i r) = Within N r

abbrev pub All : {A : Type 0} → (A → Type 0) → List A → Type 0
All P [] = Unit {0}
All P (x ∷ xs) = P x × All P xs

-- P of what is there
abbrev pub EveryMaybe : {X : Type 0} → (X → Type 0) → (b : Bool) → Maybe b X → Type 0
EveryMaybe P true none = Unit {0}
EveryMaybe P true (some x) = P x
EveryMaybe P false x = P x

-- P of every item, and less than B items
abbrev pub Few : {A : Type 0} → ℕ → (A → Type 0) → List A → Type 0
Few B P xs = (length xs < B) × All P xs

-- the items that are there: null has none
abbrev pub list_of : {A : Type 0} (b : Bool) → Maybe b (List A) → List A
list_of true none = []
list_of true (some xs) = xs
list_of false xs = xs

pub few_list : {A : Type 0} (B : ℕ) (P : A → Type 0) (b : Bool) (xs : Maybe b (List A)) → 0 < B → EveryMaybe (Few B P) b xs → Few B P (list_of b xs)
few_list B P true none z h = (z, tt)
few_list B P true (some xs) z h = h
few_list B P false xs z h = h

-- P of every text, and less than B items in every list
module _ {X : Type 0} (B : ℕ) (P : X → Type 0) where
  abbrev pub EveryBasic : (k : Basic) → BasicValue X k → Type 0
  EveryBasic (number w) x = Unit {0}
  EveryBasic boolean x = Unit {0}
  EveryBasic level x = Unit {0}
  EveryBasic natural x = Unit {0}
  EveryBasic (text z) x = EveryMaybe P (keeps z) x
  EveryBasic (blob z) x = EveryMaybe P (keeps z) x
  EveryBasic (optional d k) x = EveryBasic k x

  abbrev pub Every : (l : Shape) → Value X l → Type 0
  Every end x = Unit {0}
  Every (field k r) x = EveryBasic k x.0 × Every r x.1
  Every (absent k r) x = Every r x
  Every (array z t i r) x = EveryMaybe (Few B (Every i)) (keeps z) x.0 × Every r x.1
  Every (lacking z t i r) x = Every r x

pub all_append : {A : Type 0} (P : A → Type 0) (xs ys : List A) → All P xs → All P ys → All P (xs ++ ys)
all_append P [] ys a b = b
all_append P (x ∷ xs) ys a b = (a.0, all_append P xs ys a.1 b)
