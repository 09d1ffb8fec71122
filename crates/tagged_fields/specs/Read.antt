-- What the answers of the readers of tagged fields say in the definition's words.
use Rattle.std.specs.Prelude.{Bool, List, [], ◌∷◌, ℕ, Result, Ok, Err}
use Rattle.layout.specs.Reading.{Res, bad, ok}
use Rattle.layout.specs.Rows.{Value}
use Rattle.layout.specs.Tables.{Span}
use Rattle.layout.specs.Answers.{Answer, accepted, refused}
use Rattle.primitives.specs.Answers.{Read, of_read, of_refusal}
use Rattle.primitives.specs.Parts.{of_span}
use Rattle.primitives.specs.declared.Refusal.{Refusal}
use Rattle.body_reading.specs.Store.{State, Tab, store, tab}
use Rattle.body_reading.specs.Tagged.{tag_shape}
use Rattle.body_reading.specs.Walk.{Place, Places}
use Rattle.body_reading.specs.declared.walks.Counted.{Counted}
use Rattle.body_reading.specs.declared.walks.Filled.{Filled}
use Rattle.tagged_fields.specs.declared.reading.Tag.{Tag}

abbrev pub of_tag : Read Tag → Res (Value Span tag_shape)
of_tag r = of_read (λ t. (t.tag, (of_span t.data, tt))) r

-- the table of a walk over tags, wherever it stands among the others, in a whole read or not
abbrev pub in_table : List ℕ → ℕ → Bool × Place → State
in_table l k e = e.1.h (tab l k)

abbrev pub in_table_is : List ℕ → Result Filled Refusal → Bool × Place → Res State
in_table_is l (Ok a) e = ok (in_table l a.mark e) a.next
in_table_is l (Err c) e = bad (of_refusal c)

-- the table of the row so far and that of its tags, wherever they stand among the others
abbrev pub in_tables : List ℕ → ℕ → Bool × Places × Tab → State
in_tables l k e = e.1.h e.2 (tab l k)

-- the row has the number of tags
abbrev pub in_tables_is : List ℕ → Result Counted Refusal → Bool × Places × Tab → Res State
in_tables_is l (Ok a) e = ok (e.1.h (store e.2 (a.count ∷ [])) (tab l a.mark)) a.next
in_tables_is l (Err c) e = bad (of_refusal c)

abbrev pub of_tagged : Read ℕ → Answer
of_tagged (Ok t) = accepted (t.value ∷ []) t.next
of_tagged (Err e) = refused (of_refusal e)
