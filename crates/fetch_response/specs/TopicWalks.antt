-- What the walks over topics, partitions and aborted transactions say. Table 0 is the body's own row, 1 the topics, 2 partitions, 3 aborted transactions.
use Rattle.std.specs.Prelude.{List, [], ◌∷◌, ℕ, Result, Ok, Err}
use Rattle.layout.specs.Reading.{Res, bad, ok}
use Rattle.primitives.specs.Answers.{of_refusal}
use Rattle.primitives.specs.declared.Refusal.{Refusal}
use Rattle.body_reading.specs.Store.{State, Tab, tab}
use Rattle.fetch_response.specs.declared.marks.Marked.{Marked}
use Rattle.fetch_response.specs.declared.marks.Marks.{Marks}
use Rattle.fetch_response.specs.declared.partitions.PartitionRow.{PartitionRow}

-- ---- partitions: the tables in front may be anything

pub record Before : Type 0 where
  pub row : Tab
  pub topics : List ℕ

abbrev pub in_partitions : List ℕ → List ℕ → Marks → Before → State
in_partitions ps xs m e = e.row ∷ tab e.topics m.topics ∷ tab ps m.partitions ∷ tab xs m.aborted ∷ []

abbrev pub partitions_is : List ℕ → List ℕ → Result Marked Refusal → Before → Res State
partitions_is ps xs (Ok t) e = ok (in_partitions ps xs t.marks e) t.next
partitions_is ps xs (Err c) e = bad (of_refusal c)

-- the cells in front of the array
abbrev pub of_partition_row : Result PartitionRow Refusal → Res (List ℕ)
of_partition_row (Ok r) = ok (r.index ∷ r.error ∷ r.watermark ∷ r.offset ∷ []) r.next
of_partition_row (Err e) = bad (of_refusal e)

-- ---- topics

-- the body's own row may be anything
abbrev pub in_topics : List ℕ → List ℕ → List ℕ → Marks → Tab → State
in_topics ts ps xs m e = e ∷ tab ts m.topics ∷ tab ps m.partitions ∷ tab xs m.aborted ∷ []

abbrev pub topics_is : List ℕ → List ℕ → List ℕ → Result Marked Refusal → Tab → Res State
topics_is ts ps xs (Ok t) e = ok (in_topics ts ps xs t.marks e) t.next
topics_is ts ps xs (Err c) e = bad (of_refusal c)

abbrev pub no_marks : Marks
no_marks = record { topics = 0; partitions = 0; aborted = 0 }
