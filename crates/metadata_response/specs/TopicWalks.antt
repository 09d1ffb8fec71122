-- What the walks over topics, partitions and nodes say. Table 2 is that of topics, 3 partitions, 4 replicas, 5 in-sync replicas.
use Rattle.std.specs.Prelude.{List, [], ◌∷◌, ◌≡◌, ℕ, Ok, Err}
use Rattle.layout.specs.Reading.{Res, bad, ok}
use Rattle.primitives.specs.Answers.{Read, of_read, of_refusal}
use Rattle.body_reading.specs.Store.{State, Tab, store, tab}
use Rattle.body_reading.specs.Walk.{on, row_from}
use Rattle.metadata_response.specs.TopicShapes.{partition_front}
use Rattle.metadata_response.specs.declared.marks.Marks.{Marks}
use Rattle.metadata_response.specs.declared.partitions.PartitionRow.{PartitionRow}
use Rattle.metadata_response.specs.declared.topics.TopicRow.{TopicRow}

-- ---- partitions and topics: the tables in front may be anything

pub record Before : Type 0 where
  pub row : Tab
  pub brokers : Tab
  pub topics : List ℕ

abbrev pub in_partitions : List ℕ → List ℕ → List ℕ → Marks → Before → State
in_partitions ps rs is m e = e.row ∷ e.brokers ∷ tab e.topics m.topics ∷ tab ps m.partitions ∷ tab rs m.replicas ∷ tab is m.synced ∷ []

abbrev pub partitions_is : List ℕ → List ℕ → List ℕ → Read Marks → Before → Res State
partitions_is ps rs is (Ok t) e = ok (in_partitions ps rs is t.value e) t.next
partitions_is ps rs is (Err c) e = bad (of_refusal c)

abbrev pub in_topics : List ℕ → List ℕ → List ℕ → List ℕ → Marks → Tab × Tab → State
in_topics ts ps rs is m e = e.0 ∷ e.1 ∷ tab ts m.topics ∷ tab ps m.partitions ∷ tab rs m.replicas ∷ tab is m.synced ∷ []

abbrev pub topics_is : List ℕ → List ℕ → List ℕ → List ℕ → Read Marks → Tab × Tab → Res State
topics_is ts ps rs is (Ok t) e = ok (in_topics ts ps rs is t.value e) t.next
topics_is ts ps rs is (Err c) e = bad (of_refusal c)

abbrev pub no_marks : Marks
no_marks = record { topics = 0; partitions = 0; replicas = 0; synced = 0 }

-- ---- the cells in front of arrays

abbrev pub partition_cells : PartitionRow → List ℕ
partition_cells x = x.error ∷ x.index ∷ x.leader ∷ []

abbrev pub of_partition_row : Read PartitionRow → Res (List ℕ)
of_partition_row r = of_read partition_cells r

-- the row of the partition at p, stored with the counts of its arrays
pub record RowStored (s : List ℕ) (p : ℕ) (l : List ℕ) (k count synced : ℕ) (l' : List ℕ) (r : ℕ) : Type 0 where
  pub law : (a b c q : ℕ) → ok (a ∷ b ∷ c ∷ []) q ≡ on (row_from [] partition_front) s p → tab l' r ≡ store (tab l k) (a ∷ b ∷ c ∷ count ∷ synced ∷ [])

abbrev pub topic_cells : TopicRow → List ℕ
topic_cells x = x.error ∷ x.name.start ∷ x.name.len ∷ x.internal ∷ []

abbrev pub of_topic_row : Read TopicRow → Res (List ℕ)
of_topic_row r = of_read topic_cells r
