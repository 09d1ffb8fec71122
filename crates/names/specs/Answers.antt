-- What an answer of a call that writes says in the definition's words, with the name of its refusal. Assumes nothing.
use Rattle.std.specs.Prelude.{ℕ, List, [], Result, Ok, Err}
use Rattle.layout.specs.Answers.{Answer, accepted, refused}
use Rattle.names.specs.Walks.{of_named}
use Rattle.names.specs.declared.Named.{Named}

-- how many bytes were written, or the refusal
abbrev pub BodyWritten : Type 0
BodyWritten = Result ℕ Named

-- writers have no row to show
abbrev pub of_body_written : BodyWritten → Answer
of_body_written (Ok n) = accepted [] n
of_body_written (Err e) = refused (of_named e)

-- the answer, and the output after it
abbrev pub body_replied : BodyWritten → List ℕ → Answer × List ℕ
body_replied r d = (of_body_written r, d)
