-- What a line is answered, and in which words.
use Rattle.std.specs.Prelude.{ℕ, List, ◌++◌, Ok, Err, Result, codes, decimal}
use Rattle.book.specs.Codes.{code}
use Rattle.book.specs.Words.{refused_at}
use Rattle.book.specs.declared.refusal.Refusal.{Refusal}

-- the number of the line, or the number and place of the rule that refuses it
pub data Reply : Type 0 where
  taken : ℕ → Reply
  refused : ℕ × ℕ → Reply

-- an answer by its numbers
abbrev pub reply_of : Result ℕ Refusal → Reply
reply_of (Ok number) = taken number
reply_of (Err refusal) = refused (code refusal)

-- in words
abbrev pub answer_said : Reply → List ℕ
answer_said (taken number) = codes "line " ++ decimal number
answer_said (refused code) = codes "line " ++ refused_at code
