-- A book as the rules read it.
use Rattle.std.specs.Prelude.{[], ◌∷◌, ◌++◌, vec_items}
use Rattle.book.specs.Held.{Held, entries_of}
use Rattle.book.specs.declared.ledger.Book.{Book}
use Rattle.book.specs.declared.line.Entry.{Entry}

abbrev pub held : Book → Held
held b = record { people = b.people; room = b.room; entries = entries_of (vec_items b.lines) }

-- one line more
abbrev pub with_entry : Held → Entry → Held
with_entry h e = record { people = h.people; room = h.room; entries = h.entries ++ (e ∷ []) }
