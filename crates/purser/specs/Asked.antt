-- What the program's arguments ask for.
use Rattle.std.specs.Prelude.{ℕ, Bool, cond, List, Some, None, string_bytes, codes, Option, String, ◌==◌, slice_index}
use Rattle.purser.specs.declared.command.Command.{Command}
use Rattle.purser.specs.declared.command.Command.TheVariants.{Audit, Help, NoPayments, Report, Unknown, Version}
use Rattle.std.specs.declared.alloc.Global.{Global}
use Rattle.std.specs.Str.{bytes_eq}

-- an argument
abbrev pub Word : Type 0
Word = String Global

-- a word that begins with a dash is an option
abbrev pub is_option : List ℕ → Bool
is_option word = slice_index word 0 == 45

-- one word: an option that there is, an option that there is not, or a file's name
abbrev pub asked_by : Word → Command
asked_by word =
    cond (bytes_eq (string_bytes word) (codes "--help")) Help
    (cond (bytes_eq (string_bytes word) (codes "--version")) Version (cond (is_option (string_bytes word)) (Unknown word) (Report (Some word))))

-- where a word follows, which means nothing: the first word that means nothing
abbrev pub but_followed : Command → Word → Command
but_followed (Report book) second = Unknown second
but_followed (Audit payments book) second = Unknown second
but_followed NoPayments second = Unknown second
but_followed Help second = Unknown second
but_followed Version second = Unknown second
but_followed (Unknown word) second = Unknown word

-- a word that no other may follow
abbrev pub asked_alone : Word → Option Word → Command
asked_alone word None = asked_by word
asked_alone word (Some second) = but_followed (asked_by word) second

-- a file's name where it is no option
abbrev pub unless_option : Word → Command → Command
unless_option word c = cond (is_option (string_bytes word)) (Unknown word) c

-- after a file of payments: a file of the book or none, and nothing more
abbrev pub audit_of : Word → Option Word → Option Word → Command
audit_of payments None more = Audit payments None
audit_of payments (Some book) None = unless_option book (Audit payments (Some book))
audit_of payments (Some book) (Some word) = unless_option book (Unknown word)

-- after --audit: a file of payments, and what may follow it
abbrev pub audit_after : Option Word → Option Word → Option Word → Command
audit_after None book more = NoPayments
audit_after (Some payments) book more = unless_option payments (audit_of payments book more)

-- no word asks for standard input
abbrev pub asked : Option Word → Option Word → Option Word → Option Word → Command
asked None second third fourth = Report None
asked (Some word) second third fourth = cond (bytes_eq (string_bytes word) (codes "--audit")) (audit_after second third fourth) (asked_alone word second)
