-- What went wrong, by its cause, and how it is told.
use Rattle.std.specs.Prelude.{◌≡◌, ℕ, Bool, true, false, List, ◌++◌, IfErr, Some, None, string_bytes, codes, Option, Result}
use Rattle.purser.specs.Asked.{Word}
use Rattle.purser.specs.declared.fault.Fault.{Fault}
use Rattle.purser.specs.declared.fault.Fault.TheVariants.{Arguments, File, Input, Memory, NoPayments, Output, UnknownArgument}

-- where it went wrong: reading the arguments, what they say, a file of that name, standard input or output, memory
pub data Cause : Type 0 where
  arguments : Cause
  words : Cause
  file : Word → Cause
  standard_input : Cause
  standard_output : Cause
  memory : Cause

abbrev pub cause_of : Fault → Cause
cause_of (Arguments why) = arguments
cause_of (UnknownArgument word) = words
cause_of NoPayments = words
cause_of (File name why) = file name
cause_of (Input why) = standard_input
cause_of (Output why) = standard_output
cause_of Memory = memory

-- the book is read from the file of that name, or from standard input
abbrev pub source : Option Word → Cause
source None = standard_input
source (Some name) = file name

-- what can go wrong with a text: there is no memory for it, or it cannot be written
abbrev pub of_text : Cause → Bool
of_text arguments = false
of_text words = false
of_text (file name) = false
of_text standard_input = false
of_text standard_output = true
of_text memory = true

-- where it fails, it is for that cause
abbrev pub FailsBy : {A : Type 0} → Cause → Result A Fault → Type 0
FailsBy cause r = IfErr r (λ e. cause_of e ≡ cause)

-- in words; what the system says of a fault is not known here
abbrev pub fault_said : Fault → Option (List ℕ)
fault_said (Arguments why) = None
fault_said (UnknownArgument word) = Some (codes "unknown argument: " ++ (string_bytes word ++ codes " (--help says which there are)"))
fault_said NoPayments = Some (codes "--audit wants the name of a file of payments (--help says how)")
fault_said (File name why) = None
fault_said (Input why) = None
fault_said (Output why) = None
fault_said Memory = Some (codes "too little memory")
