-- The endings of a command: what it made, or its fault, with the statuses and the lines of the faults.
use Rattle.std.specs.Prelude.{ℕ, ◌≤◌, List, ◌++◌, codes, decimal, Vec, Result, Ok, Err}
use Rattle.std.specs.Borrow.{Bor}
use Rattle.command_edge.specs.declared.answers.Unread.{Unread}
use Rattle.command_edge.specs.declared.answers.Unread.TheVariants as unreads
use Rattle.command_edge.specs.declared.lines.Line.{Line}
use Rattle.command_edge.specs.declared.lines.Line.TheVariants.{Fixed, Made}
use Rattle.command_edge.specs.declared.fault.Fault.{Fault}
use Rattle.command_edge.specs.declared.fault.Fault.TheVariants.{BadWords, Absent, NotImage, BadSchedule, FileFault, SwapReadFault, SwapWriteFault, NoMemory, JournalFull, NoSpace, ShortDevice, NotFlatRun, BadTranscript, TooLong, BadSource, BadReferences, ReferencesTooLong, NotAsWritten, WrittenSoFar, NotPaged}

-- what a command makes, or why it doesn't
abbrev pub Ending : Type 0
Ending = Result (List ℕ) Fault

-- what the code's answer says of the end of a command
abbrev pub ending_of : {A : Type 0} → Result (Vec ℕ A) Fault → Ending
ending_of (Ok output) = Ok output.items
ending_of (Err fault) = Err fault

-- the fault of a file of this name that wasn't read
abbrev pub fault_of : Bor (List ℕ) → Unread → Fault
fault_of name unreads.Absent = Absent name
fault_of name (unreads.NotImage reason) = NotImage name reason
fault_of name unreads.FileFault = FileFault
fault_of name unreads.NoMemory = NoMemory

-- the status of a command that ends by a fault
abbrev pub fault_status : Fault → ℕ
fault_status BadWords = 1
fault_status (Absent name) = 2
fault_status (NotImage name reason) = 3
fault_status (BadSchedule line) = 4
fault_status FileFault = 5
fault_status (SwapReadFault device) = 6
fault_status (SwapWriteFault device) = 7
fault_status NoMemory = 9
fault_status JournalFull = 10
fault_status (NoSpace pid) = 11
fault_status (ShortDevice device blocks needed) = 12
fault_status (NotFlatRun line) = 14
fault_status (BadTranscript line) = 15
fault_status TooLong = 16
fault_status (BadSource line) = 17
fault_status (BadReferences line) = 18
fault_status ReferencesTooLong = 16
fault_status (NotAsWritten line) = 19
fault_status (WrittenSoFar entries) = 20
fault_status (NotPaged line) = 14

-- the bytes of a line about a fault
abbrev pub bytes_of : Line → List ℕ
bytes_of (Fixed line) = line.now
bytes_of (Made line) = line.items

-- the line of a file of this name that isn't there
abbrev pub absent_line : List ℕ → List ℕ
absent_line name = codes "vmrun: absent " ++ name ++ codes "\n"

-- the line of a file of this name that is no image, for this reason
abbrev pub not_image_line : List ℕ → ℕ → List ℕ
not_image_line name reason = codes "vmrun: not an image: " ++ name ++ codes " reason " ++ decimal reason ++ codes "\n"

-- words and a number
abbrev pub numbered_line : List ℕ → ℕ → List ℕ
numbered_line words number = words ++ decimal number ++ codes "\n"

-- the line of a swap device that has fewer blocks than are needed
abbrev pub short_device_line : ℕ → ℕ → ℕ → List ℕ
short_device_line device blocks needed =
    codes "vmrun: swap device " ++ decimal device ++ codes " has " ++ decimal blocks ++ codes " blocks, " ++ decimal needed ++ codes " needed\n"

-- the line of a trace that has the first entries of a run, so many
abbrev pub so_far_line : ℕ → List ℕ
so_far_line entries = codes "as written so far: " ++ decimal entries ++ codes " entries\n"

-- the line of a fault
abbrev pub fault_line : Fault → List ℕ
fault_line BadWords = codes "vmrun: bad words\n"
fault_line (Absent name) = absent_line name.now
fault_line (NotImage name reason) = not_image_line name.now reason
fault_line (BadSchedule line) = numbered_line (codes "vmrun: bad schedule line ") line
fault_line FileFault = codes "vmrun: file fault\n"
fault_line (SwapReadFault device) = numbered_line (codes "vmrun: swap read fault on device ") device
fault_line (SwapWriteFault device) = numbered_line (codes "vmrun: swap write fault on device ") device
fault_line NoMemory = codes "vmrun: no memory\n"
fault_line JournalFull = codes "vmrun: journal full\n"
fault_line (NoSpace pid) = numbered_line (codes "vmrun: no swap for process ") pid
fault_line (ShortDevice device blocks needed) = short_device_line device blocks needed
fault_line (NotFlatRun line) = numbered_line (codes "not a flat run: line ") line
fault_line (BadTranscript line) = numbered_line (codes "vmrun: bad transcript line ") line
fault_line TooLong = codes "vmrun: transcript too long\n"
fault_line (BadSource line) = numbered_line (codes "vmrun: bad source line ") line
fault_line (BadReferences line) = numbered_line (codes "vmrun: bad references line ") line
fault_line ReferencesTooLong = codes "vmrun: references too long\n"
fault_line (NotAsWritten line) = numbered_line (codes "not as written: line ") line
fault_line (WrittenSoFar entries) = so_far_line entries
fault_line (NotPaged line) = numbered_line (codes "not a paged run: line ") line

-- a fault whose line has a name or a number in it, so that memory is needed to write it; those of devices 0 and 1 are at hand
abbrev pub NeedsMemory : Fault → Type 0
NeedsMemory BadWords = ⊥
NeedsMemory (Absent name) = Unit {0}
NeedsMemory (NotImage name reason) = Unit {0}
NeedsMemory (BadSchedule line) = Unit {0}
NeedsMemory FileFault = ⊥
NeedsMemory (SwapReadFault device) = 2 ≤ device
NeedsMemory (SwapWriteFault device) = 2 ≤ device
NeedsMemory NoMemory = ⊥
NeedsMemory JournalFull = ⊥
NeedsMemory (NoSpace pid) = Unit {0}
NeedsMemory (ShortDevice device blocks needed) = Unit {0}
NeedsMemory (NotFlatRun line) = Unit {0}
NeedsMemory (BadTranscript line) = Unit {0}
NeedsMemory TooLong = ⊥
NeedsMemory (BadSource line) = Unit {0}
NeedsMemory (BadReferences line) = Unit {0}
NeedsMemory ReferencesTooLong = ⊥
NeedsMemory (NotAsWritten line) = Unit {0}
NeedsMemory (WrittenSoFar entries) = Unit {0}
NeedsMemory (NotPaged line) = Unit {0}

-- an ending whose text can be lost for want of memory: what was made is at hand
abbrev pub CanBeLost : Ending → Type 0
CanBeLost (Ok output) = ⊥
CanBeLost (Err fault) = NeedsMemory fault

-- what is written at an ending: what was made, or the line of the fault
abbrev pub ending_text : Ending → List ℕ
ending_text (Ok output) = output
ending_text (Err fault) = fault_line fault

-- the status of an ending: 0 where something was made, or else the fault's
abbrev pub status_of : Ending → ℕ
status_of (Ok output) = 0
status_of (Err fault) = fault_status fault

-- the status where the output fails
abbrev pub sink_fault : ℕ
sink_fault = 8
