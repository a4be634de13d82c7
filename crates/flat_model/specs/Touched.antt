-- Which pages the next instruction of a process touches, with its call, in the order of the accesses.
use Rattle.std.specs.Prelude.{ℕ, ◌/◌, Bool, true, false, not, List, [], ◌∷◌, ◌++◌, filter, filter_map, Option, Some, None, Result, Ok, Err, ℤ}
use Rattle.flat_state.specs.Space.{Space, answers_of, puts, address_in}
use Rattle.flat_state.specs.Flat.{Holding, Holds, Lends, Zombie, Process, FlatState, NamedImage, Inputs, process_of, is_ready}
use Rattle.vm_facts.specs.declared.page.Page.{Page}
use Rattle.vm_facts.specs.declared.page.Page.TheVariants as pages
use Rattle.user_vax.specs.Program.{ByteAccess, ReadOf, TestOf, accesses}
use Rattle.user_vax.specs.Effects.{Effect}
use Rattle.user_vax.specs.Instruction.{instruction}
use Rattle.user_vax.specs.declared.refused.Refused.{Refused}
use Rattle.flat_state.specs.declared.spot.Spot.{Spot}
use Rattle.flat_state.specs.declared.spot.Spot.TheVariants.{Text, Data, Stack, Below, Outside}
use Rattle.flat_state.specs.PageNames.{same_page}
use Rattle.flat_state.specs.Change.{apply_writes}
use Rattle.flat_model.specs.Instruction.{instruction_in}
use Rattle.flat_model.specs.declared.calls.SystemCall.{SystemCall}
use Rattle.flat_model.specs.Calls.{call_of, reply_of}
use Rattle.flat_model.specs.Step.{written_process}

-- the page of a byte that is read; none where the read is refused
abbrev pub page_read : Space → Spot → Option Page
page_read s (Text i) = Some (pages.Text s.image (i / 1024))
page_read s (Data i) = Some (pages.Data s.sid (i / 1024))
page_read s (Stack i) = Some (pages.Stack s.sid (i / 1024))
page_read s Below = None
page_read s Outside = None

-- the page of a byte that is to be written; none where that is refused
abbrev pub page_tested : Space → Spot → Option Page
page_tested s (Text i) = None
page_tested s (Data i) = Some (pages.Data s.sid (i / 1024))
page_tested s (Stack i) = Some (pages.Stack s.sid (i / 1024))
page_tested s Below = None
page_tested s Outside = None

-- the page of a byte that is read or tested; none where that is refused
abbrev pub page_of_access : Space → ByteAccess → Option Page
page_of_access s (ReadOf address) = page_read s (address_in s address)
page_of_access s (TestOf address) = page_tested s (address_in s address)

-- each page once, in the order of first places
unfoldable pub distinct : List Page → List Page
distinct [] = []
distinct (page ∷ more) = page ∷ filter (λ other. not (same_page page other)) (distinct more)

-- the accesses of a call in the space that its instruction left
abbrev pub call_accesses : List NamedImage → FlatState → Process → Space → Effect → Option SystemCall → List ByteAccess
call_accesses images F p s effect None = []
call_accesses images F p s effect (Some call) =
    accesses (answers_of (puts s effect.writes))
    (reply_of images (apply_writes F p.pid effect.writes) (written_process p s effect.writes) (puts s effect.writes) call effect.regs)

-- the accesses of the call that an instruction makes, by its number; none where it makes none
abbrev pub accesses_behind : List NamedImage → FlatState → Process → Space → Effect → Option ℤ → List ByteAccess
accesses_behind images F p s effect None = []
accesses_behind images F p s effect (Some number) = call_accesses images F p s effect (call_of number)

-- the accesses after an instruction: those of its call, and none where the instruction is refused
abbrev pub accesses_after : List NamedImage → FlatState → Process → Space → Result Effect Refused → List ByteAccess
accesses_after images F p s (Ok effect) = accesses_behind images F p s effect effect.call
accesses_after images F p s (Err refused) = []

-- all accesses of the next instruction, and of its call where it is one, in order
unfoldable pub step_accesses : List NamedImage → FlatState → Process → Space → List ByteAccess
step_accesses images F p s =
    accesses (answers_of s) (instruction p.regs) ++ accesses_after images F p s (instruction_in s p.regs)

-- the pages that the next instruction touches, by what its process has: none without a space
abbrev pub touched_in : List NamedImage → FlatState → Process → Holding → List Page
touched_in images F p (Holds s) = distinct (filter_map (page_of_access s) (step_accesses images F p s))
touched_in images F p (Lends sid child) = []
touched_in images F p (Zombie status) = []

-- the pages that a process's next instruction touches, by whether the process can step: none where it can't
abbrev pub touched_by : Bool → List NamedImage → FlatState → Process → List Page
touched_by true images F p = touched_in images F p p.holding
touched_by false images F p = []

-- the pages that a process's next instruction touches, by whether the process is there: none where it isn't
abbrev pub touched_if : List NamedImage → FlatState → Option Process → List Page
touched_if images F None = []
touched_if images F (Some p) = touched_by (is_ready p) images F p

-- the pages that a process's next instruction reads, tests or writes before its first refused access, each once and
-- in the order of first accesses; none where the process can't step
unfoldable pub touched : Inputs → FlatState → ℕ → List Page
touched A F pid = touched_if A.images F (process_of F pid)
