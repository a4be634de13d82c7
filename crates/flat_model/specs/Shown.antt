-- A space of which some pages alone are there: what the machine's memory answers while the others still have to be
-- brought in.
use Rattle.std.specs.Prelude.{Bool, true, false, List, Option, Some, None}
use Rattle.vm_facts.specs.Answers.{Answers}
use Rattle.flat_state.specs.Space.{Space, address_in, byte_at, may_write_at}
use Rattle.vm_facts.specs.declared.memory.ByteRead.{ByteRead}
use Rattle.vm_facts.specs.declared.memory.ByteRead.TheVariants as reads
use Rattle.vm_facts.specs.declared.memory.MayWrite.{MayWrite}
use Rattle.vm_facts.specs.declared.memory.MayWrite.TheVariants as tests
use Rattle.vm_facts.specs.declared.page.Page.{Page}
use Rattle.flat_state.specs.PageNames.{is_among}
use Rattle.flat_model.specs.Touched.{page_read, page_tested}

-- the page is there, or none is asked for
abbrev pub is_shown : List Page → Option Page → Bool
is_shown pages None = true
is_shown pages (Some q) = is_among q pages

-- the byte where its page is there, else a miss
abbrev pub read_where : Bool → ByteRead → ByteRead
read_where true byte = byte
read_where false byte = reads.Miss

-- the answer to a test where the page is there, else a miss
abbrev pub test_where : Bool → MayWrite → MayWrite
test_where true may = may
test_where false may = tests.Miss

-- what a space answers of which these pages are there: every access to another one misses
abbrev pub shown : Space → List Page → Answers
shown s pages = record {
  read = λ address. read_where (is_shown pages (page_read s (address_in s address))) (byte_at s (address_in s address));
  may_write = λ address. test_where (is_shown pages (page_tested s (address_in s address))) (may_write_at (address_in s address));
}
