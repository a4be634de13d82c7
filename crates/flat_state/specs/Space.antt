-- The addresses of a space, what its bytes answer, and what writes make of them.
use Rattle.std.specs.Prelude.{ℕ, ◌+◌, ◌-◌, ◌*◌, ◌/◌, ◌%◌, Bool, true, false, ◌&&◌, nat_lt, nat_le, List, [], ◌∷◌, length, slice_index, slice_set}
use Rattle.vm_facts.specs.Answers.{Answers, ByteWrite}
use Rattle.vm_facts.specs.declared.memory.ByteRead.{ByteRead}
use Rattle.vm_facts.specs.declared.memory.ByteRead.TheVariants as reads
use Rattle.vm_facts.specs.declared.memory.MayWrite.{MayWrite}
use Rattle.vm_facts.specs.declared.memory.MayWrite.TheVariants as tests
use Rattle.flat_state.specs.declared.spot.Spot.{Spot}
use Rattle.flat_state.specs.declared.spot.Spot.TheVariants.{Text, Data, Stack, Below, Outside}

-- A space: its number, its image's number, and the bytes of its segments, each of whole pages.
-- The bytes of the stack stand page by page, page 0, the highest, first.
pub record Space : Type 0 where
  pub sid : ℕ
  pub image : ℕ
  pub text_bytes : List ℕ
  pub data_bytes : List ℕ
  pub stack_bytes : List ℕ

-- the address past the highest byte of the stack
abbrev pub stack_top : ℕ
stack_top = 0x7fffec00

-- the bytes that the stack may have at most
abbrev pub stack_reach : ℕ
stack_reach = 0x80000

-- where an address of the stack stands among the stack's bytes, which go page by page, the highest page first
abbrev pub stack_index : ℕ → ℕ
stack_index address = (stack_top - 1 - address) / 1024 * 1024 + address % 1024

-- the spot of an address, by four tests: it is of the text; of the data, where it isn't of the text; of the
-- stack; within the stack's reach
abbrev pub spot_by : Bool → Bool → Bool → Bool → ℕ → ℕ → Spot
spot_by true of_data of_stack near text_len address = Text address
spot_by false true of_stack near text_len address = Data (address - text_len)
spot_by false false true near text_len address = Stack (stack_index address)
spot_by false false false true text_len address = Below
spot_by false false false false text_len address = Outside

-- the spot of an address, by the lengths of text, data and stack: the data follow the text's whole pages
unfoldable pub spot_at : ℕ → ℕ → ℕ → ℕ → Spot
spot_at text_len data_len stack_len address =
    spot_by (nat_lt address text_len) (nat_lt address (text_len + data_len))
    (nat_le (stack_top - stack_len) address && nat_lt address stack_top)
    (nat_le (stack_top - stack_reach) address && nat_lt address stack_top)
    text_len address

-- the spot of an address in this space
abbrev pub address_in : Space → ℕ → Spot
address_in s address = spot_at (length s.text_bytes) (length s.data_bytes) (length s.stack_bytes) address

-- what a read at a spot answers: the byte of the segment, or why there is none
abbrev pub byte_at : Space → Spot → ByteRead
byte_at s (Text i) = reads.Is (slice_index s.text_bytes i)
byte_at s (Data i) = reads.Is (slice_index s.data_bytes i)
byte_at s (Stack i) = reads.Is (slice_index s.stack_bytes i)
byte_at s Below = reads.Below
byte_at s Outside = reads.Outside

-- text may be read alone, data and stack written too
abbrev pub may_write_at : Spot → MayWrite
may_write_at (Text i) = tests.Text
may_write_at (Data i) = tests.May
may_write_at (Stack i) = tests.May
may_write_at Below = tests.Below
may_write_at Outside = tests.Outside

-- what a space answers: it never misses
abbrev pub answers_of : Space → Answers
answers_of s = record {
  read = λ address. byte_at s (address_in s address);
  may_write = λ address. may_write_at (address_in s address);
}

-- a space with this byte at a spot; the same where the spot isn't one of the data or the stack
abbrev pub put_at : Space → Spot → ℕ → Space
put_at s (Text i) byte = s
put_at s (Data i) byte = record s { data_bytes = slice_set s.data_bytes i byte }
put_at s (Stack i) byte = record s { stack_bytes = slice_set s.stack_bytes i byte }
put_at s Below byte = s
put_at s Outside byte = s

-- a space after one byte was written
abbrev pub put_in_space : Space → ByteWrite → Space
put_in_space s w = put_at s (address_in s w.address) w.byte

-- a space after these bytes were written, in order
abbrev pub puts : Space → List ByteWrite → Space
puts s [] = s
puts s (w ∷ ws) = puts (put_in_space s w) ws
