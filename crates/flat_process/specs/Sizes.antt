-- How large a space may be for the code that keeps it as lists of bytes.
use Rattle.std.specs.Prelude.{◌≡◌, ◌*◌, ◌%◌, ◌≤◌, length}
use Rattle.flat_state.specs.Space.{Space}

-- segments within their limits, the stack of whole pages
pub record IsSized (s : Space) : Type 0 where
  pub of_text : length s.text_bytes ≤ 2048 * 1024
  pub of_data : length s.data_bytes ≤ 4096 * 1024
  pub of_stack : length s.stack_bytes ≤ 512 * 1024
  pub paged : length s.stack_bytes % 1024 ≡ 0
