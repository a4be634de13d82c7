-- The numbers of the errors and the limits of the calls as FORMATS has them.
use Rattle.std.specs.Prelude.{◌≡◌}
use Rattle.flat_model.specs.Calls.{no_such_file, too_big, bad_file, no_children, try_again, no_memory, bad_address, write_limit, process_limit, data_limit, string_limit, argument_limit}

-- the errors by their names in FORMATS, and then the limits
pub record DocumentedCalls : Type 0 where
  pub enoent : no_such_file ≡ 2
  pub e2big : too_big ≡ 7
  pub ebadf : bad_file ≡ 9
  pub echild : no_children ≡ 10
  pub eagain : try_again ≡ 11
  pub enomem : no_memory ≡ 12
  pub efault : bad_address ≡ 14
  pub bytes_of_a_write : write_limit ≡ 1024
  pub processes : process_limit ≡ 64
  pub pages_of_data : data_limit ≡ 4096
  pub bytes_of_a_string : string_limit ≡ 64
  pub arguments : argument_limit ≡ 8
