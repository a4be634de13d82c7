-- The ranges of a command's numbers as README, `vmrun --help` and FORMATS have them.
use Rattle.std.specs.Prelude.{◌≡◌, ℕ, ◌-◌}
use Rattle.io_edge.specs.Striping.{most_blocks}
use Rattle.command_words.specs.declared.limits.TheConstants.{LEAST_FRAMES, MOST_FRAMES, MOST_COMPARED, LEAST_SWAP, MOST_SWAP, MOST_LIMIT, MOST_SHORT_LIMIT, LAST_LOAD, JOURNAL_ENTRIES}
use Rattle.command_words.specs.declared.reasons.Argument.TheVariants.{Limit, ShortLimit, Number, Size, Compared, Spread, FirstFrames, LastFrames, MoreFrames, Entries, From, To, Every}
use Rattle.command_words.specs.Reasons.{least_of, most_of}

-- the constants, and then the arguments whose least number is none of them
pub record DocumentedRanges : Type 0 where
  pub least_frames : LEAST_FRAMES ≡ 64
  pub most_frames : MOST_FRAMES ≡ 4096
  pub most_compared : MOST_COMPARED ≡ 1000000
  pub least_swap : LEAST_SWAP ≡ 256
  pub most_swap : MOST_SWAP ≡ 131072
  pub most_blocks_of_devices : most_blocks ≡ 131072
  pub most_limit : MOST_LIMIT ≡ 1000000
  pub most_short_limit : MOST_SHORT_LIMIT ≡ 100000
  pub last_load : LAST_LOAD ≡ 9999
  pub journal_entries : JOURNAL_ENTRIES ≡ 16777216
  pub least_limit : least_of Limit ≡ 1
  pub least_short_limit : least_of ShortLimit ≡ 1
  pub least_size : least_of Size ≡ 1
  pub least_every : least_of Every ≡ 1
  pub least_compared : least_of Compared ≡ 1
  pub least_first : least_of FirstFrames ≡ 1
  pub least_more : least_of MoreFrames ≡ 1
  pub least_spread : (frames : ℕ) → least_of (Spread frames) ≡ 0
  pub most_spread : (frames : ℕ) → most_of (Spread frames) ≡ frames - 1
  pub first_load : least_of Number ≡ 0
  pub least_entries : least_of Entries ≡ 0
  pub least_from : least_of From ≡ 0
  pub least_to : least_of To ≡ 0
