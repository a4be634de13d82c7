-- Whether two entries are one, with their numbers and bytes.
use Rattle.std.specs.Prelude.{◌==◌, ◌&&◌, Bool, false, true, bytes_eq}
use Rattle.vm_facts.specs.declared.entry.Entry.{Entry}
use Rattle.vm_facts.specs.declared.entry.Entry.TheVariants as entries
use Rattle.flat_state.specs.PageNames.{same_page}
use Rattle.flat_model.specs.Run.{same_carry}

-- the two are one entry
abbrev pub is_one_entry : Entry → Entry → Bool
is_one_entry (entries.Event a) (entries.Event b) = a == b
is_one_entry (entries.Turn a) (entries.Turn b) = a == b
is_one_entry (entries.Ran a n) (entries.Ran b m) = a == b && n == m
is_one_entry (entries.Out a xs) (entries.Out b ys) = a == b && bytes_eq xs ys
is_one_entry (entries.Grew a n) (entries.Grew b m) = a == b && n == m
is_one_entry (entries.Call a n c r0 r1) (entries.Call b m d s0 s1) = a == b && (n == m && (same_carry c d && (r0 == s0 && r1 == s1)))
is_one_entry (entries.Refused a) (entries.Refused b) = a == b
is_one_entry (entries.Sleeps a) (entries.Sleeps b) = a == b
is_one_entry (entries.Ended a n) (entries.Ended b m) = a == b && n == m
is_one_entry (entries.Zero q) (entries.Zero r) = same_page q r
is_one_entry (entries.Get q lo n) (entries.Get r l m) = same_page q r && (lo == l && n == m)
is_one_entry (entries.Copy q) (entries.Copy r) = same_page q r
is_one_entry (entries.Reclaim q) (entries.Reclaim r) = same_page q r
is_one_entry (entries.Hands n) (entries.Hands m) = n == m
is_one_entry (entries.Put q n) (entries.Put r m) = same_page q r && n == m
is_one_entry entries.Done entries.Done = true
is_one_entry (entries.SwapOut a) (entries.SwapOut b) = a == b
is_one_entry (entries.SwapIn a) (entries.SwapIn b) = a == b
is_one_entry (entries.Owners f u m h) (entries.Owners g v n k) = f == g && (u == v && (m == n && h == k))
is_one_entry _ _ = false
