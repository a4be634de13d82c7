-- Each table has one more note's amount at the process that runs.
use Rattle.std.proofs.Common.{refl}
use Rattle.run_stats.specs.declared.heads.PagingHead.TheVariants.{ZeroFills, FileReads, FilePages, SwapReads, SwapPages, Reclaims, Copies}
use Rattle.process_counts.proofs.Counting.{more_of}
use Rattle.run_stats.proofs.sums.add_paging.Goals as goal

pub add_at-requires : goal.add_at-requires
add_at-requires c = c.requires c.args.note.now.after.runner ZeroFills

pub add_at-requires-2 : goal.add_at-requires-2
add_at-requires-2 c = c.requires c.args.note.now.after.runner FileReads

pub add_at-requires-3 : goal.add_at-requires-3
add_at-requires-3 c = c.requires c.args.note.now.after.runner FilePages

pub add_at-requires-4 : goal.add_at-requires-4
add_at-requires-4 c = c.requires c.args.note.now.after.runner SwapReads

pub add_at-requires-5 : goal.add_at-requires-5
add_at-requires-5 c = c.requires c.args.note.now.after.runner SwapPages

pub add_at-requires-6 : goal.add_at-requires-6
add_at-requires-6 c = c.requires c.args.note.now.after.runner Reclaims

pub add_at-requires-7 : goal.add_at-requires-7
add_at-requires-7 c = c.requires c.args.note.now.after.runner Copies

pub returns-clause-value : goal.returns-clause-value
returns-clause-value c pid ZeroFills = more_of _ _ _ _ _ _ pid (c.in_ok-add_at.ensures.value pid) refl c.paging_amount.ensures
returns-clause-value c pid FileReads = more_of _ _ _ _ _ _ pid (c.in_ok-add_at-2.ensures.value pid) refl c.paging_amount-2.ensures
returns-clause-value c pid FilePages = more_of _ _ _ _ _ _ pid (c.in_ok-add_at-3.ensures.value pid) refl c.paging_amount-3.ensures
returns-clause-value c pid SwapReads = more_of _ _ _ _ _ _ pid (c.in_ok-add_at-4.ensures.value pid) refl c.paging_amount-4.ensures
returns-clause-value c pid SwapPages = more_of _ _ _ _ _ _ pid (c.in_ok-add_at-5.ensures.value pid) refl c.paging_amount-5.ensures
returns-clause-value c pid Reclaims = more_of _ _ _ _ _ _ pid (c.in_ok-add_at-6.ensures.value pid) refl c.paging_amount-6.ensures
returns-clause-value c pid Copies = more_of _ _ _ _ _ _ pid (c.in_ok-add_at-7.ensures.value pid) refl c.paging_amount-7.ensures

pub returns-clause-grows : goal.returns-clause-grows
returns-clause-grows c pid ZeroFills = c.in_ok-add_at.ensures.grows pid
returns-clause-grows c pid FileReads = c.in_ok-add_at-2.ensures.grows pid
returns-clause-grows c pid FilePages = c.in_ok-add_at-3.ensures.grows pid
returns-clause-grows c pid SwapReads = c.in_ok-add_at-4.ensures.grows pid
returns-clause-grows c pid SwapPages = c.in_ok-add_at-5.ensures.grows pid
returns-clause-grows c pid Reclaims = c.in_ok-add_at-6.ensures.grows pid
returns-clause-grows c pid Copies = c.in_ok-add_at-7.ensures.grows pid
