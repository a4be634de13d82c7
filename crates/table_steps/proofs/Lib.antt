pub use Rattle.kernel_laws.proofs.Flat.Lists
pub use Rattle.kernel_laws.proofs.Flat.Numbered
pub use Rattle.kernel_laws.proofs.Kept.Begins as KernelLawsKeptBegins
pub use Rattle.kernel_laws.proofs.Kept.Changes as KernelLawsKeptChanges
pub use Rattle.kernel_laws.proofs.Machine.Done
pub use Rattle.kernel_laws.proofs.Machine.Moves
pub use Rattle.kernel_laws.proofs.Machine.Processes as KernelLawsMachineProcesses
pub use Rattle.kernel_laws.proofs.Machine.Ready
pub use Rattle.kernel_laws.proofs.Machine.Shapes
pub use Rattle.kernel_laws.proofs.Machine.Swaps
pub use Rattle.kernel_laws.proofs.Machine.Tables as KernelLawsMachineTables
pub use Rattle.kernel_laws.proofs.Machine.Takes
pub use Rattle.kernel_laws.proofs.Pieces.Found
pub use Rattle.kernel_laws.proofs.Pieces.GivenBack
pub use Rattle.kernel_laws.proofs.Pieces.Starts as KernelLawsPiecesStarts
pub use Rattle.kernel_laws.proofs.Pieces.Wanted
pub use Rattle.kernel_laws.proofs.Sound.Allowed as KernelLawsSoundAllowed
pub use Rattle.kernel_laws.proofs.Sound.Begins as KernelLawsSoundBegins
pub use Rattle.kernel_laws.proofs.Sound.Changes as KernelLawsSoundChanges
pub use Rattle.kernel_laws.proofs.Sound.NumbersApart
pub use Rattle.kernel_laws.proofs.Sound.Steps as KernelLawsSoundSteps
pub use Rattle.kernel_tables.proofs.AddedImage
pub use Rattle.kernel_tables.proofs.AddedTied
pub use Rattle.kernel_tables.proofs.Entries as KernelTablesEntries
pub use Rattle.kernel_tables.proofs.Evicts
pub use Rattle.kernel_tables.proofs.Fills
pub use Rattle.kernel_tables.proofs.Finds
pub use Rattle.kernel_tables.proofs.Held
pub use Rattle.kernel_tables.proofs.Kept
pub use Rattle.kernel_tables.proofs.Kernels
pub use Rattle.kernel_tables.proofs.Kin
pub use Rattle.kernel_tables.proofs.Knows
pub use Rattle.kernel_tables.proofs.Likes
pub use Rattle.kernel_tables.proofs.Listed
pub use Rattle.kernel_tables.proofs.Lives
pub use Rattle.kernel_tables.proofs.Marks
pub use Rattle.kernel_tables.proofs.MovedRecords
pub use Rattle.kernel_tables.proofs.Outcomes
pub use Rattle.kernel_tables.proofs.PlaceStates
pub use Rattle.kernel_tables.proofs.Recorded
pub use Rattle.kernel_tables.proofs.Records
pub use Rattle.kernel_tables.proofs.Revives
pub use Rattle.kernel_tables.proofs.Rising
pub use Rattle.kernel_tables.proofs.Shows
pub use Rattle.kernel_tables.proofs.Stills
pub use Rattle.kernel_tables.proofs.Touches
pub use Rattle.kernel_tables.proofs.UserFrames
pub use Rattle.kernel_tables.proofs.Writes
pub use Rattle.kernel_tables.proofs.WritesTogether
pub use Rattle.kernel_tables.proofs.Zeros
pub use Rattle.page_laws.proofs.Blocks.Aside
pub use Rattle.page_laws.proofs.Bytes.Others
pub use Rattle.page_laws.proofs.Bytes.Pages as PageLawsBytesPages
pub use Rattle.page_laws.proofs.Due.Changes as PageLawsDueChanges
pub use Rattle.page_laws.proofs.Due.Entries as PageLawsDueEntries
pub use Rattle.page_laws.proofs.Lists.Frames
pub use Rattle.page_laws.proofs.Lists.Local
pub use Rattle.page_laws.proofs.Lists.Pages as PageLawsListsPages
pub use Rattle.page_laws.proofs.Lists.Runs
pub use Rattle.page_laws.proofs.Moves.Puts
pub use Rattle.page_laws.proofs.Moves.Steps as PageLawsMovesSteps
pub use Rattle.page_laws.proofs.Moves.Transfers
pub use Rattle.page_laws.proofs.Moves.Units
pub use Rattle.page_laws.proofs.Ownership.Changes as PageLawsOwnershipChanges
pub use Rattle.page_laws.proofs.Ownership.Pages as PageLawsOwnershipPages
pub use Rattle.page_laws.proofs.Starts as PageLawsStarts
pub mod Flights
pub mod Opens
pub mod Gets
pub mod Reclaims
pub mod Lands
pub mod Landings
pub mod Settles
pub mod Sources
pub mod ProcessLists
pub mod Applied
pub mod Applies
pub mod Residing
pub mod Turning
pub mod Retiring
pub mod Forgets
pub mod Sizing
pub mod Launchings
pub mod FewPages
pub mod Puttings
pub mod Joins
pub mod Further
pub mod LeftFrames
pub mod LeftPages
pub mod WholeSpace
pub mod TextsLeft
pub mod LeftSpace
pub mod GoneKnown
pub mod GivenUp
pub mod Passed
pub mod Hands
pub mod Moved
pub mod Parting
pub use Rattle.kernel_tables.proofs.FewNumbers
