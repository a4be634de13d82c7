pub use Rattle.kernel_laws.proofs.Flat.Lists
pub use Rattle.kernel_laws.proofs.Flat.Numbered
pub use Rattle.kernel_laws.proofs.Kept.Begins as KernelLawsKeptBegins
pub use Rattle.kernel_laws.proofs.Kept.Changes as KernelLawsKeptChanges
pub use Rattle.kernel_laws.proofs.Machine.Done
pub use Rattle.kernel_laws.proofs.Machine.Moves
pub use Rattle.kernel_laws.proofs.Machine.Processes as KernelLawsMachineProcesses
pub use Rattle.kernel_laws.proofs.Machine.Ready
pub use Rattle.kernel_laws.proofs.Machine.Shapes
pub use Rattle.kernel_laws.proofs.Machine.Swaps
pub use Rattle.kernel_laws.proofs.Machine.Tables as KernelLawsMachineTables
pub use Rattle.kernel_laws.proofs.Machine.Takes
pub use Rattle.kernel_laws.proofs.Pieces.Found
pub use Rattle.kernel_laws.proofs.Pieces.GivenBack
pub use Rattle.kernel_laws.proofs.Pieces.Starts as KernelLawsPiecesStarts
pub use Rattle.kernel_laws.proofs.Pieces.Wanted
pub use Rattle.kernel_laws.proofs.Sound.Allowed as KernelLawsSoundAllowed
pub use Rattle.kernel_laws.proofs.Sound.Begins as KernelLawsSoundBegins
pub use Rattle.kernel_laws.proofs.Sound.Changes as KernelLawsSoundChanges
pub use Rattle.kernel_laws.proofs.Sound.NumbersApart
pub use Rattle.kernel_laws.proofs.Sound.Steps as KernelLawsSoundSteps
pub mod Entries
pub mod Likes
pub mod Same
pub mod Shows
pub mod Finds
pub mod Held
pub mod Arrives
pub mod Evicts
pub mod Fills
pub mod Zeros
pub mod Loops
pub mod Rising
pub mod Knows
pub mod Kept
pub mod Marks
pub mod Kernels
pub mod Comes
pub mod AddedPlace
pub mod AddedTied
pub mod AddedTexts
pub mod AddedNumbers
pub mod AddedTables
pub mod AddedImage
pub mod Revives
pub mod Records
pub mod Recorded
pub mod Touches
pub mod Writes
pub mod UserFrames
pub mod WritesTogether
pub mod PlaceStates
pub mod Lives
pub mod UPages
pub mod MovedRecords
pub mod Listed
pub mod Kin
pub mod AddedRecords
pub mod Lineage
pub mod Givers
pub mod Orphans
pub mod Forks
pub mod ForkedSpaces
pub mod Removed
pub mod Stills
pub mod ResizedMaps
pub mod HomePages
pub mod Outcomes
pub mod FewNumbers
