pub mod Walk
mod TwoPagesOfText
mod StackGrows
mod DataGrows
mod TextFoundAgain
mod Fork
mod LendsNested
mod ExecveOfOwnImage
mod BorrowersOfManyImages
mod DeepStacks
mod ForksOfFour
mod EndWithWriteInFlight
mod WalkOf48Pages
mod PutOutAndIn
mod ForksWithFewFrames
mod ForcedFrames
mod StackReadByFours
mod Limits
mod SwapperChoice
mod TextAtItsLastEnd
mod HandsRest
mod TextOnSwap
mod RingOf200Pages
mod OneMoveOfTheHands
mod PutOutByRuns
mod ReadsAndFills
pub mod OneProcessIn64Frames
pub mod ChoiceAmongFive
pub mod SpaceLentAndBack
pub mod PiecesOfSwap
pub mod MarksAndLocks
pub mod WholeRuns
