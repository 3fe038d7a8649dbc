-- ---- lists
pub mod Every
pub mod ItemPlaces
pub mod MappedLists
pub mod FilterCounts
pub mod Pairwise
-- ---- a hosted module in step with its logical state: the facts, and its turn at an instant
pub mod HostFacts
pub mod PhasesAtOffset
pub mod AfterEnds
pub mod NothingOpen
pub mod ReleasesInStep
pub mod HostTables
pub mod ActRows
pub mod PortRows
pub mod HostTurns
pub mod PhaseThree
pub mod PhaseFour
pub mod DueTurn
pub mod IdleTurn
pub mod BootTurn
-- ---- its microsecond, and the windows of its node
pub mod TaskMicros
pub mod HostMicro
pub mod WindowsCover
pub mod CoveredWindows
pub mod WindowsApart
pub mod OneLive
-- ---- the turn of a node of hosted modules and stubs
pub mod PartMoves
pub mod PartsTurn
pub mod PartsBoot
-- ---- the bus: jobs, frames, receive entries and stubs from instant to instant, whatever is lost
pub mod OpenInvocations
pub mod ActiveJobs
pub mod HostJobs
pub mod EntryFacts
pub mod EntryLists
pub mod FramesOnBus
pub mod EntriesDelivered
pub mod TaskOutputsTaken
pub mod StubsInStep
pub mod WindowSends
-- ---- the windows of the bus and the tables of stubs, where a schedule passes
pub mod ImageWindows
pub mod BusWindowsApart
pub mod BusWindowTables
pub mod HostWindowTables
pub mod HostsMet
pub mod EntryOrder
pub mod EntriesByTask
pub mod EntriesThere
-- ---- an instant of the whole system
pub mod AllParts
pub mod PartsAndBus
pub mod StubTables
pub mod BusStarts
pub mod OneStart
pub mod InstantSends
pub mod Deliveries
pub mod InstantDone
pub mod NodeShapes
pub mod PartMicros
pub mod NodeMicros
pub mod SeenAt
pub mod JobTimes
pub mod Delivered
pub mod NodeTurn
pub mod NodeTurns
pub mod BusLaw
-- ---- instant 0, and the run that never traps
pub mod ShapesBeforeZero
pub mod PartsBeforeZero
pub mod HostedOnce
pub mod NodesBoot
pub mod NodeLaw
pub mod RunSteps
pub mod InstantZero
pub mod RowsAtZero
-- ---- the run without losses: states, what is seen, and rows are the program's
pub mod ModuleStep
pub mod NodeParts
pub mod StubFirstOutputs
pub mod StubsAtZero
pub mod StateAtZero
pub mod SeenAtZero
pub mod SeenAfterEnds
pub mod RunInState
pub mod TakenRows
pub mod StubRows
pub mod NodePortRows
pub mod SameActRows
pub mod PartRows
pub mod NodeRows
pub mod InstantRows
-- ---- the law
pub mod Meaning
-- ---- a program of three modules on two nodes that has all its premises
pub mod ExamplePlaces
pub mod ExampleModes
pub mod ExampleWellFormed
pub mod ExampleGrains
pub mod ExampleWindows
pub mod ExamplePasses
pub mod ExampleRows
pub mod ExampleRuns
