pub mod Trying
pub mod Searching
pub mod GatheringOrder
pub mod GatheringFlat
pub mod GatheringRow
pub mod GatheringNames
