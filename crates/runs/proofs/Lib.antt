mod Releases
mod Outcomes
mod TaskSlots
mod JobLife
mod OneSlot
mod Response
mod MixedNumbers
mod Arrivals
mod Lateness
mod Dispatch
pub mod Proper
mod Replaying
mod Work
mod Numbering
pub mod Laws
