mod StoryLemmas
mod CutLemmas
pub mod TableLemmas
pub mod JoinLemmas
mod WaitingLemmas
mod RoundLemmas
mod LogLemmas
mod WholeRounds
mod ReadyLemmas
pub mod HandleLemmas
mod RunLemmas
mod QuietLemmas
mod BoundLemmas
pub mod LimitLemmas
mod LossLemmas
