mod ActionTypeLemmas
mod CanonicalLemmas
mod EntityLemmas
mod HalvesLemmas
mod ParentLemmas
mod RequestLemmas
mod RequestOrRefusal
mod UidSetLemmas
pub mod Utf8Strings
pub mod Utf8Tokens
pub mod Utf8Texts
pub mod AsciiTexts
pub mod Steps
pub mod PlainParts
pub mod PlainValues
pub mod PlainEntities
pub mod ReadAgain
mod ReadingSteps
pub mod Only
mod OneOutcome
mod Leaves
mod Forms
mod Fields
mod ValuesRead
pub mod Refusals
mod EntitiesRead
mod ContextsRead
mod RequestsRead
mod AsStatedLemmas
mod Again
mod Bytes
mod Deep
mod ValueLeaves
mod NetworksFit
mod Nothing
mod Passing
mod Sets
mod Walk
mod Written
