-- The library of rules by which readers of tokens are proved. All files here are meant to be imported by the crates
-- above: a production's rule is its `do` block again.
--   Sets, KindLemmas                 sets of kinds, first and follow sets among them
--   Rules, Forms, More, Many, Steps, Openings
--                                    a rule for each form of production: what a parser reads is what its language derives
--   Firm                             a reader stops for a token at no place at which a tree ends
--   Gathered                         the loop of the code, beside the repetition that it reads
--   Whole, Depths                    of any rule: the exits of a reader, and the laws of one tree and one answer
--   StandsLemmas                     a tree is made of the tokens that derive it
--   NameRules, UidLoop, NameLoop, NamesFirm, NamesExact
--                                    names, by these
pub mod Parts
pub mod FirstByte
pub mod FrontTells
pub mod Escapes
pub mod EscapeTells
pub mod Bodies
pub mod BodyTells
pub mod Slots
pub mod Ends
pub mod GapTells
pub mod Joining
pub mod Unique
pub mod SomeGap
pub mod SomeEscape
pub mod SomeToken
pub mod SomeWay
pub mod OneWay
pub mod Spelled
pub mod WordKinds
pub mod Values
pub mod EscapeEnds
pub mod Literals
pub mod Between
pub mod Patterns
pub mod Sets
pub mod Rules
pub mod Forms
pub mod More
pub mod Many
pub mod Steps
pub mod Openings
pub mod Firm
pub mod Gathered
pub mod Whole
pub mod Depths
pub mod KindLemmas
pub mod NameRules
pub mod UidLoop
pub mod NameLoop
pub mod WellFormedLemmas
pub mod NamesFirm
pub mod NamesExact
pub mod DerivedRelations
pub mod Flat
pub mod PartsOf
pub mod Repeating
