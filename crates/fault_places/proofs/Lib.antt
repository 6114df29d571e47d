-- What is proved of spans: a text that is not made of tokens is no policy (Unread); the tokens of a core node derive it.
--   Languages, Lifting    properties of what a production derives; a production's expressions are expressions
--   Lists                 tokens cut and counted
--   Standing, Deriving    a form whose tokens derive it, for a core node; what is shown of each production
--   Chains, Methods, Members, FormSteps, Rows
--                         the operands of each kind of form stand in its tokens
--   Productions           each production is shown by these
--   Walking               the forms along the path to a core node
--   Owning                a form's own tokens
--   SomeTokens            an expression has a token
--   ScopeCounts, Starting, PolicyNodes
--                         a policy's parts count their tokens; its effect is found; its nodes stand in its tokens
--   Naming, OwnNames, NamePlaces
--                         the same of the name that a node has itself
-- And of written forms:
--   Counts             the count of each form of tree
--   Dropping           tokens skipped in several steps
--   Opening            a form seen by its tree
--   Peeling            parentheses round a form
--   FormWalking        a step of a path
--   Finding            the tokens from the first that starts at a byte
--   Turning            a `Turn` or a `NodePlace` that a function does not look for
--   LanguageCounts     how many tokens derive a value, one rule a form of language
--   ExpressionCounts   an expression's tree counts its tokens, one rule a production
-- What is proved of blamed expressions and of the words on them.
--   FoundBlame, Declared, Environments, Reaching, Stepping, Telling
--                the first environment with an error, and the path to the blamed expression in it
--   UnknownNames, OneName
--                the first name that is not declared
--   Appending    bytes after others
--   Listing      the words for types
--   NameLists    lists of words, one item after the other, and of the attributes of a type
--   Reading      the attribute that a form reads, and whether it is declared
mod Counts
mod Dropping
mod Opening
mod Peeling
mod FormWalking
mod Finding
mod Turning
mod LanguageCounts
mod ExpressionCounts
mod Unread
mod Languages
mod Lifting
mod Lists
mod Standing
mod Chains
mod Methods
mod Members
mod Deriving
mod FormSteps
mod Rows
mod Productions
mod Walking
mod Owning
mod SomeTokens
mod ScopeCounts
mod Starting
mod PolicyNodes
mod Naming
mod OwnNames
mod NamePlaces
mod Appending
mod Declared
mod Environments
mod FoundBlame
mod Listing
mod NameLists
mod UnknownNames
mod OneName
mod Reaching
mod Reading
mod Stepping
mod Telling
