-- What is proved of explanations.
--   Columns          the column behind one character more, and how many characters a text has
--   FoundCodes       a code is found if and only if the rows have it
--   Groups           the rows of the group that would contain a code
--   Joined           segments that are appended one after the other
--   Rows             the rows of an excerpt, from their segments
--   ReadableErrors   the explanation of an error, and the text on an error code, are readable
--   Appending        bytes after others
--   Stepping         one token, one policy, one piece more
--   Joining          explanations of the parts, joined to that of the whole
--   Rooms            what nodes leave of a limit on their number
--   Readable         the explanations of files and of messages are readable
--   Agreeing         the search in a value finds the path to the part at fault, and no other
--   EntityForms      the first demand on the form of an entity that is not met is why it has none
--   Going            the search in the rest of an array, an object or a list, behind what was searched before
--   Loops            the search through the parents of an entity
--   Once             the words on the part at fault of an entity or a request are determined
--   EntityParts      the part of an entity that its error is about is found, and no other
--   RequestLaws      a rejected request has exactly one path
--   Requests         the part of a request that its error is about is found
--   Telling          the error of an entity or a request with its path, and the words on it
--   Unmet            the first part without its form, found by its key
mod Columns
mod FoundCodes
mod Groups
mod Joined
mod Rows
mod ReadableErrors
mod Appending
mod Stepping
mod Joining
mod Rooms
mod Readable
mod Agreeing
mod EntityForms
mod Going
mod Loops
mod Once
mod EntityParts
mod RequestLaws
mod Requests
mod Telling
mod Unmet
