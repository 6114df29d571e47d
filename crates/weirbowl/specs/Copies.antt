-- Defines what memory holds after bytes were copied to it.
-- Source: docs/embedding.md.
-- Rules of this product: bytes are copied whole or not at all.
use Rattle.std.specs.Prelude.{ℕ, List, ◌++◌, drop, length, if◌then◌else◌, nat_le}

-- `copied bytes memory` is `bytes`, followed by the rest of `memory`; or `memory` unchanged, if it is too short.
abbrev pub copied : List ℕ → List ℕ → List ℕ
copied bytes memory =
    if nat_le (length bytes) (length memory) then bytes ++ drop (length bytes) memory else memory
