-- Defines how the bytes of a stream were read.
-- Source: the contract of `std::io::Read`.
use Rattle.std.specs.Prelude.{◌≡◌, ℕ, ◌<◌, ◌≤◌, Option, List, ◌++◌, length}
use Rattle.std.specs.Io.KnownBytes.{Consumes}
use Rattle.http_streams.specs.declared.TheConstants.{MAX_READ}

-- `left` gives the bytes left to a reader, if they are known. `reads` relates the state before a call, the length of
-- its buffer, the bytes that it read, and the state afterwards.
module _ {R : Type 0} (left : R → Option (List ℕ)) (reads : R → ℕ → List ℕ → R → Type 0) where
  -- `EndsByOneRead old new bytes front` holds if a reader went from `old` to `new` by reading `bytes`: `front` first,
  -- and the rest, at most `MAX_READ` bytes, by the last call. The buffer of the last call was not empty, so if this
  -- call read 0 bytes, the stream is at its end.
  pub record EndsByOneRead (old new : R) (bytes front : List ℕ) : Type 0 where
    pub between : R
    pub room : ℕ
    pub some : 0 < room
    pub last : List ℕ
    pub before : Consumes (left old) (left between) front
    pub call : reads between room last new
    pub short : length last ≤ MAX_READ
    pub joined : bytes ≡ front ++ last
