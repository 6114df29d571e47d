-- Defines the sockets at the slots of a table, and what changes at one slot.
-- Rule of this product: a slot of the table of connections has one socket.
use Rattle.std.specs.Prelude.{◌≡◌, ◌⊎◌, ℕ, List, Option, None, Some, map, slice_index_or, slice_set}
use Rattle.machine.specs.declared.peers.Peer.{Peer}

module _ {S : Type 0} where
  -- `streams peers` are the sockets at the slots.
  abbrev pub streams : List (Peer S) → List (Option S)
  streams peers = map (λ peer. peer.stream) peers

  -- `Turns P old new` holds if there is a socket before and after, and `P` relates the two.
  abbrev pub Turns : (S → S → Type 0) → Option S → Option S → Type 0
  Turns P (Some a) (Some b) = P a b
  Turns P (Some a) None = ⊥
  Turns P None new = ⊥

  -- `TurnsOrStays P old new` holds if that holds, or nothing changed.
  abbrev pub TurnsOrStays : (S → S → Type 0) → Option S → Option S → Type 0
  TurnsOrStays P old new = Turns P old new ⊎ (new ≡ old)

  -- `ChangesAt at P old new` holds if `P` relates the sockets before and after at the slot `at`, and no other slot
  -- changes. A slot past the end has no socket.
  abbrev pub ChangesAt : ℕ → (Option S → Option S → Type 0) → List (Option S) → List (Option S) → Type 0
  ChangesAt at P old new = (b : Option S) × P (slice_index_or old at None) b × (new ≡ slice_set old at b)
