-- Lemmas on the sockets at the slots.
use Rattle.std.proofs.Common.{Bool, true, false, Result, Ok, Err, OnOk, ◌≡◌, ◌∙◌, ◌<◌, ℕ, List, Option, None, Some, length, take, sym, subst, ap}
use Rattle.std.specs.Io.KnownBytes.{Appends}
use Rattle.std.specs.Prelude.{is_ok, slice_index_or, slice_set}
use Rattle.std.proofs.lemmas.List.{get_or-map, length-map, map-set, set-get_or}
use Rattle.connection_loop.specs.Acts.{Act, Read, ReadEnd, ReadNothing, ReadFailed, Wrote, WroteNothing, WriteFailed, Warned, IsRead, IsWritten}
use Rattle.connection_loop.specs.declared.sockets.Reading.{Reading}
use Rattle.connection_loop.specs.declared.sockets.Reading.TheVariants as reading
use Rattle.connection_loop.specs.declared.sockets.Writing.{Writing}
use Rattle.connection_loop.specs.declared.sockets.Writing.TheVariants as writing
use Rattle.machine.specs.declared.peers.Peer.{Peer}
use Rattle.machine.specs.Calls.{Gives, GivesEnd, GivesNothing, IsReadHere, IsWrittenHere, Takes, TakesNothing}
use Rattle.machine.specs.Changes.{IsPut, IsWarned}
use Rattle.machine.specs.Streams.{streams, ChangesAt, Turns, TurnsOrStays}

module _ {S : Type 0} where
  -- a change of a peer is a change of its socket
  pub changes_at : (P : Option S → Option S → Type 0) (peers : List (Peer S)) (at : ℕ) (peer d : Peer S)
      → at < length peers → P (slice_index_or peers at d).stream peer.stream
      → ChangesAt at P (streams peers) (streams (slice_set peers at peer))
  changes_at P peers at peer d within h = (
    peer.stream,
    subst (λ (a : Option S). P a peer.stream) (sym (get_or-map (λ (p : Peer S). p.stream) peers at d None within)) h,
    map-set (λ (p : Peer S). p.stream) peers at peer,
  )

  -- what leaves the socket of a slot leaves all
  pub same_streams : (peers : List (Peer S)) (at : ℕ) (peer d : Peer S) → at < length peers
      → peer.stream ≡ (slice_index_or peers at d).stream → streams (slice_set peers at peer) ≡ streams peers
  same_streams peers at peer d within is =
      map-set (λ (p : Peer S). p.stream) peers at peer
      ∙ ap (λ (s : Option S). slice_set (streams peers) at s)
      (is ∙ sym (get_or-map (λ (p : Peer S). p.stream) peers at d None within))
      ∙ set-get_or (streams peers) at None

  -- a slot without its socket
  pub emptied : (peers : List (Peer S)) (at : ℕ) (peer : Peer S) → peer.stream ≡ None
      → streams (slice_set peers at peer) ≡ slice_set (streams peers) at None
  emptied peers at peer is =
      map-set (λ (p : Peer S). p.stream) peers at peer ∙ ap (λ (s : Option S). slice_set (streams peers) at s) is

  -- a slot that gets a socket
  pub put_at : (peers : List (Peer S)) (at : ℕ) (peer : Peer S) (s : S) → at < length peers → peer.stream ≡ Some s
      → (at < length (streams peers)) × ChangesAt at IsPut (streams peers) (streams (slice_set peers at peer))
  put_at peers at peer s within is = (
    subst (λ (n : ℕ). at < n) (sym (length-map peers (λ (p : Peer S). p.stream))) within,
    (
      peer.stream,
      subst (λ (o : Option S). IsPut (slice_index_or (streams peers) at None) o) (sym is) tt,
      map-set (λ (p : Peer S). p.stream) peers at peer,
    ),
  )

  -- a read at a slot
  module _ {N : Type 0} (left : S → Option (List ℕ)) (first last : N) (does : N → Act → N → Type 0) (old : List (Peer S)) (at : ℕ)
      (a b : Peer S) where
    abbrev Changed : (Option S → Option S → Type 0) → Type 0
    Changed P = ChangesAt at P (streams old) (streams (slice_set old at b))

    changed : (P : Option S → Option S → Type 0) → at < length old → slice_index_or old at a ≡ a → P a.stream b.stream → Changed P
    changed P within is h = changes_at P old at b a within (subst (λ (p : Peer S). P p.stream b.stream) (sym is) h)

    pub reads : (r : Reading) (buf : List ℕ) → at < length old → slice_index_or old at a ≡ a
        → IsReadHere left r buf a.stream b.stream
        → ((bytes : List ℕ) → Changed (Turns (Gives left bytes)) → does first (Read at bytes) last)
        → (Changed (Turns (GivesEnd left)) → does first (ReadEnd at) last)
        → (Changed (TurnsOrStays (GivesNothing left)) → does first (ReadNothing at) last)
        → (Changed (TurnsOrStays (GivesNothing left)) → does first (ReadFailed at) last)
        → IsRead does at first r buf last
    reads (reading.Bytes n) buf within is h gives ends nothing fails =
        (h.0, h.1, gives (take n buf) (changed (Turns (Gives left (take n buf))) within is h.2))
    reads reading.End buf within is h gives ends nothing fails = ends (changed (Turns (GivesEnd left)) within is h)
    reads reading.NotYet buf within is h gives ends nothing fails = nothing (changed (TurnsOrStays (GivesNothing left)) within is h)
    reads reading.Broken buf within is h gives ends nothing fails = fails (changed (TurnsOrStays (GivesNothing left)) within is h)

  -- a write at a slot
  module _ {N : Type 0} (held : S → Option (List ℕ)) (first last : N) (does : N → Act → N → Type 0) (old : List (Peer S)) (at : ℕ)
      (a b : Peer S) where
    abbrev Rewritten : (Option S → Option S → Type 0) → Type 0
    Rewritten P = ChangesAt at P (streams old) (streams (slice_set old at b))

    rewritten : (P : Option S → Option S → Type 0) → at < length old → slice_index_or old at a ≡ a → P a.stream b.stream → Rewritten P
    rewritten P within is h = changes_at P old at b a within (subst (λ (p : Peer S). P p.stream b.stream) (sym is) h)

    pub writes : (w : Writing) (bytes : List ℕ) → at < length old → slice_index_or old at a ≡ a
        → IsWrittenHere held w bytes a.stream b.stream
        → ((taken : List ℕ) → Rewritten (Turns (Takes held taken)) → does first (Wrote at taken) last)
        → (Rewritten (TurnsOrStays (TakesNothing held)) → does first (WroteNothing at) last)
        → (Rewritten (TurnsOrStays (TakesNothing held)) → does first (WriteFailed at) last)
        → IsWritten does at first bytes w last
    writes (writing.Bytes n) bytes within is h takes nothing fails =
        (h.0, h.1, takes (take n bytes) (rewritten (Turns (Takes held (take n bytes))) within is h.2))
    writes writing.NotYet bytes within is h takes nothing fails = nothing (rewritten (TurnsOrStays (TakesNothing held)) within is h)
    writes writing.Broken bytes within is h takes nothing fails = fails (rewritten (TurnsOrStays (TakesNothing held)) within is h)

-- a warning that was written, or was not
pub warned : {E X : Type 0} (told : E → Option (List ℕ)) (line : List ℕ) (old new : E) (r : Result (Unit {0}) X) (done : Bool)
    → done ≡ is_ok r → OnOk r (Appends (told old) (told new) line) → IsWarned told line (Warned done) old new
warned told line old new (Ok unit) true is h = h
warned told line old new (Ok unit) false is h = tt
warned told line old new (Err e) true is h = absurd cc
warned told line old new (Err e) false is h = tt
