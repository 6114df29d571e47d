-- A loop from its start to its end.
use Rattle.std.proofs.Common.{◌≡◌, ◌+◌, ℕ, List, [], ◌∷◌, Some, refl, sym, ap, ◌∙◌, add-zero, arith}
use Rattle.std.specs.Prelude.{Result}
use Rattle.connections.specs.Bounds.{TablesAreBounded}
use Rattle.connections.specs.Connections.{Entry}
use Rattle.connections.specs.Stories.{AreFree, StoriesFit}
use Rattle.connection_loop.specs.Acts.{Act}
use Rattle.connection_loop.specs.Acts.{Waited, Told, Accepted, NoneWaits, NotAccepted, Queued}
use Rattle.connection_loop.specs.Acts.{Read, ReadEnd, ReadNothing, ReadFailed, Wrote, WroteNothing, WriteFailed}
use Rattle.connection_loop.specs.Acts.{Closed, Warned}
use Rattle.connection_loop.specs.Happenings.{Happening, Call, Did, Rounded, after, after_act, after_all, calls_of}
use Rattle.connection_loop.specs.Phases.{Goes, Phase, State}
use Rattle.connection_loop.specs.Serving.{IsEnd, IsRun, IsServedTogether, accepted_in, accepts, beginning}
use Rattle.connection_loop.specs.declared.course.Course.{Course}
use Rattle.connection_loop.specs.declared.limits.Limits.{Limits}
use Rattle.connection_loop.specs.declared.turn.LoopFault.{LoopFault}

counted_act : (c : Course) (act : Act) → (after_act c act).accepted ≡ c.accepted + accepts act
counted_act c (Waited millis went) = sym (add-zero c.accepted)
counted_act c (Told now) = sym (add-zero c.accepted)
counted_act c (Accepted at) = refl
counted_act c NoneWaits = sym (add-zero c.accepted)
counted_act c NotAccepted = sym (add-zero c.accepted)
counted_act c (Queued waits) = sym (add-zero c.accepted)
counted_act c (Read at bytes) = sym (add-zero c.accepted)
counted_act c (ReadEnd at) = sym (add-zero c.accepted)
counted_act c (ReadNothing at) = sym (add-zero c.accepted)
counted_act c (ReadFailed at) = sym (add-zero c.accepted)
counted_act c (Wrote at bytes) = sym (add-zero c.accepted)
counted_act c (WroteNothing at) = sym (add-zero c.accepted)
counted_act c (WriteFailed at) = sym (add-zero c.accepted)
counted_act c (Closed at why) = sym (add-zero c.accepted)
counted_act c (Warned done) = sym (add-zero c.accepted)

counted : (c : Course) (hs : List Happening) → (after_all c hs).accepted ≡ c.accepted + accepted_in (calls_of hs)
counted c [] = sym (add-zero c.accepted)
counted c (Call act ∷ hs) = omega (arith, counted (after_act c act) hs, counted_act c act)
counted c (Did entry ∷ hs) = counted c hs
counted c (Rounded outcome next ∷ hs) = counted (after c (Rounded outcome next)) hs

pub all_accepted : (limits : Limits) (new : Course) (hs : List Happening) → new ≡ after_all beginning hs
    → limits.connections ≡ Some new.accepted → limits.connections ≡ Some (accepted_in (calls_of hs))
all_accepted limits new hs is reached =
    let count : new.accepted ≡ accepted_in (calls_of hs) = omega (ap (λ (c : Course). c.accepted) is, counted beginning hs, arith) in
    reached ∙ ap Some count

module _ {S L N : Type 0} (steps : S → Entry → S → Type 0) (notes : L → Entry → L → Type 0) (does : N → Act → N → Type 0) where
  pub goes_as : (P Q : Phase) (old new : State S L N) → ((hs : List Happening) → P old.course old.table hs → Q old.course old.table hs)
      → Goes steps notes does P old new → Goes steps notes does Q old new
  goes_as P Q old new change h = record {
    happenings = h.happenings;
    course = h.course;
    leads = h.leads;
    calls = h.calls;
    inner = h.inner;
    are = change h.happenings h.are;
  }

  pub served : StoriesFit → TablesAreBounded → (is_unfinished : List ℕ → Type 0) (limits : Limits) (turns : ℕ) (old new : State S L N)
      (result : Result (Unit {0}) LoopFault) → AreFree old.table → (goes : Goes steps notes does (IsRun limits is_unfinished turns result) old new)
      → IsEnd limits (calls_of goes.happenings) new.table result
      → IsServedTogether steps notes does is_unfinished limits old new result
  served stories bounded is_unfinished limits turns old new result free goes ends = record {
    turns = turns;
    goes = goes;
    fit = λ front rest table is changes. stories front old.table table free changes;
    bounded = λ front rest table most is changes small. bounded front old.table table most free changes small;
    ends = ends;
  }
