-- A request that JSON states, or the first fault.
use Rattle.std.proofs.Common.{inl, inr}
use Rattle.std.specs.Prelude.{◌⊎◌, codes}
use Rattle.serde_json.specs.Data.{Data, Members}
use Rattle.values.specs.declared.request.Request.{Request}
use Rattle.schema.specs.Schemas.{StatedSchema}
use Rattle.entities.specs.declared.fault.EntityFault.{EntityFault}
use Rattle.entities.specs.declared.requests.Asked.{Asked}
use Rattle.entities.specs.Requests as read
use Rattle.entities.specs.Requests.{asked_by, ParsesRequest, RequestRefused}
use Rattle.entities.specs.Laws.{OneRequest, NotBoth, OneRefusal, RequestOrRefusal}
use Rattle.entities.specs.StatedRequests.{HasRequestForm, DescribesRequest, RefusesRequest}
use Rattle.entities.specs.StatedRequests as says
use Rattle.schema.specs.Agreement.{HasOneOutcome}
use Rattle.entities.specs.ParsingLaws.{RequestIsRead}
use Rattle.entities.proofs.Leaves.{Names}
use Rattle.entities.proofs.Forms.{object_is, is_object}
use Rattle.entities.proofs.ContextsRead.{asked_given}

asks_more : (d : Data) (asked : Asked) → read.Asks d asked → (ms : Members) × HasRequestForm d asked ms
asks_more d asked h =
    let found = object_is (codes "context") d h.context in
    (found.0, record { principal = h.principal; action = h.action; resource = h.resource; has_context = found.1 })

asks_less : (d : Data) (asked : Asked) (ms : Members) → HasRequestForm d asked ms → read.Asks d asked
asks_less d asked ms h = record {
  principal = h.principal;
  action = h.action;
  resource = h.resource;
  context = is_object (codes "context") d ms h.has_context;
}

module _ (names : Names) (s : StatedSchema) (d : Data) where
  describes : (q : Request) → ParsesRequest s d q → DescribesRequest s d q
  describes q h =
      let form = asks_more d (asked_by q) h.asks in
      record {
        members = form.0;
        asks = form.1;
        reads = ((asked_given names s (asked_by q) d form.0 form.1.has_context).value q.context).0 h.context;
      }

  states : (q : Request) → DescribesRequest s d q → ParsesRequest s d q
  states q h = record {
    asks = asks_less d (asked_by q) h.members h.asks;
    context = ((asked_given names s (asked_by q) d h.members h.asks.has_context).value q.context).1 h.reads;
  }

  refused : (f : EntityFault) → RequestRefused s d f → RefusesRequest s d f
  refused f (read.shape none) = says.no_request (λ asked ms h. none asked (asks_less d asked ms h))
  refused f (read.context asked g asks e) =
      let form = asks_more d asked asks in
      says.bad_request asked form.0 g form.1 (((asked_given names s asked d form.0 form.1.has_context).fault g).0 e)

  refuses : (f : EntityFault) → RefusesRequest s d f → RequestRefused s d f
  refuses f (says.no_request none) = read.shape (λ asked h. let form = asks_more d asked h in none asked form.0 form.1)
  refuses f (says.bad_request asked ms g asks bad) =
      read.context asked g (asks_less d asked ms asks) (((asked_given names s asked d ms asks.has_context).fault g).1 bad)

  pub request_read : RequestIsRead s d
  request_read = record {
    states = λ q. (describes q, states q);
    refuses = λ f. (refused f, refuses f);
  }

  some_request : ((q : Request) × ParsesRequest s d q) ⊎ ((f : EntityFault) × RequestRefused s d f) → ((q : Request) × DescribesRequest s d q) ⊎ ((f : EntityFault) × RefusesRequest s d f)
  some_request (inl h) = inl (h.0, describes h.0 h.1)
  some_request (inr h) = inr (h.0, refused h.0 h.1)

  pub request_outcome : OneRequest → NotBoth → OneRefusal → RequestOrRefusal → HasOneOutcome (DescribesRequest s d) (RefusesRequest s d)
  request_outcome one both refusal some = record {
    one_value = λ a b h k. one s d a b (states a h) (states b k);
    one_fault = λ f g h k. refusal s d f g (refuses f h) (refuses g k);
    not_both = λ a f h k. both s d a f (states a h) (refuses f k);
    some = some_request (some s d);
  }
