-- A stream of which nothing was read, since memory was refused.
use Rattle.std.proofs.Common.{ℕ, Option, List, [], Err, refl}
use Rattle.std.proofs.KnownBytes.{Appends-nil, Consumes-nil}
use Rattle.http.specs.declared.status.StatusCode.{StatusCode}
use Rattle.http_streams.proofs.OneRequest.{nothing_unfinished}
use Rattle.http_streams.specs.Logs.{IsLogged, LineRelation}
use Rattle.http_streams.specs.declared.serve.LoggedFault.TheVariants.{Stream}
use Rattle.http_streams.specs.declared.serve.StreamFault.TheVariants as fault
use Rattle.http_replies.specs.site.SiteViews.{SiteView, schema_of, store_in}
use Rattle.http_service.specs.Serving.{IsServed}
use Rattle.http_service.proofs.RunLemmas.{RunsTake}

module _ {R W : Type 0} (left : R → Option (List ℕ)) (read_failures : R → ℕ) (reads : R → ℕ → List ℕ → R → Type 0)
    (read_fails : R → R → Type 0) (holds : W → Option (List ℕ)) (write_failures : W → ℕ)
    (write_fails : W → W → Type 0) where
  pub none_served : RunsTake → (reader : R) (writer : W) (site : SiteView)
      → IsServed left read_failures reads read_fails holds write_failures write_fails reader reader writer writer site site
      (Err (Stream fault.NoMemory))
  none_served law reader writer site = record {
    inputs = [];
    replies = [];
    answered = record {
      bytes = [];
      out = [];
      read = Consumes-nil (left reader);
      written = Appends-nil (holds writer);
      ended = (record { count = 0; rest = []; serves = (refl, refl, refl); unfinished = nothing_unfinished }, refl, refl);
    };
    run = refl;
    store = law (schema_of site) site.name (store_in site) [] [] (store_in site) refl;
    same = (refl, refl);
  }

module _ {R W L : Type 0} (lines : LineRelation) (refusal : StatusCode → List ℕ) (logged : L → Option (List ℕ))
    (log_failures : L → ℕ) (log_fails : L → L → Type 0) (left : R → Option (List ℕ)) (holds : W → Option (List ℕ)) where
  pub none_logged : (reader : R) (writer : W) (log : L)
      → IsLogged lines refusal logged log_failures log_fails left holds reader reader writer writer log log
      (Err (Stream fault.NoMemory))
  none_logged reader writer log = record {
    bytes = [];
    out = [];
    read = Consumes-nil (left reader);
    written = Appends-nil (holds writer);
    noted = record {
      count = 0;
      mid = log;
      rest = [];
      before = [];
      last = [];
      serves = (refl, refl, refl);
      ended = (refl, refl);
      joined = refl;
    };
    failed = refl;
  }
