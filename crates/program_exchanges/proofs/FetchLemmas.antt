-- What a fetch tells, told of a call's request.
use Rattle.std.proofs.Common.{◌≡◌, ◌≢◌, ◌∙◌, ℕ, true, List, [], ◌++◌, length, Option, Some, None, refl, sym, ap, subst}
use Rattle.std.proofs.Common.{append_assoc, append-nil}
use Rattle.std.specs.Prelude.{codes, decimal}
use Rattle.std.specs.Borrow.{Bor}
use Rattle.std.specs.Io.KnownBytes.{Appends, Consumes, IsAtEnd}
use Rattle.std.proofs.KnownBytes.{Appends-nil, Consumes-nil}
use Rattle.http_streams.specs.Devices.{FailsAtLast}
use Rattle.http_streams.specs.Reply.{IsBadReply, IsUnfinishedReply, ReadsReply}
use Rattle.http_streams.specs.Reads.{EndsByOneRead}
use Rattle.http_streams.specs.declared.fetch.FetchFault.{FetchFault}
use Rattle.http_streams.specs.declared.fetch.FetchFault.TheVariants as fetch
use Rattle.http_streams.specs.declared.parts.Ask.{Ask}
use Rattle.http_streams.specs.RequestText.{request_start, length_field, body_bytes, request_text}
use Rattle.program_exchanges.specs.declared.fault.NetworkFault.{NetworkFault}
use Rattle.program_exchanges.specs.declared.fault.NetworkFault.TheVariants as network
use Rattle.program_exchanges.specs.declared.fault.PullFault.TheVariants.{Network}
use Rattle.program_exchanges.specs.declared.asking.ExchangeCall.{ExchangeCall}
use Rattle.program_exchanges.specs.declared.asking.ExchangeCall.TheVariants as call
use Rattle.http_streams.specs.Parts.{is_method, is_target}
use Rattle.program_exchanges.specs.Requests.{call_body, call_method, call_path, call_request, delta_request, merge_request, summary_request}
use Rattle.program_exchanges.specs.Exchanges.{IsSent, IsRequestBegun, IsAnswered, IsUnanswered}
use Rattle.program_exchanges.specs.inner.Faults.{pull_fault}

-- its parts are those of a request
pub method_is : (it : ExchangeCall) → is_method (call_method it) ≡ true
method_is call.Summary = refl
method_is call.Delta = refl
method_is call.Merge = refl

pub target_is : (it : ExchangeCall) → is_target (call_path it) ≡ true
target_is call.Summary = refl
target_is call.Delta = refl
target_is call.Merge = refl

-- the text of a request with a body, in one piece
posted : (ask : Ask) (s : Bor (List ℕ)) (start : List ℕ) → request_start ask.method.now ask.path.now ≡ start → ask.body ≡ Some s
    → request_text ask ≡ start ++ ask.host.now ++ codes "\r\nContent-Length: " ++ decimal (length s.now) ++ codes "\r\nConnection: close\r\n\r\n" ++ s.now
unfolding request_text length_field body_bytes
posted ask s start hs hb =
    ap (λ (b : Option (Bor (List ℕ))). request_start ask.method.now ask.path.now ++ ask.host.now ++ length_field b ++ codes "\r\nConnection: close\r\n\r\n" ++ body_bytes b) hb
    ∙ ap (λ (t : List ℕ). t ++ ask.host.now ++ (codes "\r\nContent-Length: " ++ decimal (length s.now)) ++ codes "\r\nConnection: close\r\n\r\n" ++ s.now) hs
    ∙ ap (λ (t : List ℕ). t ++ codes "\r\nConnection: close\r\n\r\n" ++ s.now)
    (sym (append_assoc (start ++ ask.host.now) (codes "\r\nContent-Length: ") (decimal (length s.now))))

-- of one without
bodiless : (ask : Ask) (start : List ℕ) → request_start ask.method.now ask.path.now ≡ start → ask.body ≡ None
    → request_text ask ≡ start ++ ask.host.now ++ codes "\r\nConnection: close\r\n\r\n"
unfolding request_text length_field body_bytes
bodiless ask start hs hb =
    ap (λ (b : Option (Bor (List ℕ))). request_start ask.method.now ask.path.now ++ ask.host.now ++ length_field b ++ codes "\r\nConnection: close\r\n\r\n" ++ body_bytes b) hb
    ∙ ap (λ (t : List ℕ). t ++ ask.host.now ++ [] ++ codes "\r\nConnection: close\r\n\r\n" ++ []) hs
    ∙ append-nil (start ++ ask.host.now ++ [] ++ codes "\r\nConnection: close\r\n\r\n")
    ∙ ap (λ (t : List ℕ). t ++ codes "\r\nConnection: close\r\n\r\n") (append-nil (start ++ ask.host.now))

start_of : (m p n q : List ℕ) → m ≡ n → p ≡ q → request_start m p ≡ request_start n q
start_of m p n q hm hp = ap (λ x. request_start x p) hm ∙ ap (λ y. request_start n y) hp

start_is : (n q s : List ℕ) → request_start n q ≡ s → (m p : List ℕ) → m ≡ n → p ≡ q → request_start m p ≡ s
start_is n q s is m p hm hp = start_of m p n q hm hp ∙ is

summary_start : request_start (codes "GET") (codes "/v1/summary") ≡ codes "GET /v1/summary HTTP/1.1\r\nHost: "
unfolding request_start
summary_start = refl

delta_start : request_start (codes "POST") (codes "/v1/delta") ≡ codes "POST /v1/delta HTTP/1.1\r\nHost: "
unfolding request_start
delta_start = refl

merge_start : request_start (codes "POST") (codes "/v1/merge") ≡ codes "POST /v1/merge HTTP/1.1\r\nHost: "
unfolding request_start
merge_start = refl

-- the text of a call's request
pub request_is : (it : ExchangeCall) (ask : Ask) (s : Bor (List ℕ)) → ask.method.now ≡ call_method it → ask.path.now ≡ call_path it → ask.body ≡ call_body it s
    → request_text ask ≡ call_request it ask.host.now s.now
unfolding delta_request merge_request summary_request
request_is call.Summary ask s hm hp hb = bodiless ask _ (start_is _ _ _ summary_start _ _ hm hp) hb
request_is call.Delta ask s hm hp hb = posted ask s _ (start_is _ _ _ delta_start _ _ hm hp) hb
request_is call.Merge ask s hm hp hb = posted ask s _ (start_is _ _ _ merge_start _ _ hm hp) hb

-- where nothing was sent a first part of the request was, which is empty
pub nothing_begun : {R W : Type 0} (left : R → Option (List ℕ)) (holds : W → Option (List ℕ)) (request : List ℕ) (r : R) (w : W)
    → IsRequestBegun left holds request r r w w
nothing_begun left holds request r w = record {
  bytes = [];
  front = [];
  back = request;
  read = Consumes-nil (left r);
  joined = refl;
  written = Appends-nil (holds w);
}

-- what a fetch tells is no host's fault
pub never_of_host : (fault : FetchFault) (f : NetworkFault) → pull_fault fault ≡ Network f → f ≢ network.NoHost
never_of_host fetch.Read f told is = cc
never_of_host fetch.Write f told is = cc
never_of_host fetch.BadReply f told is = cc
never_of_host fetch.Ended f told is = cc
never_of_host fetch.NoMemory f told is = cc

-- nor of the size of its body
pub never_of_size : (fault : FetchFault) (f : NetworkFault) → pull_fault fault ≡ Network f → f ≢ network.TooLarge
never_of_size fetch.Read f told is = cc
never_of_size fetch.Write f told is = cc
never_of_size fetch.BadReply f told is = cc
never_of_size fetch.Ended f told is = cc
never_of_size fetch.NoMemory f told is = cc

module _ {R W : Type 0} (left : R → Option (List ℕ)) (reads : R → ℕ → List ℕ → R → Type 0) (read_failed : R → ℕ)
    (read_fails : R → R → Type 0) (holds : W → Option (List ℕ)) (write_failed : W → ℕ)
    (write_fails : W → W → Type 0) (text request : List ℕ) (is : text ≡ request) (r r2 : R) (w w2 : W) where
  pub answered : (status : ℕ) (body bytes front rest : List ℕ) → Consumes (left r) (left r2) bytes → Appends (holds w) (holds w2) text
      → ReadsReply bytes status body rest → IsUnfinishedReply front → EndsByOneRead left reads r r2 bytes front
      → IsAnswered left reads holds request r r2 w w2 status body
  answered status body bytes front rest came went reply less last = record {
    bytes = bytes;
    front = front;
    rest = rest;
    read = came;
    written = subst (λ (t : List ℕ). Appends (holds w) (holds w2) t) is went;
    reply = reply;
    unfinished = less;
    by_one_read = last;
  }

  sent : (bytes : List ℕ) → Consumes (left r) (left r2) bytes → Appends (holds w) (holds w2) text → IsSent left holds request r r2 w w2 bytes
  sent bytes came went = record { read = came; written = subst (λ (t : List ℕ). Appends (holds w) (holds w2) t) is went }

  -- the whole request was written
  pub begun : (bytes : List ℕ) → Consumes (left r) (left r2) bytes → Appends (holds w) (holds w2) text → IsRequestBegun left holds request r r2 w w2
  begun bytes came went = record {
    bytes = bytes;
    front = request;
    back = [];
    read = came;
    joined = sym (append-nil request);
    written = subst (λ (t : List ℕ). Appends (holds w) (holds w2) t) is went;
  }

  -- a first part of it
  abbrev pub IsPart : Type 0
  IsPart = (bytes : List ℕ) × (front : List ℕ) × (back : List ℕ) × Consumes (left r) (left r2) bytes × (text ≡ front ++ back) × Appends (holds w) (holds w2) front

  pub begun_part : IsPart → IsRequestBegun left holds request r r2 w w2
  begun_part h = record { bytes = h.0; front = h.1; back = h.2; read = h.3; joined = sym is ∙ h.4; written = h.5 }

  pub record Reports (fault : FetchFault) : Type 0 where
    pub bad : fault ≡ fetch.BadReply → (bytes : List ℕ) × (front : List ℕ) × Consumes (left r) (left r2) bytes
        × Appends (holds w) (holds w2) text × IsBadReply bytes × IsUnfinishedReply front × EndsByOneRead left reads r r2 bytes front
    pub ended : fault ≡ fetch.Ended → (bytes : List ℕ) × Consumes (left r) (left r2) bytes
        × Appends (holds w) (holds w2) text × IsUnfinishedReply bytes × IsAtEnd (left r2) × EndsByOneRead left reads r r2 bytes bytes
    pub read : fault ≡ fetch.Read → (bytes : List ℕ) × Consumes (left r) (left r2) bytes
        × Appends (holds w) (holds w2) text × IsUnfinishedReply bytes × FailsAtLast read_failed read_fails r r2
    pub write : fault ≡ fetch.Write → (r2 ≡ r) × FailsAtLast write_failed write_fails w w2
    pub part : IsPart

  abbrev Unanswered : NetworkFault → Type 0
  Unanswered f = IsUnanswered left reads read_failed read_fails holds write_failed write_fails request r r2 w w2 f

  pub unanswered : (fault : FetchFault) → Reports fault → (f : NetworkFault) → pull_fault fault ≡ Network f → Unanswered f
  unanswered fetch.Read t f e =
      let same : network.Fetch fetch.Read ≡ f = cc in
      let h = t.read refl in
      subst Unanswered same (h.0, sent h.0 h.1 h.2, h.3, h.4)
  unanswered fetch.Write t f e =
      let same : network.Fetch fetch.Write ≡ f = cc in
      let h = t.write refl in
      subst Unanswered same (begun_part t.part, h.0, h.1)
  unanswered fetch.BadReply t f e =
      let same : network.Fetch fetch.BadReply ≡ f = cc in
      let h = t.bad refl in
      subst Unanswered same (h.0, h.1, sent h.0 h.2 h.3, h.4, h.5, h.6)
  unanswered fetch.Ended t f e =
      let same : network.Fetch fetch.Ended ≡ f = cc in
      let h = t.ended refl in
      subst Unanswered same (h.0, sent h.0 h.1 h.2, h.3, h.4, h.5)
  unanswered fetch.NoMemory t f e = absurd (cc)

  pub other_status : (status : ℕ) (body : List ℕ) → status ≢ 200 → IsAnswered left reads holds request r r2 w w2 status body
      → (f : NetworkFault) → Network (network.OtherStatus status) ≡ Network f → Unanswered f
  other_status status body apart h f e =
      let same : network.OtherStatus status ≡ f = cc in
      subst Unanswered same (apart, (body, h))
