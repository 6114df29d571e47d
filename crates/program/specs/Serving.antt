-- Defines a run of `serve`, which serves a site.
-- Source: docs/operating.md.
-- Rules of this product: schema and state are checked before the network is used. Many connections are served at once,
-- in one thread; each request is at most one step of the site. With a log, the line of a reply is written before the
-- reply is sent; if writing the line fails, its connection ends, and the others go on. From its opening to its closing
-- the log gets nothing else.
use Rattle.std.specs.Prelude.{◌≡◌, ◌⊎◌, ℕ, zero, suc, ◌*◌, Bool, List, [], ◌∷◌, ◌++◌, Option, None, Some}
use Rattle.std.specs.Prelude.{Result, Ok, Err, codes, false, option_map, true}
use Rattle.connection_loop.specs.declared.limits.Limits.{Limits}
use Rattle.connection_loop.specs.declared.sockets.Sockets.{Ghosts as Sockets}
use Rattle.connection_loop.specs.declared.turn.LoopFault.{LoopFault}
use Rattle.program_exchanges.specs.http_streams.declared.devices.Sink.{Ghosts as Sink}
use Rattle.program_lines.specs.declared.line.ServeOptions.{ServeOptions}
use Rattle.program_lines.specs.stamped_store.Stamping.{has_stamps_of}
use Rattle.site_loading.specs.site.SiteViews.{SiteView, store_in}
use Rattle.program_drills.specs.http_service.Together.{AreConnectionsServed}
use Rattle.program.specs.declared.device.Stream.TheVariants.{Answers}
use Rattle.program.specs.Events.{Event, listened, sockets_closed, wrote}
use Rattle.program.specs.Reports.{ended, IsFailureReported, IsMemoryReported}
use Rattle.program.specs.Courses.{Course, Reads, ReadsIfNamed, OpensIfNamed, ClosesAfter, WarnsIf}
use Rattle.program.specs.InitialSites.{IsInitialSite, IsNotCreated}

-- `clients_of o` is the greatest number of connections at once: that in `o`, or 64.
abbrev pub clients_of : Option ℕ → ℕ
clients_of None = 64
clients_of (Some number) = number

-- `idle_of o` is the time in milliseconds without a byte after which a connection is closed: that of the seconds in
-- `o`, or of a minute; 0 seconds are no limit.
abbrev pub idle_of : Option ℕ → Option ℕ
idle_of None = Some 60000
idle_of (Some zero) = None
idle_of (Some (suc more)) = Some (1000 * suc more)

-- `limits_of options` are the limits that `options` give.
abbrev pub limits_of : ServeOptions → Limits
limits_of options = record { connections = options.connections; idle = idle_of options.idle }

-- `own_stamps_line name` is the warning that the initial state has stamps of `name`, the site's name.
abbrev pub own_stamps_line : List ℕ → List ℕ
own_stamps_line name = codes "warning: the state has stamps of this name, which is to be used once: " ++ name

-- `listening_line address` is the line that reports that the run listens at `address`.
abbrev pub listening_line : List ℕ → List ℕ
listening_line address = codes "listening " ++ address

-- A `Serving` is a served site, and its log, if it has one.
pub record Serving (G : Type 0) : Type 0 where
  pub site : SiteView
  pub log : Option G

module _ {L G N : Type 0} where
  -- `IsEnded address result`: the status of the run is 0 if all connections that it was to serve are gone; else the
  -- failure of serving at `address` is reported.
  abbrev pub IsEnded : List ℕ → Result (Unit {0}) LoopFault → Course L G N
  IsEnded address (Ok done) events end = (events ≡ []) × (end ≡ 0)
  IsEnded address (Err fault) events end = IsFailureReported address events end

  -- `listening options came` is the event of listening at the address in `options`, for as many connections at once as
  -- they give, with the sockets in `came`, if that was possible.
  abbrev pub listening : ServeOptions → Option N → Event L G N
  listening options came = listened options.listen.now (clients_of options.clients) came

  -- `announced options done` is the event of printing that address, whether or not standard output accepted the line.
  abbrev pub announced : ServeOptions → Bool → Event L G N
  announced options done = wrote Answers (ended (listening_line options.listen.now)) done

  -- `IsNotListening options`: the run was out of memory, or could not listen at the address in `options`, and reports
  -- it; or it could not print the address, closes the sockets, and ends with status 3.
  abbrev pub IsNotListening : ServeOptions → Course L G N
  IsNotListening options events end =
      IsMemoryReported events end
      ⊎ ((rest : List (Event L G N)) × (events ≡ listening options None ∷ rest)
      × IsFailureReported options.listen.now rest end)
      ⊎ ((sockets : N)
      × (events ≡ listening options (Some sockets) ∷ announced options false ∷ sockets_closed sockets ∷ [])
      × (end ≡ 3))

module _ {G N : Type 0} (log : Sink G) (sockets : Sockets N) where
  -- `AreServed options old new first last result` holds if the site of `old` served connections over the sockets, from
  -- their state `first` to `last`, within the limits in `options`, with this result. `new` has the site and its log
  -- afterwards.
  abbrev pub AreServed : ServeOptions → Serving G → Serving G → N → N → Result (Unit {0}) LoopFault → Type 0
  AreServed options old new first last result =
      AreConnectionsServed log.holds log.failed log.fails sockets.does (clients_of options.clients) (limits_of options)
      old.site new.site old.log new.log first last result

module _ {L G N : Type 0} (log : Sink G) (sockets : Sockets N) where
  -- `IsServedIfListening options old left`: the run listens, and prints the address; connections are served by `old`,
  -- and the sockets are closed; then the result is reported, if it is an error. Or the run does not listen
  -- (`IsNotListening options`), and the log stays. `left` is the log afterwards.
  abbrev pub IsServedIfListening : ServeOptions → Serving G → Option G → Course L G N
  IsServedIfListening options old left events end =
      ((first last : N) × (site : SiteView) × (result : Result (Unit {0}) LoopFault) × (rest : List (Event L G N))
      × (events ≡ listening options (Some first) ∷ announced options true ∷ sockets_closed last ∷ rest)
      × AreServed log sockets options old (record { site = site; log = left }) first last result
      × IsEnded options.listen.now result rest end)
      ⊎ (IsNotListening options events end × (left ≡ old.log))

  -- `IsServedAt options site`: the run warns if `site` has stamps of its own name. It then opens the log, if
  -- `options` name one, listens, serves the site, and closes the log.
  -- An example, with a log `l`: `opened l (Some g) ∷ listened .. (Some first) ∷ wrote Answers .. true
  -- ∷ sockets_closed last ∷ log_closed h ∷ []`, with status 0. What `h` holds is what `g` held and then the line of
  -- each reply over these sockets.
  abbrev pub IsServedAt : ServeOptions → SiteView → Course L G N
  IsServedAt options site = WarnsIf (has_stamps_of options.site (store_in site)) (own_stamps_line options.site)
      (OpensIfNamed (option_map (λ s. s.now) options.log) (λ log.
      ClosesAfter (IsServedIfListening options (record { site = site; log = log }))))

  -- `IsServedFrom options schema state`: the initial site of `schema` and `state` is served; or their error, or out of
  -- memory, is reported and, if `options` have `--explain`, explained.
  abbrev pub IsServedFrom : ServeOptions → List ℕ → Option (List ℕ) → Course L G N
  IsServedFrom options schema state events end =
      ((site : SiteView) × IsInitialSite schema options.site state site × IsServedAt options site events end)
      ⊎ IsNotCreated options.explain options.schema.now (option_map (λ s. s.now) options.state) schema state events end

  -- `IsServeRun options`: of the files that `options` name, the schema is read, then the state, if one is named; then
  -- the site is served.
  abbrev pub IsServeRun : ServeOptions → Course L G N
  IsServeRun options =
      Reads options.schema.now (λ schema.
      ReadsIfNamed (option_map (λ s. s.now) options.state) (λ state.
      IsServedFrom options schema state))
