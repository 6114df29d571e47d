-- Defines calls on a slot, which is the memory in which a C program keeps a site: the result of a call, the bytes that
-- it writes, and the site that it leaves in the slot.
-- Source: docs/embedding.md.
-- Rules of this product: a slot has at most one site; without a site, a call with a reply does nothing and returns the
-- status 0.
use Rattle.std.specs.Prelude.{◌≡◌, ◌⊎◌, ◌<◌, ℕ, Bool, List, Option, Some, None, is_some, length}
use Rattle.http.specs.declared.status.StatusCode.{StatusCode}
use Rattle.http_replies.specs.site.Inputs.{Input}
use Rattle.weirbowl.specs.Copies.{copied}
use Rattle.weirbowl.specs.Embedding.{IsCalled}
use Rattle.weirbowl.specs.Opening.{IsOpened, IsOpenError, code_of}
use Rattle.weirbowl.specs.declared.call_result.CallResult.{CallResult}
use Rattle.weirbowl.specs.declared.embedded.EmbeddedSite.{EmbeddedSite}
use Rattle.weirbowl.specs.declared.opening.OpenError.{OpenError}

-- `not_open` is the result if no site is open.
abbrev pub not_open : CallResult
not_open = record { status = 0; length = 0 }

-- `Calls old i r before after new` holds if the site `old` in the slot answers the input `i`, which leaves the site
-- `new` there: `r` is the status and the length of the body. `before` is the caller's memory for the body, and `after`
-- is the same memory with the body copied into it, if it fits (`copied`). If no site is open, nothing happens, and `r`
-- is `not_open`.
abbrev pub Calls : Option EmbeddedSite → Input → CallResult → List ℕ → List ℕ → Option EmbeddedSite → Type 0
Calls (Some old) i r before after new =
    (e : EmbeddedSite) × (status : StatusCode) × (new ≡ Some e) × IsCalled old i status e
    × (r ≡ record { status = status; length = length e.body.items }) × (after ≡ copied e.body.items before)
Calls None i r before after new = (r ≡ not_open) × (after ≡ before) × (new ≡ None)

-- `RepeatsBody old r before after new` holds if the body of the last reply is copied again: `r` is the status 200 and
-- the length of the body, `after` is `before` with the body copied into it, if it fits (`copied`), and the site `new`
-- is `old`. If no site is open, nothing happens, and `r` is `not_open`.
abbrev pub RepeatsBody : Option EmbeddedSite → CallResult → List ℕ → List ℕ → Option EmbeddedSite → Type 0
RepeatsBody (Some old) r before after new =
    (r ≡ record { status = 200; length = length old.body.items }) × (after ≡ copied old.body.items before)
    × (new ≡ Some old)
RepeatsBody None r before after new = (r ≡ not_open) × (after ≡ before) × (new ≡ None)

-- `Opens old schema name code new` holds if a call to open a site under `schema` and `name` changes the content of the
-- slot from `old` to `new`. Either an empty site is opened (`code` 0), or a site is open already (`code` 3), or no site
-- is opened and `code` is the number of the error.
abbrev pub Opens : Option EmbeddedSite → List ℕ → List ℕ → ℕ → Option EmbeddedSite → Type 0
Opens (Some old) schema name code new = (code ≡ 3) × (new ≡ Some old)
Opens None schema name code new =
    ((code ≡ 0) × ((e : EmbeddedSite) × (new ≡ Some e) × IsOpened schema name e))
    ⊎ ((0 < code) × (new ≡ None) × ((f : OpenError) × IsOpenError schema name f × (code ≡ code_of f)))

-- `Closes old was_open new` holds if no site is open any more, and `was_open` is whether one was.
abbrev pub Closes : Option EmbeddedSite → Bool → Option EmbeddedSite → Type 0
Closes old was_open new = (was_open ≡ is_some old) × (new ≡ None)
