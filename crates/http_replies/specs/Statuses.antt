-- Defines the status of each error.
-- Source: RFC 9110, section 15; RFC 4918, section 11.2 (422).
-- Rules of this product: which code has which status.
use Rattle.std.specs.Prelude.{ℕ, ◌||◌, ◌==◌, if◌then◌else◌}
use Rattle.http.specs.declared.status.StatusCode.{StatusCode}

-- `refusal_status n` is the status of the error code `n`: 404 if a name has no text (60), 409 for a put that would make
-- a cycle (61) or if no stamp is left (62), 503 for out of memory (1), else 422.
abbrev pub refusal_status : ℕ → StatusCode
refusal_status n =
    if n == 60 then 404
    else if n == 61 || n == 62 then 409
    else if n == 1 then 503
    else 422
