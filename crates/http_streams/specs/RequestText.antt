-- Defines the bytes of a request.
-- Source: RFC 9112, section 3; RFC 9110, sections 7.2, 7.6.1 and 8.6.
use Rattle.std.specs.Prelude.{ℕ, List, [], ◌++◌, Option, Some, None, length, codes, decimal}
use Rattle.std.specs.Borrow.{Bor}
use Rattle.http_streams.specs.declared.parts.Ask.{Ask}

-- `request_start method path` is the request line, with `method` and `path`, and the next line up to the value of the
-- field Host.
unfoldable pub request_start : List ℕ → List ℕ → List ℕ
request_start method path = method ++ codes " " ++ path ++ codes " HTTP/1.1\r\nHost: "

-- `length_field body` is the field Content-Length, if there is a body.
unfoldable pub length_field : Option (Bor (List ℕ)) → List ℕ
length_field None = []
length_field (Some body) = codes "\r\nContent-Length: " ++ decimal (length body.now)

-- `body_bytes body` is the body, if there is one.
unfoldable pub body_bytes : Option (Bor (List ℕ)) → List ℕ
body_bytes None = []
body_bytes (Some body) = body.now

-- `request_text ask` is the text of the whole request `ask`, with a field that asks to close the connection after the
-- reply.
unfoldable pub request_text : Ask → List ℕ
request_text ask =
    request_start ask.method.now ask.path.now ++ ask.host.now ++ length_field ask.body
    ++ codes "\r\nConnection: close\r\n\r\n" ++ body_bytes ask.body
