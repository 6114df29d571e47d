-- Defines the bytes of a reply.
-- Source: RFC 9112, sections 4 and 5; RFC 9110, sections 8.3, 8.6 and 7.6.1 (fields).
use Rattle.std.specs.Prelude.{ℕ, Bool, List, [], ◌++◌, length, if◌then◌else◌, codes, decimal, unwrap_or}
use Rattle.http.specs.StatusCode.{reason_phrase}
use Rattle.http.specs.declared.status.StatusCode.{StatusCode}

-- `phrase status` is the reason phrase of `status`, empty if `status` has none. The phrase of 413 is that of RFC 7231,
-- and the phrase of 422 that of RFC 4918.
unfoldable pub phrase : StatusCode → List ℕ
phrase status = unwrap_or (reason_phrase status) []

-- `status_line status` is HTTP/1.1, the digits and the phrase of `status`.
unfoldable pub status_line : StatusCode → List ℕ
status_line status = codes "HTTP/1.1 " ++ decimal status ++ codes " " ++ phrase status

-- `length_lines size` is the fields Content-Type and Content-Length of a body of `size` bytes.
unfoldable pub length_lines : ℕ → List ℕ
length_lines size = codes "\r\nContent-Type: application/json\r\nContent-Length: " ++ decimal size

-- `ending last` is the end of the head: on the last reply of a stream, with the field `Connection: close`.
unfoldable pub ending : Bool → List ℕ
ending last = if last then codes "\r\nConnection: close\r\n\r\n" else codes "\r\n\r\n"

-- `reply_text last status body` is the whole reply with the status `status` and the body `body`; `last` is whether the
-- reply ends the stream.
unfoldable pub reply_text : Bool → StatusCode → List ℕ → List ℕ
reply_text last status body = status_line status ++ length_lines (length body) ++ ending last ++ body

-- `error_line number` is the line of an error with the code `number` (a rule of this product).
unfoldable pub error_line : ℕ → List ℕ
error_line number = codes "{\"error\":{\"code\":" ++ decimal number ++ codes ",\"place\":null,\"within\":null}}"
