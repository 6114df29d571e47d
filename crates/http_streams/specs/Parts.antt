-- Defines which bytes may be the method, the target and the host of a request that is sent.
-- Source: RFC 9110, section 5.6.2; RFC 9112, section 3.2.
-- Rules of this product: target and host are visible ASCII bytes, so that no such byte ends the target, the host or
-- the line.
use Rattle.std.specs.Prelude.{ℕ, Bool, ◌&&◌, List, length, nat_lt}
use Rattle.std.specs.Char.{is_ascii_graphic}
use Rattle.std.specs.List.{list_all}
use Rattle.http.specs.Token.{token_test}

-- `is_method bytes` tests whether `bytes` are a token.
abbrev pub is_method : List ℕ → Bool
is_method bytes = nat_lt 0 (length bytes) && list_all token_test bytes

-- `is_target bytes` tests whether `bytes` are one or more visible ASCII bytes.
abbrev pub is_target : List ℕ → Bool
is_target bytes = nat_lt 0 (length bytes) && list_all is_ascii_graphic bytes

-- `is_host bytes` tests whether all of `bytes` are visible ASCII bytes; there may be none.
abbrev pub is_host : List ℕ → Bool
is_host bytes = list_all is_ascii_graphic bytes
