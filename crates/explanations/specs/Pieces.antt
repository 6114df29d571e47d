-- Defines the positions of policies in their file; a `Piece` is such a position.
-- Source: Cedar reference guide 4.0, "Grammar specification for Cedar policy syntax": a policy ends with `;`, the only
-- one in it. Rules of this product: a policy begins with its first token, so comments before it do not belong to it; a
-- policy that no `;` ends, ends with the text.
use Rattle.std.specs.Prelude.{◌≡◌, ℕ, Bool, true, false, if◌then◌else◌, List, [], ◌∷◌, ◌++◌}
use Rattle.std.specs.Prelude.{Option, Some, None, unwrap_or, slice_get}
use Rattle.grammar_desugaring.specs.grammar_syntax.declared.token.TokenKind.{TokenKind}
use Rattle.grammar_desugaring.specs.grammar_syntax.declared.token.TokenKind.TheVariants as k
use Rattle.grammar_desugaring.specs.grammar_syntax.declared.token.Token.{Token}
use Rattle.explanations.specs.declared.pieces.Piece.{Piece}

-- `is_end kind` tests for `;`, which ends a policy.
abbrev pub is_end : TokenKind → Bool
is_end k.Semicolon = true
is_end _ = false

-- `piece from to` is the piece that starts at the byte `from` and ends before the byte `to`.
abbrev pub piece : ℕ → ℕ → Piece
piece from to = record { start = from; end = to }

-- `open_after open_at t` is the start of the piece that is open after the token `t`, as a byte offset, or `None` if no
-- piece is open; `open_at` is the same before `t`.
abbrev pub open_after : Option ℕ → Token → Option ℕ
open_after open_at t = if is_end t.kind then None else Some (unwrap_or open_at t.start)

-- `pieces_after ps open_at t` are the complete pieces after `t`, where `ps` are those before `t`, and `open_at` is the
-- start of the piece that is open before `t`.
abbrev pub pieces_after : List Piece → Option ℕ → Token → List Piece
pieces_after ps open_at t = if is_end t.kind then ps ++ piece (unwrap_or open_at t.start) t.end ∷ [] else ps

-- `ArePieces ts ps open_at` holds if the tokens `ts` consist of the pieces `ps` and, unless `open_at` is `None`, of the
-- beginning of one more, which starts at that byte.
pub data ArePieces : List Token → List Piece → Option ℕ → Type 0 where
  none : ArePieces [] [] None
  more : (ts : List Token) (ps : List Piece) (open_at : Option ℕ) (t : Token) → ArePieces ts ps open_at
      → ArePieces (ts ++ t ∷ []) (pieces_after ps open_at t) (open_after open_at t)

-- `with_open size ps open_at` are the pieces `ps` and, if one is open from `open_at`, that one, up to the byte `size`.
abbrev pub with_open : ℕ → List Piece → Option ℕ → List Piece
with_open size ps None = ps
with_open size ps (Some from) = ps ++ piece from size ∷ []

-- `ArePiecesOf size ts ps` holds if `ps` are the pieces of the tokens `ts` of a text of `size` bytes.
abbrev pub ArePiecesOf : ℕ → List Token → List Piece → Type 0
ArePiecesOf size ts ps = (closed : List Piece) × (open_at : Option ℕ) × ArePieces ts closed open_at
    × (ps ≡ with_open size closed open_at)

-- `piece_at ps i` is the piece at the index `i`, or the empty piece at 0 if `ps` is shorter.
abbrev pub piece_at : List Piece → ℕ → Piece
piece_at ps i = unwrap_or (slice_get ps i) (piece 0 0)
