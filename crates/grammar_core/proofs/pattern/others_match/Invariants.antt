use Rattle.std.proofs.Common.{◌++◌, [], ◌∷◌, drop}
use Rattle.std.specs.Str.{IsUtf8}
use denote.Text.{Utf8}
use denote.Shadow.{shadow}
use Rattle.grammar_core.proofs.FirstPlaces.{Tail, Anything}
use Rattle.grammar_core.proofs.pattern.others_match.Given as goal

-- What is left matches the literals that are left exactly where the text matches all.
abbrev pub invariant-loop-literal : goal.invariant-loop-literal
invariant-loop-literal l = record {
  text : shadow (Utf8 l.rest);
  sound : Tail IsUtf8 (drop l.literal-index l.middle ++ l.last ∷ []) l.rest → Tail IsUtf8 (l.middle ++ l.last ∷ []) l.text;
  complete : Tail Anything (l.middle ++ l.last ∷ []) l.text → Tail Anything (drop l.literal-index l.middle ++ l.last ∷ []) l.rest;
}
