-- A reader of names stops for a token at no place at which a name ends.
use Rattle.std.proofs.Common.{Bool, true, false, List, refl}
use Rattle.grammar_syntax.specs.declared.token.Token.{Token}
use Rattle.grammar_syntax.specs.declared.token.TokenKind.TheVariants as k
use Rattle.grammar_syntax.specs.Kinds.{only, same_kind}
use Rattle.grammar_syntax.specs.Lang as lang
use Rattle.grammar_syntax.specs.Grammar as g
use Rattle.grammar_syntax.specs.Grammar.{identifiers}
use Rattle.grammar_syntax.specs.ParserCombinators as reading
use Rattle.grammar_syntax.specs.Parsing as r
use Rattle.grammar_syntax.specs.Parsing.{pieces, ended_by, goes_on, piece, ends, uid_tree, finished}
use Rattle.grammar_syntax.proofs.Rules.{Levels}
use Rattle.grammar_syntax.proofs.Forms.{of, nothing, leads_empty, alive_empty, begin_of}
use Rattle.grammar_syntax.proofs.Many.{each}
use Rattle.grammar_syntax.proofs.Steps.{none, free, behind, seq, starts_one}
use Rattle.grammar_syntax.proofs.Openings.{opening_one}
use Rattle.grammar_syntax.proofs.NameRules.{after_name, path_word, word_rule, path_tail, segment, segments, closed, factored, starts_segment, goes_apart, goes_within, leads_closed, piece_at, segments_rule, closed_rule, behind_first, behind_first_rule, same_uid}
use Rattle.grammar_syntax.proofs.Firm.{Firm, Fresh, fresh_opening, firm_free, firm_nothing, firm_never, firm_seq, firm_same, firm_repeated, firm_each}

module _ (D : Levels) where
  fresh_word : Fresh (only k.Colons) r.path_word
  fresh_word = fresh_opening (word_rule D) (opening_one k.Colons (λ _. lang.of identifiers) (λ _. begin_of identifiers k.Ident refl))

  pub firm_path : Firm g.path r.path
  unfolding r.path r.rest_of_path same_kind
  firm_path =
      firm_seq (of identifiers none D)
      (λ first. seq (each path_word path_word _ _ (only k.Colons) none after_name D (word_rule D) (starts_one k.Colons (λ _. lang.of identifiers)) refl refl refl)
      (λ more. nothing (record { first = first; more = more }) after_name D) (λ more. leads_empty (record { first = first; more = more }) after_name after_name refl) (λ more. alive_empty (record { first = first; more = more })))
      (λ first. free (path_tail first) after_name)
      (firm_free (of identifiers none D))
      (λ first. firm_seq (each path_word path_word _ _ (only k.Colons) none after_name D (word_rule D) (starts_one k.Colons (λ _. lang.of identifiers)) refl refl refl)
      (λ more. nothing (record { first = first; more = more }) after_name D) (λ more. leads_empty (record { first = first; more = more }) after_name after_name refl)
      (firm_each path_word _ (only k.Colons) none after_name D (word_rule D) (starts_one k.Colons (λ _. lang.of identifiers)) refl refl refl (firm_free (word_rule D)) fresh_word)
      (λ more. firm_nothing (record { first = first; more = more })))

  firm_piece : (st : Bool) → Firm (segment st) piece
  unfolding piece
  firm_piece false = firm_free (behind k.Colons none D (of pieces none D) (begin_of pieces k.Ident refl))
  firm_piece true = firm_never piece

  fresh_piece : (st : Bool) → Fresh (goes_on st) piece
  unfolding piece
  fresh_piece false = fresh_opening (behind k.Colons none D (of pieces none D) (begin_of pieces k.Ident refl)) (opening_one k.Colons (λ _. lang.of pieces) (λ _. begin_of pieces k.Ident refl))
  fresh_piece true = record { at = λ b more e h. absurd (cc) }

  pub firm_segments : Firm segments (reading.loop ended_by goes_on (λ st. piece) false)
  unfolding same_kind
  firm_segments = firm_repeated ended_by segment (λ st. piece) goes_on none (only k.Colons) D (piece_at D) starts_segment goes_apart refl goes_within firm_piece fresh_piece false

  firm_end : (b : Bool) (first : Token) (ts : List Token) → Firm (closed b first ts) (finished b first ts)
  firm_end true first ts = firm_nothing (uid_tree first ts)
  firm_end false first ts = firm_never reading.refuse

  firm_behind : (first : Token) → Firm (behind_first first) (r.rest_of_uid first)
  unfolding r.rest_of_uid
  firm_behind first = firm_seq (segments_rule D) (λ ts. closed_rule D (ends false ts) first ts) (λ ts. leads_closed (ends false ts) first ts) firm_segments (λ ts. firm_end (ends false ts) first ts)

  firm_factored : Firm factored r.uid
  unfolding r.uid
  firm_factored = firm_seq (of identifiers none D) (behind_first_rule D) (λ first. free _ after_name) (firm_free (of identifiers none D)) firm_behind

  pub firm_uid : Firm g.uid r.uid
  firm_uid = firm_same same_uid firm_factored
