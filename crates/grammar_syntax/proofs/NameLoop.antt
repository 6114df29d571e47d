-- The loop that reads the pieces of a name, which may be a Path or a Uid.
use Rattle.std.proofs.Common.{◌≡◌, ℕ, zero, suc, ◌+◌, ◌-◌, ◌<◌, ◌≤◌, Bool, true, false, List, [], ◌∷◌, ◌++◌, Err, refl, sym, ap, ◌∙◌, append_assoc, append-nil, arith, length}
use mathlib.Core.Path.{fun_ext}
use Rattle.grammar_syntax.specs.declared.token.Token.{Token}
use Rattle.grammar_syntax.specs.declared.token.TokenKind.TheVariants as k
use Rattle.grammar_syntax.specs.declared.fault.StopCause.{StopCause}
use Rattle.grammar_syntax.specs.declared.fault.StopCause.TheVariants as halt
use Rattle.grammar_syntax.specs.declared.name_trees.PathOrUid.{PathOrUid}
use Rattle.grammar_syntax.specs.declared.name_trees.PathOrUid.TheVariants as name
use Rattle.grammar_syntax.specs.ParsesTo.{ParsesTo}
use Rattle.grammar_syntax.specs.Kinds.{only}
use Rattle.grammar_syntax.specs.ParseResults.{sees}
use Rattle.grammar_syntax.specs.ParserCombinators.{Parser, ParseResult, Read, Stop, StopReason, Unexpected, TooDeep, and_then, pure, loop_from, ◌>>=◌}
use Rattle.grammar_syntax.specs.Parsing.{piece, is_text, ends, beginning, last_of, name_by, rest_of_name}
use Rattle.grammar_syntax.proofs.Gathered.{next_turn, no_more}
use Rattle.grammar_syntax.proofs.UidLoop.{steps, step_seen, step_unseen, step_ended}

abbrev pub path_named : Token → List Token → PathOrUid
path_named first more = name.Path (record { first = first; more = more })

abbrev pub uid_named : Token → List Token → Token → PathOrUid
uid_named first more id = name.Uid (record { path = record { first = first; more = more }; id = id })

-- behind the words that were read
abbrev name_on : Bool → Token → List Token → List Token → PathOrUid
name_on true first more ts = uid_named first (more ++ beginning ts) (last_of first ts)
name_on false first more ts = path_named first (more ++ ts)

abbrev finish : Bool → Token → List Token → List Token → Parser PathOrUid
finish ended first more ts = pure (name_on (ends ended ts) first more ts)

-- what is read with n more turns
abbrev pub taken : ℕ → Token → List Token → Parser PathOrUid
taken n first more = λ ts. and_then (steps n false ts) (finish false first more)

none_before : (b : Bool) (first : Token) (ts : List Token) → name_by b first ts ≡ name_on b first [] ts
none_before true first ts = refl
none_before false first ts = refl

pub begun : (end : ℕ) (first : Token) (more ts : List Token) → end ≡ length ts → more ≡ [] → rest_of_name first ts ≡ taken (end - 0) first more ts
unfolding rest_of_name
begun end first more ts e none =
    let all : length ts ≡ end - 0 = omega (arith, e) in
    ap (and_then (steps (length ts) false ts)) (fun_ext (λ rest. ap (λ z. pure z) (none_before (ends false rest) first rest)))
    ∙ ap (λ n. taken n first [] ts) all
    ∙ ap (λ z. taken (end - 0) first z ts) (sym none)

-- ---- one turn

joined : (first t : Token) (more : List Token) (o : ParseResult (List Token)) → and_then (and_then o (λ others. pure (t ∷ others))) (finish false first more)
    ≡ and_then o (λ others. pure (name_on (ends (is_text t) others) first more (t ∷ others)))
joined first t more (Read x rest) = refl
joined first t more (Stop w rest) = refl

reads_one : (n : ℕ) (first t : Token) (more ts mid : List Token) → sees (only k.Colons) ts ≡ true → piece ts ≡ Read t mid
    → taken (suc n) first more ts ≡ and_then (steps n (is_text t) mid) (λ others. pure (name_on (ends (is_text t) others) first more (t ∷ others)))
reads_one n first t more ts mid seen e =
    ap (λ o. and_then o (finish false first more)) (step_seen n ts seen ∙ ap (λ o. and_then o (λ t. steps n (is_text t) >>= (λ others. pure (t ∷ others)))) e)
    ∙ joined first t more (steps n (is_text t) mid)

text_ends : (n : ℕ) (first t : Token) (more ts mid : List Token) → sees (only k.Colons) ts ≡ true → piece ts ≡ Read t mid → is_text t ≡ true → taken (suc n) first more ts ≡ Read (uid_named first more t) mid
text_ends n first t more ts mid seen e text =
    reads_one n first t more ts mid seen e
    ∙ ap (λ b. and_then (steps n b mid) (λ others. pure (name_on (ends b others) first more (t ∷ others)))) text
    ∙ ap (λ o. and_then o (λ others. pure (name_on (ends true others) first more (t ∷ others)))) (step_ended n mid)
    ∙ ap (λ z. Read (uid_named first z t) mid) (append-nil more)

word_by : (b : Bool) (first t : Token) (more : List Token) (u : Token) (us : List Token) → name_on b first more (t ∷ (u ∷ us)) ≡ name_on b first (more ++ t ∷ []) (u ∷ us)
word_by true first t more u us = ap (λ z. uid_named first z (last_of u us)) (sym (append_assoc more (t ∷ []) (beginning (u ∷ us))))
word_by false first t more u us = ap (path_named first) (sym (append_assoc more (t ∷ []) (u ∷ us)))

rest_of_word : (first t : Token) (more others : List Token) → name_on (ends false others) first more (t ∷ others) ≡ name_on (ends false others) first (more ++ t ∷ []) others
rest_of_word first t more [] = ap (path_named first) (sym (append-nil (more ++ t ∷ [])))
rest_of_word first t more (u ∷ us) = word_by (ends (is_text u) us) first t more u us

word_goes_on : (n : ℕ) (first t : Token) (more ts mid : List Token) → sees (only k.Colons) ts ≡ true → piece ts ≡ Read t mid → is_text t ≡ false → taken (suc n) first more ts ≡ taken n first (more ++ t ∷ []) mid
word_goes_on n first t more ts mid seen e word =
    reads_one n first t more ts mid seen e
    ∙ ap (λ b. and_then (steps n b mid) (λ others. pure (name_on (ends b others) first more (t ∷ others)))) word
    ∙ ap (and_then (steps n false mid)) (fun_ext (λ others. ap (λ z. pure z) (rest_of_word first t more others)))

stops_one : (n : ℕ) (first : Token) (more ts rest : List Token) (w : StopReason) → sees (only k.Colons) ts ≡ true → piece ts ≡ Stop w rest → taken (suc n) first more ts ≡ Stop w rest
stops_one n first more ts rest w seen e =
    ap (λ o. and_then o (finish false first more)) (step_seen n ts seen ∙ ap (λ o. and_then o (λ t. steps n (is_text t) >>= (λ others. pure (t ∷ others)))) e)

none_comes : (n : ℕ) (first : Token) (more ts : List Token) → sees (only k.Colons) ts ≡ false → taken n first more ts ≡ Read (path_named first more) ts
unfolding loop_from
none_comes zero first more ts seen = ap (λ z. Read (path_named first z) ts) (append-nil more)
none_comes (suc n) first more ts seen = ap (λ o. and_then o (finish false first more)) (step_unseen n ts seen) ∙ ap (λ z. Read (path_named first z) ts) (append-nil more)

-- ---- the code's loop, at the place at of end turns

module _ (x : ParseResult PathOrUid) (end at : ℕ) (first : Token) (more ts : List Token) where
  pub turned : (more' : List Token) (t : Token) (mid : List Token) → x ≡ taken (end - at) first more ts → at < end → true ≡ sees (only k.Colons) ts → piece ts ≡ Read t mid → is_text t ≡ false → more' ≡ more ++ t ∷ []
      → x ≡ taken (end - (at + 1)) first more' mid
  turned more' t mid e below seen r word put =
      next_turn end at below (λ n. taken n first more ts) e
      ∙ word_goes_on (end - (at + 1)) first t more ts mid (sym seen) r word
      ∙ ap (λ z. taken (end - (at + 1)) first z mid) (sym put)

  pub ended : (t : Token) (mid : List Token) → x ≡ taken (end - at) first more ts → at < end → true ≡ sees (only k.Colons) ts → piece ts ≡ Read t mid → is_text t ≡ true → x ≡ Read (uid_named first more t) mid
  ended t mid e below seen r text = next_turn end at below (λ n. taken n first more ts) e ∙ text_ends (end - (at + 1)) first t more ts mid (sym seen) r text

  stopped_by : (fault : StopCause) (rest : List Token) → x ≡ taken (suc (end - (at + 1))) first more ts → true ≡ sees (only k.Colons) ts → ParsesTo (piece ts) (Err fault) rest → ParsesTo x (Err fault) rest
  stopped_by halt.NoMemory rest e seen g = tt
  stopped_by halt.Unexpected rest e seen g = e ∙ stops_one (end - (at + 1)) first more ts rest Unexpected (sym seen) g
  stopped_by halt.TooDeep rest e seen g = e ∙ stops_one (end - (at + 1)) first more ts rest TooDeep (sym seen) g

  pub stopped : (fault : StopCause) (rest : List Token) → x ≡ taken (end - at) first more ts → at < end → true ≡ sees (only k.Colons) ts → ParsesTo (piece ts) (Err fault) rest → ParsesTo x (Err fault) rest
  stopped fault rest e below seen g = stopped_by fault rest (next_turn end at below (λ n. taken n first more ts) e) seen g

  pub bare : x ≡ taken (end - at) first more ts → false ≡ sees (only k.Colons) ts → x ≡ Read (path_named first more) ts
  bare e seen = e ∙ none_comes (end - at) first more ts (sym seen)

  pub ran_out : x ≡ taken (end - at) first more ts → end ≤ at → x ≡ Read (path_named first more) ts
  unfolding loop_from
  ran_out e done = no_more (λ n. taken n first more ts) end at done e ∙ ap (λ z. Read (path_named first z) ts) (append-nil more)
