-- The loop that reads the pieces of a Uid.
use Rattle.std.proofs.Common.{◌≡◌, ℕ, zero, suc, ◌+◌, ◌-◌, ◌<◌, ◌≤◌, Bool, true, false, List, [], ◌∷◌, ◌++◌, Err, refl, sym, ap, ◌∙◌, append_assoc, append-nil, arith, length}
use mathlib.Core.Path.{fun_ext}
use Rattle.grammar_syntax.specs.declared.token.Token.{Token}
use Rattle.grammar_syntax.specs.declared.token.TokenKind.TheVariants as k
use Rattle.grammar_syntax.specs.declared.fault.StopCause.{StopCause}
use Rattle.grammar_syntax.specs.declared.fault.StopCause.TheVariants as halt
use Rattle.grammar_syntax.specs.declared.name_trees.UidTree.{UidTree}
use Rattle.grammar_syntax.specs.ParsesTo.{ParsesTo}
use Rattle.grammar_syntax.specs.Kinds.{Kinds, only}
use Rattle.grammar_syntax.specs.ParseResults.{sees}
use Rattle.grammar_syntax.specs.ParserCombinators.{Parser, ParseResult, Read, Stop, StopReason, Unexpected, TooDeep, and_then, pure, refuse, take, take_if, loop_from, ◌>>=◌}
use Rattle.grammar_syntax.specs.Parsing.{rest_of_uid, piece, pieces, is_text, ended_by, goes_on, ends, beginning, last_of, finished}
use Rattle.grammar_syntax.proofs.Forms.{took, left}
use Rattle.grammar_syntax.proofs.Gathered.{next_turn, no_more}

abbrev named : Token → List Token → Token → UidTree
named first more id = record { path = record { first = first; more = more }; id = id }

-- behind the words that were read
abbrev finished_on : Bool → Token → List Token → List Token → Parser UidTree
finished_on true first more ts = pure (named first (more ++ beginning ts) (last_of first ts))
finished_on false first more ts = refuse

abbrev pub steps : ℕ → Bool → Parser (List Token)
steps n ended = loop_from ended_by goes_on (λ st. piece) n ended

-- what is read with n more turns
abbrev pub taken : ℕ → Token → List Token → Parser UidTree
taken n first more = λ ts. and_then (steps n false ts) (λ rest. finished_on (ends false rest) first more rest)

none_before : (b : Bool) (first : Token) (ts : List Token) → finished b first ts ≡ finished_on b first [] ts
none_before true first ts = refl
none_before false first ts = refl

pub begun : (end : ℕ) (first : Token) (more ts : List Token) → end ≡ length ts → more ≡ [] → rest_of_uid first ts ≡ taken (end - 0) first more ts
unfolding rest_of_uid
begun end first more ts e none =
    let all : length ts ≡ end - 0 = omega (arith, e) in
    ap (and_then (steps (length ts) false ts)) (fun_ext (λ rest. none_before (ends false rest) first rest))
    ∙ ap (λ n. taken n first [] ts) all
    ∙ ap (λ z. taken (end - 0) first z ts) (sym none)

-- ---- one turn

take_unseen : (ks : Kinds) (ts : List Token) → sees ks ts ≡ false → take ks ts ≡ Stop Unexpected ts
unfolding take
take_unseen ks [] h = refl
take_unseen ks (t ∷ ts) h = ap (λ b. take_if b t ts) h

piece_unseen : (ts : List Token) → sees (only k.Colons) ts ≡ false → piece ts ≡ Stop Unexpected ts
unfolding piece
piece_unseen ts h = ap (λ o. and_then o (λ _. take pieces)) (take_unseen (only k.Colons) ts h)

-- one turn, where n more may follow
abbrev pub turn : ℕ → Bool → Parser (List Token)
turn n ended = piece >>= (λ t. steps n (ended_by ended t) >>= (λ more. pure (t ∷ more)))

pub step_seen : (n : ℕ) (ts : List Token) → sees (only k.Colons) ts ≡ true → steps (suc n) false ts ≡ turn n false ts
unfolding loop_from
step_seen n ts h = took (sees (only k.Colons) ts) (turn n false) (pure []) ts h

pub step_unseen : (n : ℕ) (ts : List Token) → sees (only k.Colons) ts ≡ false → steps (suc n) false ts ≡ Read [] ts
unfolding loop_from
step_unseen n ts h = left (sees (only k.Colons) ts) (turn n false) (pure []) ts h

abbrev token_stop : StopReason → List Token → ParseResult Token
token_stop w ts = Stop w ts

abbrev uid_stop : StopReason → List Token → ParseResult UidTree
uid_stop w ts = Stop w ts

same_stop : (ts rest : List Token) (w v : StopReason) → token_stop w ts ≡ token_stop v rest → uid_stop w ts ≡ uid_stop v rest
same_stop ts rest w v h = let e : w ≡ v = cc in let f : ts ≡ rest = cc in ap (λ z. uid_stop z ts) e ∙ ap (uid_stop v) f

stops_by : (seen : Bool) (n : ℕ) (first : Token) (more ts rest : List Token) (w : StopReason) → sees (only k.Colons) ts ≡ seen → piece ts ≡ Stop w rest → taken (suc n) first more ts ≡ Stop w rest
stops_by true n first more ts rest w seen e =
    ap (λ o. and_then o (λ rest. finished_on (ends false rest) first more rest)) (step_seen n ts seen ∙ ap (λ o. and_then o (λ t. steps n (is_text t) >>= (λ more. pure (t ∷ more)))) e)
stops_by false n first more ts rest w seen e =
    ap (λ o. and_then o (λ rest. finished_on (ends false rest) first more rest)) (step_unseen n ts seen)
    ∙ same_stop ts rest Unexpected w (sym (piece_unseen ts seen) ∙ e)

read_or_stop : (t : Token) (mid ts : List Token) (w : StopReason) → Read t mid ≡ Stop w ts → ⊥
read_or_stop t mid ts w h = cc

reads_by : (seen : Bool) (n : ℕ) (first t : Token) (more ts mid : List Token) → sees (only k.Colons) ts ≡ seen → piece ts ≡ Read t mid
    → taken (suc n) first more ts ≡ and_then (steps n (is_text t) mid) (λ rest. finished_on (ends (is_text t) rest) first more (t ∷ rest))
reads_by true n first t more ts mid seen e =
    ap (λ o. and_then o (λ rest. finished_on (ends false rest) first more rest)) (step_seen n ts seen ∙ ap (λ o. and_then o (λ t. steps n (is_text t) >>= (λ more. pure (t ∷ more)))) e)
    ∙ joined (steps n (is_text t) mid)
  where
    joined : (o : ParseResult (List Token)) → and_then (and_then o (λ more. pure (t ∷ more))) (λ rest. finished_on (ends false rest) first more rest)
        ≡ and_then o (λ rest. finished_on (ends (is_text t) rest) first more (t ∷ rest))
    joined (Read x rest) = refl
    joined (Stop w rest) = refl
reads_by false n first t more ts mid seen e = absurd (read_or_stop t mid ts Unexpected (sym e ∙ piece_unseen ts seen))

pub step_ended : (n : ℕ) (ts : List Token) → steps n true ts ≡ Read [] ts
unfolding loop_from
step_ended zero ts = refl
step_ended (suc n) [] = refl
step_ended (suc n) (t ∷ ts) = refl

text_ends : (n : ℕ) (first t : Token) (more ts mid : List Token) → piece ts ≡ Read t mid → is_text t ≡ true → taken (suc n) first more ts ≡ Read (named first more t) mid
text_ends n first t more ts mid e text =
    reads_by (sees (only k.Colons) ts) n first t more ts mid refl e
    ∙ ap (λ b. and_then (steps n b mid) (λ rest. finished_on (ends b rest) first more (t ∷ rest))) text
    ∙ ap (λ o. and_then o (λ rest. finished_on (ends true rest) first more (t ∷ rest))) (step_ended n mid)
    ∙ ap (λ z. Read (named first z t) mid) (append-nil more)

word_by : (b : Bool) (first t : Token) (more : List Token) (u : Token) (us : List Token)
    → finished_on b first more (t ∷ (u ∷ us)) ≡ finished_on b first (more ++ t ∷ []) (u ∷ us)
word_by true first t more u us = ap (λ z. pure (named first z (last_of u us))) (sym (append_assoc more (t ∷ []) (beginning (u ∷ us))))
word_by false first t more u us = refl

rest_of_word : (first t : Token) (more rest : List Token) → finished_on (ends false rest) first more (t ∷ rest) ≡ finished_on (ends false rest) first (more ++ t ∷ []) rest
rest_of_word first t more [] = refl
rest_of_word first t more (u ∷ us) = word_by (ends (is_text u) us) first t more u us

word_goes_on : (n : ℕ) (first t : Token) (more ts mid : List Token) → piece ts ≡ Read t mid → is_text t ≡ false → taken (suc n) first more ts ≡ taken n first (more ++ t ∷ []) mid
word_goes_on n first t more ts mid e word =
    reads_by (sees (only k.Colons) ts) n first t more ts mid refl e
    ∙ ap (λ b. and_then (steps n b mid) (λ rest. finished_on (ends b rest) first more (t ∷ rest))) word
    ∙ ap (and_then (steps n false mid)) (fun_ext (rest_of_word first t more))

-- ---- the code's loop, at the place at of end turns

module _ (x : ParseResult UidTree) (end at : ℕ) (first : Token) (more ts : List Token) where
  pub turned : (more' : List Token) (t : Token) (mid : List Token) → x ≡ taken (end - at) first more ts → at < end → piece ts ≡ Read t mid → is_text t ≡ false → more' ≡ more ++ t ∷ []
      → x ≡ taken (end - (at + 1)) first more' mid
  turned more' t mid e below r word put =
      next_turn end at below (λ n. taken n first more ts) e
      ∙ word_goes_on (end - (at + 1)) first t more ts mid r word
      ∙ ap (λ z. taken (end - (at + 1)) first z mid) (sym put)

  pub ended : (t : Token) (mid : List Token) → x ≡ taken (end - at) first more ts → at < end → piece ts ≡ Read t mid → is_text t ≡ true → x ≡ Read (named first more t) mid
  ended t mid e below r text = next_turn end at below (λ n. taken n first more ts) e ∙ text_ends (end - (at + 1)) first t more ts mid r text

  stopped_by : (fault : StopCause) (rest : List Token) → x ≡ taken (suc (end - (at + 1))) first more ts → ParsesTo (piece ts) (Err fault) rest → ParsesTo x (Err fault) rest
  stopped_by halt.NoMemory rest e g = tt
  stopped_by halt.Unexpected rest e g = e ∙ stops_by (sees (only k.Colons) ts) (end - (at + 1)) first more ts rest Unexpected refl g
  stopped_by halt.TooDeep rest e g = e ∙ stops_by (sees (only k.Colons) ts) (end - (at + 1)) first more ts rest TooDeep refl g

  pub stopped : (fault : StopCause) (rest : List Token) → x ≡ taken (end - at) first more ts → at < end → ParsesTo (piece ts) (Err fault) rest → ParsesTo x (Err fault) rest
  stopped fault rest e below g = stopped_by fault rest (next_turn end at below (λ n. taken n first more ts) e) g

  pub ran_out : x ≡ taken (end - at) first more ts → end ≤ at → x ≡ Stop Unexpected ts
  unfolding loop_from
  ran_out e done = no_more (λ n. taken n first more ts) end at done e
