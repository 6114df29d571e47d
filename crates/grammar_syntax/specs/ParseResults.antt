-- Defines the result of parsing a list of tokens, as a whole or only its front.
-- Rules of this product: the index of an error, and a separate error for a token that would open one level of nesting
-- too many.
--
-- In these definitions `L` is a language with a limit on nesting, and `K` is the same language without the limit.
use Rattle.std.specs.Prelude.{◌≡◌, ◌⊎◌, ℕ, suc, ◌-◌, Bool, true, false, List, [], ◌∷◌, ◌++◌, length}
use Rattle.std.specs.Prelude.{Result, Ok, Err, Vec}
use Rattle.std.specs.declared.alloc.Global.{Global}
use Rattle.grammar_syntax.specs.declared.token.TokenKind.TheVariants as k
use Rattle.grammar_syntax.specs.declared.token.Token.{Token}
use Rattle.grammar_syntax.specs.declared.fault.StopCause.{StopCause}
use Rattle.grammar_syntax.specs.declared.fault.StopCause.TheVariants as halt
use Rattle.grammar_syntax.specs.declared.fault.SyntaxFault.{SyntaxFault}
use Rattle.grammar_syntax.specs.declared.fault.SyntaxFault.TheVariants as fault
use Rattle.grammar_syntax.specs.Kinds.{Kinds}
use Rattle.grammar_syntax.specs.Lang.{Lang, at_any}

-- `Begins L front` holds if `front`, followed by zero or more tokens, derives a value in `L`. For example,
-- `permit ( principal` begins a policy, and so does the empty list; `permit permit` does not.
pub record Begins {A : Type 0} (L : Lang A) (front : List Token) : Type 0 where
  pub more : List Token
  pub value : A
  pub derived : L (front ++ more) value

-- `StopsBefore L front rest` holds if nothing in `L` begins with `front` and the first token of `rest`; or, where
-- `rest` is empty, if `front` derives nothing in `L`.
abbrev pub StopsBefore : {A : Type 0} → Lang A → List Token → List Token → Type 0
StopsBefore L front [] = (x : _) → L front x → ⊥
StopsBefore L front (token ∷ more) = Begins L (front ++ token ∷ []) → ⊥

-- `BreaksAt L ts place rest` holds if `rest` are the tokens of `ts` from the index `place` on, those before `rest`
-- begin something in `L`, and `L` stops before `rest`. For a policy, `permit ( resource` breaks at index 2.
pub record BreaksAt {A : Type 0} (L : Lang A) (ts : List Token) (place : ℕ) (rest : List Token) : Type 0 where
  pub front : List Token
  pub whole : ts ≡ front ++ rest
  pub count : length front ≡ place
  pub begins : Begins L front
  pub stops : StopsBefore L front rest

-- `is_slot` are the kinds of `?principal` and `?resource`. These tokens occur in no production, and their error is
-- `Slot`, not `Unexpected`.
abbrev pub is_slot : Kinds
is_slot k.PrincipalSlot = true
is_slot k.ResourceSlot = true
is_slot _ = false

-- `sees ks ts` tests whether `ts` is not empty and its first token has a kind of `ks`.
abbrev pub sees : Kinds → List Token → Bool
sees ks [] = false
sees ks (t ∷ ts) = ks t.kind

-- `GoesOn L front rest` holds if something in `L` begins with `front` and the first token of `rest`.
abbrev pub GoesOn : {A : Type 0} → Lang A → List Token → List Token → Type 0
GoesOn L front [] = ⊥
GoesOn L front (token ∷ more) = Begins L (front ++ token ∷ [])

-- `IsRefusedWithin L K ts f` holds if `f` is the error of the tokens `ts`. A token is too deep if `K` goes on with it
-- and `L` does not. `NoMemory` is not an error of the tokens.
abbrev pub IsRefusedWithin : {A : Type 0} → Lang A → Lang A → List Token → SyntaxFault → Type 0
IsRefusedWithin L K ts fault.NoMemory = ⊥
IsRefusedWithin L K ts (fault.Unexpected place) =
    (rest : List Token) × (b : BreaksAt L ts place rest) × (GoesOn K b.front rest → ⊥) × (sees is_slot rest ≡ false)
IsRefusedWithin L K ts (fault.Slot place) =
    (rest : List Token) × (b : BreaksAt L ts place rest) × (GoesOn K b.front rest → ⊥) × (sees is_slot rest ≡ true)
IsRefusedWithin L K ts (fault.TooDeep place) =
    (rest : List Token) × (b : BreaksAt L ts place rest) × GoesOn K b.front rest

-- `IsAnswerWithin L K ts r` holds if `r` is a tree that `ts` derives in `L`, or the error of `ts` (`IsRefusedWithin`).
abbrev pub IsAnswerWithin : {A : Type 0} → Lang A → Lang A → List Token → Result A SyntaxFault → Type 0
IsAnswerWithin L K ts (Ok tree) = L ts tree
IsAnswerWithin L K ts (Err e) = IsRefusedWithin L K ts e

-- `ReadsWithin L K ts r` holds if `r` is a result of `ts` by `IsAnswerWithin`, or `NoMemory`.
abbrev pub ReadsWithin : {A : Type 0} → Lang A → Lang A → List Token → Result A SyntaxFault → Type 0
ReadsWithin L K ts (Ok tree) = L ts tree
ReadsWithin L K ts (Err e) = (e ≡ fault.NoMemory) ⊎ IsRefusedWithin L K ts e

-- `HasOneTree L` holds if each list of tokens derives at most one tree in `L`.
abbrev pub HasOneTree : {A : Type 0} → Lang A → Type 0
HasOneTree L = (ts : List Token) (x y : _) → L ts x → L ts y → x ≡ y

-- `AnsweredWithin L K ts` holds if `ts` has exactly one result by `IsAnswerWithin`.
pub record AnsweredWithin {A : Type 0} (L K : Lang A) (ts : List Token) : Type 0 where
  pub answer : Result A SyntaxFault
  pub comes : IsAnswerWithin L K ts answer
  pub only : (other : Result A SyntaxFault) → IsAnswerWithin L K ts other → other ≡ answer

-- `HasOneAnswerWithin L K` holds if each list of tokens has exactly one result by `IsAnswerWithin`.
abbrev pub HasOneAnswerWithin : {A : Type 0} → Lang A → Lang A → Type 0
HasOneAnswerWithin L K = (ts : List Token) → AnsweredWithin L K ts

-- `OpensNextLevel L levels` holds if a token that is too deep in `L levels` opens the next level: `L (suc levels)` goes
-- on with it. `L n` is the language with at most `n` levels of nesting.
abbrev pub OpensNextLevel : {A : Type 0} → (ℕ → Lang A) → ℕ → Type 0
OpensNextLevel L levels = (ts : List Token) (place : ℕ) → IsRefusedWithin (L levels) (at_any L) ts (fault.TooDeep place)
    → IsRefusedWithin (L levels) (L (suc levels)) ts (fault.TooDeep place)

-- ---- the front of a list

-- `Takes L K ts tree rest` holds if the tokens of `ts` before `rest` derive `tree` in `L`, and `K` does not go on with
-- the first of `rest`.
pub record Takes {A : Type 0} (L K : Lang A) (ts : List Token) (tree : A) (rest : List Token) : Type 0 where
  pub front : List Token
  pub whole : ts ≡ front ++ rest
  pub derived : L front tree
  pub ends : GoesOn K front rest → ⊥

-- `ReadsFrontWithin L K ts r rest` holds if parsing the front of `ts` has the result `r` and leaves the tokens `rest`.
-- These are the tokens after a tree, or those from the token at which parsing stops. A token is unexpected only if
-- those before it derive no tree; if they derive one, that tree is the result. If `r` is `NoMemory`, `rest` may be any
-- tokens.
abbrev pub ReadsFrontWithin : {A : Type 0} → Lang A → Lang A → List Token → Result A StopCause → List Token → Type 0
ReadsFrontWithin L K ts (Ok tree) rest = Takes L K ts tree rest
ReadsFrontWithin L K ts (Err halt.NoMemory) rest = Unit {0}
ReadsFrontWithin L K ts (Err halt.Unexpected) rest =
    (b : BreaksAt L ts (length ts - length rest) rest) × (GoesOn K b.front rest → ⊥) × ((x : _) → L b.front x → ⊥)
ReadsFrontWithin L K ts (Err halt.TooDeep) rest =
    (b : BreaksAt L ts (length ts - length rest) rest) × GoesOn K b.front rest

-- ---- a language without expressions: it does not nest, so no token is too deep

-- `Reads L ts result` holds if `result` is the result of parsing all of `ts` in the language `L`, or `NoMemory`.
abbrev pub Reads : {A : Type 0} → Lang A → List Token → Result A SyntaxFault → Type 0
Reads L ts result = ReadsWithin L L ts result

-- `ReadsFront L ts result rest` holds if `result` is the result of parsing the front of `ts`, up to `rest`, in the
-- language `L`. It also holds if `result` is `NoMemory`, whatever `rest` is.
abbrev pub ReadsFront : {A : Type 0} → Lang A → List Token → Result A StopCause → List Token → Type 0
ReadsFront L ts result rest = ReadsFrontWithin L L ts result rest

-- `HasOneAnswer L` holds if each list of tokens has exactly one result in the language `L`, not counting `NoMemory`.
abbrev pub HasOneAnswer : {A : Type 0} → Lang A → Type 0
HasOneAnswer L = HasOneAnswerWithin L L

-- `with_items r` is the result `r`, with its `Vec` as a list.
abbrev pub with_items : {A : Type 0} → Result (Vec A Global) SyntaxFault → Result (List A) SyntaxFault
with_items (Ok found) = Ok found.items
with_items (Err e) = Err e

-- `refusal_by slot place` is the error at index `place`: `Slot` if `slot` is true (the token there is a template slot),
-- else `Unexpected`.
abbrev pub refusal_by : Bool → ℕ → SyntaxFault
refusal_by true place = fault.Slot place
refusal_by false place = fault.Unexpected place

-- `refusal_at place rest` is the error at index `place`, whose token is the first of `rest`.
abbrev pub refusal_at : ℕ → List Token → SyntaxFault
refusal_at place rest = refusal_by (sees is_slot rest) place

-- `refusal_of why place rest` is the error of parsing that stopped at index `place`, before `rest`, for the reason
-- `why`.
abbrev pub refusal_of : StopCause → ℕ → List Token → SyntaxFault
refusal_of halt.NoMemory place rest = fault.NoMemory
refusal_of halt.Unexpected place rest = refusal_at place rest
refusal_of halt.TooDeep place rest = fault.TooDeep place

-- `whole_of r place rest` is the result of parsing a whole list of tokens. `r` is the result for its front, `place` is
-- the number of tokens in that front, and `rest` are the remaining tokens.
abbrev pub whole_of : {A : Type 0} → Result A StopCause → ℕ → List Token → Result A SyntaxFault
whole_of (Ok tree) place [] = Ok tree
whole_of (Ok tree) place (token ∷ more) = Err (refusal_of halt.Unexpected place (token ∷ more))
whole_of (Err why) place rest = Err (refusal_of why place rest)
