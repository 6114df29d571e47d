-- From the refusal of tokens to the refusal of their text.
use Rattle.std.proofs.Common.{◌≡◌, ℕ, List, ◌⊎◌, refl, ap, inl, inr}
use Rattle.grammar_desugaring.specs.grammar_syntax.declared.token.Token.{Token}
use Rattle.grammar_desugaring.specs.grammar_syntax.declared.fault.SyntaxFault.{SyntaxFault}
use Rattle.grammar_desugaring.specs.grammar_syntax.declared.fault.SyntaxFault.TheVariants as syntax
use Rattle.grammar_desugaring.specs.grammar_syntax.Lang.{Lang}
use Rattle.grammar_desugaring.specs.grammar_syntax.ParseResults.{IsRefusedWithin}
use Rattle.policy_grammar.specs.declared.fault.ReadFault.TheVariants as fault
use Rattle.plain.specs.AllocationErrors.{OrNoMemory}
use Rattle.policy_grammar.specs.Texts.{IsUnread}
use Rattle.policy_grammar.specs.inner.TreeParts.{LexedIn, refusal_of}

module _ {A : Type 0} (L K : Lang A) (most : ℕ) (text : List ℕ) (tokens : List Token) (l : LexedIn most text tokens) where
  stopped : (e : SyntaxFault) → IsRefusedWithin L K tokens e → OrNoMemory fault.NoMemory (IsUnread L K most text) (refusal_of text tokens e)
  stopped syntax.NoMemory r = λ other. absurd (other refl)
  stopped (syntax.Unexpected place) r = λ other. record { short = l.short; tokens = tokens; lexed = l.lexed; place = place; refused = r; byte = refl }
  stopped (syntax.Slot place) r = λ other. record { short = l.short; tokens = tokens; lexed = l.lexed; place = place; refused = r; byte = refl }
  stopped (syntax.TooDeep place) r = λ other. record { short = l.short; tokens = tokens; lexed = l.lexed; place = place; refused = r; byte = refl }

  pub unread : (e : SyntaxFault) → (e ≡ syntax.NoMemory) ⊎ IsRefusedWithin L K tokens e → OrNoMemory fault.NoMemory (IsUnread L K most text) (refusal_of text tokens e)
  unread e (inl none) = λ other. absurd (other (ap (refusal_of text tokens) none))
  unread e (inr r) = stopped e r
